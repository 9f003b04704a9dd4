-- What came to something passed each test.
use Rattle.std.proofs.Common.{◌≡◌, Ok, Err, refl}
use Rattle.ts_answer.specs.Answer.{Tried, Answered, ◌>>=◌}

pub came : {A B : Type 0} (m : Tried A) (f : A → Tried B) (b : B) → (m >>= f) ≡ Ok b → (a : A) × (m ≡ Ok a) × (f a ≡ Ok b)
unfolding ◌>>=◌
came (Ok a) f b is = (a, refl, is)
came (Err refusal) f b is = absurd (cc)

pub same_answer : (a b : Answered) → let left : Tried Answered = Ok a in left ≡ Ok b → b ≡ a
same_answer a b is = cc
