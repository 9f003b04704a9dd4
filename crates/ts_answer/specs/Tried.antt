-- What a test in code says of what is tried in a catalogue.
use Rattle.std.specs.Prelude.{◌≡◌, Result, Ok, Err, IfOk, IfErr}
use Rattle.ts_base.specs.declared.fault.Trouble.{Trouble}
use Rattle.ts_base.specs.declared.fault.Trouble.TheVariants.{Refused, Memory}
use Rattle.ts_answer.specs.Answer.{Tried}

-- the same refusal; want of memory says nothing
abbrev pub IsRefusedAs : {B : Type 0} → Trouble → Tried B → Type 0
IsRefusedAs (Refused refusal) tried = tried ≡ Err refusal
IsRefusedAs (Memory error) tried = Unit {0}

-- What is found is what is tried: a value that is alike, or the same refusal.
pub record IsTried {A B : Type 0} (result : Result A Trouble) (tried : Tried B) (Alike : A → B → Type 0) : Type 0 where
  pub ok : IfOk result (λ a. (b : B) × (tried ≡ Ok b) × Alike a b)
  pub err : IfErr result (λ trouble. IsRefusedAs trouble tried)
