-- The line of a mistake, put together.
use Rattle.std.proofs.Common.{◌≡◌, ℕ, IsTrue, List, [], ◌∷◌, ◌++◌, decimal, refl, ◌∙◌, append_assoc}
use Rattle.std.proofs.lemmas.List.Folds.{list_all-append}
use Rattle.ts_base.specs.Name.{is_text, is_text_byte}
use Rattle.ts_base.specs.Refusal.{refusal_name}
use Rattle.ts_syntax.specs.Places.{IsBehind}
use Rattle.ts_syntax.specs.Mistakes.{Mistake}
use Rattle.ts_syntax.specs.Lines.{IsLine}
use Rattle.ts_syntax.specs.declared.position.Position.{Position}

pub text_on : (words : List ℕ) (b : ℕ) → IsTrue (is_text words) → IsTrue (is_text_byte b) → IsTrue (is_text (words ++ b ∷ []))
text_on words b all one = list_all-append is_text_byte words (b ∷ []) ∙ rw (all, one) refl

-- the pieces of a line
pub line_is : (m : Mistake) (position : Position) (name words : List ℕ) → IsBehind m.before position → refusal_name m.refusal ≡ name → IsTrue (is_text words)
    → IsLine m (((((((decimal position.line ++ 58 ∷ []) ++ decimal position.column) ++ 58 ∷ 32 ∷ []) ++ name) ++ 58 ∷ 32 ∷ []) ++ words) ++ 10 ∷ [])
line_is m position name words here named plain = (words, rw (← here.line, ← here.column, named) (simp append_assoc), plain)
