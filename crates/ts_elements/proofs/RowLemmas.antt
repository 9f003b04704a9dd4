-- The row of literals, as it is tried.
use Rattle.std.proofs.Common.{◌≡◌, ℕ, false, Result, Ok, Err, IfOk, IfErr, List, refl, sym, ◌∙◌, ap}
use Rattle.ts_base.specs.declared.fault.Trouble.{Trouble}
use Rattle.ts_base.specs.declared.fault.Trouble.TheVariants.{Refused, Memory}
use Rattle.ts_row.specs.declared.kind.Column.{Column}
use Rattle.ts_row.specs.declared.value.Literal.{Literal}
use Rattle.ts_row.specs.Row.{Values, Row, values_from, visible, visible_if_any, row_of, IsRowTrouble}
use Rattle.ts_answer.specs.Answer.{row_or_mismatch, a_row}
use Rattle.ts_answer.specs.Tried.{IsTried}
use Rattle.ts_answer.proofs.CallerLemmas.{good-row, bad-row}

pub row_tried : (r : Result Row Trouble) (columns : List Column) (literals : List Literal) → IfOk r (λ row. row_of columns literals ≡ Ok row) → IfErr r (IsRowTrouble columns literals) → IsTried r (a_row columns literals) (λ row value. value ≡ row)
row_tried (Ok row) columns literals good cause = record { ok = (row, good-row columns literals row good, refl); err = tt }
row_tried (Err (Refused refusal)) columns literals good cause = record { ok = tt; err = bad-row columns literals cause.0 cause.1 ∙ ap Err (sym cause.2) }
row_tried (Err (Memory error)) columns literals good cause = record { ok = tt; err = tt }

-- it is a visible one
visible_given : (given : Result Values ℕ) (row : Row) → row_or_mismatch (visible_if_any given) ≡ Ok row → row.hidden ≡ false
visible_given (Ok values) row is = sym (ap (λ (r : Row). r.hidden) (let same : visible values ≡ row = cc in same))
visible_given (Err number) row is = absurd (cc)

pub row_visible : (columns : List Column) (literals : List Literal) (row : Row) → a_row columns literals ≡ Ok row → row.hidden ≡ false
unfolding a_row
row_visible columns literals row gives = visible_given (values_from 1 columns literals) row gives
