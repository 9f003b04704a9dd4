-- What puts an element where it stood, and what hides it there, is answered.
use Rattle.std.proofs.Common.{◌≡◌, ℕ, ◌≤◌, ℤ, Bool, true, false, cond, is_some, Some, None, Ok, Err, List, refl, ap, sym, ◌∙◌}
use Rattle.std.specs.FinMap.{get}
use Rattle.ts_base.specs.declared.refusal.Refusal.TheVariants as refusals
use Rattle.ts_row.specs.Row.{Row, row_of, marked}
use Rattle.ts_row.specs.declared.value.Literal.{Literal}
use Rattle.ts_calendar.specs.Calendars.{CalendarPlan, IsLaid}
use Rattle.ts_calendar.proofs.StampLemmas.{int_lt_no}
use Rattle.ts_offset.specs.Grid.{IsOnStart, held_start}
use Rattle.ts_offset.specs.declared.shape.Shape.{Shape}
use Rattle.ts_offset.specs.declared.shape.Shape.TheVariants.{Irregular, Regular}
use Rattle.ts_offset.proofs.StartLemmas.{on-line}
use Rattle.ts_offset.proofs.GridLemmas.{around-start}
use Rattle.ts_offset.proofs.HeldLemmas.{around-holds}
use Rattle.ts_offset.proofs.OwnLemmas.{held-from}
use Rattle.ts_command.specs.declared.command.Command.TheVariants as commands
use Rattle.ts_model.specs.Catalogue.{Series, Catalogue, newest_format, columns_of, shape_of, quota_of}
use Rattle.ts_model.specs.Charge.{container_charge}
use Rattle.ts_answer.specs.Answer.{outcome, carried_out, insert_element, mark_element, with_element}
use Rattle.ts_answer.specs.Answer.{known, wanted, a_row, row_at, an_address, addressed, on_grid, refused_if, within_quota, beyond_old_format}
use Rattle.ts_answer.specs.Reply.{stamp_line}
use Rattle.ts_answer.proofs.CallerLemmas.{passed, wanted-there, good-row, row-there, format-has, quota-kept, on_ok}
use Rattle.ts_dump_laws.specs.Rules.{HasOrigin, IsPlace}

-- an on start is held by its own interval
pub held_itself : (c : CalendarPlan) (s : ℤ) → IsLaid c → IsOnStart c s → held_start c s ≡ Some s
held_itself c s laid on =
    held-from c s s laid (on-line c on.interval s laid on.start).1
    (record { interval = on.interval; on = on.on; start = on.start; held = around-holds c s on.interval laid (around-start c on.interval s laid on.start) on.on })

-- a place addresses itself
pub addressed_itself : (shape : Shape) (stamp : ℤ) → HasOrigin shape → IsPlace shape stamp → addressed shape stamp ≡ Ok stamp
addressed_itself Irregular stamp origin place = refl
addressed_itself (Regular grid) stamp origin place =
    ap (on_grid grid) (held_itself grid.calendar stamp origin.0 place.0)
    ∙ ap (λ (b : Bool). cond b (Err refusals.BeforeOrigin) (Ok stamp)) (int_lt_no stamp grid.origin place.1)

module _ (cat : Catalogue) (key : List ℕ) (s : Series) (shape : Shape) (stamp : ℤ) (there : get cat.series key ≡ Some s) (lies : shape_of cat s.kind ≡ Some shape)
    (origin : HasOrigin shape) (place : IsPlace shape stamp) where
  address : an_address s stamp cat ≡ Ok stamp
  unfolding an_address
  address = on_ok (known (shape_of cat s.kind)) shape (λ x. addressed x stamp) (ap known lies) ∙ addressed_itself shape stamp origin place

  pub element_put : (row : Row) (literals : List Literal) → row_of (columns_of cat s) literals ≡ Ok (marked false row) → get s.elements stamp ≡ None
      → container_charge s.container (with_element key s stamp (marked false row) cat) ≤ quota_of cat s
      → outcome (Ok (commands.InsElem key stamp literals)) cat ≡ Ok (stamp_line stamp, with_element key s stamp (marked false row) cat)
  unfolding outcome carried_out insert_element
  element_put row literals fits free fit =
      on_ok (wanted key cat.series) s _ (wanted-there key cat.series s there)
      ∙ on_ok (a_row (columns_of cat s) literals) (marked false row) _ (good-row (columns_of cat s) literals (marked false row) fits)
      ∙ on_ok (an_address s stamp cat) stamp _ address
      ∙ on_ok (refused_if (is_some (get s.elements stamp)) refusals.Duplicate) tt _ (passed (is_some (get s.elements stamp)) refusals.Duplicate (ap is_some free))
      ∙ on_ok (within_quota (container_charge s.container (with_element key s stamp (marked false row) cat)) (quota_of cat s)) tt _ (quota-kept _ (quota_of cat s) fit)

  pub element_hidden : (row : Row) → cat.format ≡ newest_format → get s.elements stamp ≡ Some row
      → outcome (Ok (commands.HideElem key stamp)) cat ≡ Ok (stamp_line stamp, with_element key s stamp (marked true row) cat)
  unfolding outcome carried_out mark_element
  element_hidden row newest has =
      on_ok (wanted key cat.series) s _ (wanted-there key cat.series s there)
      ∙ on_ok (beyond_old_format true cat.format) tt _ (format-has true cat.format (λ old. absurd (let no : newest_format ≡ 1 = sym newest ∙ old in cc)))
      ∙ on_ok (an_address s stamp cat) stamp _ address
      ∙ on_ok (row_at stamp s.elements) row _ (row-there stamp s.elements row has)
