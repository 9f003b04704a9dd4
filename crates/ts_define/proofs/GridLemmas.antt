-- The grid of a regular series that is made.
use Rattle.std.proofs.Common.{◌≡◌, ℕ, ℤ, Ok, Result, List, ap, sym, subst, ◌∙◌}
use Rattle.ts_base.specs.declared.refusal.Refusal.{Refusal}
use Rattle.ts_calendar.specs.Calendars.{CalendarPlan}
use Rattle.ts_offset.specs.Grid.{GridPlan, grid_of, IsOnStart}
use Rattle.ts_model.specs.Definitions.{CalendarDef, at_slot}
use Rattle.ts_layout.specs.Meaning.{Layout, IsOnCalendar}
use Rattle.ts_layout.proofs.CallerLemmas.{one_of}
use Rattle.ts_answer.specs.Slots.{IsCalendarIn}
use Rattle.ts_answer.proofs.CallerLemmas.{grid-made}

-- the answer of a grid that is made is that of the calendar that was tried
pub grid_tried : (plan own : CalendarPlan) (origin : ℤ) (result : Result GridPlan Refusal) → own ≡ plan → result ≡ grid_of own origin → grid_of plan origin ≡ result
grid_tried plan own origin result same is = ap (λ (p : CalendarPlan). grid_of p origin) (sym same) ∙ sym is

-- its origin is an on start of the calendar in the slot
pub grid_on : (l : Layout) (name : List ℕ) (slot : ℕ) (plan : CalendarPlan) (given : ℤ) (grid : GridPlan) → IsCalendarIn name l slot plan → grid_of plan given ≡ Ok grid → (start : ℤ) → start ≡ grid.origin → IsOnStart grid.calendar start
    → IsOnCalendar l.definitions (slot, grid.origin)
grid_on l name slot plan given grid stands made start is on c there =
    let calendar : grid.calendar ≡ plan = ap (λ (g : GridPlan). g.calendar) (grid-made plan given grid made) in
    let own : stands.def ≡ c = one_of (at_slot slot l.definitions.calendars) stands.def c stands.there there in
    subst (λ (t : ℤ). IsOnStart c.calendar t) is (subst (λ (p : CalendarPlan). IsOnStart p start) (calendar ∙ stands.is ∙ ap (λ (x : CalendarDef). x.calendar) own) on)
