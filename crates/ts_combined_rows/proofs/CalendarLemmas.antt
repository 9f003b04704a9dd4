-- The calendar of a series on a grid, by its definition.
use Rattle.std.proofs.Common.{◌≡◌, Option, Some, None, Ok, sym, ap, subst, ◌∙◌}
use Rattle.std.specs.Prelude.{IfNone}
use Rattle.std.specs.Borrow.{Bor}
use Rattle.ts_calendar.specs.Calendars.{CalendarPlan, common_grid, IsEarly}
use Rattle.ts_calendar.specs.declared.grid.CommonGrid.{CommonGrid}
use Rattle.ts_offset.specs.Grid.{GridPlan}
use Rattle.ts_offset.specs.declared.shape.Shape.{Shape}
use Rattle.ts_offset.specs.declared.shape.Shape.TheVariants.{Irregular, Regular}
use Rattle.ts_combine.specs.Reach.{IsOnCalendar, LiesOn}
use Rattle.ts_combine.specs.Series.{IsGiven, IsGivenFor}
use Rattle.ts_combined_rows.specs.Combining.{HaveGrid}

given_lies : (grid : GridPlan) (calendar : Option (Bor CalendarPlan)) → IsGiven grid.calendar calendar → LiesOn (Regular grid) calendar
given_lies grid None given = absurd given
given_lies grid (Some calendar) given = given

pub regular_lies : (shape : Shape) (grid : GridPlan) (calendar : Option (Bor CalendarPlan)) → shape ≡ Regular grid → IsGivenFor shape calendar → LiesOn shape calendar
regular_lies shape grid calendar is given =
    subst (λ (s : Shape). LiesOn s calendar) (sym is) (given_lies grid calendar (subst (λ (s : Shape). IsGivenFor s calendar) is given))

pub lies_there : (shape : Shape) (calendar : Bor CalendarPlan) → LiesOn shape (Some calendar) → IsOnCalendar shape calendar.now
lies_there Irregular calendar lies = absurd lies
lies_there (Regular grid) calendar lies = lies

-- a grid that two have in common, or none where one of them lies on none
pub no_first : (shape shape' : Shape) → LiesOn shape None → HaveGrid shape shape'
no_first Irregular Irregular lies = tt
no_first Irregular (Regular h) lies = tt
no_first (Regular g) shape' lies = absurd lies

pub no_second : (shape shape' : Shape) → LiesOn shape' None → HaveGrid shape shape'
no_second Irregular Irregular lies = tt
no_second (Regular g) Irregular lies = tt
no_second shape (Regular h) lies = absurd lies

pub has_grid : (shape shape' : Shape) (c d : CalendarPlan) (grid : CommonGrid) → IsOnCalendar shape c → IsOnCalendar shape' d → common_grid c d ≡ Ok grid → IsEarly grid.unit c.patt_start → HaveGrid shape shape'
has_grid Irregular shape' c d grid on on' is early = absurd on
has_grid (Regular g) Irregular c d grid on on' is early = absurd on'
has_grid (Regular g) (Regular h) c d grid on on' is early = (
  grid,
  ap (λ (x : CalendarPlan). common_grid x h.calendar) (sym on) ∙ ap (λ (y : CalendarPlan). common_grid c y) (sym on') ∙ is,
  subst (λ (x : CalendarPlan). IsEarly grid.unit x.patt_start) on early,
)

pub where_none : {A : Type 0} (shape shape' : Shape) (o : Option A) → HaveGrid shape shape' → IfNone o (HaveGrid shape shape')
where_none shape shape' None has = has
where_none shape shape' (Some a) has = tt
