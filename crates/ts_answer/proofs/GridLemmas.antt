-- The grid that is made for an origin.
use Rattle.std.proofs.Common.{◌≡◌, ℤ, Option, Some, None, Ok, ap, sym, ◌∙◌}
use Rattle.std.specs.Option.{option_map}
use Rattle.std.specs.Prelude.{ok_or}
use Rattle.ts_base.specs.declared.refusal.Refusal.TheVariants as refusals
use Rattle.ts_calendar.specs.Calendars.{CalendarPlan}
use Rattle.ts_offset.specs.Grid.{GridPlan, grid_of, held_start, start_or_next}

-- the grid that is made has the calendar, and the start that was sought for its origin
grid_from : (plan : CalendarPlan) (start : Option ℤ) (grid : GridPlan)
    → ok_or (option_map (λ origin. record { calendar = plan; origin = origin }) start) refusals.PastEnd ≡ Ok grid
    → (start ≡ Some grid.origin) × (grid ≡ record { calendar = plan; origin = grid.origin })
grid_from plan None grid is = absurd (cc)
grid_from plan (Some origin) grid is =
    let same : grid ≡ record { calendar = plan; origin = origin } = cc in (
      ap Some (sym (ap (λ (g : GridPlan). g.origin) same)),
      same ∙ ap (λ (g : GridPlan). let made : GridPlan = record { calendar = plan; origin = g.origin } in made) (sym same),
    )

pub grid-made : (plan : CalendarPlan) (origin : ℤ) (grid : GridPlan) → grid_of plan origin ≡ Ok grid → grid ≡ record { calendar = plan; origin = grid.origin }
grid-made plan origin grid is = (grid_from plan (start_or_next plan origin (held_start plan origin)) grid is).1

pub grid-start : (plan : CalendarPlan) (origin : ℤ) (grid : GridPlan) → grid_of plan origin ≡ Ok grid → start_or_next plan origin (held_start plan origin) ≡ Some grid.origin
grid-start plan origin grid is = (grid_from plan (start_or_next plan origin (held_start plan origin)) grid is).0
