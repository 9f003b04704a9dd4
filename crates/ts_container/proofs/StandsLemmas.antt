-- What is written in a slot stands for a definition.
use Rattle.std.proofs.Common.{◌≡◌, ℕ, ◌<◌, IsTrue, true, Some, None, [], ◌∷◌, refl, sym}
use Rattle.ts_base.specs.Name.{is_name}
use Rattle.ts_base.specs.Moment.{IsStamp}
use Rattle.ts_base.specs.declared.unit.Unit.TheVariants.{Day}
use Rattle.ts_pattern.specs.declared.run.Run.{Run}
use Rattle.ts_pattern.specs.Patterns.{Plan, is_pattern}
use Rattle.ts_model.specs.declared.def.Def.TheVariants as defs
use Rattle.ts_slots.specs.declared.calendar_slot.Part.TheVariants.{By, Own}
use Rattle.ts_slots.specs.declared.calendar_slot.CalendarForm.{CalendarForm}
use Rattle.ts_slots.specs.declared.slot.Written.TheVariants.{Form}
use Rattle.ts_container.specs.Reading.{StandsFor}

-- a form with a pattern of its own
pub own_stands : (format : ℕ) (form : CalendarForm) (p : Plan) → form.part ≡ Own p → IsTrue (is_name form.name) → IsStamp form.start → IsStamp form.patt_start → IsTrue (is_pattern p.runs) → StandsFor format (Form form)
own_stands format form p part name start patt_start runs written = (
  defs.Calendar form.name (record { start = form.start; patt_start = form.patt_start; pattern = p }) None,
  record { name = name; start = start; patt_start = patt_start; runs = runs; by = tt },
  (λ i. Form (record { name = form.name; start = form.start; patt_start = form.patt_start; part = sym part i })),
)

-- some pattern
some_plan : Plan
some_plan = record { unit = Day; runs = (let run : Run = record { on = true; count = 1 } in run ∷ []) }

-- a form by a slot
pub by_stands : (format : ℕ) (form : CalendarForm) (slot : ℕ) → form.part ≡ By slot → slot < 256 → IsTrue (is_name form.name) → IsStamp form.start → IsStamp form.patt_start → StandsFor format (Form form)
unfolding some_plan
by_stands format form slot part low name start patt_start written = (
  defs.Calendar form.name (record { start = form.start; patt_start = form.patt_start; pattern = some_plan }) (Some slot),
  record { name = name; start = start; patt_start = patt_start; runs = refl; by = low },
  (λ i. Form (record { name = form.name; start = form.start; patt_start = form.patt_start; part = sym part i })),
)
