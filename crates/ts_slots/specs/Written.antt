-- What is written in a slot: a definition, or a calendar as its slot has it, which has the runs of its pattern only
-- where this is its own.
use Rattle.std.specs.Prelude.{◌≡◌, ℕ, ℤ, Option, Some, None, List, [], ◌∷◌, ◌++◌}
use Rattle.ts_pattern.specs.Patterns.{Plan}
use Rattle.ts_cells.specs.IrregularPage.{stamp_bytes}
use Rattle.ts_model.specs.declared.kind.Kind.{Kind}
use Rattle.ts_model.specs.declared.kind.Kind.TheVariants as kinds
use Rattle.ts_model.specs.declared.def.Def.{Def}
use Rattle.ts_model.specs.declared.def.Def.TheVariants as defs
use Rattle.ts_model.specs.Definitions.{CalendarDef, kind_of, name_of}
use Rattle.ts_layout.specs.Slot.{padded, name_bytes, plan_bytes, def_bytes}
use Rattle.ts_layout.specs.Meaning.{IsDef}
use Rattle.ts_slots.specs.declared.calendar_slot.Part.{Part}
use Rattle.ts_slots.specs.declared.calendar_slot.Part.TheVariants.{By, Own}
use Rattle.ts_slots.specs.declared.calendar_slot.CalendarForm.{CalendarForm}
use Rattle.ts_slots.specs.declared.slot.Written.{Written}
use Rattle.ts_slots.specs.declared.slot.Written.TheVariants.{Whole, Form}

-- the first 50 bytes of a calendar's page
abbrev pub front_bytes : List ℕ → ℤ → ℤ → List ℕ
front_bytes name start patt_start = 1 ∷ (name_bytes name ++ (stamp_bytes start ++ stamp_bytes patt_start))

-- which pattern a calendar's page says: that in a slot, or one of its own
abbrev pub part_on_page : Plan → Option ℕ → Part
part_on_page p (Some slot) = By slot
part_on_page p None = Own p

-- a calendar as its page has it
abbrev pub form_of : CalendarDef → CalendarForm
form_of c = record {
  name = c.name;
  start = c.calendar.start;
  patt_start = c.calendar.patt_start;
  part =
      part_on_page c.calendar.pattern c.by;
}

-- the bytes of that: 0 and the slot, or 1, 0 and the pattern
abbrev pub said_bytes : Part → List ℕ
said_bytes (By slot) = 0 ∷ slot ∷ []
said_bytes (Own p) = 1 ∷ 0 ∷ plan_bytes p

-- the bytes of a calendar's page
abbrev pub form_bytes : CalendarForm → List ℕ
form_bytes f = front_bytes f.name f.start f.patt_start ++ padded 4046 (said_bytes f.part)

-- what is written in the slot of a definition
abbrev pub written_of : Def → Written
written_of (defs.RowType name kind) = Whole (defs.RowType name kind)
written_of (defs.Pattern name pattern) = Whole (defs.Pattern name pattern)
written_of (defs.Calendar name calendar by) = Form (form_of (record { name = name; calendar = calendar; by = by }))
written_of (defs.Container name row_type quota) = Whole (defs.Container name row_type quota)
written_of (defs.Series key container regular) = Whole (defs.Series key container regular)

-- the kind of it
abbrev pub kind_written : Written → Kind
kind_written (Whole def) = kind_of def
kind_written (Form f) = kinds.Calendar

-- its name or its key
abbrev pub name_written : Written → List ℕ
name_written (Whole def) = name_of def
name_written (Form f) = f.name

-- its bytes
abbrev pub written_bytes : Written → List ℕ
written_bytes (Whole def) = def_bytes def
written_bytes (Form f) = form_bytes f

-- it may be written in a volume of a format: a definition that is no calendar, or a calendar's form
abbrev pub IsWritten : ℕ → Written → Type 0
IsWritten format (Whole def) = IsDef format def × (written_of def ≡ Whole def)
IsWritten format (Form f) = Unit {0}
