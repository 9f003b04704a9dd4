-- What is written in a slot of a definition.
use Rattle.std.proofs.Common.{◌≡◌, Some, None, refl}
use Rattle.ts_model.specs.declared.kind.Kind.TheVariants as kinds
use Rattle.ts_model.specs.declared.def.Def.{Def}
use Rattle.ts_model.specs.declared.def.Def.TheVariants as defs
use Rattle.ts_model.specs.Definitions.{kind_of, name_of}
use Rattle.ts_layout.specs.Slot.{padded, part_bytes, calendar_bytes, def_bytes}
use Rattle.ts_slots.specs.declared.slot.Written.TheVariants.{Whole}
use Rattle.ts_slots.specs.Written.{written_of, kind_written, name_written, written_bytes}
use Rattle.ts_slots.proofs.CalendarLemmas.{front_joined}

-- it has the kind, the name and the bytes of the definition
pub kind_same : (def : Def) → kind_written (written_of def) ≡ kind_of def
kind_same (defs.RowType name kind) = refl
kind_same (defs.Pattern name pattern) = refl
kind_same (defs.Calendar name calendar by) = refl
kind_same (defs.Container name row_type quota) = refl
kind_same (defs.Series key container regular) = refl

pub name_same : (def : Def) → name_written (written_of def) ≡ name_of def
name_same (defs.RowType name kind) = refl
name_same (defs.Pattern name pattern) = refl
name_same (defs.Calendar name calendar by) = refl
name_same (defs.Container name row_type quota) = refl
name_same (defs.Series key container regular) = refl

pub bytes_same : (def : Def) → written_bytes (written_of def) ≡ def_bytes def
unfolding calendar_bytes
bytes_same (defs.RowType name kind) = refl
bytes_same (defs.Pattern name pattern) = refl
bytes_same (defs.Calendar name calendar None) = front_joined name calendar.start calendar.patt_start (padded 4046 (part_bytes calendar.pattern None))
bytes_same (defs.Calendar name calendar (Some slot)) = front_joined name calendar.start calendar.patt_start (padded 4046 (part_bytes calendar.pattern (Some slot)))
bytes_same (defs.Container name row_type quota) = refl
bytes_same (defs.Series key container regular) = refl

-- a definition that is no calendar is written whole
pub whole : (def : Def) → (kind_of def ≡ kinds.Calendar → ⊥) → written_of def ≡ Whole def
whole (defs.RowType name kind) other = refl
whole (defs.Pattern name pattern) other = refl
whole (defs.Calendar name calendar by) other = absurd (other refl)
whole (defs.Container name row_type quota) other = refl
whole (defs.Series key container regular) other = refl
