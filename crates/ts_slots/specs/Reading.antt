-- What is read of the bytes of a slot.
use Rattle.std.specs.Prelude.{◌≡◌, ℕ, Option, None, List}
use Rattle.ts_model.specs.declared.kind.Kind.{Kind}
use Rattle.ts_model.specs.declared.def.Def.{Def}
use Rattle.ts_model.specs.Definitions.{kind_of}
use Rattle.ts_layout.specs.Slot.{def_bytes, slot_bytes}
use Rattle.ts_layout.specs.Meaning.{IsDef, IsSlotOf}
use Rattle.ts_slots.specs.declared.slot.Written.{Written}
use Rattle.ts_slots.specs.declared.slot.Reading.{Reading}
use Rattle.ts_slots.specs.declared.slot.Reading.TheVariants.{Bad, Empty, Filled}
use Rattle.ts_slots.specs.Written.{IsWritten, kind_written, written_bytes, written_of}

-- the bytes of what is written in a slot; each definition with these bytes is written so
pub record IsWrittenWith (format : ℕ) (kind : Kind) (bytes : List ℕ) (w : Written) : Type 0 where
  pub of_kind : kind_written w ≡ kind
  pub limits : IsWritten format w
  pub is : bytes ≡ written_bytes w
  pub only : (def : Def) → kind_of def ≡ kind → IsDef format def → bytes ≡ def_bytes def → w ≡ written_of def
  pub some : bytes ≡ slot_bytes kind None → ⊥

-- in a volume of a format, the bytes of an empty slot, those of what is written in one, or those of neither
abbrev pub IsReadingOf : ℕ → Kind → List ℕ → Reading → Type 0
IsReadingOf format kind bytes Empty = bytes ≡ slot_bytes kind None
IsReadingOf format kind bytes (Filled w) = IsWrittenWith format kind bytes w
IsReadingOf format kind bytes Bad = (slot : Option Def) → IsSlotOf format kind slot → bytes ≡ slot_bytes kind slot → ⊥
