-- Which element of a regular series a stamp addresses.
use Rattle.std.specs.Prelude.{◌≡◌, ◌⊎◌, ℕ, ℤ, Some, Ok, Err}
use Rattle.ts_base.specs.declared.refusal.Refusal.{Refusal}
use Rattle.ts_offset.specs.Grid.{GridPlan, held_start, offset_of, stamp_of}

-- a stamp addresses the element at an offset: the on interval that holds it has this start, which is the on start of
-- the offset
pub record IsAddressed (grid : GridPlan) (stamp : ℤ) (offset : ℕ) (start : ℤ) : Type 0 where
  pub offset_is : offset_of grid stamp ≡ Ok offset
  pub held : held_start grid.calendar stamp ≡ Some start
  pub again : stamp_of grid offset ≡ Some start

-- it addresses one, of whose offset and start this holds
pub record HasAddress (grid : GridPlan) (stamp : ℤ) (On : ℕ → ℤ → Type 0) : Type 0 where
  pub offset : ℕ
  pub start : ℤ
  pub is : IsAddressed grid stamp offset start
  pub holds : On offset start

-- it addresses none, for a reason of which this holds
pub record HasNoAddress (grid : GridPlan) (stamp : ℤ) (Off : Refusal → Type 0) : Type 0 where
  pub why : Refusal
  pub is : offset_of grid stamp ≡ Err why
  pub holds : Off why

-- one or the other
abbrev pub ByAddress : GridPlan → ℤ → (ℕ → ℤ → Type 0) → (Refusal → Type 0) → Type 0
ByAddress grid stamp On Off = HasAddress grid stamp On ⊎ HasNoAddress grid stamp Off
