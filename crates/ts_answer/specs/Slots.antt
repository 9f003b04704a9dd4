-- The slots of names, and those for new ones.
use Rattle.std.specs.Prelude.{◌≡◌, ℕ, ◌<◌, Some, None, List}
use Rattle.std.specs.FinMap.{get}
use Rattle.ts_calendar.specs.Calendars.{CalendarPlan}
use Rattle.ts_model.specs.declared.kind.Kind.{Kind}
use Rattle.ts_model.specs.declared.kind.Kind.TheVariants as kinds
use Rattle.ts_model.specs.Definitions.{Definitions, CalendarDef, KindDef, table_of, limit, slots, slot_of, vacant_slot}
use Rattle.ts_model.specs.Definitions.{at_slot}
use Rattle.ts_layout.specs.Meaning.{Layout, value_of, catalogue_of}
use Rattle.ts_model.specs.Catalogue.{In, named}

-- the lowest empty slot, for a name that is none yet
pub record IsFreeSlot (kind : Kind) (slot : ℕ) (name : List ℕ) (d : Definitions) : Type 0 where
  pub within : slot < limit kind
  pub new : slot_of name (slots kind d) ≡ None
  pub lowest : vacant_slot (slots kind d) ≡ Some slot

-- the slot that has a name
pub record IsSlotNamed (kind : Kind) (slot : ℕ) (name : List ℕ) (d : Definitions) : Type 0 where
  pub within : slot < limit kind
  pub is : slot_of name (slots kind d) ≡ Some slot

-- what the definition in a slot is in the catalogue
abbrev pub IsValue : (kind : Kind) → Layout → ℕ → In kind → Type 0
IsValue kind l slot value = (a : KindDef kind) × (at_slot slot (table_of kind l.definitions) ≡ Some a)
    × (value ≡ value_of kind l slot a)

-- a name stands in a slot, and for this in the catalogue
pub record Stands (kind : Kind) (name : List ℕ) (l : Layout) (slot : ℕ) (value : In kind) : Type 0 where
  pub at : IsSlotNamed kind slot name l.definitions
  pub listed : get (named kind (catalogue_of l)) name ≡ Some value
  pub is : IsValue kind l slot value

-- a calendar stands in the slot that has its name
pub record IsCalendarIn (name : List ℕ) (l : Layout) (slot : ℕ) (plan : CalendarPlan) : Type 0 where
  pub at : IsSlotNamed kinds.Calendar slot name l.definitions
  pub def : CalendarDef
  pub there : at_slot slot l.definitions.calendars ≡ Some def
  pub is : plan ≡ def.calendar
