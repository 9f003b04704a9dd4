-- What stands in a slot, and what the catalogue has under its name.
use Rattle.std.specs.Prelude.{◌≡◌, ℕ, Some, List}
use Rattle.std.specs.FinMap.{get}
use Rattle.ts_model.specs.declared.kind.Kind.{Kind}
use Rattle.ts_model.specs.Catalogue.{named}
use Rattle.ts_model.specs.Definitions.{KindDef, to_def, name_in, table_of, slots, at_slot, slot_of}
use Rattle.ts_layout.specs.Meaning.{Layout, def_at, value_of, catalogue_of}

-- the definition of that name stands in a slot of its kind, and the catalogue has it
pub record IsNamedAt (kind : Kind) (l : Layout) (slot : ℕ) (name : List ℕ) (a : KindDef kind) : Type 0 where
  pub there : at_slot slot (table_of kind l.definitions) ≡ Some a
  pub def : def_at kind slot l.definitions ≡ Some (to_def kind a)
  pub its_name : name_in kind a ≡ name
  pub listed : get (named kind (catalogue_of l)) name ≡ Some (value_of kind l slot a)
  pub named : slot_of name (slots kind l.definitions) ≡ Some slot
