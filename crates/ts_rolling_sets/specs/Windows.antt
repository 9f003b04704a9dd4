-- What stands in the windows of a set, by their slots.
use Rattle.std.specs.Prelude.{◌≡◌, ℕ, ℤ, is_some, Option, Some, None, Result, Ok, Err, List, filter, flat_map, map}
use Rattle.std.specs.FinMap.{entries}
use Rattle.ts_base.specs.declared.refusal.Refusal.{Refusal}
use Rattle.ts_row.specs.declared.kind.Column.{Column}
use Rattle.ts_row.specs.Row.{Heading, Element, seen}
use Rattle.ts_sheets.specs.Stamped.{within_range}
use Rattle.ts_entry.specs.Entry.{Entry, filled}
use Rattle.ts_base.specs.Answer.{within_rows}
use Rattle.ts_offset.specs.declared.shape.Shape.TheVariants.{Irregular}
use Rattle.ts_model.specs.declared.kind.Kind.TheVariants as kinds
use Rattle.ts_model.specs.Definitions.{Definitions}
use Rattle.ts_layout.specs.Meaning.{Layout, elements_at, shape_at}
use Rattle.ts_answer.specs.Reply.{elements_text}
use Rattle.ts_answer.specs.Slots.{IsSlotNamed}
use Rattle.ts_rolling_sets.specs.InMemory.{window_at, in_order}

-- the slots of the windows of a set in the container in a slot
abbrev pub window_slots_in : Definitions → List ℕ → ℕ → List ℕ
window_slots_in d set container = filter (λ slot. is_some (window_at d set container slot)) (in_order d)

-- what is seen of the series in a slot from one stamp to another
abbrev pub seen_at : Layout → ℤ → ℤ → ℕ → List Element
seen_at l from to slot = within_range from to (seen (entries (elements_at slot l.element_pages)))

-- of those in some slots, one behind the other
abbrev pub seen_in : Layout → ℤ → ℤ → List ℕ → List Element
seen_in l from to slots = flat_map (seen_at l from to) slots

-- the same as entries
abbrev pub entries_in : Layout → ℤ → ℤ → List ℕ → List Entry
entries_in l from to slots = map filled (seen_in l from to slots)

-- an irregular series stands in a slot, under some key
pub record IsWindowSlot (d : Definitions) (slot : ℕ) : Type 0 where
  pub key : List ℕ
  pub named : IsSlotNamed kinds.Series slot key d
  pub lies : shape_at d slot ≡ Some Irregular

-- columns are those of a heading, if there is one
abbrev pub HasColumns : List Column → Option Heading → Type 0
HasColumns columns None = ⊥
HasColumns columns (Some heading) = heading.columns ≡ columns

-- elements are said with their number, where they are no more than a reply may have; else they are refused
abbrev pub AreSaid : List Column → List Element → Result (Unit {0}) Refusal → List ℕ → Type 0
AreSaid columns es (Ok done) out = (within_rows es ≡ Ok es) × (out ≡ elements_text columns es)
AreSaid columns es (Err refusal) out = within_rows es ≡ Err refusal
