-- One kind's slots, with an index of the filled ones in the order of their names.
use Rattle.std.specs.Prelude.{◌≡◌, ℕ, zero, suc, ◌-◌, ◌≤◌, ltb, Bool, true, false, if◌then◌else◌, List, [], ◌∷◌, ◌++◌}
use Rattle.std.specs.Prelude.{length, replicate, Option, Some, None, bytes_eq, min}
use Rattle.std.specs.Ordering.{is_gt}
use Rattle.std.specs.FinMap.{values}
use Rattle.ts_model.specs.Catalogue.{name_cmp}
use Rattle.ts_model.specs.Definitions.{at_slot, name_of, vacant_slot, slots_by_name}
use Rattle.ts_model.specs.declared.def.Def.{Def}

-- what contracts see of a table: its slots, how many they are, and whether an empty one can be filled without memory
pub record Slots : Type 0 where
  pub count : ℕ
  pub slots : List (Option Def)
  pub room : Bool

-- slots with empty ones behind them, so many in all
abbrev pub padded : ℕ → List (Option Def) → List (Option Def)
padded count items = items ++ replicate (count - length items) None

-- no two slots have one name
abbrev pub AreApart : List (Option Def) → Type 0
AreApart items = (i j : ℕ) (a b : Def) → at_slot i items ≡ Some a → at_slot j items ≡ Some b → name_of a ≡ name_of b
    → i ≡ j

-- what a table of at most 4096 slots keeps: the first of them, and none before it took memory for all, the numbers of
-- the filled ones in the order of their names, and the lowest empty one
pub record IsIndexed (count : ℕ) (items : List (Option Def)) (order : List ℕ) (vacant : Option ℕ)
    (room : Bool) : Type 0 where
  pub most : count ≤ 4096
  pub size : length items ≤ count
  pub apart : AreApart items
  pub index : order ≡ values (slots_by_name items)
  pub lowest : vacant ≡ vacant_slot (padded count items)
  pub taken : room ≡ false → items ≡ []

-- the memory of such a table
pub record IsRoomy (count : ℕ) (room : Bool) (capacity order_capacity : ℕ) : Type 0 where
  pub slots : room ≡ true → count ≤ capacity
  pub order : room ≡ true → count ≤ order_capacity

-- what a table keeps, and its memory
pub record IsHeld (count : ℕ) (items : List (Option Def)) (order : List ℕ) (vacant : Option ℕ) (room : Bool)
    (capacity order_capacity : ℕ) : Type 0 where
  pub kept : IsIndexed count items order vacant room
  pub memory : IsRoomy count room capacity order_capacity

-- how many entries have a lower name
abbrev pub place_of : List ℕ → List (List ℕ × ℕ) → ℕ
place_of name [] = 0
place_of name (e ∷ es) = if is_gt (name_cmp name e.0) then suc (place_of name es) else 0

-- the entry at this place has the name
abbrev pub stands_at : ℕ → List ℕ → List (List ℕ × ℕ) → Bool
stands_at place name [] = false
stands_at zero name (e ∷ es) = bytes_eq name e.0
stands_at (suc place) name (e ∷ es) = stands_at place name es

-- the lower of two slots, of which the first may be none
abbrev pub lower : Option ℕ → ℕ → ℕ
lower None slot = slot
lower (Some n) slot = min n slot

-- the slot behind the first `len` of `count` slots, where there are more
abbrev pub slot_behind : ℕ → ℕ → Option ℕ
slot_behind len count = if ltb len count then Some len else None
