-- Elements that are handed on at other on starts than their own, one after the other.
use Rattle.std.specs.Prelude.{◌≡◌, ℕ, ◌+◌, ◌<◌, ◌≤◌, ◌^◌, ℤ, List, [], ◌∷◌, length, map, filter_map}
use Rattle.ts_row.specs.Row.{Element}
use Rattle.ts_offset.specs.Grid.{GridPlan}
use Rattle.ts_entry.specs.Entry.{Entry, filled}
use Rattle.ts_base.specs.Answer.{most_rows}
use Rattle.ts_combine.specs.Moved.{moved}

-- one that hands on elements so many on starts behind their own, up to a last offset, and how many there were
pub record Mover : Type 0 where
  pub grid : GridPlan
  pub by : ℤ
  pub last : ℕ
  pub count : ℕ

abbrev pub mover : GridPlan → ℤ → ℕ → ℕ → Mover
mover grid by last count = record { grid = grid; by = by; last = last; count = count }

-- the same, with another number of them
abbrev pub with_count : Mover → ℕ → Mover
with_count v count = mover v.grid v.by v.last count

-- elements at the on starts so many behind their own
abbrev pub moved_by : Mover → List Element → List Element
moved_by v es = filter_map (moved v.grid v.by v.last) es

-- From one state to another these elements were taken.
pub record Moves {V : Type 0} (took : V → List Entry → V → Type 0) (v : Mover) (x : V) (es : List Element) (w : Mover)
    (y : V) : Type 0 where
  pub same : w ≡ with_count v w.count
  pub more : v.count ≤ w.count
  pub counted : v.count + length (moved_by v es) < 2 ^ 64 → w.count ≡ v.count + length (moved_by v es)
  pub taken : w.count ≤ most_rows → took x (map filled (moved_by v es)) y

-- From one state to another a row was counted, and its entry handed on unless they are too many.
pub record IsMovedOn {V : Type 0} (took : V → List Entry → V → Type 0) (v : Mover) (x : V) (entry : Entry) (w : Mover)
    (y : V) : Type 0 where
  pub same : w ≡ with_count v w.count
  pub more : v.count ≤ w.count
  pub counted : v.count + 1 < 2 ^ 64 → w.count ≡ v.count + 1
  pub taken : w.count ≤ most_rows → took x (entry ∷ []) y
