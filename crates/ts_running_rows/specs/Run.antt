-- Elements whose running values are handed on one after the other.
use Rattle.std.specs.Prelude.{◌≡◌, ℕ, ◌+◌, ◌<◌, ◌≤◌, ◌^◌, IsTrue, ℤ, List, [], ◌∷◌, length}
use Rattle.ts_row.specs.Row.{visible, Element}
use Rattle.ts_base.specs.Answer.{most_rows}
use Rattle.ts_expr.specs.declared.function.Function.{Function}
use Rattle.ts_expr.specs.declared.item.BoundItem.{BoundItem}
use Rattle.ts_running.specs.Rows.{Window, after_push}
use Rattle.ts_running.specs.Places.{place_of, is_running, made_over}

-- a window after the places of elements
abbrev pub pushed : ℕ → Window → List Element → Window
pushed column w [] = w
pushed column w (e ∷ es) = pushed column (after_push (place_of column e.1) w) es

-- the row that a function makes of a window, at a stamp
abbrev pub row_of : Function → ℤ → Window → Element
row_of function stamp w = (stamp, visible (made_over function w.values ∷ []))

-- the rows of elements behind a window
abbrev pub run : Function → ℕ → Window → List Element → List Element
run function column w [] = []
run function column w (e ∷ es) =
    row_of function e.0 (after_push (place_of column e.1) w)
    ∷ run function column (after_push (place_of column e.1) w) es

-- one that makes running values: its window, the column with its function, and how many rows there were
pub record Runner : Type 0 where
  pub window : Window
  pub item : BoundItem
  pub count : ℕ

abbrev pub runner : Window → BoundItem → ℕ → Runner
runner window item count = record { window = window; item = item; count = count }

-- From one state to another these elements were taken.
pub record Runs {V : Type 0} (took : V → List Element → V → Type 0) (v : Runner) (x : V) (es : List Element)
    (w : Runner)
    (y : V) : Type 0 where
  pub item : w.item ≡ v.item
  pub window : w.window ≡ pushed v.item.column v.window es
  pub more : v.count ≤ w.count
  pub counted : v.count + length es < 2 ^ 64 → w.count ≡ v.count + length es
  pub taken : w.count ≤ most_rows → took x (run v.item.function v.item.column v.window es) y

-- From one state to another a row was counted, at a stamp, and handed on unless they are too many.
pub record IsHandedOn {V : Type 0} (took : V → List Element → V → Type 0) (v : Runner) (x : V) (stamp : ℤ) (w : Runner)
    (y : V) : Type 0 where
  pub item : w.item ≡ v.item
  pub window : w.window ≡ v.window
  pub more : v.count ≤ w.count
  pub counted : v.count + 1 < 2 ^ 64 → w.count ≡ v.count + 1
  pub taken : w.count ≤ most_rows → took x (row_of v.item.function stamp v.window ∷ []) y

-- an empty window, and a function that has running values
pub record Begins (w : Window) (item : BoundItem) : Type 0 where
  pub empty : w.values ≡ []
  pub running : IsTrue (is_running item.function)
