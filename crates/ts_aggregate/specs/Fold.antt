-- A fold of rows in their bytes, and what it has taken.
use Rattle.std.specs.Prelude.{◌≡◌, ℕ, ◌+◌, ◌≤◌, ◌^◌, List, [], ◌++◌, length, All}
use Rattle.ts_row.specs.declared.kind.Column.{Column}
use Rattle.ts_row.specs.Row.{Row}
use Rattle.ts_expr.specs.Aggregates.{Binding, folded_row}
use Rattle.ts_expr.specs.declared.tally.Tally.{Tally}
use Rattle.ts_expr.specs.declared.item.BoundItem.{BoundItem}
use Rattle.ts_expr.specs.Running.{after, count_of}

-- what contracts see of a fold: the list that it is of, with its columns, and what is known so far for each item
pub record Fold : Type 0 where
  pub binding : Binding
  pub tallies : List Tally

-- there is one for each item, of no more values than are folded
pub record AreTallies (items : List BoundItem) (tallies : List Tally) : Type 0 where
  pub size : length tallies ≡ length items
  pub few : All (λ t. count_of t ≤ 2 ^ 32) tallies

-- it has taken these rows
abbrev pub HasTaken : Fold → List Row → Type 0
HasTaken f rows = f.tallies ≡ after f.binding.items rows

-- the most rows of which every sum fits
abbrev pub most_folded : ℕ
most_folded = 2 ^ 32

-- From one state to another rows were taken: behind whatever it had taken before, as long as they are few enough and
-- have its columns.
pub record Takes (columns : List Column) (v : Fold) (rows : List Row) (w : Fold) : Type 0 where
  pub same : w.binding ≡ v.binding
  pub taken : columns ≡ v.binding.columns → (before : List Row) → length before + length rows ≤ most_folded
      → HasTaken v before → HasTaken w (before ++ rows)

-- From one state to another rows were taken and folded: to this row, where none had been taken before and they have its
-- columns.
pub record Folds (columns : List Column) (v : Fold) (rows : List Row) (row : Row) (w : Fold) : Type 0 where
  pub same : w.binding ≡ v.binding
  pub none : HasTaken w []
  pub made : columns ≡ v.binding.columns → HasTaken v [] → row ≡ folded_row v.binding.items rows
