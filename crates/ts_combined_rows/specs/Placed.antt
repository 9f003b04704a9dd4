-- Which elements of a regular series have a place so many on starts behind their own.
use Rattle.std.specs.Prelude.{◌≡◌, ℕ, ℤ, ◌<ℤ◌, None}
use Rattle.ts_offset.specs.Grid.{GridPlan}
use Rattle.ts_combine.specs.Moved.{start_behind}
use Rattle.ts_combine.specs.Series.{IsStartOf}

-- an element there has none, whatever the last offset is
abbrev pub HasNoPlace : GridPlan → ℤ → ℤ → Type 0
HasNoPlace grid by stamp = (last : ℕ) → start_behind grid by last stamp ≡ None

-- no start before a stamp has one
abbrev pub NoneBefore : GridPlan → ℤ → ℤ → Type 0
NoneBefore grid by from = (stamp : ℤ) → IsStartOf grid stamp → stamp <ℤ from → HasNoPlace grid by stamp

-- no start after a stamp has one, up to a last offset
abbrev pub NoneAfter : GridPlan → ℤ → ℕ → ℤ → Type 0
NoneAfter grid by last to = (stamp : ℤ) → IsStartOf grid stamp → to <ℤ stamp → start_behind grid by last stamp ≡ None
