-- A fold that has taken nothing.
use Rattle.std.specs.Prelude.{◌≡◌, []}
use Rattle.ts_expr.specs.Aggregates.{Binding}
use Rattle.ts_aggregate.specs.Fold.{Fold, HasTaken}

-- a fold of this list that has taken nothing
abbrev pub IsFresh : Binding → Fold → Type 0
IsFresh b f = (f.binding ≡ b) × HasTaken f []
