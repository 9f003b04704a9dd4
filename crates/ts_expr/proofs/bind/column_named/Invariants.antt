use Rattle.std.proofs.Common.{◌≡◌, drop}
use Rattle.ts_expr.specs.Aggregates.{column_from}
use Rattle.ts_expr.proofs.bind.column_named.Given as goal

abbrev pub invariant-loop-number : goal.invariant-loop-number
invariant-loop-number l = column_from 0 l.name l.columns ≡ column_from l.number l.name (drop l.number l.columns)
