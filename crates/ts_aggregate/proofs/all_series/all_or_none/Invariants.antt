use Rattle.std.proofs.Common.{◌≡◌, Ok, map}
use Rattle.ts_row.specs.Row.{Row}
use Rattle.ts_aggregate.proofs.all_series.all_or_none.Given as goal

abbrev pub invariant-loop-answer : goal.invariant-loop-answer
invariant-loop-answer l = l.yielded ≡ map (λ (row : Row). Ok row) l.rows.items
