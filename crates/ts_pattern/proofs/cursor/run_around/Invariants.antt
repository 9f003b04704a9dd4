use Rattle.std.proofs.Common.{◌≡◌, ◌+◌, ◌<◌, take, drop}
use Rattle.ts_pattern.specs.Patterns.{total}
use Rattle.ts_pattern.proofs.cursor.run_around.Given as goal

abbrev pub invariant-loop-index : goal.invariant-loop-index
invariant-loop-index l = record {
  passed : total (take l.index l.runs) + l.before ≡ l.at;
  left : l.before < total (drop l.index l.runs);
}
