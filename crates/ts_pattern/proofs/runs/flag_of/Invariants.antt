use Rattle.std.proofs.Common.{◌≡◌, ◌<◌, drop}
use Rattle.ts_pattern.specs.Patterns.{flag_at, total}
use Rattle.ts_pattern.proofs.runs.flag_of.Given as goal

abbrev pub invariant-loop-run : goal.invariant-loop-run
invariant-loop-run l = record {
  same : flag_at (drop l.run-index l.runs) l.rest ≡ flag_at l.runs l.at;
  within : l.rest < total (drop l.run-index l.runs);
}
