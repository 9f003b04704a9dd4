use Rattle.std.proofs.Common.{◌≡◌, map, take}
use Rattle.ts_pattern.specs.Patterns.{scaled}
use Rattle.ts_pattern.proofs.runs.scaled_runs.Given as goal

abbrev pub invariant-loop-run : goal.invariant-loop-run
invariant-loop-run l = l.all.items ≡ map (scaled l.parts) (take l.run-index l.runs)
