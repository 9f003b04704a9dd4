use Rattle.std.proofs.Common.{◌≡◌, take}
use Rattle.ts_pattern.specs.Patterns.{total, flag_at, runs_of}
use Rattle.ts_pattern.proofs.text.merged_runs.Given as goal

abbrev pub invariant-loop-run : goal.invariant-loop-run
invariant-loop-run l = l.merged.items ≡ runs_of (flag_at l.runs) (total (take l.run-index l.runs))
