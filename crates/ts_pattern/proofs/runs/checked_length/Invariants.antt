use Rattle.std.proofs.Common.{◌≡◌, ◌+◌, ◌≤◌, drop}
use Rattle.ts_pattern.specs.Patterns.{are_merged, total}
use Rattle.ts_pattern.proofs.RunLemmas.{merged_after}
use Rattle.ts_pattern.proofs.runs.checked_length.Given as goal

abbrev pub invariant-loop-run : goal.invariant-loop-run
invariant-loop-run l = record {
  sum : l.length + total (drop l.run-index l.runs) ≡ total l.runs;
  small : l.length ≤ 527_040;
  merged : merged_after l.last (drop l.run-index l.runs) ≡ are_merged l.runs;
}
