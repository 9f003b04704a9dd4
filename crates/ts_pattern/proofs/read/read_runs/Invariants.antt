use Rattle.std.proofs.Common.{◌≡◌, ◌+◌, ◌≤◌, length, IsTrue}
use Rattle.ts_text.specs.Phrase.{repeated, onto}
use Rattle.ts_pattern.specs.Patterns.{run_in, are_counts}
use Rattle.ts_pattern.proofs.read.read_runs.Given as goal

abbrev pub invariant-loop-behind : goal.invariant-loop-behind
invariant-loop-behind l = record {
  same : onto l.runs.items (repeated run_in l.rest) ≡ onto l.fn.runs.items (repeated run_in l.text);
  counts : IsTrue (are_counts l.runs.items);
  few : length l.runs.items + length l.rest ≤ length l.fn.runs.items + length l.text;
  some : length l.fn.runs.items ≤ length l.runs.items;
}

abbrev pub decreases-loop-behind : goal.decreases-loop-behind
decreases-loop-behind l = length l.rest
