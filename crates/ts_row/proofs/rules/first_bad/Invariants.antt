-- The columns so far keep the rules, and so do the first of them; their width is summed up.
use Rattle.std.proofs.Common.{◌≡◌, ℕ, ◌+◌, ◌<◌, true, take}
use Rattle.ts_row.specs.Row.{keep_rules, width_of}
use Rattle.ts_row.proofs.rules.first_bad.Given as goal

abbrev pub invariant-loop-index : goal.invariant-loop-index
invariant-loop-index l = record {
  kept : (k : ℕ) → k < l.index + 1 → keep_rules l.stamp (take k l.columns) ≡ true;
  width : l.width ≡ width_of (take l.index l.columns);
}
