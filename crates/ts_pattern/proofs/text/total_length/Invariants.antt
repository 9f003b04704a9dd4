use Rattle.std.proofs.Common.{◌≡◌, ◌*◌, ◌≤◌, take}
use Rattle.ts_pattern.specs.Patterns.{total}
use Rattle.ts_pattern.proofs.text.total_length.Given as goal

abbrev pub invariant-loop-run : goal.invariant-loop-run
invariant-loop-run l = record {
  value : l.length ≡ total (take l.run-index l.runs);
  bound : l.length ≤ l.run-index * 4_294_967_295;
}
