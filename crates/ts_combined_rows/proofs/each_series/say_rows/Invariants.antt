-- The stacks before an index are said.
use Rattle.std.proofs.Common.{length, take}
use Rattle.ts_combined_rows.proofs.StackLemmas.{AreStacksSaid}
use Rattle.ts_combined_rows.proofs.each_series.say_rows.Given as goal

abbrev pub invariant-loop-stack : goal.invariant-loop-stack
invariant-loop-stack l = AreStacksSaid l.bound l.defs.definitions (take (length l.yielded) l.stacks) (take (length l.yielded) l.rows) l.fn.out l.out (length l.yielded)
