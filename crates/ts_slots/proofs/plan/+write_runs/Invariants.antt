-- Each step goes on with one run less.
use Rattle.std.proofs.Common.{length}
use Rattle.ts_slots.proofs.plan.+write_runs.Given as goal

abbrev pub decreases-write_runs : goal.decreases-write_runs
decreases-write_runs l = length l.runs.now
