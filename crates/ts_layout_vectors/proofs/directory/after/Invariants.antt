use Rattle.std.proofs.Common.{◌≤◌}
use Rattle.ts_space.specs.Directory.{used_of}
use Rattle.ts_layout_vectors.proofs.directory.after.Given as goal

abbrev pub invariant-loop-step : goal.invariant-loop-step
invariant-loop-step l = used_of l.space ≤ l.step-index
