use Rattle.std.proofs.Common.{◌≡◌, [], ◌++◌, drop}
use Rattle.std.specs.Prelude.{reverse}
use Rattle.ts_running.specs.Binding.{after_steps, part_scales}
use Rattle.ts_running.specs.Instructions.{instructions_of}
use Rattle.ts_running.proofs.scale.scaled_exprs.Given as goal

abbrev pub invariant-loop-step : goal.invariant-loop-step
invariant-loop-step l = record {
  scales : after_steps part_scales l.steps [] ≡ after_steps part_scales (drop l.step-index l.steps) (reverse l.scales.items);
  instructions : instructions_of [] l.steps ≡ l.instructions.items ++ instructions_of (reverse l.scales.items) (drop l.step-index l.steps);
}
