use Rattle.std.proofs.Common.{◌≡◌, drop}
use Rattle.ts_running.specs.Binding.{bound_steps}
use Rattle.ts_running.proofs.BindLemmas.{before_steps}
use Rattle.ts_running.proofs.bind.bound_steps.Given as goal

abbrev pub invariant-loop-step : goal.invariant-loop-step
invariant-loop-step l = bound_steps l.columns l.steps ≡ before_steps l.bound.items (bound_steps l.columns (drop l.step-index l.steps))
