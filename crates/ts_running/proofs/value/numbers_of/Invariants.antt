use Rattle.std.proofs.Common.{◌≡◌, map, take}
use Rattle.ts_running.specs.Binding.{number_if_any}
use Rattle.ts_running.proofs.value.numbers_of.Given as goal

abbrev pub invariant-loop-value : goal.invariant-loop-value
invariant-loop-value l = l.numbers.items ≡ map number_if_any (take l.value-index l.values)
