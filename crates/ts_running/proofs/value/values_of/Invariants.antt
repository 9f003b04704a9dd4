use Rattle.std.proofs.Common.{◌≡◌, map, take}
use Rattle.ts_running.specs.Binding.{value_if_any}
use Rattle.ts_running.proofs.value.values_of.Given as goal

abbrev pub invariant-loop-number : goal.invariant-loop-number
invariant-loop-number l = l.values.items ≡ map value_if_any (take l.number-index l.numbers)
