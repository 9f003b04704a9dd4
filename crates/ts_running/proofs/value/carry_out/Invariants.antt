use Rattle.std.proofs.Common.{◌≡◌, [], drop}
use Rattle.std.specs.Prelude.{reverse}
use Rattle.ts_running.specs.Instructions.{after_instructions}
use Rattle.ts_running.proofs.value.carry_out.Given as goal

abbrev pub invariant-loop-instruction : goal.invariant-loop-instruction
invariant-loop-instruction l = after_instructions l.numbers l.instructions [] ≡ after_instructions l.numbers (drop l.instruction-index l.instructions) (reverse l.stack.items)
