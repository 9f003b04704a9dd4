use Rattle.ts_running.proofs.InstructionLemmas.{apply_leaves}
use Rattle.ts_running.proofs.bind.BoundExpr.apply_to.Goals as goal

pub returns : goal.returns
returns c = λ values is.
    apply_leaves c.args.self.now c.instructions.result.now c.scales-scales.result.now c.instructions.ensures c.scales-scales.ensures.value values
    c.args.numbers.now c.carry_out.new.stack.items c.carry_out.result is c.carry_out.ensures.ok c.carry_out.ensures.cause
