use Rattle.std.proofs.Common.{pos, ap, ◌∙◌, arith}
use Rattle.std.proofs.lemmas.Int.{to_z_pos}
use Rattle.std.specs.Int.{w128}
use Rattle.ts_running.proofs.OperandLemmas.{ten_small}
use Rattle.ts_running.proofs.scale.power_of_ten.Goals as goal

pub pow-power-requires : goal.pow-power-requires
pow-power-requires c = let small = ten_small c.args.digits c.requires in omega (arith, small)

pub overflow_cast-result : goal.overflow_cast-result
overflow_cast-result c = let small = ten_small c.args.digits c.requires in omega (arith, small, c.pow-power.ensures)

pub returns : goal.returns
returns c =
    let small = ten_small c.args.digits c.requires in
    to_z_pos w128 c.pow-power.result (omega (arith, small, c.pow-power.ensures)) ∙ ap pos c.pow-power.ensures
