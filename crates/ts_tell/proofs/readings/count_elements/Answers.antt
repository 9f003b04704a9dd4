use Rattle.std.proofs.Common.{arith}
use Rattle.ts_answer.specs.Answer.{outcome, carried_out, count_elements}
use Rattle.ts_answer.proofs.CallerLemmas.{defined_by, goes, stops, comes}
use Rattle.ts_tell.proofs.SaidLemmas.{kept_countable, count_said}
use Rattle.ts_tell.proofs.readings.count_elements.Goals as goal

pub count-requires-clause-bound : goal.count-requires-clause-bound
count-requires-clause-bound c =
    let countable = kept_countable c.args.defs.now.definitions c.args.space.now c.requires.kept c.in_ok-slot.slot c.in_ok-slot.ensures.found.within in
    omega (arith, countable)

pub returns-in_err-slot : goal.returns-in_err-slot
unfolding outcome carried_out count_elements
returns-in_err-slot c count free l held = stops _ c.in_err-slot.field-0.0 c.from_residual.ensures.1 (c.in_err-slot.ensures.tried count l (defined_by held))

pub returns : goal.returns
unfolding outcome carried_out count_elements
returns c count free l held =
    goes _ c.in_ok-slot.slot (c.in_ok-slot.ensures.tried count l (defined_by held)) (λ series there.
    comes tt _ (count_said c.args.defs.now.definitions c.args.space.now count free l held c.args.out.now c.say_count.new.out c.requires.empty c.in_ok-slot.slot c.args.key.now series c.count.result there c.count.ensures c.in_ok-say_count.ensures.ok))
