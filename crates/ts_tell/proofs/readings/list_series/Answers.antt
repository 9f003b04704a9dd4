use Rattle.ts_answer.specs.Answer.{outcome, carried_out, list_series}
use Rattle.ts_answer.proofs.CallerLemmas.{defined_by, goes, stops, comes}
use Rattle.ts_tell.proofs.SaidLemmas.{kept_countable, list_said}
use Rattle.ts_tell.proofs.readings.list_series.Goals as goal

pub say_listed-requires : goal.say_listed-requires
say_listed-requires c = kept_countable c.args.defs.now.definitions c.args.space.now c.requires.kept

pub returns-in_err-slot : goal.returns-in_err-slot
unfolding outcome carried_out list_series
returns-in_err-slot c count free l held = stops _ c.in_err-slot.field-0.0 c.from_residual.ensures.1 (c.in_err-slot.ensures.tried count l (defined_by held))

pub returns : goal.returns
unfolding outcome carried_out list_series
returns c count free l held =
    goes _ c.in_ok-slot.slot (c.in_ok-slot.ensures.tried count l (defined_by held)) (λ container there.
    comes tt _ (list_said c.args.defs.now.definitions c.args.space.now count free l held c.args.out.now c.say_count.new.out c.requires.empty c.in_ok-slot.slot c.args.container.now container c.say_listed.new.out c.in_ok-count.count there
    c.in_ok-count.ensures.said c.in_ok-count.ensures.count c.in_ok-say_count.ensures.ok))
