use Rattle.std.proofs.Common.{◌∙◌}
use Rattle.ts_answer.specs.Answer.{outcome, carried_out, container_usage}
use Rattle.ts_answer.proofs.CallerLemmas.{defined_by, goes, stops, comes}
use Rattle.ts_tell.proofs.SaidLemmas.{usage_said}
use Rattle.ts_tell.proofs.readings.container_usage.Goals as goal

pub returns-in_err-slot : goal.returns-in_err-slot
unfolding outcome carried_out container_usage
returns-in_err-slot c count free l held = stops _ c.in_err-slot.field-0.0 c.from_residual.ensures.1 (c.in_err-slot.ensures.tried count l (defined_by held))

pub returns : goal.returns
unfolding outcome carried_out container_usage
returns c count free l held =
    goes _ c.in_ok-slot.slot (c.in_ok-slot.ensures.tried count l (defined_by held)) (λ container there.
    comes tt _ (usage_said c.args.defs.now.definitions c.args.space.now count free l held c.args.out.now c.say_counts.new.out c.requires.empty c.in_ok-slot.slot c.args.name.now container c.of-charge.result c.quota_in.result there
    (c.of-charge.ensures.ok ∙ c.requires.charged c.in_ok-slot.slot c.in_ok-slot.ensures.found.within) c.quota_in.ensures c.in_ok-say_counts.ensures.ok))
