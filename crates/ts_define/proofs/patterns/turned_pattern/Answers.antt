use Rattle.std.proofs.Common.{subst}
use Rattle.ts_pattern.specs.Patterns.{Plan}
use Rattle.ts_model.specs.declared.kind.Kind.TheVariants.{Pattern}
use Rattle.ts_answer.specs.Answer.{outcome, carried_out, turn_pattern}
use Rattle.ts_answer.proofs.CallerLemmas.{goes, stops, no_memory}
use Rattle.ts_define.specs.Patterns.{IsMade}
use Rattle.ts_define.proofs.PatternLemmas.{found}
use Rattle.ts_define.proofs.patterns.turned_pattern.Goals as goal

pub returns-in_err-old-clause-decision : goal.returns-in_err-old-clause-decision
unfolding outcome carried_out turn_pattern
returns-in_err-old-clause-decision c count l by = stops _ c.in_err-old.field-0.0 c.from_residual.ensures.1 (c.in_err-old.ensures count l by)

pub returns-in_err-slot-clause-decision : goal.returns-in_err-slot-clause-decision
unfolding outcome carried_out turn_pattern
returns-in_err-slot-clause-decision c count l by =
    found (λ x. x.now) _ c.in_ok-old.old (c.in_ok-old.ensures count l by) (stops _ c.in_err-slot.field-0.0 c.from_residual-in_err-slot.ensures.1 (c.in_err-slot.ensures.tried count l by))

pub returns-in_err-turned-clause-decision : goal.returns-in_err-turned-clause-decision
returns-in_err-turned-clause-decision c count l by = no_memory c.in_err-turned.field-0.0 c.from_residual-in_err-turned.ensures.1

pub returns-clause-decision : goal.returns-clause-decision
unfolding outcome carried_out turn_pattern
returns-clause-decision c count l by =
    found (λ x. x.now) _ c.in_ok-old.old (c.in_ok-old.ensures count l by)
    (goes _ c.in_ok-slot.slot (c.in_ok-slot.ensures.tried count l by) (λ new free.
    subst (λ (p : Plan). IsMade Pattern c.args.name.now p l c.pattern_in.result) c.in_ok-turned.ensures.ok (c.pattern_in.ensures.made l by.rules by.filled free)))
