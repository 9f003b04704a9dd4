use Rattle.ts_answer.specs.Answer.{join_patterns}
use Rattle.ts_answer.proofs.CallerLemmas.{answered, goes, stops}
use Rattle.ts_define.proofs.PatternLemmas.{found, patterns_join}
use Rattle.ts_define.proofs.patterns.joined_pattern.Goals as goal

pub returns-in_err-a-clause-decision : goal.returns-in_err-a-clause-decision
unfolding join_patterns
returns-in_err-a-clause-decision c count l by = patterns_join c.args.junction _ _ _ _ (stops _ c.in_err-a.field-0.0 c.from_residual.ensures.1 (c.in_err-a.ensures count l by))

pub returns-in_err-b-clause-decision : goal.returns-in_err-b-clause-decision
unfolding join_patterns
returns-in_err-b-clause-decision c count l by =
    patterns_join c.args.junction _ _ _ _ (found (λ x. x.now) _ c.in_ok-a.a (c.in_ok-a.ensures count l by) (stops _ c.in_err-b.field-0.0 c.from_residual-in_err-b.ensures.1 (c.in_err-b.ensures count l by)))

pub returns-in_err-slot-clause-decision : goal.returns-in_err-slot-clause-decision
unfolding join_patterns
returns-in_err-slot-clause-decision c count l by =
    patterns_join c.args.junction _ _ _ _ (found (λ x. x.now) _ c.in_ok-a.a (c.in_ok-a.ensures count l by) (found (λ x. x.now) _ c.in_ok-b.b (c.in_ok-b.ensures count l by)
    (stops _ c.in_err-slot.field-0.0 c.from_residual-in_err-slot.ensures.1 (c.in_err-slot.ensures.tried count l by))))

pub returns-in_err-joined-clause-decision : goal.returns-in_err-joined-clause-decision
unfolding join_patterns
returns-in_err-joined-clause-decision c count l by =
    patterns_join c.args.junction _ _ _ _ (found (λ x. x.now) _ c.in_ok-a.a (c.in_ok-a.ensures count l by) (found (λ x. x.now) _ c.in_ok-b.b (c.in_ok-b.ensures count l by)
    (goes _ c.in_ok-slot.slot (c.in_ok-slot.ensures.tried count l by) (λ new free. stops _ c.in_err-joined.field-0.0 c.from_residual-in_err-joined.ensures.1 (answered _ _ c.in_err-joined.ensures.answer)))))

pub returns-clause-decision : goal.returns-clause-decision
unfolding join_patterns
returns-clause-decision c count l by =
    patterns_join c.args.junction _ _ _ _ (found (λ x. x.now) _ c.in_ok-a.a (c.in_ok-a.ensures count l by) (found (λ x. x.now) _ c.in_ok-b.b (c.in_ok-b.ensures count l by)
    (goes _ c.in_ok-slot.slot (c.in_ok-slot.ensures.tried count l by) (λ new free. found (λ x. x) _ c.in_ok-joined.joined (answered _ _ c.in_ok-joined.ensures.answer) (c.pattern_in.ensures.made l by.rules by.filled free)))))
