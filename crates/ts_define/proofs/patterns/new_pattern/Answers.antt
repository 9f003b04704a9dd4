use Rattle.ts_pattern.specs.Patterns.{read_plan}
use Rattle.ts_answer.specs.Answer.{outcome, carried_out, create_pattern}
use Rattle.ts_answer.proofs.CallerLemmas.{goes, stops}
use Rattle.ts_define.proofs.PatternLemmas.{found, read_of}
use Rattle.ts_define.proofs.patterns.new_pattern.Goals as goal

pub returns-in_err-pattern-clause-decision : goal.returns-in_err-pattern-clause-decision
unfolding outcome carried_out create_pattern
returns-in_err-pattern-clause-decision c count l by = stops _ c.in_err-pattern.field-0.0 c.from_residual.ensures.1 (read_of read_plan _ _ _ c.as_slice.ensures c.in_err-pattern.ensures)

pub returns-in_err-slot-clause-decision : goal.returns-in_err-slot-clause-decision
unfolding outcome carried_out create_pattern
returns-in_err-slot-clause-decision c count l by =
    found (λ x. x) _ c.in_ok-pattern.pattern (read_of read_plan _ _ _ c.as_slice.ensures c.in_ok-pattern.ensures)
    (stops _ c.in_err-slot.field-0.0 c.from_residual-in_err-slot.ensures.1 (c.in_err-slot.ensures.tried count l by))

pub returns-clause-decision : goal.returns-clause-decision
unfolding outcome carried_out create_pattern
returns-clause-decision c count l by =
    found (λ x. x) _ c.in_ok-pattern.pattern (read_of read_plan _ _ _ c.as_slice.ensures c.in_ok-pattern.ensures)
    (goes _ c.in_ok-slot.slot (c.in_ok-slot.ensures.tried count l by) (λ new free. c.pattern_in.ensures.made l by.rules by.filled free))
