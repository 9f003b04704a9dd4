use Rattle.std.proofs.Common.{refl}
use Rattle.ts_model.specs.declared.kind.Kind.TheVariants.{Pattern}
use Rattle.ts_answer.specs.Answer.{outcome, carried_out}
use Rattle.ts_engine.proofs.DecidedLemmas.{decided_case}
use Rattle.ts_engine.proofs.routines.decide_pattern.Goals as goal
use Rattle.ts_engine.proofs.routines.decide_pattern.Goals.{in-CreatePattern, in-NotOp, in-AndPatterns, in-OrPatterns, in-DropPattern}

pub returns-clause-decided : goal.returns-clause-decided
unfolding outcome carried_out
returns-clause-decided c pages =
    let command = c.args.command.now in
    let decided = c.match-command.decided in
    let d = c.args.defs.now.definitions in
    elim c.match-command.branch [
      | in-CreatePattern w ↦ decided_case Pattern command _ decided w.new_pattern-decided.result d pages w.in-CreatePattern.is w.decided-is refl w.new_pattern-decided.ensures.fits (λ count size. w.new_pattern-decided.ensures.decision count)
      | in-NotOp w ↦ decided_case Pattern command _ decided w.turned_pattern-decided.result d pages w.in-NotOp.is w.decided-is refl w.turned_pattern-decided.ensures.fits (λ count size. w.turned_pattern-decided.ensures.decision count)
      | in-AndPatterns w ↦ decided_case Pattern command _ decided w.joined_pattern-decided.result d pages w.in-AndPatterns.is w.decided-is refl w.joined_pattern-decided.ensures.fits (λ count size. w.joined_pattern-decided.ensures.decision count)
      | in-OrPatterns w ↦ decided_case Pattern command _ decided w.joined_pattern-decided-in-OrPatterns.result d pages w.in-OrPatterns.is w.decided-is refl w.joined_pattern-decided-in-OrPatterns.ensures.fits (λ count size. w.joined_pattern-decided-in-OrPatterns.ensures.decision count)
      | in-DropPattern w ↦ decided_case Pattern command _ decided w.drop_definition-decided.result d pages w.in-DropPattern.is w.decided-is refl w.drop_definition-decided.ensures.fits (λ count size. w.drop_definition-decided.ensures.tried count)
    ]
