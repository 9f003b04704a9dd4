use Rattle.std.proofs.Common.{refl}
use Rattle.ts_model.specs.declared.kind.Kind.TheVariants.{Calendar}
use Rattle.ts_answer.specs.Answer.{outcome, carried_out}
use Rattle.ts_engine.proofs.DecidedLemmas.{decided_case}
use Rattle.ts_engine.proofs.routines.decide_calendar.Goals as goal
use Rattle.ts_engine.proofs.routines.decide_calendar.Goals.{in-CreateCalendar, in-AndCalendars, in-OrCalendars, in-DropCalendar}

pub returns-clause-decided : goal.returns-clause-decided
unfolding outcome carried_out
returns-clause-decided c pages =
    let command = c.args.command.now in
    let decided = c.match-command.decided in
    let d = c.args.defs.now.definitions in
    elim c.match-command.branch [
      | in-CreateCalendar w ↦ decided_case Calendar command _ decided w.new_calendar-decided.result d pages w.in-CreateCalendar.is w.decided-is refl w.new_calendar-decided.ensures.fits (λ count size. w.new_calendar-decided.ensures.decision count)
      | in-AndCalendars w ↦ decided_case Calendar command _ decided w.joined_calendar-decided.result d pages w.in-AndCalendars.is w.decided-is refl w.joined_calendar-decided.ensures.fits (λ count size. w.joined_calendar-decided.ensures.decision count)
      | in-OrCalendars w ↦ decided_case Calendar command _ decided w.joined_calendar-decided-in-OrCalendars.result d pages w.in-OrCalendars.is w.decided-is refl w.joined_calendar-decided-in-OrCalendars.ensures.fits (λ count size. w.joined_calendar-decided-in-OrCalendars.ensures.decision count)
      | in-DropCalendar w ↦ decided_case Calendar command _ decided w.drop_definition-decided.result d pages w.in-DropCalendar.is w.decided-is refl w.drop_definition-decided.ensures.fits (λ count size. w.drop_definition-decided.ensures.tried count)
    ]
