use Rattle.ts_model.specs.declared.kind.Kind.TheVariants.{Calendar}
use Rattle.ts_answer.proofs.CallerLemmas.{fails, tried_ok}
use Rattle.ts_define.proofs.PatternLemmas.{filled, its_plan}
use Rattle.ts_define.proofs.calendars.calendar_named.Goals as goal

pub calendar_at-requires-clause-filled : goal.calendar_at-requires-clause-filled
calendar_at-requires-clause-filled c = filled Calendar c.in_ok-slot.slot c.args.name.now c.args.defs.now.definitions c.in_ok-slot.ensures.found

pub returns-in_err-slot : goal.returns-in_err-slot
returns-in_err-slot c count l by =
    fails c.in_err-slot.field-0.0 c.from_residual.ensures.1 (c.in_err-slot.ensures.tried count l by)

pub returns : goal.returns
returns c count l by =
    let tried = (c.in_ok-slot.ensures.tried count l by).ok in
    tried_ok _ tried.0 tried.1 (its_plan c.args.defs.now.definitions l c.args.name.now c.in_ok-slot.slot tried.0 c.calendar_at.result.now by.definitions tried.2 c.calendar_at.ensures)
