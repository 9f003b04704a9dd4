use Rattle.std.proofs.Common.{refl}
use Rattle.ts_model.specs.declared.kind.Kind.TheVariants.{RowType, Container}
use Rattle.ts_answer.specs.Answer.{outcome, carried_out}
use Rattle.ts_engine.proofs.DecidedLemmas.{decided_case}
use Rattle.ts_engine.proofs.routines.decide.Goals as goal

pub returns-in-Some : goal.returns-in-Some
returns-in-Some c = c.in-Some.ensures.decided c.args.pages

pub returns-in-Some-decide_calendar : goal.returns-in-Some-decide_calendar
returns-in-Some-decide_calendar c = c.in-Some-decide_calendar.ensures.decided c.args.pages

pub returns-in-DropRowType : goal.returns-in-DropRowType
unfolding outcome carried_out
returns-in-DropRowType c =
    let made = c.drop_definition in
    decided_case RowType c.args.command.now _ made.result made.result c.args.defs.now.definitions c.args.pages c.in-DropRowType.is refl refl made.ensures.fits (λ count size. made.ensures.tried count)

pub returns-in-TSContainerDestroy : goal.returns-in-TSContainerDestroy
unfolding outcome carried_out
returns-in-TSContainerDestroy c =
    let made = c.drop_definition-in-TSContainerDestroy in
    decided_case Container c.args.command.now _ made.result made.result c.args.defs.now.definitions c.args.pages c.in-TSContainerDestroy.is refl refl made.ensures.fits (λ count size. made.ensures.tried count)
