use Rattle.std.proofs.Common.{subst}
use Rattle.std.proofs.lemmas.Result.{err_from_is_err_and}
use Rattle.ts_running.specs.Grammar.{expr_in}
use Rattle.ts_running.specs.Reading.{NamedSteps, Reads}
use Rattle.ts_running.proofs.GrammarLemmas.{list_read, first_refused, others_refused, end_refused}
use Rattle.ts_running.proofs.read.written_steps.Goals as goal

pub returns-in_err-rest-clause-cause : goal.returns-in_err-rest-clause-cause
returns-in_err-rest-clause-cause c =
    let p = err_from_is_err_and c.from_residual.result c.from_residual.ensures.1 in
    rw (p.1, p.2) (first_refused c.args.text.now c.in_err-rest.field-0.0 c.in_err-rest.ensures.cause)

pub returns-in_err-rest-2-clause-cause : goal.returns-in_err-rest-2-clause-cause
returns-in_err-rest-2-clause-cause c =
    let p = err_from_is_err_and c.from_residual-in_err-rest-2.result c.from_residual-in_err-rest-2.ensures.1 in
    let first = subst (λ (l : NamedSteps). Reads expr_in c.args.text.now l c.read_expr.new.steps.items c.in_ok-rest.rest.now) c.new-steps.ensures.items c.in_ok-rest.ensures.ok in
    rw (p.1, p.2) (others_refused c.args.text.now c.in_ok-rest.rest.now c.read_expr.new.steps.items c.in_err-rest-2.field-0.0 first c.in_err-rest-2.ensures.cause)

pub returns-in_err-read_end-clause-cause : goal.returns-in_err-read_end-clause-cause
returns-in_err-read_end-clause-cause c =
    let p = err_from_is_err_and c.from_residual-in_err-read_end.result c.from_residual-in_err-read_end.ensures.1 in
    let first = subst (λ (l : NamedSteps). Reads expr_in c.args.text.now l c.read_expr.new.steps.items c.in_ok-rest.rest.now) c.new-steps.ensures.items c.in_ok-rest.ensures.ok in
    rw (p.1, p.2) (end_refused c.args.text.now c.in_ok-rest.rest.now c.in_ok-rest-2.rest.now c.read_expr.new.steps.items c.read_more.new.steps.items c.in_err-read_end.field-0.0
    first c.in_ok-rest-2.ensures.ok c.in_err-read_end.ensures.cause)

pub returns-clause-ok : goal.returns-clause-ok
returns-clause-ok c =
    let first = subst (λ (l : NamedSteps). Reads expr_in c.args.text.now l c.read_expr.new.steps.items c.in_ok-rest.rest.now) c.new-steps.ensures.items c.in_ok-rest.ensures.ok in
    list_read c.args.text.now c.in_ok-rest.rest.now c.in_ok-rest-2.rest.now c.read_expr.new.steps.items c.read_more.new.steps.items first c.in_ok-rest-2.ensures.ok c.in_ok-read_end.ensures.ok
