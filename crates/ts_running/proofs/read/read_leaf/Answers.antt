use Rattle.std.proofs.lemmas.Result.{err_from_is_err_and}
use Rattle.ts_running.proofs.GrammarLemmas.{column_read, column_refused, digits_read, digits_refused}
use Rattle.ts_running.proofs.read.read_leaf.Goals as goal

pub returns-in_err-name-clause-cause : goal.returns-in_err-name-clause-cause
returns-in_err-name-clause-cause c =
    let p = err_from_is_err_and c.from_residual.result c.from_residual.ensures.1 in
    rw (p.1, p.2) (column_refused c.args.text.now c.in-Some.behind.now c.in_err-name.field-0.0 c.in-Some.ensures.some c.in_err-name.ensures.cause)

pub returns-in-Some-clause-ok : goal.returns-in-Some-clause-ok
returns-in-Some-clause-ok c =
    column_read c.args.text.now c.in-Some.behind.now c.in_ok-name.rest.now c.in_ok-name.name c.args.steps.now.items c.push.new.self.items c.in-Some.ensures.some c.in_ok-name.ensures.ok c.in_ok-push.ensures.items

pub returns-in_err-number-clause-cause : goal.returns-in_err-number-clause-cause
returns-in_err-number-clause-cause c =
    let p = err_from_is_err_and c.from_residual-in_err-number.result c.from_residual-in_err-number.ensures.1 in
    rw (p.1, p.2) (digits_refused c.args.text.now _ c.in_err-number.field-0.0 c.in_default.ensures.none c.in_err-number.ensures.cause)

pub returns-clause-ok : goal.returns-clause-ok
returns-clause-ok c =
    digits_read c.args.text.now c.in_ok-number.rest.now _ c.in_ok-number.number c.args.steps.now.items c.push-2.new.self.items c.in_default.ensures.none c.in_ok-number.ensures.ok c.in_ok-push-2.ensures.items
