use Rattle.std.proofs.Common.{◌+◌, ◌-◌, arith}
use Rattle.std.proofs.lemmas.Result.{err_from_is_err_and}
use Rattle.ts_running.proofs.GrammarLemmas.{more_begins, more_goes, more_refused, more_ends, more_full}
use Rattle.ts_running.proofs.read.read_more.Goals as goal

pub loop-init : goal.loop-init
loop-init c = more_begins 31 c.args.text.now c.args.steps.now.items

pub returns-in_default-clause-ok : goal.returns-in_default-clause-ok
returns-in_default-clause-ok c =
    let n = 32 - (c.loop.counter + 1) in
    more_ends 31 (32 - c.loop.counter) n c.args.text.now c.loop.rest.now c.args.steps.now.items c.loop.steps.items _ (omega (arith, c.loop-test.true)) c.loop.invariant c.in_default.ensures.none

pub returns-in_err-rest-clause-cause : goal.returns-in_err-rest-clause-cause
returns-in_err-rest-clause-cause c =
    let p = err_from_is_err_and c.from_residual.result c.from_residual.ensures.1 in
    let n = 32 - (c.loop.counter + 1) in
    rw (p.1, p.2) (more_refused 31 (32 - c.loop.counter) n c.args.text.now c.loop.rest.now c.in-Some.behind.now c.args.steps.now.items c.loop.steps.items c.in_err-rest.field-0.0
    (omega (arith, c.loop-test.true)) c.loop.invariant c.in-Some.ensures.some c.in_err-rest.ensures.cause)

pub loop-preserved : goal.loop-preserved
loop-preserved c =
    let n = 32 - (c.loop.counter + 1) in
    more_goes 31 (32 - c.loop.counter) n c.args.text.now c.loop.rest.now c.in-Some.behind.now c.in_ok-rest.rest.now c.args.steps.now.items c.loop.steps.items c.read_expr.new.steps.items
    (omega (arith, c.loop-test.true)) c.loop.invariant c.in-Some.ensures.some c.in_ok-rest.ensures.ok

pub returns-clause-ok : goal.returns-clause-ok
returns-clause-ok c =
    more_full 31 (32 - c.loop.counter) c.args.text.now c.loop.rest.now c.args.steps.now.items c.loop.steps.items (omega (arith, c.loop-test.false)) c.loop.invariant
