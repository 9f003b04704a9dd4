use Rattle.std.proofs.Common.{◌∙◌, [], sym, arith}
use Rattle.std.proofs.lemmas.Result.{err_from_is_err_and}
use Rattle.ts_text.specs.Phrase.{repeated}
use Rattle.ts_arguments.specs.Arguments.{a_literal}
use Rattle.ts_arguments.proofs.FormLemmas.{literal_shrinks}
use Rattle.ts_text.proofs.CallerLemmas.{sign_shrinks, onto_more, onto_end, onto_nothing, list_refused}
use Rattle.ts_arguments.proofs.call.read_literals.Goals as goal

pub returns-in_err-value-clause-cause : goal.returns-in_err-value-clause-cause
returns-in_err-value-clause-cause c =
    let p = err_from_is_err_and c.from_residual.result c.from_residual.ensures.1 in
    rw (p.1, p.2) (list_refused a_literal literal_shrinks c.loop-behind.values [] c.args.bytes.now c.loop-behind.rest.now c.in-Some.behind.now c.in_err-value.field-0.0 c.loop-behind.invariant c.in-Some.ensures.some c.in_err-value.ensures.cause)

pub loop-behind-smaller : goal.loop-behind-smaller
loop-behind-smaller c =
    omega (arith, sign_shrinks 44 c.loop-behind.rest.now (tt, c.in-Some.behind.now) c.in-Some.ensures.some, literal_shrinks c.in-Some.behind.now (c.in_ok-value.value, c.in_ok-value.more.now) c.in_ok-value.ensures.ok)

pub loop-behind-preserved : goal.loop-behind-preserved
loop-behind-preserved c =
    rw c.in_ok-push.ensures.ok (sym (onto_more a_literal literal_shrinks c.loop-behind.values c.loop-behind.rest.now c.in-Some.behind.now c.in_ok-value.more.now c.in_ok-value.value c.in-Some.ensures.some c.in_ok-value.ensures.ok) ∙ c.loop-behind.invariant)

pub returns-clause-ok : goal.returns-clause-ok
returns-clause-ok c = onto_nothing (repeated a_literal c.args.bytes.now) (c.loop-behind.values, c.loop-behind.rest.now) (sym c.loop-behind.invariant ∙ onto_end a_literal c.loop-behind.values c.loop-behind.rest.now _ c.in_default.ensures.none)
