use Rattle.std.proofs.Common.{◌≡◌, ◌-◌, arith}
use Rattle.std.proofs.lemmas.Result.{err_from_is_err_and, IfOk-weaker, IfErr-weaker}
use Rattle.ts_text.specs.Misfit.{Refuses}
use Rattle.ts_running.specs.Grammar.{leaf_in, factor_in, times_signs, sum_signs, term_of, sum_of}
use Rattle.ts_running.specs.Reading.{Reads}
use Rattle.ts_running.proofs.GrammarLemmas.{factor_last, factor_leaf, minus_read, minus_refused, bracket_read, inside_refused, close_refused, reads_same, refused_same, factor_shrinks, term_shrinks, term_begins, term_refused, sum_begins, sum_refused, goes, goes_refused, stays}
use Rattle.ts_running.proofs.read.+factor.Goals as goal

pub read_factor-returns-then-inside-eq0-clause-ok : goal.read_factor-returns-then-inside-eq0-clause-ok
read_factor-returns-then-inside-eq0-clause-ok t c =
    IfOk-weaker c.read_leaf.result (λ rest. Reads leaf_in c.args.text.now c.args.steps.now.items c.read_leaf.new.steps.items rest.now)
    (λ rest. Reads (factor_in c.args.inside) c.args.text.now c.args.steps.now.items c.read_leaf.new.steps.items rest.now)
    (λ rest r. reads_same leaf_in (factor_in c.args.inside) c.args.text.now c.args.steps.now.items c.read_leaf.new.steps.items rest.now (factor_last c.args.inside c.args.text.now c.if-inside-eq0.true) r)
    c.read_leaf.ensures.ok

pub read_factor-returns-then-inside-eq0-clause-cause : goal.read_factor-returns-then-inside-eq0-clause-cause
read_factor-returns-then-inside-eq0-clause-cause t c =
    IfErr-weaker c.read_leaf.result (λ misfit. Refuses misfit (leaf_in c.args.text.now)) (λ misfit. Refuses misfit (factor_in c.args.inside c.args.text.now))
    (λ misfit r. refused_same leaf_in (factor_in c.args.inside) c.args.text.now misfit (factor_last c.args.inside c.args.text.now c.if-inside-eq0.true) r)
    c.read_leaf.ensures.cause

pub read_factor-returns-in_err-rest-clause-cause : goal.read_factor-returns-in_err-rest-clause-cause
read_factor-returns-in_err-rest-clause-cause t c =
    let p = err_from_is_err_and c.from_residual.result c.from_residual.ensures.1 in
    let n = c.args.inside - 1 in
    rw (p.1, p.2) (minus_refused c.args.inside n c.args.text.now c.in-Some.behind.now c.in_err-rest.field-0.0 (omega (arith, c.if-inside-eq0.false)) c.in-Some.ensures.some c.in_err-rest.ensures.cause)

pub read_factor-returns-in-Some-clause-ok : goal.read_factor-returns-in-Some-clause-ok
read_factor-returns-in-Some-clause-ok t c =
    let n = c.args.inside - 1 in
    minus_read c.args.inside n c.args.text.now c.in-Some.behind.now c.in_ok-rest.rest.now c.args.steps.now.items c.read_factor.new.steps.items c.push.new.self.items
    (omega (arith, c.if-inside-eq0.false)) c.in-Some.ensures.some c.in_ok-rest.ensures.ok c.in_ok-push.ensures.items

pub read_factor-returns-in_err-rest-2-clause-cause : goal.read_factor-returns-in_err-rest-2-clause-cause
read_factor-returns-in_err-rest-2-clause-cause t c =
    let p = err_from_is_err_and c.from_residual-in_err-rest-2.result c.from_residual-in_err-rest-2.ensures.1 in
    let n = c.args.inside - 1 in
    rw (p.1, p.2) (inside_refused c.args.inside n c.args.text.now c.in-Some-behind_sign.behind.now _ c.in_err-rest-2.field-0.0 (omega (arith, c.if-inside-eq0.false))
    c.in_default.ensures.none c.in-Some-behind_sign.ensures.some c.in_err-rest-2.ensures.cause)

pub read_factor-returns-in_err-rest-3-clause-cause : goal.read_factor-returns-in_err-rest-3-clause-cause
read_factor-returns-in_err-rest-3-clause-cause t c =
    let p = err_from_is_err_and c.from_residual-in_err-rest-3.result c.from_residual-in_err-rest-3.ensures.1 in
    let n = c.args.inside - 1 in
    rw (p.1, p.2) (close_refused c.args.inside n c.args.text.now c.in-Some-behind_sign.behind.now c.in_ok-rest-2.rest.now _ c.in_err-rest-3.field-0.0 c.args.steps.now.items c.read_sum.new.steps.items
    (omega (arith, c.if-inside-eq0.false)) c.in_default.ensures.none c.in-Some-behind_sign.ensures.some c.in_ok-rest-2.ensures.ok c.in_err-rest-3.ensures.cause)

pub read_factor-returns-in-Some-behind_sign-clause-ok : goal.read_factor-returns-in-Some-behind_sign-clause-ok
read_factor-returns-in-Some-behind_sign-clause-ok t c =
    let n = c.args.inside - 1 in
    bracket_read c.args.inside n c.args.text.now c.in-Some-behind_sign.behind.now c.in_ok-rest-2.rest.now c.in_ok-rest-3.rest.now _ c.args.steps.now.items c.read_sum.new.steps.items
    (omega (arith, c.if-inside-eq0.false)) c.in_default.ensures.none c.in-Some-behind_sign.ensures.some c.in_ok-rest-2.ensures.ok c.in_ok-rest-3.ensures.ok

pub read_factor-returns-clause-ok : goal.read_factor-returns-clause-ok
read_factor-returns-clause-ok t c =
    let n = c.args.inside - 1 in
    let same : factor_in c.args.inside c.args.text.now ≡ leaf_in c.args.text.now =
    factor_leaf c.args.inside n c.args.text.now _ _ (omega (arith, c.if-inside-eq0.false)) c.in_default.ensures.none c.in_default-behind_sign.ensures.none in
    IfOk-weaker c.read_leaf-2.result (λ rest. Reads leaf_in c.args.text.now c.args.steps.now.items c.read_leaf-2.new.steps.items rest.now)
    (λ rest. Reads (factor_in c.args.inside) c.args.text.now c.args.steps.now.items c.read_leaf-2.new.steps.items rest.now)
    (λ rest r. reads_same leaf_in (factor_in c.args.inside) c.args.text.now c.args.steps.now.items c.read_leaf-2.new.steps.items rest.now same r)
    c.read_leaf-2.ensures.ok

pub read_factor-returns-clause-cause : goal.read_factor-returns-clause-cause
read_factor-returns-clause-cause t c =
    let n = c.args.inside - 1 in
    let same : factor_in c.args.inside c.args.text.now ≡ leaf_in c.args.text.now =
    factor_leaf c.args.inside n c.args.text.now _ _ (omega (arith, c.if-inside-eq0.false)) c.in_default.ensures.none c.in_default-behind_sign.ensures.none in
    IfErr-weaker c.read_leaf-2.result (λ misfit. Refuses misfit (leaf_in c.args.text.now)) (λ misfit. Refuses misfit (factor_in c.args.inside c.args.text.now))
    (λ misfit r. refused_same leaf_in (factor_in c.args.inside) c.args.text.now misfit same r)
    c.read_leaf-2.ensures.cause

pub read_term-returns-in_err-rest-clause-cause : goal.read_term-returns-in_err-rest-clause-cause
read_term-returns-in_err-rest-clause-cause t c =
    let p = err_from_is_err_and c.from_residual.result c.from_residual.ensures.1 in
    rw (p.1, p.2) (term_refused (factor_in c.args.inside) (factor_shrinks c.args.inside) c.args.text.now c.in_err-rest.field-0.0 c.in_err-rest.ensures.cause)

pub read_term-loop-operation-init : goal.read_term-loop-operation-init
read_term-loop-operation-init t c = record {
  so_far = term_begins (factor_in c.args.inside) (factor_shrinks c.args.inside) c.args.text.now c.in_ok-rest.rest.now c.args.steps.now.items c.read_factor.new.steps.items c.in_ok-rest.ensures.ok;
  shorter = c.in_ok-rest.ensures.shorter;
}

pub read_term-returns-in_err-rest-2-clause-cause : goal.read_term-returns-in_err-rest-2-clause-cause
read_term-returns-in_err-rest-2-clause-cause t c =
    let p = err_from_is_err_and c.from_residual-in_err-rest-2.result c.from_residual-in_err-rest-2.ensures.1 in
    rw (p.1, p.2) (goes_refused times_signs (factor_in c.args.inside) (factor_shrinks c.args.inside) (term_of (factor_in c.args.inside)) c.args.text.now c.loop-operation.rest.now
    (c.in-Some.operation, c.in-Some.behind.now) c.args.steps.now.items c.loop-operation.steps.items c.in_err-rest-2.field-0.0 c.loop-operation.invariant.so_far c.in-Some.ensures.some c.in_err-rest-2.ensures.cause)

pub read_term-loop-operation-preserved : goal.read_term-loop-operation-preserved
read_term-loop-operation-preserved t c = record {
  so_far = goes times_signs (factor_in c.args.inside) (factor_shrinks c.args.inside) (term_of (factor_in c.args.inside)) c.args.text.now c.loop-operation.rest.now c.in_ok-rest-2.rest.now
      (c.in-Some.operation, c.in-Some.behind.now) c.args.steps.now.items c.loop-operation.steps.items c.read_factor-in-Some.new.steps.items c.push.new.self.items
      c.loop-operation.invariant.so_far c.in-Some.ensures.some c.in_ok-rest-2.ensures.ok c.in_ok-push.ensures.items;
  shorter = omega (arith, c.loop-operation.invariant.shorter, c.in-Some.ensures.shorter, c.in_ok-rest-2.ensures.shorter);
}

pub read_term-returns-clause-ok : goal.read_term-returns-clause-ok
read_term-returns-clause-ok t c =
    stays times_signs (factor_in c.args.inside) (factor_shrinks c.args.inside) (term_of (factor_in c.args.inside)) c.args.text.now c.loop-operation.rest.now c.args.steps.now.items c.loop-operation.steps.items
    c.loop-operation.invariant.so_far c.in_default.ensures.none

pub read_sum-returns-in_err-rest-clause-cause : goal.read_sum-returns-in_err-rest-clause-cause
read_sum-returns-in_err-rest-clause-cause t c =
    let p = err_from_is_err_and c.from_residual.result c.from_residual.ensures.1 in
    rw (p.1, p.2) (sum_refused (factor_in c.args.inside) (factor_shrinks c.args.inside) c.args.text.now c.in_err-rest.field-0.0 c.in_err-rest.ensures.cause)

pub read_sum-loop-operation-init : goal.read_sum-loop-operation-init
read_sum-loop-operation-init t c = record {
  so_far = sum_begins (factor_in c.args.inside) (factor_shrinks c.args.inside) c.args.text.now c.in_ok-rest.rest.now c.args.steps.now.items c.read_term.new.steps.items c.in_ok-rest.ensures.ok;
  shorter = c.in_ok-rest.ensures.shorter;
}

pub read_sum-returns-in_err-rest-2-clause-cause : goal.read_sum-returns-in_err-rest-2-clause-cause
read_sum-returns-in_err-rest-2-clause-cause t c =
    let p = err_from_is_err_and c.from_residual-in_err-rest-2.result c.from_residual-in_err-rest-2.ensures.1 in
    rw (p.1, p.2) (goes_refused sum_signs (term_of (factor_in c.args.inside)) (term_shrinks (factor_in c.args.inside) (factor_shrinks c.args.inside)) (sum_of (factor_in c.args.inside)) c.args.text.now c.loop-operation.rest.now
    (c.in-Some.operation, c.in-Some.behind.now) c.args.steps.now.items c.loop-operation.steps.items c.in_err-rest-2.field-0.0 c.loop-operation.invariant.so_far c.in-Some.ensures.some c.in_err-rest-2.ensures.cause)

pub read_sum-loop-operation-preserved : goal.read_sum-loop-operation-preserved
read_sum-loop-operation-preserved t c = record {
  so_far = goes sum_signs (term_of (factor_in c.args.inside)) (term_shrinks (factor_in c.args.inside) (factor_shrinks c.args.inside)) (sum_of (factor_in c.args.inside)) c.args.text.now c.loop-operation.rest.now c.in_ok-rest-2.rest.now
      (c.in-Some.operation, c.in-Some.behind.now) c.args.steps.now.items c.loop-operation.steps.items c.read_term-in-Some.new.steps.items c.push.new.self.items
      c.loop-operation.invariant.so_far c.in-Some.ensures.some c.in_ok-rest-2.ensures.ok c.in_ok-push.ensures.items;
  shorter = omega (arith, c.loop-operation.invariant.shorter, c.in-Some.ensures.shorter, c.in_ok-rest-2.ensures.shorter);
}

pub read_sum-returns-clause-ok : goal.read_sum-returns-clause-ok
read_sum-returns-clause-ok t c =
    stays sum_signs (term_of (factor_in c.args.inside)) (term_shrinks (factor_in c.args.inside) (factor_shrinks c.args.inside)) (sum_of (factor_in c.args.inside)) c.args.text.now c.loop-operation.rest.now c.args.steps.now.items c.loop-operation.steps.items
    c.loop-operation.invariant.so_far c.in_default.ensures.none
