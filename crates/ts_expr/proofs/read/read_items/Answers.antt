use Rattle.std.proofs.Common.{◌+◌, ◌-◌, ◌∷◌, [], ◌∙◌, sym, refl, ap, arith, length, length-append, List}
use Rattle.std.proofs.lemmas.Result.{err_from_is_err_and}
use Rattle.ts_text.specs.Phrase.{onto}
use Rattle.ts_expr.specs.declared.item.Item.{Item}
use Rattle.ts_expr.specs.Aggregates.{further}
use Rattle.ts_expr.proofs.GrammarLemmas.{further_more, further_end, further_full, further_refused}
use Rattle.ts_expr.proofs.read.read_items.Goals as goal

pub loop-init : goal.loop-init
loop-init c = record { same = refl; count = c.requires }

pub returns-in_default-clause-ok : goal.returns-in_default-clause-ok
returns-in_default-clause-ok c =
    let n = 32 - (c.loop.counter + 1) in
    sym c.loop.invariant.same ∙ further_end (32 - c.loop.counter) n (omega (arith, c.loop-test.true)) c.loop.items.items c.loop.rest.now _ c.in_default.ensures.none

pub returns-in_err-item-clause-cause : goal.returns-in_err-item-clause-cause
returns-in_err-item-clause-cause c =
    let p = err_from_is_err_and c.from_residual.result c.from_residual.ensures.1 in
    let n = 32 - (c.loop.counter + 1) in
    rw (p.1, p.2) (further_refused (32 - c.loop.counter) n (omega (arith, c.loop-test.true)) c.loop.items.items c.args.items.now.items (further 31 c.args.text.now) c.loop.rest.now c.in-Some.behind.now c.in_err-item.field-0.0 c.loop.invariant.same c.in-Some.ensures.some c.in_err-item.ensures.cause)

pub loop-preserved : goal.loop-preserved
loop-preserved c =
    let items = c.in_ok-push.ensures.items in
    let n = 32 - (c.loop.counter + 1) in
    record {
      same = ap (λ (l : List Item). onto l (further n c.in_ok-item.more.now)) items
          ∙ sym (further_more (32 - c.loop.counter) n (omega (arith, c.loop-test.true)) c.loop.items.items c.loop.rest.now c.in-Some.behind.now c.in_ok-item.more.now c.in_ok-item.item c.in-Some.ensures.some c.in_ok-item.ensures.ok)
          ∙ c.loop.invariant.same;
      count = ap length items ∙ omega (arith, length-append c.loop.items.items (c.in_ok-item.item ∷ []), c.loop.invariant.count);
    }

pub returns-clause-ok : goal.returns-clause-ok
returns-clause-ok c = sym c.loop.invariant.same ∙ further_full (32 - c.loop.counter) (omega (arith, c.loop-test.false)) c.loop.items.items c.loop.rest.now
