use Rattle.std.proofs.Common.{◌+◌, ◌++◌, Bool, drop, ap, subst, ◌∙◌, arith, length-append}
use Rattle.ts_cells.proofs.HeadLemmas.{irregular_behind}
use Rattle.ts_chain.proofs.ChangeLemmas.{if_ok}
use Rattle.ts_series.specs.Ends.{CanBegin, HasElements}
use Rattle.ts_series.proofs.LayLemmas.{order_front, order_back}
use Rattle.ts_series.proofs.lay.lay.Goals as goal

pub returns-then-apart-clause-told : goal.returns-then-apart-clause-told
returns-then-apart-clause-told g c =
    if_ok _ _ c.lay_apart.result
    (λ come told. λ tells number xs ys has1 has2 order can. told tells number xs ys has1 has2 order (subst (λ (b : Bool). CanBegin b c.args.gone.now c.args.back.now xs ys) c.if-apart.true can)) c.lay_apart.ensures.told

pub returns-clause-told : goal.returns-clause-told
returns-clause-told g c =
    let slot = c.args.shelf.now.series in
    let columns = c.args.shelf.now.kind.now.columns in
    if_ok _ _ c.lay_together.result
    (λ come told. λ tells number xs ys has1 has2 order can.
    let both : HasElements slot columns (xs ++ ys) (c.args.left.front + c.args.left.back) c.append_page.new.page.bytes = record {
      number = omega (arith, length-append xs ys, has1.number, has2.number);
      bytes = c.append_page.ensures xs ys (order_front columns xs ys order).each (order_back columns xs ys order).each has1.number has2.number (ap (drop 32) has1.bytes ∙ irregular_behind slot columns xs) (ap (drop 32) has2.bytes ∙ irregular_behind slot columns ys);
    } in
    told tells number xs ys both order (subst (λ (b : Bool). CanBegin b c.args.gone.now c.args.back.now xs ys) c.if-apart.false can)) c.lay_together.ensures.told
