use Rattle.std.proofs.Common.{◌+◌, sym, subst, arith}
use Rattle.ts_container.proofs.ThinLemmas.{ThinTo, thin_step, thin_all}
use Rattle.ts_container.proofs.sorted.sparse.Goals as goal

pub loop-i-preserved : goal.loop-i-preserved
loop-i-preserved c =
    subst (ThinTo c.args.defs.now.definitions c.args.spans.now (c.loop-i.i + 1)) (sym c.lower-least.ensures.page)
    (thin_step c.args.defs.now.definitions c.args.spans.now c.loop-i.i c.loop-i.auto.i c.loop-i-test.true _ c.loop-i.least c.sparse_page.result c.sparse_page.ensures c.loop-i.invariant)

pub returns : goal.returns
returns c = thin_all c.args.defs.now.definitions c.args.spans.now c.loop-i.i c.loop-i.least (omega (arith, c.loop-i-test.false)) c.loop-i.invariant
