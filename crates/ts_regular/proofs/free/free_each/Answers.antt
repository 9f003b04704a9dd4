use Rattle.std.proofs.Common.{arith}
use Rattle.ts_regular.proofs.FreeLemmas.{next_used, one_more}
use Rattle.ts_regular.proofs.free.free_each.Goals as goal

pub free-requires-clause-used : goal.free-requires-clause-used
free-requires-clause-used g c =
    next_used g.P.Pages.tells c.args.numbers.now (g.P.Pages.contents c.args.pages.now) c.requires.each c.requires.different c.loop-number.number-index 0 (omega arith) (g.P.Pages.contents c.loop-number.pages) c.loop-number.invariant.freed

pub loop-number-preserved : goal.loop-number-preserved
loop-number-preserved g c = record {
  freed = one_more g.P.Pages.tells c.args.numbers.now (g.P.Pages.contents c.args.pages.now) c.requires.each c.requires.different c.loop-number.number-index 0 (omega arith) (g.P.Pages.contents c.loop-number.pages) c.loop-number.invariant.freed
      (g.P.Pages.contents c.free.new.self) c.in_ok-free.ensures.freed;
  undisturbed = g.met.P.Pages.«then» c.args.pages.now c.loop-number.pages c.free.new.self c.loop-number.invariant.undisturbed c.in_ok-free.ensures.undisturbed;
}
