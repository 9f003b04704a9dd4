use Rattle.ts_regular.specs.Cut.{AreFreedTo}
use Rattle.ts_regular.proofs.free.free_each.Given as goal

abbrev pub invariant-loop-number : goal.invariant-loop-number
invariant-loop-number g l = record {
  freed : AreFreedTo g.P.Pages.tells l.numbers l.number-index (g.P.Pages.contents l.fn.pages) (g.P.Pages.contents l.pages);
  undisturbed : g.P.Pages.undisturbed l.fn.pages l.pages;
}
