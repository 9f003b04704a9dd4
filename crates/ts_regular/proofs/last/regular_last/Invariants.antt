-- The last one that isn't hidden is on one of the first `left` pages.
use Rattle.std.proofs.Common.{◌≤◌, Ok, length}
use Rattle.ts_regular.specs.Call.{Reads}
use Rattle.ts_regular.proofs.LastLemmas.{IsAmong}
use Rattle.ts_regular.proofs.last.regular_last.Given as goal

abbrev pub invariant-loop-left : goal.invariant-loop-left
invariant-loop-left g l = record {
  within : l.left ≤ length l.places;
  call : Reads {T = Unit {0}} g.P.Pages.tells (Ok tt) (g.P.Pages.contents l.fn.pages) (g.P.Pages.contents l.pages);
  undisturbed : g.P.Pages.undisturbed l.fn.pages l.pages;
  among : IsAmong g.P.Pages.tells l.shelf.series l.shelf.kind.now.columns l.places (g.P.Pages.contents l.fn.pages) l.left;
}

abbrev pub decreases-loop-left : goal.decreases-loop-left
decreases-loop-left g l = l.left
