-- The entries before an offset were handed on; from it on the elements stand on the pages from the index on.
use Rattle.std.proofs.Common.{◌≡◌, ◌-◌, ◌≤◌, Ok, take, drop}
use Rattle.ts_irregular.specs.Call.{Reads}
use Rattle.ts_clip.specs.Grid.{HoldsOfCellPages}
use Rattle.ts_regular.specs.Places.{all_in}
use Rattle.ts_clip.specs.Numbered.{numbered, seen_at}
use Rattle.ts_clip.proofs.GridPlaceLemmas.{AreAhead}
use Rattle.ts_clip.proofs.grid_visit.visit_places.Given as goal

abbrev pub invariant-loop-place : goal.invariant-loop-place
invariant-loop-place g l = record {
  low : l.lower ≤ l.at;
  high : l.at ≤ l.upper;
  left : l.starts ≡ drop (l.at - l.lower) l.fn.starts;
  call : Reads {T = Unit {0}} g.P.Pages.tells (Ok tt) (g.P.Pages.contents l.fn.pages) (g.P.Pages.contents l.pages);
  undisturbed : g.P.Pages.undisturbed l.fn.pages l.pages;
  took : HoldsOfCellPages g.P.Pages.tells l.shelf l.places (g.P.Pages.contents l.fn.pages)
      (λ ps. g.V.EntryVisitor.took l.shelf.kind.now.columns l.fn.visitor (numbered (seen_at (all_in ps)) l.lower (take (l.at - l.lower) l.fn.starts)) l.visitor);
  ahead : HoldsOfCellPages g.P.Pages.tells l.shelf l.places (g.P.Pages.contents l.fn.pages) (λ ps. AreAhead ps l.place-index l.at l.upper);
}
