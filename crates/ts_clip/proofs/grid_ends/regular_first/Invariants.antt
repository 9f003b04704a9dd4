-- None of the pages before the index has an element that isn't hidden.
use Rattle.std.proofs.Common.{◌≡◌, Ok, drop}
use Rattle.ts_irregular.specs.Call.{Reads}
use Rattle.ts_clip.specs.Grid.{HoldsOfCellPages, first_of}
use Rattle.ts_regular.specs.Places.{all_in}
use Rattle.ts_clip.proofs.grid_ends.regular_first.Given as goal

abbrev pub invariant-loop-place : goal.invariant-loop-place
invariant-loop-place g l = record {
  call : Reads {T = Unit {0}} g.P.Pages.tells (Ok tt) (g.P.Pages.contents l.fn.pages) (g.P.Pages.contents l.pages);
  undisturbed : g.P.Pages.undisturbed l.fn.pages l.pages;
  ahead : HoldsOfCellPages g.P.Pages.tells l.shelf l.places (g.P.Pages.contents l.fn.pages)
      (λ ps. first_of (all_in ps) ≡ first_of (all_in (drop l.place-index ps)));
}
