-- The elements of the pages before the index were handed on.
use Rattle.std.proofs.Common.{Ok, List, take}
use Rattle.ts_irregular.specs.Call.{Reads}
use Rattle.ts_regular.specs.RegularPage.{seen}
use Rattle.ts_regular.specs.Places.{all_in}
use Rattle.ts_regular.specs.Range.{within}
use Rattle.ts_sheets.specs.Stamped.{stamped}
use Rattle.ts_entry.specs.Entry.{Entry}
use Rattle.ts_clip.specs.Grid.{HaveTaken, HoldsOfCellPages}
use Rattle.ts_clip.proofs.grid_range.elements_on_places.Given as goal

abbrev pub invariant-loop-place : goal.invariant-loop-place
invariant-loop-place g l = record {
  call : Reads {T = Unit {0}} g.P.Pages.tells (Ok tt) (g.P.Pages.contents l.fn.pages) (g.P.Pages.contents l.pages);
  undisturbed : g.P.Pages.undisturbed l.fn.pages l.pages;
  taken : HoldsOfCellPages g.P.Pages.tells l.shelf l.places (g.P.Pages.contents l.fn.pages)
      (λ ps. HaveTaken (λ (entries : List Entry). g.V.EntryVisitor.took l.shelf.kind.now.columns l.fn.visitor entries l.visitor)
      (stamped l.grid (seen (within l.offsets.lower l.offsets.upper (all_in (take l.place-index ps))))));
}
