-- The elements on the pages before the index were handed on.
use Rattle.std.proofs.Common.{Ok, take}
use Rattle.ts_irregular.specs.Call.{Reads}
use Rattle.ts_regular.specs.Places.{all_in}
use Rattle.ts_calendar.specs.Calendars.{IsLaid}
use Rattle.ts_regular.specs.Range.{within}
use Rattle.ts_sheets.specs.Stamped.{stamped, HaveStarts}
use Rattle.ts_clip.specs.Grid.{HoldsOfCellPages}
use Rattle.ts_clip.proofs.grid_rows.rows_on_places.Given as goal

abbrev pub invariant-loop-place : goal.invariant-loop-place
invariant-loop-place g l = record {
  call : Reads {T = Unit {0}} g.P.Pages.tells (Ok tt) (g.P.Pages.contents l.fn.pages) (g.P.Pages.contents l.pages);
  undisturbed : g.P.Pages.undisturbed l.fn.pages l.pages;
  taken : HoldsOfCellPages g.P.Pages.tells l.shelf l.places (g.P.Pages.contents l.fn.pages)
      (λ ps. IsLaid l.grid.calendar → HaveStarts l.grid (all_in ps) → g.V.RowVisitor.took l.shelf.kind.now.columns l.fn.visitor (stamped l.grid (within l.offsets.lower l.offsets.upper (all_in (take l.place-index ps)))) l.visitor);
}
