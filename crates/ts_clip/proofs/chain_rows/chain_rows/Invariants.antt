-- The elements on the pages before an index were handed on.
use Rattle.std.proofs.Common.{Ok, List, take}
use Rattle.ts_row.specs.Row.{Element}
use Rattle.ts_irregular.specs.Call.{Reads}
use Rattle.ts_sheets.specs.Stamped.{all_in, within_range}
use Rattle.ts_clip.specs.Chain.{HoldsOfPages}
use Rattle.ts_clip.proofs.chain_rows.chain_rows.Given as goal

abbrev pub invariant-loop-place : goal.invariant-loop-place
invariant-loop-place g l = record {
  call : Reads {T = Unit {0}} g.P.Pages.tells (Ok tt) (g.P.Pages.contents l.fn.pages) (g.P.Pages.contents l.pages);
  undisturbed : g.P.Pages.undisturbed l.fn.pages l.pages;
  taken : HoldsOfPages g.P.Pages.tells l.shelf l.places (g.P.Pages.contents l.fn.pages)
      (λ (chain : List (List Element)). g.V.RowVisitor.took l.shelf.kind.now.columns l.fn.visitor (within_range l.from l.to (all_in (take l.place-index chain))) l.visitor);
}
