-- The pages before an index are passed.
use Rattle.std.proofs.Common.{◌≤◌, Ok, List, take}
use Rattle.ts_row.specs.Row.{Element, seen}
use Rattle.ts_irregular.specs.Call.{Reads}
use Rattle.ts_sheets.specs.Stamped.{all_in, within_range}
use Rattle.ts_entry.specs.Entry.{Entry}
use Rattle.ts_clip.specs.Chain.{ArePassed, HoldsOfPages}
use Rattle.ts_clip.proofs.chain_pages.visit_pages.Given as goal

abbrev pub invariant-loop-place : goal.invariant-loop-place
invariant-loop-place g l = record {
  call : Reads {T = Unit {0}} g.P.Pages.tells (Ok tt) (g.P.Pages.contents l.fn.pages) (g.P.Pages.contents l.pages);
  undisturbed : g.P.Pages.undisturbed l.fn.pages l.pages;
  fewer : l.left.most ≤ l.fn.want.most;
  passed : HoldsOfPages g.P.Pages.tells l.shelf l.places (g.P.Pages.contents l.fn.pages)
      (λ (chain : List (List Element)). ArePassed (λ (entries : List Entry). g.V.EntryVisitor.took l.shelf.kind.now.columns l.fn.visitor entries l.visitor) l.fn.want l.left
      (seen (within_range l.from l.to (all_in (take l.place-index chain)))));
}
