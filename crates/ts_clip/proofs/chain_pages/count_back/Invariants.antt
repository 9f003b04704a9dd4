-- The elements of the pages from an index on are counted.
use Rattle.std.proofs.Common.{◌≡◌, ◌+◌, ◌^◌, ◌≤◌, Ok, List, length, drop}
use Rattle.ts_row.specs.Row.{Element, seen}
use Rattle.ts_irregular.specs.Call.{Reads}
use Rattle.ts_sheets.specs.Stamped.{all_in, within_range}
use Rattle.ts_clip.specs.Chain.{HoldsOfPages}
use Rattle.ts_clip.proofs.chain_pages.count_back.Given as goal

abbrev pub invariant-loop-index : goal.invariant-loop-index
invariant-loop-index g l = record {
  within : l.index ≤ length l.places;
  few : l.count ≤ 2 ^ 63 + 65535;
  call : Reads {T = Unit {0}} g.P.Pages.tells (Ok tt) (g.P.Pages.contents l.fn.pages) (g.P.Pages.contents l.pages);
  undisturbed : g.P.Pages.undisturbed l.fn.pages l.pages;
  counted : HoldsOfPages g.P.Pages.tells l.shelf l.places (g.P.Pages.contents l.fn.pages)
      (λ (chain : List (List Element)). l.count ≡ length (seen (within_range l.from l.to (all_in (drop l.index chain)))));
}

abbrev pub decreases-loop-index : goal.decreases-loop-index
decreases-loop-index g l = l.index
