-- The pages before an index have hidden elements alone.
use Rattle.std.proofs.Common.{◌≡◌, Ok, List, [], take}
use Rattle.ts_row.specs.Row.{Element, seen}
use Rattle.ts_irregular.specs.Call.{Reads}
use Rattle.ts_sheets.specs.Stamped.{all_in}
use Rattle.ts_clip.specs.Chain.{HoldsOfPages}
use Rattle.ts_clip.proofs.chain_first.chain_first.Given as goal

abbrev pub invariant-loop-place : goal.invariant-loop-place
invariant-loop-place g l = record {
  call : Reads {T = Unit {0}} g.P.Pages.tells (Ok tt) (g.P.Pages.contents l.fn.pages) (g.P.Pages.contents l.pages);
  undisturbed : g.P.Pages.undisturbed l.fn.pages l.pages;
  none : HoldsOfPages g.P.Pages.tells l.shelf l.places (g.P.Pages.contents l.fn.pages) (λ (chain : List (List Element)). seen (all_in (take l.place-index chain)) ≡ []);
}
