-- The pages stay, and those before an index are read.
use Rattle.std.proofs.Common.{Ok, take}
use Rattle.ts_irregular.specs.Call.{Reads}
use Rattle.ts_combined_rows.specs.Gathered.{AreRead}
use Rattle.ts_combined_rows.proofs.gathered.read_pages.Given as goal

abbrev pub invariant-loop-place : goal.invariant-loop-place
invariant-loop-place g l = record {
  call : Reads {T = Unit {0}} g.P.Pages.tells (Ok tt) (g.P.Pages.contents l.fn.pages) (g.P.Pages.contents l.pages);
  undisturbed : g.P.Pages.undisturbed l.fn.pages l.pages;
  read : AreRead g.P.Pages.tells (g.P.Pages.contents l.fn.pages).page (take l.place-index l.places) l.fn.held l.held;
}
