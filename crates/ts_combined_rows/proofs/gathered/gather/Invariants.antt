-- The pages stay, and the series of the container in the slots before an index have their stacks.
use Rattle.std.proofs.Common.{Ok, take}
use Rattle.std.specs.List.{AllZip}
use Rattle.ts_irregular.specs.Call.{Reads}
use Rattle.ts_combined_rows.specs.Gathered.{seen_by, inside, IsStackOf}
use Rattle.ts_combined_rows.proofs.gathered.gather.Given as goal

abbrev pub invariant-loop-passed : goal.invariant-loop-passed
invariant-loop-passed g l = record {
  call : Reads {T = Unit {0}} g.P.Pages.tells (Ok tt) (g.P.Pages.contents l.fn.pages) (g.P.Pages.contents l.pages);
  undisturbed : g.P.Pages.undisturbed l.fn.pages l.pages;
  stacks : AllZip (IsStackOf g.P.Pages.tells (seen_by l.range (g.P.Pages.contents l.fn.pages)) l.range.from l.range.to l.gathered.pages)
      (inside l.range.defs.now.definitions l.range.container (take l.passed l.slots)) l.gathered.stacks.items;
}
