-- The pages stay, the series in the slots before an index are said and counted, and those in the next slots are gathered; the fold for those
-- that are too large has taken nothing.
use Rattle.std.proofs.Common.{◌-◌, ◌≤◌, IsTrue, Ok, length, take, drop}
use Rattle.std.specs.List.{flat_map}
use Rattle.ts_irregular.specs.Call.{Reads}
use Rattle.ts_layout.specs.Meaning.{Layout}
use Rattle.ts_answer.specs.View.{Shows}
use Rattle.ts_shelf.specs.Fresh.{IsFresh}
use Rattle.ts_combined_rows.specs.Aggregates.{folded_at, AreSaid}
use Rattle.ts_combined_rows.specs.Gathered.{seen_by, IsGathered}
use Rattle.ts_combined_rows.proofs.each_series.say_all.Given as goal

abbrev pub invariant-loop-at : goal.invariant-loop-at
invariant-loop-at g l = record {
  call : Reads {T = Unit {0}} g.P.Pages.tells (Ok tt) (g.P.Pages.contents l.fn.pages) (g.P.Pages.contents l.pages);
  undisturbed : g.P.Pages.undisturbed l.fn.pages l.pages;
  within : l.at ≤ length l.slots;
  few : l.count ≤ l.at;
  gathered : IsGathered g.P.Pages.tells (g.P.Pages.contents l.fn.pages) l.range (drop l.at l.slots) l.current;
  said : IsTrue g.P.Pages.tells → (layout : Layout) → Shows g.P.Pages.tells (seen_by l.range (g.P.Pages.contents l.fn.pages)) layout
      → IsFresh l.bound l.folding
      × AreSaid l.bound (flat_map (folded_at l.bound l.range.from l.range.to layout l.range.container) (take l.at l.slots)) l.fn.out l.out l.count;
}

abbrev pub decreases-loop-at : goal.decreases-loop-at
decreases-loop-at g l = length l.slots - l.at
