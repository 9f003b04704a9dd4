-- What is seen in the windows so far is counted; the pages stay.
use Rattle.std.proofs.Common.{◌≡◌, IsTrue, Ok, length, take}
use Rattle.ts_irregular.specs.Call.{Reads}
use Rattle.ts_layout.specs.Meaning.{Layout}
use Rattle.ts_answer.specs.View.{view, Shows}
use Rattle.ts_rolling_sets.specs.Windows.{seen_in}
use Rattle.ts_rolling_sets.proofs.clip.count_windows.Given as goal

abbrev pub invariant-loop-slot : goal.invariant-loop-slot
invariant-loop-slot g l = record {
  call : Reads {T = Unit {0}} g.P.Pages.tells (Ok tt) (g.P.Pages.contents l.fn.pages) (g.P.Pages.contents l.pages);
  undisturbed : g.P.Pages.undisturbed l.fn.pages l.pages;
  counted : IsTrue g.P.Pages.tells → (layout : Layout) → Shows g.P.Pages.tells (view l.defs.definitions l.space (g.P.Pages.contents l.fn.pages)) layout
      → l.count ≡ length (seen_in layout l.from l.to (take l.slot-index l.slots));
}
