-- What is seen in the windows so far was handed on; the pages stay.
use Rattle.std.specs.Prelude.{EachIndex, slice_index}
use Rattle.std.proofs.Common.{◌≡◌, ◌≤◌, IsTrue, Ok, List, length, take}
use Rattle.ts_row.specs.declared.kind.Column.{Column}
use Rattle.ts_irregular.specs.Call.{Reads}
use Rattle.ts_layout.specs.Meaning.{Layout, heading_at}
use Rattle.ts_answer.specs.View.{view, Shows}
use Rattle.ts_rolling_sets.specs.Windows.{entries_in, seen_in, HasColumns}
use Rattle.ts_rolling_sets.proofs.clip.say_windows.Given as goal

abbrev pub invariant-loop-slot : goal.invariant-loop-slot
invariant-loop-slot g l = record {
  call : Reads {T = Unit {0}} g.P.Pages.tells (Ok tt) (g.P.Pages.contents l.fn.pages) (g.P.Pages.contents l.pages);
  undisturbed : g.P.Pages.undisturbed l.fn.pages l.pages;
  few : l.count ≤ 1_000_000;
  taken : IsTrue g.P.Pages.tells → (columns : List Column) (layout : Layout)
      → EachIndex l.slots (λ k. HasColumns columns (heading_at l.defs.definitions (slice_index l.slots k)))
      → Shows g.P.Pages.tells (view l.defs.definitions l.space (g.P.Pages.contents l.fn.pages)) layout
      → g.V.EntryVisitor.took columns l.fn.visitor (entries_in layout l.from l.to (take l.slot-index l.slots)) l.visitor;
  counted : IsTrue g.P.Pages.tells → (layout : Layout) → Shows g.P.Pages.tells (view l.defs.definitions l.space (g.P.Pages.contents l.fn.pages)) layout
      → l.count ≡ length (seen_in layout l.from l.to (take l.slot-index l.slots));
}
