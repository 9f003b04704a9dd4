-- The series so far are said.
use Rattle.std.proofs.Common.{Ok, IsTrue, take}
use Rattle.std.specs.List.{flat_map}
use Rattle.ts_layout.specs.Meaning.{Layout}
use Rattle.ts_dump.specs.Elements.{series_texts}
use Rattle.ts_dump.specs.Held.{IsLayoutOf}
use Rattle.ts_dump.specs.Placed.{SaysTexts}
use Rattle.ts_dump.specs.Saying.{Caused}
use Rattle.ts_dump.proofs.series.say_all.Given as goal

abbrev pub invariant-loop-slot : goal.invariant-loop-slot
invariant-loop-slot g l = record {
  caused : Caused (Ok tt) (g.S.Volume.device l.fn.site) (g.S.Volume.device l.site);
  said : IsTrue g.S.Volume.tells → (layout : Layout)
      → IsLayoutOf l.opened.found.defs.definitions l.opened.found.space (g.S.Volume.device l.fn.site).held layout
      → SaysTexts l.fn.grouping (flat_map (series_texts layout) (take l.slot-index l.slot-items)) l.grouping (Ok tt)
      (g.S.Volume.device l.fn.site) (g.S.Volume.device l.site);
}
