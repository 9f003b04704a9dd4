-- The pages so far are said.
use Rattle.std.proofs.Common.{◌≡◌, Ok, IsTrue, List, take}
use Rattle.std.specs.List.{flat_map}
use Rattle.ts_journal.specs.Journal.{pages}
use Rattle.ts_row.specs.Row.{Element}
use Rattle.ts_space.specs.Directory.{places_of}
use Rattle.ts_dump.specs.Elements.{texts_of_elements}
use Rattle.ts_dump.specs.Held.{HaveParts}
use Rattle.ts_dump.specs.Placed.{SaysTexts}
use Rattle.ts_dump.specs.Saying.{Caused}
use Rattle.ts_dump.proofs.series.say_places.Given as goal

abbrev pub invariant-loop-place : goal.invariant-loop-place
invariant-loop-place g l = record {
  caused : Caused (Ok tt) (g.S.Volume.device l.fn.site) (g.S.Volume.device l.site);
  said : IsTrue g.S.Volume.tells → (parts : List (List Element))
      → HaveParts l.shape l.shelf.series l.shelf.kind.now.columns (pages (g.S.Volume.device l.fn.site).held)
      (places_of l.shelf.series l.opened.found.space) parts
      → SaysTexts l.fn.grouping (flat_map (texts_of_elements l.key l.shelf.kind.now.columns) (take l.place-index parts))
      l.texts.grouping (Ok tt)
      (g.S.Volume.device l.fn.site) (g.S.Volume.device l.site) × (l.texts.key.now ≡ l.key);
}
