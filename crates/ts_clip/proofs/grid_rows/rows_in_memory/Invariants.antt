-- The elements on the pages before an index were handed on.
use Rattle.std.proofs.Common.{ℕ, List, length, take}
use Rattle.ts_regular.specs.Places.{OffsetPage, AreOn, all_in}
use Rattle.ts_clip.specs.Series.{ArePagesOf}
use Rattle.ts_calendar.specs.Calendars.{IsLaid}
use Rattle.ts_regular.specs.Range.{within}
use Rattle.ts_sheets.specs.Stamped.{stamped, HaveStarts}
use Rattle.ts_clip.proofs.grid_rows.rows_in_memory.Given as goal

abbrev pub invariant-loop-place : goal.invariant-loop-place
invariant-loop-place g l =
    (pages : ℕ → List ℕ) (ps : List OffsetPage) → ArePagesOf pages l.places l.read → AreOn l.shelf.series l.shelf.kind.now.columns pages l.places ps → IsLaid l.grid.calendar → HaveStarts l.grid (all_in ps)
    → g.V.RowVisitor.took l.shelf.kind.now.columns l.fn.visitor (stamped l.grid (within l.offsets.lower l.offsets.upper (all_in (take (length l.yielded) ps)))) l.visitor
