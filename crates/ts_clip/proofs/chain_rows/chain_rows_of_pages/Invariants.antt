-- The elements on the pages before an index were handed on.
use Rattle.std.proofs.Common.{ℕ, List, length, take}
use Rattle.ts_row.specs.Row.{Element}
use Rattle.ts_sheets.specs.Stamped.{all_in, within_range}
use Rattle.ts_sheets.specs.Places.{AreChained}
use Rattle.ts_clip.specs.Series.{ArePagesOf}
use Rattle.ts_clip.proofs.chain_rows.chain_rows_of_pages.Given as goal

abbrev pub invariant-loop-place : goal.invariant-loop-place
invariant-loop-place g l =
    (pages : ℕ → List ℕ) (chain : List (List Element)) → ArePagesOf pages l.places l.read → AreChained l.shelf.series l.shelf.kind.now.columns pages l.places chain
    → g.V.RowVisitor.took l.shelf.kind.now.columns l.fn.visitor (within_range l.from l.to (all_in (take (length l.yielded) chain))) l.visitor
