-- The cells are without the elements from the range's first offset up to that of the index.
use Rattle.std.proofs.Common.{◌≡◌, ◌+◌, ◌≤◌, List, length}
use Rattle.ts_regular.specs.RegularPage.{Cell, regular_room, AreCells, behind_head, filled_count}
use Rattle.ts_regular.specs.Cut.{cells_outside}
use Rattle.ts_regular.proofs.cut.clear_cells.Given as goal

abbrev pub invariant-loop-index : goal.invariant-loop-index
invariant-loop-index l = record {
  few : l.left ≤ l.count;
  cleared : (cells : List Cell) → AreCells l.kind.columns cells → length cells ≡ regular_room l.kind.columns → filled_count cells ≡ l.count → l.fn.behind ≡ behind_head l.kind.columns cells
      → (filled_count (cells_outside l.from (l.base + l.index) l.base cells) ≡ l.left) × (l.behind ≡ behind_head l.kind.columns (cells_outside l.from (l.base + l.index) l.base cells));
}
