-- No cell from `left` on has an element that isn't hidden.
use Rattle.std.proofs.Common.{◌≡◌, ◌<◌, ◌≤◌, ℕ, false, List, length}
use Rattle.ts_regular.specs.RegularPage.{Cell, regular_room, AreCells, behind_head}
use Rattle.ts_regular.specs.OnePage.{cell_at, is_seen}
use Rattle.ts_regular.proofs.last.index_of_last.Given as goal

abbrev pub invariant-loop-left : goal.invariant-loop-left
invariant-loop-left l = record {
  within : l.left ≤ regular_room l.kind.columns;
  none : (cells : List Cell) → AreCells l.kind.columns cells → length cells ≡ regular_room l.kind.columns → l.behind ≡ behind_head l.kind.columns cells
      → (other : ℕ) → l.left ≤ other → other < length cells → is_seen (cell_at cells other) ≡ false;
}

abbrev pub decreases-loop-left : goal.decreases-loop-left
decreases-loop-left l = l.left
