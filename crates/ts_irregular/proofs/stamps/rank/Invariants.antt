-- The rank lies from `low` to `high`.
use Rattle.std.proofs.Common.{◌≡◌, ◌-◌, ◌≤◌, List, length}
use Rattle.ts_cells.specs.IrregularPage.{Element, AreInOrder, behind_head}
use Rattle.ts_irregular.specs.Edit.{rank_of}
use Rattle.ts_irregular.proofs.stamps.rank.Given as goal

abbrev pub invariant-loop-low : goal.invariant-loop-low
invariant-loop-low l = record {
  within : l.high ≤ l.count;
  below : l.low ≤ l.high;
  rank : (es : List Element) → AreInOrder l.kind.columns es → length es ≡ l.count → l.behind ≡ behind_head l.kind.columns es
      → (l.low ≤ rank_of l.fn.stamp es) × (rank_of l.fn.stamp es ≤ l.high);
}

abbrev pub decreases-loop-low : goal.decreases-loop-low
decreases-loop-low l = l.high - l.low
