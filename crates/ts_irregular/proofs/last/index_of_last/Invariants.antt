-- The last one that isn't hidden is among the first `left`.
use Rattle.std.proofs.Common.{◌≡◌, ◌≤◌, List, length, take}
use Rattle.ts_row.specs.Row.{Element}
use Rattle.ts_cells.specs.IrregularPage.{AreInOrder, behind_head}
use Rattle.ts_irregular.specs.Edit.{last_seen}
use Rattle.ts_irregular.proofs.last.index_of_last.Given as goal

abbrev pub invariant-loop-left : goal.invariant-loop-left
invariant-loop-left l = record {
  within : l.left ≤ l.count;
  seen : (es : List Element) → AreInOrder l.kind.columns es → length es ≡ l.count → l.behind ≡ behind_head l.kind.columns es
      → last_seen es ≡ last_seen (take l.left es);
}

abbrev pub decreases-loop-left : goal.decreases-loop-left
decreases-loop-left l = l.left
