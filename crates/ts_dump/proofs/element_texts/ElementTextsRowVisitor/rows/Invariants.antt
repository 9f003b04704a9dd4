-- The cells before those that are left were taken.
use Rattle.std.proofs.Common.{◌≡◌, ◌+◌, ◌*◌, ◌≤◌, Option, List, length}
use Rattle.ts_row.specs.Row.{Element}
use Rattle.ts_entry.specs.Rows.{AreCellsOf}
use Rattle.ts_dump.proofs.CellLemmas.{Turn}
use Rattle.ts_dump.proofs.element_texts.ElementTextsRowVisitor.rows.Given as goal

abbrev pub invariant-loop-left : goal.invariant-loop-left
invariant-loop-left l = record {
  whole : length l.rest ≡ l.left * l.size;
  bound : l.number + l.left ≤ 4064;
  key : l.self.key.now ≡ l.fn.self.key.now;
  taken : (found : List (Option Element)) → AreCellsOf l.kind.columns l.front l.stamps l.cells found
      → Turn l.fn.self.key.now l.kind.columns l.front l.number l.stamps l.rest found l.fn.self.grouping l.fn.self.text
      l.self.grouping l.self.text;
}

abbrev pub decreases-loop-left : goal.decreases-loop-left
decreases-loop-left l = l.left
