-- The cells before an index are passed.
use Rattle.std.proofs.Common.{◌≡◌, ◌-◌, ◌≤◌, List, length, take, drop}
use Rattle.ts_row.specs.Row.{Element, seen}
use Rattle.ts_cells.specs.IrregularPage.{AreElements, behind_head}
use Rattle.ts_entry.specs.Entry.{Entry}
use Rattle.ts_clip.specs.Chain.{ArePassed}
use Rattle.ts_clip.proofs.chain_cells.visit_cells.Given as goal

abbrev pub invariant-loop-index : goal.invariant-loop-index
invariant-loop-index g l = record {
  stays : l.last ≤ l.first → l.index ≡ l.first;
  fewer : l.left.most ≤ l.fn.want.most;
  passed : (es : List Element) → AreElements l.kind.columns es → l.last ≤ length es → l.behind ≡ behind_head l.kind.columns es
      → ArePassed (λ (entries : List Entry). g.V.EntryVisitor.took l.kind.columns l.fn.visitor entries l.visitor) l.fn.want l.left (seen (take (l.index - l.first) (drop l.first es)));
}
