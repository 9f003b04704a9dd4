-- The cells before an index are counted.
use Rattle.std.proofs.Common.{◌≡◌, ◌-◌, ◌≤◌, List, length, take, drop}
use Rattle.ts_row.specs.Row.{Element, seen}
use Rattle.ts_cells.specs.IrregularPage.{AreElements, behind_head}
use Rattle.ts_clip.proofs.chain_cells.count_cells.Given as goal

abbrev pub invariant-loop-index : goal.invariant-loop-index
invariant-loop-index l = record {
  stays : l.last ≤ l.first → l.index ≡ l.first;
  few : l.count ≤ l.index - l.first;
  counted : (es : List Element) → AreElements l.kind.columns es → l.last ≤ length es → l.behind ≡ behind_head l.kind.columns es
      → l.count ≡ length (seen (take (l.index - l.first) (drop l.first es)));
}
