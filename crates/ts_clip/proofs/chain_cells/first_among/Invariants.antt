-- The cells before an index are those of hidden elements.
use Rattle.std.proofs.Common.{◌≡◌, List, [], length, take}
use Rattle.ts_row.specs.Row.{Element, seen}
use Rattle.ts_cells.specs.IrregularPage.{AreElements, behind_head}
use Rattle.ts_clip.proofs.chain_cells.first_among.Given as goal

abbrev pub invariant-loop-index : goal.invariant-loop-index
invariant-loop-index l =
    (es : List Element) → AreElements l.kind.columns es → length es ≡ l.count → l.behind ≡ behind_head l.kind.columns es → seen (take l.index es) ≡ []
