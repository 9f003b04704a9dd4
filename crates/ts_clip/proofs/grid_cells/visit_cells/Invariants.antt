-- The cells before the one of this index were handed on, at as many starts.
use Rattle.std.proofs.Common.{◌≡◌, ◌-◌, take, drop}
use Rattle.ts_regular.specs.RegularPage.{HoldsOfCells}
use Rattle.ts_regular.specs.OnePage.{cell_at}
use Rattle.ts_clip.specs.Numbered.{numbered, seen_in}
use Rattle.ts_clip.proofs.grid_cells.visit_cells.Given as goal

abbrev pub invariant-loop-index : goal.invariant-loop-index
invariant-loop-index g l = record {
  left : l.starts ≡ drop (l.index - l.first) l.fn.starts;
  took : HoldsOfCells l.kind.columns l.behind (λ cells. g.V.EntryVisitor.took l.kind.columns l.fn.visitor (numbered (λ i. seen_in (cell_at cells i)) l.first (take (l.index - l.first) l.fn.starts)) l.visitor);
}
