-- As many starts were handed on as the index tells.
use Rattle.std.proofs.Common.{◌≡◌, None, map, take, drop}
use Rattle.ts_clip.proofs.grid_cells.visit_blanks.Given as goal

abbrev pub invariant-loop-index : goal.invariant-loop-index
invariant-loop-index g l = record {
  left : l.starts ≡ drop l._index l.fn.starts;
  took : g.V.EntryVisitor.took l.kind.columns l.fn.visitor (map (λ start. (start, None)) (take l._index l.fn.starts)) l.visitor;
}
