use Rattle.std.proofs.Common.{All, IsTrue}
use Rattle.ts_row.specs.Row.{fits}
use Rattle.ts_expr_vectors.proofs.made.elements.Given as goal

abbrev pub invariant-loop-number : goal.invariant-loop-number
invariant-loop-number l = All (λ e. IsTrue (fits l.kind.columns e.row)) l.elems.items
