-- Another first byte marks the row.
use Rattle.std.proofs.Common.{ℕ, set, subst, sym, arith}
use Rattle.std.proofs.lemmas.Bool.Decides.{nat_tests}
use Rattle.ts_row.specs.Encoding.{Marks}
use Rattle.ts_row.proofs.RowBytesLemmas.{marks, marks_none}
use Rattle.ts_row.proofs.row_type.RowType.mark.Goals as goal

pub returns-then-not-is_empty-clause-marked : goal.returns-then-not-is_empty-clause-marked
returns-then-not-is_empty-clause-marked c =
    subst (λ (b : ℕ). Marks c.args.self.now.columns c.args.hidden c.args.bytes.now (set c.args.bytes.now 0 b)) (sym c.remarked.ensures)
    (marks c.args.self.now.columns c.args.hidden c.args.bytes.now (grind (arith, nat_tests, c.columns-columns.ensures.rules)))

pub returns-else-not-is_empty-clause-marked : goal.returns-else-not-is_empty-clause-marked
returns-else-not-is_empty-clause-marked c =
    marks_none c.args.self.now.columns c.args.hidden c.args.bytes.now _ (grind (arith, nat_tests, c.columns-columns.ensures.rules)) (grind (arith, nat_tests, c.is_empty.ensures, c.if-not-is_empty.false))
