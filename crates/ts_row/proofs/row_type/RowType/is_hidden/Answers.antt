-- The first byte of a row tells its mark.
use Rattle.std.proofs.Common.{◌∙◌, arith}
use Rattle.std.proofs.lemmas.Bool.Decides.{nat_tests}
use Rattle.ts_row.proofs.RowBytesLemmas.{mark_told, mark_none}
use Rattle.ts_row.proofs.row_type.RowType.is_hidden.Goals as goal

pub returns-in_default : goal.returns-in_default
returns-in_default c = mark_none c.args.self.now.columns c.args.from.now _ (grind (arith, nat_tests, c.columns-columns.ensures.rules)) c.in_default.ensures.cases

pub returns : goal.returns
returns c = λ row fit is.
    c.is_mark.ensures
    ∙ mark_told c.args.self.now.columns c.args.from.now c.in-Some.first.now c.in-Some.field-0-1.now (grind (arith, nat_tests, c.columns-columns.ensures.rules)) c.in-Some.ensures.cases.0 row fit is
