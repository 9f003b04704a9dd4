use Rattle.std.proofs.Common.{◌-◌, ℕ, length, sym, ap, ◌∙◌, arith}
use Rattle.ts_cells.specs.IrregularPage.{behind_head}
use Rattle.ts_irregular.proofs.PutLemmas.{take_out_of, count_out_of, take_none_of}
use Rattle.ts_irregular.proofs.cells.take_row.Goals as goal

pub returns-in-Ok-clause-count : goal.returns-in-Ok-clause-count
returns-in-Ok-clause-count c = λ es order count same.
    count_out_of c.args.stamp es c.in-Ok.index order.rising (c.in-Ok.ensures.ok es order count same) (omega (arith, c.in-Ok.ensures.there, count)) ∙ ap (λ (n : ℕ). n - 1) count

pub returns-in-Ok-clause-bytes : goal.returns-in-Ok-clause-bytes
returns-in-Ok-clause-bytes c = λ es order count same.
    c.remove_cell.ensures es order.each count same
    ∙ ap (behind_head c.args.kind.now.columns) (sym (take_out_of c.args.stamp es c.in-Ok.index order.rising (c.in-Ok.ensures.ok es order count same)))

pub returns-in-Err-clause-count : goal.returns-in-Err-clause-count
returns-in-Err-clause-count c = λ es order count same. ap length (take_none_of c.args.stamp es c.in-Err.field-0 (c.in-Err.ensures.ok es order count same)) ∙ count

pub returns-in-Err-clause-bytes : goal.returns-in-Err-clause-bytes
returns-in-Err-clause-bytes c = λ es order count same. same ∙ ap (behind_head c.args.kind.now.columns) (sym (take_none_of c.args.stamp es c.in-Err.field-0 (c.in-Err.ensures.ok es order count same)))
