use Rattle.std.proofs.Common.{◌∙◌}
use Rattle.ts_answer.proofs.CallerLemmas.{no_memory}
use Rattle.ts_define.proofs.RowTypeLemmas.{made_row_type}
use Rattle.ts_define.proofs.row_types.row_type_of.Goals as goal

pub returns-in_err-copied : goal.returns-in_err-copied
returns-in_err-copied c = no_memory c.in_err-copied.field-0.0 c.from_residual.ensures.1

pub returns-in_err-stamp : goal.returns-in_err-stamp
returns-in_err-stamp c = no_memory c.in_err-stamp.field-0.0 c.from_residual-in_err-stamp.ensures.1

pub returns : goal.returns
returns c =
    made_row_type c.make.result c.args.stamp.now c.in_ok-stamp.stamp c.args.columns.now c.in_ok-copied.copied.items c.in_ok-stamp.ensures (c.in_ok-copied.ensures ∙ c.as_slice.ensures)
    c.make.ensures.ok c.make.ensures.rules c.make.ensures.cause
