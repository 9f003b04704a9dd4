-- No bytes are no row of a column or more.
use Rattle.std.proofs.Common.{is_some, sym, ap}
use Rattle.ts_row.proofs.RowBytesLemmas.{row_in-none}
use Rattle.ts_row.proofs.judging.is_row.Goals as goal

pub returns-in_default : goal.returns-in_default
returns-in_default c = ap is_some (sym (row_in-none c.args.columns.now c.args.from.now c.requires.some c.in_default.ensures.cases))
