-- A text has no number.
use Rattle.std.proofs.Common.{◌∙◌}
use Rattle.ts_running_rows.proofs.NumberLemmas.{operand_told, text_told}
use Rattle.ts_running_rows.proofs.number.operand_of_cell.Goals as goal

pub returns-in-VarChar : goal.returns-in-VarChar
returns-in-VarChar c = λ value is. text_told c.args.kind _ c.args.cell.now value c.in-VarChar.is c.requires.kind is

pub returns-in_default : goal.returns-in_default
returns-in_default c = λ value is.
    c.number_of_cell.ensures ∙ operand_told c.args.kind c.args.cell.now value c.requires.kind is c.in_default.not-VarChar
