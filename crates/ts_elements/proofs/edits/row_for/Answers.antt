use Rattle.std.proofs.Common.{◌≡◌, List, subst}
use Rattle.ts_row.specs.declared.value.Literal.{Literal}
use Rattle.ts_answer.specs.Answer.{a_row}
use Rattle.ts_answer.specs.Tried.{IsTried}
use Rattle.ts_elements.proofs.RowLemmas.{row_tried}
use Rattle.ts_elements.proofs.edits.row_for.Goals as goal

pub returns-clause-tried : goal.returns-clause-tried
returns-clause-tried c =
    let columns = c.args.kind.now.columns in
    subst (λ (literals : List Literal). IsTried c.row_of.result (a_row columns literals) (λ row value. value ≡ row)) c.as_slice.ensures (row_tried c.row_of.result columns c.as_slice.result.now c.row_of.ensures.ok c.row_of.ensures.cause)
