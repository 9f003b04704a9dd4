-- The rows along the common line are those on the common grid.
use Rattle.std.proofs.Common.{◌∙◌, inl, ℤ, List, Result, sym, ap, subst}
use Rattle.ts_row.specs.Row.{Element}
use Rattle.ts_base.specs.declared.refusal.Refusal.{Refusal}
use Rattle.ts_base.specs.Answer.{within_rows}
use Rattle.ts_combine.specs.Series.{side_of}
use Rattle.ts_combine.specs.Call.{joined_row, AnswersRows}
use Rattle.ts_combine.specs.Reach.{rows_held}
use Rattle.ts_combine.proofs.AnswerLemmas.{answers-rows, on_grid, joined-regular, no-grid}
use Rattle.ts_combine.proofs.combine.joined_on.Goals as goal

pub returns-in_ok-swept-in-Ok-clause-rows : goal.returns-in_ok-swept-in-Ok-clause-rows
returns-in_ok-swept-in-Ok-clause-rows c = λ a_series b_series.
    let a = side_of c.args.first.now in
    let b = side_of c.args.second.now in
    let plan = c.args.calendar.now in
    let other = c.args.other.now in
    let rows = c.in_ok-swept-in-Ok.ensures in
    let is = sym c.in-Ok.ensures.value in
    let line = ap (λ (l : List ℤ). within_rows (rows_held c.args.junction a plan b other l)) c.common_line-line.ensures in
    subst (λ (answer : Result (List Element) Refusal). AnswersRows (joined_row a b) answer c.done.result)
    (line ∙ sym (joined-regular c.args.junction a b plan other c.args.from c.args.to c.requires.first c.requires.second ∙ ap (on_grid c.args.junction a b plan other c.args.from c.args.to) is))
    (answers-rows (joined_row a b) rows.all _ c.done.result (rows.are a_series b_series) (c.done.ensures.rows rows.all rows.gathers))

pub returns-in-Err-clause-rows : goal.returns-in-Err-clause-rows
returns-in-Err-clause-rows c = λ a_series b_series.
    let a = side_of c.args.first.now in
    let b = side_of c.args.second.now in
    joined-regular c.args.junction a b c.args.calendar.now c.args.other.now c.args.from c.args.to c.requires.first c.requires.second
    ∙ ap (on_grid c.args.junction a b c.args.calendar.now c.args.other.now c.args.from c.args.to) (sym c.in-Err.ensures.value)

pub returns-in-Err-clause-cause : goal.returns-in-Err-clause-cause
returns-in-Err-clause-cause c =
    inl (no-grid c.args.first.now.shape.now c.args.second.now.shape.now c.args.calendar.now c.args.other.now c.in-Err.why c.requires.first c.requires.second (sym c.in-Err.ensures.value))
