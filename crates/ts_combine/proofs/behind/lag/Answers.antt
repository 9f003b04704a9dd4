-- The elements that move are those that stand so many on starts earlier.
use Rattle.std.proofs.Common.{◌≡◌, ◌∙◌, ℤ, List, Result, sym, ap, subst, arith, to_z, of_z, w64}
use Rattle.std.proofs.lemmas.Int.{ints}
use Rattle.ts_base.specs.declared.refusal.Refusal.{Refusal}
use Rattle.ts_row.specs.Row.{Element}
use Rattle.ts_base.specs.Answer.{within_rows}
use Rattle.ts_offset.specs.declared.shape.Shape.{Shape}
use Rattle.ts_calendar.specs.Calendars.{IsLaid}
use Rattle.ts_combine.specs.Combine.{lagged}
use Rattle.ts_combine.specs.Series.{AreOnStarts}
use Rattle.ts_offset.specs.Shape.{IsLaidOut}
use Rattle.ts_entry.specs.Entry.{elements_in}
use Rattle.ts_combine.specs.Call.{AnswersRows}
use Rattle.ts_combine.specs.Moved.{lagged_row}
use Rattle.ts_combine.proofs.AnswerLemmas.{answers-rows}
use Rattle.ts_combine.proofs.LagLemmas.{lagged-moved}
use Rattle.ts_combine.proofs.behind.lag.Goals as goal

pub returns-in_ok-lagged-in-Regular-clause-rows : goal.returns-in_ok-lagged-in-Regular-clause-rows
returns-in_ok-lagged-in-Regular-clause-rows c = λ series.
    let es = elements_in c.args.side.now.elems.now in
    let grid = c.in-Regular.grid in
    let rows = c.in_ok-lagged-in-Regular.ensures in
    let laid : IsLaid grid.calendar = subst IsLaidOut c.in-Regular.is c.requires.laid in
    let starts = subst (λ (shape : Shape). AreOnStarts shape es) c.in-Regular.is series.on_starts in
    let by = to_z w64 (of_z w64 c.args.by) in
    let by_is : to_z w64 (of_z w64 c.args.by) ≡ c.args.by = omega (arith, ints) in
    subst (λ (answer : Result (List Element) Refusal). AnswersRows (lagged_row es) answer c.done.result)
    (ap within_rows (lagged-moved grid laid es series.rising starts by) ∙ sym (ap (λ (shape : Shape). lagged shape by es) c.in-Regular.is)
    ∙ ap (λ (k : ℤ). lagged c.args.side.now.shape.now k es) by_is)
    (answers-rows (lagged_row es) rows.all _ c.done.result rows.are (c.done.ensures.rows rows.all rows.gathers))
