use Rattle.std.proofs.Common.{sym}
use Rattle.ts_combine.proofs.AnswerLemmas.{no-grid}
use Rattle.ts_combined_rows.proofs.CalendarLemmas.{lies_there, no_first, no_second, has_grid, where_none}
use Rattle.ts_combined_rows.proofs.sides.no_common_grid.Goals as goal

pub returns-in_err-calendar-clause-none : goal.returns-in_err-calendar-clause-none
returns-in_err-calendar-clause-none c =
    let a = c.args.first.now.1 in
    let b = c.args.second.now.1 in
    where_none a b c.from_residual.result (no_first a b c.in_err-calendar.ensures)

pub returns-in_err-other-clause-none : goal.returns-in_err-other-clause-none
returns-in_err-other-clause-none c =
    let a = c.args.first.now.1 in
    let b = c.args.second.now.1 in
    where_none a b c.from_residual-in_err-other.result (no_second a b c.in_err-other.ensures)

pub returns-in-Ok : goal.returns-in-Ok
returns-in-Ok c =
    let a = c.args.first.now.1 in
    let b = c.args.second.now.1 in
    let calendar = c.in_ok-calendar.calendar in
    let other = c.in_ok-other.other in
    record {
      some = tt;
      none = has_grid a b calendar.now other.now c.in-Ok.field-0 (lies_there a calendar c.in_ok-calendar.ensures) (lies_there b other c.in_ok-other.ensures) (sym c.in-Ok.ensures.value) c.in-Ok.ensures.early;
    }

pub returns-in-Err : goal.returns-in-Err
returns-in-Err c =
    let a = c.args.first.now.1 in
    let b = c.args.second.now.1 in
    let calendar = c.in_ok-calendar.calendar in
    let other = c.in_ok-other.other in
    record {
      some = no-grid a b calendar.now other.now c.in-Err.why (lies_there a calendar c.in_ok-calendar.ensures) (lies_there b other c.in_ok-other.ensures) (sym c.in-Err.ensures.value);
      none = tt;
    }
