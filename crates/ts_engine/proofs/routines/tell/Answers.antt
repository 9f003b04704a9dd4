use Rattle.std.proofs.Common.{ℤ, w64, subst, arith}
use Rattle.std.proofs.lemmas.Int.{ints, to_z-of_z, fits_signed_from_abs}
use Rattle.ts_command.specs.declared.command.Command.TheVariants.{CalStamp}
use Rattle.ts_command.specs.Form.{HasForm}
use Rattle.ts_answer.specs.Reading.{IsSaid}
use Rattle.ts_engine.proofs.DecidedLemmas.{said_case, small_number}
use Rattle.ts_engine.proofs.routines.tell.Goals as goal

pub returns-in-ShowPattern-clause-said : goal.returns-in-ShowPattern-clause-said
returns-in-ShowPattern-clause-said c =
    said_case c.args.command.now _ c.show_pattern-came.result c.show_pattern-came.new.out c.args.defs.now.definitions c.args.space.now c.in-ShowPattern.is (c.show_pattern-came.ensures c.args.space.now)

pub returns-in-ShowCalendar-clause-said : goal.returns-in-ShowCalendar-clause-said
returns-in-ShowCalendar-clause-said c =
    said_case c.args.command.now _ c.show_calendar-came.result c.show_calendar-came.new.out c.args.defs.now.definitions c.args.space.now c.in-ShowCalendar.is (c.show_calendar-came.ensures c.args.space.now)

pub returns-in-CalIndex-clause-said : goal.returns-in-CalIndex-clause-said
returns-in-CalIndex-clause-said c =
    said_case c.args.command.now _ c.cal_index-came.result c.cal_index-came.new.out c.args.defs.now.definitions c.args.space.now c.in-CalIndex.is (c.cal_index-came.ensures c.args.space.now)

pub returns-in-CalStamp-clause-said : goal.returns-in-CalStamp-clause-said
returns-in-CalStamp-clause-said c =
    let at = c.in-CalStamp in
    let form = subst HasForm at.is c.requires.form in
    let count = to_z-of_z w64 at.count (fits_signed_from_abs w64 at.count (small_number 4294967295 at.count (omega arith) (omega (arith, ints, form.1)) form.2)) in
    let d = c.args.defs.now.definitions in
    let space = c.args.space.now in
    said_case c.args.command.now _ c.cal_stamp-came.result c.cal_stamp-came.new.out d space at.is
    (subst (λ (n : ℤ). IsSaid (CalStamp at.calendar at.after n) c.cal_stamp-came.result c.cal_stamp-came.new.out d space) count (c.cal_stamp-came.ensures space))

pub returns-in-CalRange-clause-said : goal.returns-in-CalRange-clause-said
returns-in-CalRange-clause-said c =
    said_case c.args.command.now _ c.cal_range-came.result c.cal_range-came.new.out c.args.defs.now.definitions c.args.space.now c.in-CalRange.is (c.cal_range-came.ensures c.args.space.now)

pub returns-in-TSContainerUsage-clause-said : goal.returns-in-TSContainerUsage-clause-said
returns-in-TSContainerUsage-clause-said c =
    said_case c.args.command.now _ c.container_usage-came.result c.container_usage-came.new.out c.args.defs.now.definitions c.args.space.now c.in-TSContainerUsage.is c.container_usage-came.ensures

pub returns-in-ListSeries-clause-said : goal.returns-in-ListSeries-clause-said
returns-in-ListSeries-clause-said c =
    said_case c.args.command.now _ c.list_series-came.result c.list_series-came.new.out c.args.defs.now.definitions c.args.space.now c.in-ListSeries.is c.list_series-came.ensures

pub returns-in-GetNelems-clause-said : goal.returns-in-GetNelems-clause-said
returns-in-GetNelems-clause-said c =
    said_case c.args.command.now _ c.count_elements-came.result c.count_elements-came.new.out c.args.defs.now.definitions c.args.space.now c.in-GetNelems.is c.count_elements-came.ensures
