use Rattle.std.proofs.Common.{◌≤ℤ◌, pos, subst, sym, arith, ℤ, w64}
use Rattle.std.proofs.lemmas.Int.{ints, to_z-of_z, fits_signed_from_abs}
use Rattle.ts_command.specs.Form.{HasForm}
use Rattle.ts_engine.proofs.DecidedLemmas.{small_number}
use Rattle.ts_engine.proofs.routines.aggregate.Goals as goal

pub aggregate_by-came-requires-clause-text : goal.aggregate_by-came-requires-clause-text
aggregate_by-came-requires-clause-text g c = (subst HasForm c.in-AggregateBy.is c.requires.form).0

pub aggregate_range-came-requires-clause-text : goal.aggregate_range-came-requires-clause-text
aggregate_range-came-requires-clause-text g c = (subst HasForm c.in-AggregateRange.is c.requires.form).0

pub aggregate_all-came-requires-clause-text : goal.aggregate_all-came-requires-clause-text
aggregate_all-came-requires-clause-text g c κs within = (subst HasForm c.in-AggregateAll.is c.requires.form).0

pub running_sum-came-requires-clause-text : goal.running_sum-came-requires-clause-text
running_sum-came-requires-clause-text g c = (subst HasForm c.in-TSRunningSum.is c.requires.form).0

pub running_sum-came-requires-clause-span : goal.running_sum-came-requires-clause-span
running_sum-came-requires-clause-span g c =
    let at = c.in-TSRunningSum in
    let form = subst HasForm at.is c.requires.form in
    let span = to_z-of_z w64 at.span (fits_signed_from_abs w64 at.span (small_number 65536 at.span (omega arith) (omega (arith, ints, form.2)) form.3)) in
    (subst (λ (n : ℤ). pos 1 ≤ℤ n) (sym span) form.2, subst (λ (n : ℤ). n ≤ℤ pos 65536) (sym span) form.3)

pub running_avg-came-requires-clause-text : goal.running_avg-came-requires-clause-text
running_avg-came-requires-clause-text g c = (subst HasForm c.in-TSRunningAvg.is c.requires.form).0

pub running_avg-came-requires-clause-span : goal.running_avg-came-requires-clause-span
running_avg-came-requires-clause-span g c =
    let at = c.in-TSRunningAvg in
    let form = subst HasForm at.is c.requires.form in
    let span = to_z-of_z w64 at.span (fits_signed_from_abs w64 at.span (small_number 65536 at.span (omega arith) (omega (arith, ints, form.2)) form.3)) in
    (subst (λ (n : ℤ). pos 1 ≤ℤ n) (sym span) form.2, subst (λ (n : ℤ). n ≤ℤ pos 65536) (sym span) form.3)

pub apply_list-came-requires-clause-text : goal.apply_list-came-requires-clause-text
apply_list-came-requires-clause-text g c = (subst HasForm c.in-Apply.is c.requires.form).0
