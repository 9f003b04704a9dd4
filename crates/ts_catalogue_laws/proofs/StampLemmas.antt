-- What is read or made as a stamp is one.
use Rattle.std.proofs.Common.{◌≡◌, ℕ, ◌<◌, ◌≤◌, nat_lt, Bool, true, false, cond, ◌&&◌, Some, None, Ok, Err, List, refl, subst, arith, ℤ, pos, negsuc, ◌+ℤ◌, ◌*ℤ◌, ◌≤ℤ◌}
use Rattle.std.proofs.lemmas.Bool.Decides.{nat_tests}
use Rattle.jiff_core.specs.Calendar.{IsCivilDate, days_from_civil, days_in_month}
use Rattle.jiff_core.proofs.SignedLemmas.{signed_arith}
use Rattle.ts_base.specs.Moment.{IsStamp, Moment, is_moment, day_units, units_of, stamp_at, has_stamp_form, moment_in, read_stamp, day_of_month}
use Rattle.ts_base.proofs.CivilLemmas.{days_bounds}
use Rattle.ts_calendar.specs.Calendars.{CalendarPlan, is_late, is_apart, IsValid, IsLaid}
use Rattle.ts_offset.specs.Grid.{IsOnStart}
use Rattle.ts_offset.proofs.StartLemmas.{on-line}
use Rattle.ts_pattern.specs.Patterns.{is_monthly, has_on}
use Rattle.ts_base.specs.declared.refusal.Refusal.TheVariants as refusals

units_within : (day : ℤ) (clock : ℕ) → negsuc 719_161 ≤ℤ day → day ≤ℤ pos 2_932_896 → clock < 8_640_000_000 → IsStamp (day *ℤ pos 8_640_000_000 +ℤ pos clock)
units_within day clock low high within = (omega (arith, signed_arith), omega (arith, signed_arith))

units_stamp : (m : Moment) → is_moment m ≡ true → IsStamp (units_of m)
units_stamp m good =
    let year : 1 ≤ m.year = grind (arith, nat_tests) in
    let year_most : m.year ≤ 9999 = grind (arith, nat_tests) in
    let month : 1 ≤ m.month = grind (arith, nat_tests) in
    let month_most : m.month ≤ 12 = grind (arith, nat_tests) in
    let day : 1 ≤ m.day = grind (arith, nat_tests) in
    let day_most : m.day ≤ days_in_month (pos m.year) m.month = grind (arith, nat_tests) in
    let hour : m.hour < 24 = grind (arith, nat_tests) in
    let minute : m.minute < 60 = grind (arith, nat_tests) in
    let second : m.second < 60 = grind (arith, nat_tests) in
    let fraction : m.fraction < 100_000 = grind (arith, nat_tests) in
    let civil : IsCivilDate (pos m.year) m.month m.day = ((omega (arith, signed_arith), omega (arith, signed_arith)), (month, month_most), (day, day_most)) in
    let bounds = days_bounds (pos m.year) m.month m.day civil (omega (arith, signed_arith)) in
    let clock : day_units m < 8_640_000_000 = omega arith in
    units_within (days_from_civil (pos m.year) m.month m.day) (day_units m) bounds.0 bounds.1 clock

moment_stamp : (m : Moment) (s : ℤ) → stamp_at m ≡ Some s → IsStamp s
moment_stamp m s is = by (is_moment m) refl is where
  by : (b : Bool) → is_moment m ≡ b → cond b (Some (units_of m)) None ≡ Some s → IsStamp s
  by true good is = let same : units_of m ≡ s = cc in subst IsStamp same (units_stamp m good)
  by false bad is = absurd (let never : ⊥ = cc in never)

pub stamp_read : (text : List ℕ) (s : ℤ) → read_stamp text ≡ Some s → IsStamp s
unfolding read_stamp
stamp_read text s is = by (has_stamp_form text) is where
  by : (b : Bool) → cond b (stamp_at (moment_in text)) None ≡ Some s → IsStamp s
  by true is = moment_stamp (moment_in text) s is
  by false is = absurd (let never : ⊥ = cc in never)

-- the pattern of a calendar that keeps the rules starts on a day that each month has
not_late : (late apart on : Bool) (c : CalendarPlan) → cond late (Err (refusals.BadCalendar 0)) (cond apart (Err (refusals.BadCalendar 0)) (cond on (Ok c) (Err refusals.AllOff))) ≡ Ok c → late ≡ false
not_late true apart on c is = absurd (let never : ⊥ = cc in never)
not_late false apart on c is = refl

early_day : (monthly : Bool) (day : ℕ) → (monthly && nat_lt 28 day) ≡ false → monthly ≡ true → day ≤ 28
early_day true day is on = grind (arith, nat_tests)
early_day false day is on = absurd (let never : ⊥ = cc in never)

pub valid_laid : (c : CalendarPlan) → IsStamp c.patt_start → IsValid c → IsLaid c
valid_laid c stamp valid = record {
  stamp = stamp;
  early = early_day (is_monthly c.pattern.unit) (day_of_month c.patt_start) (not_late (is_late c.pattern.unit c.patt_start) (is_apart c) (has_on c.pattern.runs) c valid);
}

-- an on start is a stamp
pub start_stamp : (c : CalendarPlan) (s : ℤ) → IsLaid c → IsOnStart c s → IsStamp s
start_stamp c s laid on = (on-line c on.interval s laid on.start).1
