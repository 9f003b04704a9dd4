-- The line of interval starts: it rises, and its stamps are the starts.
use Rattle.std.proofs.Common.{◌≡◌, ℕ, ◌+◌, ◌-◌, ◌*◌, ◌<◌, ◌≤◌, true, false, refl, sym, ap, ◌∙◌, arith, ℤ, pos, negsuc, ◌+ℤ◌, ◌-ℤ◌, ◌*ℤ◌, ◌≤ℤ◌, ◌<ℤ◌, unsigned_abs, Some, None, Option, IsTrue, subst}
use Rattle.std.specs.Int.{int_div_euclid, int_rem_euclid}
use Rattle.std.proofs.lemmas.Int.{by_lt_z}
use Rattle.jiff_core.specs.Calendar.{days_from_civil, IsCivilDate}
use Rattle.jiff_core.proofs.SignedLemmas.{signed_arith}
use Rattle.jiff_core.proofs.CalendarLemmas.{days_in_month_bounds}
use Rattle.ts_base.specs.declared.unit.Unit as unit
use Rattle.ts_base.specs.declared.unit.Unit.TheVariants.{Second, Minute, Hour, Day, Week, Month, Year}
use Rattle.ts_base.specs.Moment.{Civil, IsStamp, stamp_if_any, civil_of, day_of, clock_of, month_of, months_after, day_of_month}
use Rattle.ts_base.proofs.CivilLemmas.{days_bounds, civil_of-days, natural}
use Rattle.ts_base.proofs.MonthLemmas.{months-rise}
use Rattle.ts_pattern.specs.Patterns.{is_monthly, size}
use Rattle.ts_calendar.specs.Calendars.{IsEarly, start_in}
use Rattle.ts_calendar.specs.Line.{month_line, line_at, IsLineAround, comes_after}
use Rattle.ts_calendar.proofs.StampLemmas.{int_lt_yes, int_lt_no, int_lt-true, int_lt-false, stamp-low, stamp-high, stamp-some, stamp-is, dated}

-- the year of a month number
abbrev pub year_in : ℤ → ℤ
year_in n = int_div_euclid n (pos 12)

-- its month in the year
abbrev pub month_in : ℤ → ℕ
month_in n = unsigned_abs (int_rem_euclid n (pos 12)) + 1

-- before the year 1
line-low : (day clock : ℕ) (n : ℤ) → year_in n ≤ℤ pos 0 → month_line day clock n ≡ n -ℤ pos 6_213_559_680_000_012
line-low day clock n h = rw (int_lt_no (pos 0) (year_in n) h) refl

-- after the year 9999
line-high : (day clock : ℕ) (n : ℤ) → pos 1 ≤ℤ year_in n → pos 10_000 ≤ℤ year_in n → month_line day clock n ≡ n +ℤ pos 25_340_230_079_880_000
line-high day clock n low h = rw (int_lt_yes (pos 0) (year_in n) (omega (arith, signed_arith)), int_lt_no (year_in n) (pos 10_000) h) refl

-- in between
pub line-mid : (day clock : ℕ) (n : ℤ) → pos 1 ≤ℤ year_in n → year_in n ≤ℤ pos 9999
    → month_line day clock n ≡ days_from_civil (year_in n) (month_in n) day *ℤ pos 8_640_000_000 +ℤ pos clock
line-mid day clock n low high =
    rw (int_lt_yes (pos 0) (year_in n) (omega (arith, signed_arith)), int_lt_yes (year_in n) (pos 10_000) (omega (arith, signed_arith))) refl

-- each month has the days up to 28
early-valid : (n : ℤ) (day : ℕ) → pos 1 ≤ℤ year_in n → year_in n ≤ℤ pos 9999 → 1 ≤ day → day ≤ 28 → IsCivilDate (year_in n) (month_in n) day
early-valid n day low high some few =
    let dim = days_in_month_bounds (year_in n) (month_in n) in
    ((omega (arith, signed_arith), omega (arith, signed_arith)), (omega arith, omega (arith, signed_arith)), (some, omega (arith, dim)))

-- such a day is a stamp
pub mid-stamp : (day clock : ℕ) (n : ℤ) → pos 1 ≤ℤ year_in n → year_in n ≤ℤ pos 9999 → 1 ≤ day → day ≤ 28 → clock < 8_640_000_000
    → IsStamp (days_from_civil (year_in n) (month_in n) day *ℤ pos 8_640_000_000 +ℤ pos clock)
mid-stamp day clock n low high some few time =
    let bounds = days_bounds (year_in n) (month_in n) day (early-valid n day low high some few) low in
    (omega (arith, signed_arith, bounds.0, bounds.1), omega (arith, signed_arith, bounds.0, bounds.1))

-- the line rises from month to month
month_line-rises : (day clock : ℕ) (i j : ℤ) → 1 ≤ day → day ≤ 28 → clock < 8_640_000_000 → i <ℤ j → month_line day clock i <ℤ month_line day clock j
month_line-rises day clock i j some few time lt =
    by_lt_z (year_in i) (pos 1)
    (λ before. by_lt_z (year_in j) (pos 1)
    (λ low. omega (arith, signed_arith, line-low day clock i (omega (arith, signed_arith)), line-low day clock j (omega (arith, signed_arith))))
    (λ from. by_lt_z (year_in j) (pos 10_000)
    (λ to.
    let stamp = mid-stamp day clock j from (omega (arith, signed_arith)) some few time in
    omega (arith, signed_arith, line-low day clock i (omega (arith, signed_arith)), line-mid day clock j from (omega (arith, signed_arith)), stamp.0))
    (λ over. omega (arith, signed_arith, line-low day clock i (omega (arith, signed_arith)), line-high day clock j from over))))
    (λ first. by_lt_z (year_in i) (pos 10_000)
    (λ within.
    let here = line-mid day clock i first (omega (arith, signed_arith)) in
    let stamp = mid-stamp day clock i first (omega (arith, signed_arith)) some few time in
    let from : pos 1 ≤ℤ year_in j = omega (arith, signed_arith) in
    by_lt_z (year_in j) (pos 10_000)
    (λ to.
    let rise = months-rise i j day day lt (early-valid i day first (omega (arith, signed_arith)) some few) some in
    omega (arith, signed_arith, here, line-mid day clock j from (omega (arith, signed_arith)), rise))
    (λ over. omega (arith, signed_arith, here, line-high day clock j from over, stamp.1)))
    (λ past.
    let from : pos 1 ≤ℤ year_in j = omega (arith, signed_arith) in
    let over : pos 10_000 ≤ℤ year_in j = omega (arith, signed_arith) in
    omega (arith, signed_arith, line-high day clock i first past, line-high day clock j from over)))

-- months later on the line
pub months-line : (t m : ℤ) → IsStamp t → day_of_month t ≤ 28
    → months_after t m ≡ stamp_if_any (month_line (day_of_month t) (clock_of t) (month_of (civil_of (day_of t)) +ℤ m))
unfolding months_after
months-line t m stamp early =
    let n = month_of (civil_of (day_of t)) +ℤ m in
    let day = day_of_month t in
    let d = dated t stamp in
    let some : 1 ≤ day = omega (arith, d.valid.2.0) in
    by_lt_z (year_in n) (pos 1)
    (λ before.
    let low = line-low day (clock_of t) n (omega (arith, signed_arith)) in
    rw (int_lt_no (pos 0) (year_in n) (omega (arith, signed_arith))) (sym (stamp-low (n -ℤ pos 6_213_559_680_000_012) (omega (arith, signed_arith)))))
    (λ from. by_lt_z (year_in n) (pos 10_000)
    (λ to.
    let value = stamp-some _ (mid-stamp day (clock_of t) n from (omega (arith, signed_arith)) some early d.clock) in
    rw (int_lt_yes (pos 0) (year_in n) (omega (arith, signed_arith)), int_lt_yes (year_in n) (pos 10_000) (omega (arith, signed_arith))) (sym value))
    (λ over.
    rw (int_lt_yes (pos 0) (year_in n) (omega (arith, signed_arith)), int_lt_no (year_in n) (pos 10_000) over)
    (sym (stamp-high (n +ℤ pos 25_340_230_079_880_000) (omega (arith, signed_arith)) (omega (arith, signed_arith))))))

-- the starts are the stamps on the line
pub line-start : (u : unit.Unit) (first k : ℤ) → IsStamp first → IsEarly u first → start_in u first k ≡ stamp_if_any (line_at u first k)
unfolding line_at
line-start Second first k stamp early = refl
line-start Minute first k stamp early = refl
line-start Hour first k stamp early = refl
line-start Day first k stamp early = refl
line-start Week first k stamp early = refl
line-start Month first k stamp early = months-line first (k *ℤ pos 1) stamp (early refl)
line-start Year first k stamp early = months-line first (k *ℤ pos 12) stamp (early refl)

-- the line rises
pub line-rises : (u : unit.Unit) (first i j : ℤ) → IsStamp first → IsEarly u first → i <ℤ j → line_at u first i <ℤ line_at u first j
unfolding line_at
line-rises Second first i j stamp early lt = omega (arith, signed_arith)
line-rises Minute first i j stamp early lt = omega (arith, signed_arith)
line-rises Hour first i j stamp early lt = omega (arith, signed_arith)
line-rises Day first i j stamp early lt = omega (arith, signed_arith)
line-rises Week first i j stamp early lt = omega (arith, signed_arith)
line-rises Month first i j stamp early lt =
    let d = dated first stamp in
    month_line-rises (day_of_month first) (clock_of first) (month_of (civil_of (day_of first)) +ℤ i *ℤ pos 1) (month_of (civil_of (day_of first)) +ℤ j *ℤ pos 1)
    (omega (arith, d.valid.2.0)) (early refl) d.clock (omega (arith, signed_arith))
line-rises Year first i j stamp early lt =
    let d = dated first stamp in
    month_line-rises (day_of_month first) (clock_of first) (month_of (civil_of (day_of first)) +ℤ i *ℤ pos 12) (month_of (civil_of (day_of first)) +ℤ j *ℤ pos 12)
    (omega (arith, d.valid.2.0)) (early refl) d.clock (omega (arith, signed_arith))

-- a date has its month number's year and month
civil-month : (c : Civil) → 1 ≤ c.month → c.month ≤ 12 → (year_in (month_of c) ≡ pos c.year) × (month_in (month_of c) ≡ c.month)
civil-month c low high = (omega (arith, signed_arith), omega (arith, signed_arith))

-- the month number of a stamp
abbrev pub month_at : ℤ → ℤ
month_at t = month_of (civil_of (day_of t))

-- a stamp's date by its month number
month-date : (s : ℤ) → IsStamp s
    → (days_from_civil (year_in (month_at s)) (month_in (month_at s)) (day_of_month s) ≡ day_of s)
    × IsCivilDate (year_in (month_at s)) (month_in (month_at s)) (day_of_month s)
month-date s stamp =
    let d = dated s stamp in
    let c = civil_of (day_of s) in
    let same = civil-month c d.valid.1.0 d.valid.1.1 in (
      ap (λ y. days_from_civil y (month_in (month_at s)) c.day) same.0 ∙ ap (λ m. days_from_civil (pos c.year) m c.day) same.1 ∙ d.number,
      subst (λ y. IsCivilDate y (month_in (month_at s)) c.day) (sym same.0) (subst (λ m. IsCivilDate (pos c.year) m c.day) (sym same.1) d.valid),
    )

-- a later month comes after the stamp
month-after : (s : ℤ) (day clock : ℕ) (n : ℤ) → IsStamp s → 1 ≤ day → day ≤ 28 → month_at s <ℤ n → s <ℤ month_line day clock n
month-after s day clock n stamp some few lt =
    let d = dated s stamp in
    let date = month-date s stamp in
    let from : pos 1 ≤ℤ year_in n = omega (arith, signed_arith, d.year_low, d.valid.1.0, d.valid.1.1) in
    by_lt_z (year_in n) (pos 10_000)
    (λ to.
    let rise = months-rise (month_at s) n (day_of_month s) day lt date.1 some in
    omega (arith, signed_arith, line-mid day clock n from (omega (arith, signed_arith)), rise, date.0, d.whole, d.clock))
    (λ over. omega (arith, signed_arith, line-high day clock n from over, stamp.1))

-- an earlier month comes before it
month-before : (s : ℤ) (day clock : ℕ) (n : ℤ) → IsStamp s → 1 ≤ day → day ≤ 28 → clock < 8_640_000_000 → n <ℤ month_at s → month_line day clock n <ℤ s
month-before s day clock n stamp some few time lt =
    let d = dated s stamp in
    let date = month-date s stamp in
    by_lt_z (year_in n) (pos 1)
    (λ before. omega (arith, signed_arith, line-low day clock n (omega (arith, signed_arith)), stamp.0))
    (λ from.
    let year = d.valid.0 in
    let to : year_in n ≤ℤ pos 9999 = omega (arith, signed_arith, year.0, year.1, d.valid.1.0, d.valid.1.1) in
    let rise = months-rise n (month_at s) day (day_of_month s) lt (early-valid n day from to some few) d.valid.2.0 in
    omega (arith, signed_arith, line-mid day clock n from to, rise, date.0, d.whole))

-- the month of a stamp lies within the years
pub month-within : (s : ℤ) → IsStamp s → (pos 1 ≤ℤ year_in (month_at s)) × (year_in (month_at s) ≤ℤ pos 9999)
month-within s stamp =
    let d = dated s stamp in
    let year = d.valid.0 in
    let same = civil-month (civil_of (day_of s)) d.valid.1.0 d.valid.1.1 in
    (omega (arith, signed_arith, same.0, d.year_low), omega (arith, signed_arith, same.0, year.1))

-- the month number of interval k
abbrev pub month_of_interval : unit.Unit → ℤ → ℤ → ℤ
month_of_interval u first k = month_at first +ℤ k *ℤ pos (size u)

line-month : (u : unit.Unit) (first k : ℤ) → IsTrue (is_monthly u) → line_at u first k ≡ month_line (day_of_month first) (clock_of first) (month_of_interval u first k)
unfolding line_at
line-month u first k monthly = rw monthly refl

after-line : (s l : ℤ) (o : Option ℤ) → o ≡ stamp_if_any l → comes_after s o ≡ true → s <ℤ l
after-line s l o e h =
    by_lt_z l (negsuc 6_213_559_679_999_999)
    (λ lt. let none = e ∙ stamp-low l lt in absurd (let no_ = ap (comes_after s) none in cc))
    (λ low. by_lt_z (pos 25_340_230_079_999_999) l
    (λ lt. let none = e ∙ stamp-high l low lt in absurd (let no_ = ap (comes_after s) none in cc))
    (λ high. let here = e ∙ stamp-some l (low, high) in int_lt-true s l (sym (ap (comes_after s) here) ∙ h)))

-- a stamp on the line of its own months
months-zero : (s m : ℤ) → IsStamp s → m ≡ pos 0 → month_line (day_of_month s) (clock_of s) (month_at s +ℤ m) ≡ s
months-zero s m stamp none =
    let same : month_at s +ℤ m ≡ month_at s = omega (arith, signed_arith) in
    let years = month-within s stamp in
    let date = month-date s stamp in
    let d = dated s stamp in
    let mid = line-mid (day_of_month s) (clock_of s) (month_at s) years.0 years.1 in
    ap (month_line (day_of_month s) (clock_of s)) same ∙ mid ∙ omega (arith, signed_arith, date.0, d.whole)

-- the interval of the stamp's month, where it doesn't start after the stamp
pub around-here : (u : unit.Unit) (first s k : ℤ) → IsStamp first → IsTrue (is_monthly u) → IsEarly u first → IsStamp s
    → month_of_interval u first k ≤ℤ month_at s → month_at s <ℤ month_of_interval u first (k +ℤ pos 1)
    → comes_after s (start_in u first k) ≡ false → IsLineAround u first s k
around-here u first s k stamp monthly early within low high h =
    let d = dated first stamp in
    let some : 1 ≤ day_of_month first = omega (arith, d.valid.2.0) in
    let n = month_of_interval u first k in
    record {
      after = rw (line-month u first k monthly) (by_lt_z n (month_at s)
          (λ lt.
          let before = month-before s (day_of_month first) (clock_of first) n within some (early monthly) d.clock lt in
          omega (arith, signed_arith, before))
          (λ ge.
          let same : n ≡ month_at s = omega (arith, signed_arith) in
          let years = month-within s within in
          let mid = line-mid (day_of_month first) (clock_of first) n (rw same years.0) (rw same years.1) in
          let there = rw (← mid) at (mid-stamp (day_of_month first) (clock_of first) n (rw same years.0) (rw same years.1) some (early monthly) d.clock) in
          let start : start_in u first k ≡ Some (month_line (day_of_month first) (clock_of first) n) =
          line-start u first k stamp early ∙ ap stamp_if_any (line-month u first k monthly) ∙ stamp-some _ there in
          int_lt-false s (month_line (day_of_month first) (clock_of first) n) (sym (ap (comes_after s) start) ∙ h)));
      before = rw (line-month u first (k +ℤ pos 1) monthly) (month-after s (day_of_month first) (clock_of first) _ within some (early monthly) high);
    }

-- else the one before
pub around-before : (u : unit.Unit) (first s k j : ℤ) → IsStamp first → IsTrue (is_monthly u) → IsEarly u first → IsStamp s → j +ℤ pos 1 ≡ k
    → month_of_interval u first j <ℤ month_at s → comes_after s (start_in u first k) ≡ true → IsLineAround u first s j
around-before u first s k j stamp monthly early within next low h =
    let d = dated first stamp in
    let some : 1 ≤ day_of_month first = omega (arith, d.valid.2.0) in
    let before = month-before s (day_of_month first) (clock_of first) (month_of_interval u first j) within some (early monthly) d.clock low in
    record {
      after = rw (line-month u first j monthly) (omega (arith, signed_arith, before));
      before = rw next (after-line s (line_at u first k) (start_in u first k) (line-start u first k stamp early) h);
    }

-- intervals that don't move with the months, by division
pub around-second : (p s : ℤ) → IsLineAround Second p s (int_div_euclid (s -ℤ p) (pos 100_000))
unfolding line_at
around-second p s = record { after = omega (arith, signed_arith); before = omega (arith, signed_arith) }

pub around-minute : (p s : ℤ) → IsLineAround Minute p s (int_div_euclid (s -ℤ p) (pos 6_000_000))
unfolding line_at
around-minute p s = record { after = omega (arith, signed_arith); before = omega (arith, signed_arith) }

pub around-hour : (p s : ℤ) → IsLineAround Hour p s (int_div_euclid (s -ℤ p) (pos 360_000_000))
unfolding line_at
around-hour p s = record { after = omega (arith, signed_arith); before = omega (arith, signed_arith) }

pub around-day : (p s : ℤ) → IsLineAround Day p s (int_div_euclid (s -ℤ p) (pos 8_640_000_000))
unfolding line_at
around-day p s = record { after = omega (arith, signed_arith); before = omega (arith, signed_arith) }

pub around-week : (p s : ℤ) → IsLineAround Week p s (int_div_euclid (s -ℤ p) (pos 60_480_000_000))
unfolding line_at
around-week p s = record { after = omega (arith, signed_arith); before = omega (arith, signed_arith) }

-- months before the year 1
pub months-low : (t m : ℤ) → IsStamp t → day_of_month t ≤ 28 → year_in (month_at t +ℤ m) ≤ℤ pos 0 → months_after t m ≡ None
months-low t m stamp early h =
    let low = line-low (day_of_month t) (clock_of t) (month_at t +ℤ m) h in
    months-line t m stamp early ∙ ap stamp_if_any low ∙ stamp-low (month_at t +ℤ m -ℤ pos 6_213_559_680_000_012) (omega (arith, signed_arith))

-- months after the year 9999
pub months-high : (t m : ℤ) → IsStamp t → day_of_month t ≤ 28 → pos 10_000 ≤ℤ year_in (month_at t +ℤ m) → months_after t m ≡ None
months-high t m stamp early h =
    let high = line-high (day_of_month t) (clock_of t) (month_at t +ℤ m) (omega (arith, signed_arith)) h in
    months-line t m stamp early ∙ ap stamp_if_any high
    ∙ stamp-high (month_at t +ℤ m +ℤ pos 25_340_230_079_880_000) (omega (arith, signed_arith)) (omega (arith, signed_arith))

-- the day of the month and the time of day are kept, and the month number moves
pub date-moved : (u : unit.Unit) (first k f : ℤ) → IsStamp first → IsEarly u first → IsTrue (is_monthly u) → start_in u first k ≡ Some f
    → (day_of_month f ≡ day_of_month first) × (clock_of f ≡ clock_of first) × (month_at f ≡ month_of_interval u first k)
date-moved u first k f stamp early monthly e =
    let d = dated first stamp in
    let day = day_of_month first in
    let some : 1 ≤ day = omega (arith, d.valid.2.0) in
    let n = month_of_interval u first k in
    let line = line-month u first k monthly in
    let is = stamp-is (line_at u first k) f (sym (line-start u first k stamp early) ∙ e) in
    let there : IsStamp (month_line day (clock_of first) n) = rw line at is.1 in
    by_lt_z (year_in n) (pos 1)
    (λ before. let low = line-low day (clock_of first) n (omega (arith, signed_arith)) in absurd (omega (arith, signed_arith, there.0, low)))
    (λ from. by_lt_z (year_in n) (pos 10_000)
    (λ to.
    let high : year_in n ≤ℤ pos 9999 = omega (arith, signed_arith) in
    let mid = line-mid day (clock_of first) n from high in
    let number = days_from_civil (year_in n) (month_in n) day in
    let whole : f ≡ number *ℤ pos 8_640_000_000 +ℤ pos (clock_of first) = is.0 ∙ line ∙ mid in
    let day_is : day_of f ≡ number = omega (arith, signed_arith, whole, d.clock) in
    let clock_is : clock_of f ≡ clock_of first = omega (arith, signed_arith, whole, d.clock) in
    let year : year_in n ≡ pos (unsigned_abs (year_in n)) = natural (year_in n) from in
    let valid : IsCivilDate (pos (unsigned_abs (year_in n))) (month_in n) day =
    subst (λ y. IsCivilDate y (month_in n) day) year (early-valid n day from high some (early monthly)) in
    let date = civil_of-days (unsigned_abs (year_in n)) (month_in n) day (omega (arith, signed_arith, year)) valid in
    let civil = ap civil_of (day_is ∙ ap (λ y. days_from_civil y (month_in n) day) year) ∙ date in
    let number_is : pos (unsigned_abs (year_in n) * 12 + (month_in n - 1)) ≡ n = omega (arith, signed_arith, year) in
    (ap (λ (c : Civil). c.day) civil, clock_is, ap month_of civil ∙ number_is))
    (λ over. let above = line-high day (clock_of first) n from over in absurd (omega (arith, signed_arith, there.1, above))))

-- the day of the month is kept
pub day-kept : (u : unit.Unit) (first k f : ℤ) → IsStamp first → IsEarly u first → IsTrue (is_monthly u) → start_in u first k ≡ Some f → day_of_month f ≡ day_of_month first
day-kept u first k f stamp early monthly e = (date-moved u first k f stamp early monthly e).0

-- interval 0 starts at the first stamp
pub line-zero : (u : unit.Unit) (first : ℤ) → IsStamp first → IsEarly u first → line_at u first (pos 0) ≡ first
unfolding line_at
line-zero Second first stamp early = omega (arith, signed_arith)
line-zero Minute first stamp early = omega (arith, signed_arith)
line-zero Hour first stamp early = omega (arith, signed_arith)
line-zero Day first stamp early = omega (arith, signed_arith)
line-zero Week first stamp early = omega (arith, signed_arith)
line-zero Month first stamp early = months-zero first (pos 0 *ℤ pos 1) stamp (omega (arith, signed_arith))
line-zero Year first stamp early = months-zero first (pos 0 *ℤ pos 12) stamp (omega (arith, signed_arith))
