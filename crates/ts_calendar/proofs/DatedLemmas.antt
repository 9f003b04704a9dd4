-- Stamps by their place in their month.
use Rattle.std.proofs.Common.{◌≡◌, ℕ, true, subst, refl, to_z, of_z, to_z-of_z, w64, FitsSigned, None, Some, ◌<ℤ◌, ◌+◌, ◌-◌, ◌*◌, ◌/◌, ◌%◌, ◌<◌, ◌≤◌, inl, inr, sym, ap, ◌∙◌, arith, ℤ, pos, ◌+ℤ◌, ◌-ℤ◌, ◌*ℤ◌, ◌≤ℤ◌}
use Rattle.std.specs.Prelude.{is_some}
use Rattle.std.proofs.lemmas.Bool.{cases_lt}
use Rattle.std.proofs.lemmas.Int.{by_lt_z}
use Rattle.jiff_core.specs.Calendar.{days_from_civil}
use Rattle.jiff_core.proofs.SignedLemmas.{signed_arith}
use Rattle.jiff_core.proofs.CalendarLemmas.{day_count-day, days_from_civil-day_count}
use Rattle.jiff_core.proofs.MarchLemmas.{day_count-early, day_count-late}
use Rattle.ts_base.specs.Moment.{Civil, IsStamp, stamp_if_any, civil_of, day_of, clock_of, months_after, day_of_month}
use Rattle.ts_base.proofs.CivilLemmas.{civil}
use Rattle.ts_calendar.specs.Dated.{IsInMonth}
use Rattle.ts_calendar.specs.Line.{month_line}
use Rattle.ts_calendar.proofs.StampLemmas.{dated, stamp-some, stamp-is}
use Rattle.ts_calendar.proofs.LineLemmas.{year_in, month_in, month_at, months-line, months-low, months-high, line-mid, mid-stamp}
use Rattle.ts_calendar.proofs.StepLemmas.{some-is}

-- a stamp with a date is in its month
pub placed : (t : ℤ) (y m d : ℕ) → IsStamp t → civil_of (day_of t) ≡ civil y m d → 1 ≤ y → y ≤ 9999 → 1 ≤ m → m ≤ 12 → 1 ≤ d → d ≤ 31
    → IsInMonth t (pos (y * 12 + (m - 1))) (pos ((d - 1) * 8_640_000_000 + clock_of t) -ℤ pos 6_216_203_520_000_000)
placed t y m d stamp e year_low year_high month_low month_high day_low day_high =
    let clock = (dated t stamp).clock in
    record {
      stamp = stamp;
      number = ap (λ (c : Civil). pos (c.year * 12 + (c.month - 1))) (sym e);
      rest = ap (λ (c : Civil). pos ((c.day - 1) * 8_640_000_000 + clock_of t) -ℤ pos 6_216_203_520_000_000) (sym e);
      from = omega (arith, signed_arith);
      to = omega (arith, signed_arith);
      after = omega (arith, signed_arith);
      before = omega (arith, signed_arith, clock);
    }

-- the first day of a month, counted by years that begin in March
pub march-first : (n : ℕ) → 12 ≤ n → n < 120_000
    → days_from_civil (pos (n / 12)) (n % 12 + 1) 1
    ≡ pos (1461 * ((n - 2) / 12) / 4 - (n - 2) / 12 / 100 + (n - 2) / 12 / 100 / 4 + (979 * ((n - 2) % 12) + 18) / 32) -ℤ pos 719_468
march-first n low high =
    let y = n / 12 in
    let m = n % 12 + 1 in
    let number = days_from_civil-day_count (pos y) m 1 in
    elim (cases_lt m 3) [
      | inl early ↦
          let count = day_count-early (pos y) (y + 9_999) m 1 (omega (arith, signed_arith)) (omega arith) (omega arith) (omega arith) in
          omega (arith, signed_arith, number, count)
      | inr late ↦
          let count = day_count-late (pos y) (y + 10_000) m 1 (omega (arith, signed_arith)) late (omega arith) (omega arith) in
          omega (arith, signed_arith, number, count)
    ]

-- months before the year 1
pub too-early : (t m month within : ℤ) → IsInMonth t month within → day_of_month t ≤ 28 → (month +ℤ m) <ℤ pos 12 → months_after t m ≡ None
too-early t m month within i early h = months-low t m i.stamp early (omega (arith, signed_arith, i.number))

-- months after the year 9999
pub too-late : (t m month within : ℤ) → IsInMonth t month within → day_of_month t ≤ 28 → pos 119_999 <ℤ (month +ℤ m) → months_after t m ≡ None
too-late t m month within i early h = months-high t m i.stamp early (omega (arith, signed_arith, i.number))

-- no stamp where the month isn't one of theirs
pub none-far : (t m month within : ℤ) → IsInMonth t month within → day_of_month t ≤ 28 → (pos 12 ≤ℤ (month +ℤ m) → (month +ℤ m) ≤ℤ pos 119_999 → ⊥) → months_after t m ≡ None
none-far t m month within i early h =
    by_lt_z (month +ℤ m) (pos 12) (too-early t m month within i early)
    (λ from. by_lt_z (pos 119_999) (month +ℤ m) (too-late t m month within i early) (λ to. absurd (h from to)))

-- a day of a month, counted from the month's first one
day-of : (n day : ℕ) → 1 ≤ day
    → days_from_civil (year_in (pos n)) (month_in (pos n)) day ≡ days_from_civil (pos (n / 12)) (n % 12 + 1) 1 +ℤ pos (day - 1)
day-of n day some =
    let y = pos (n / 12) in
    let m = n % 12 + 1 in
    let here : days_from_civil (year_in (pos n)) (month_in (pos n)) day ≡ days_from_civil y m day = refl in
    here ∙ omega (arith, signed_arith, days_from_civil-day_count y m day, days_from_civil-day_count y m 1, day_count-day y m day 1 some (omega arith))

-- the stamp at the same place in month number n
abbrev pub in_month_at : ℕ → ℤ → ℤ
in_month_at n within = (days_from_civil (pos (n / 12)) (n % 12 + 1) 1 +ℤ pos 719_468) *ℤ pos 8_640_000_000 +ℤ within

pub in-month : (t m month within : ℤ) (n : ℕ) → IsInMonth t month within → day_of_month t ≤ 28 → month +ℤ m ≡ pos n → 12 ≤ n → n < 120_000
    → (months_after t m ≡ Some (in_month_at n within)) × IsStamp (in_month_at n within)
in-month t m month within n i early is low high =
    let day = day_of_month t in
    let clock = clock_of t in
    let d = dated t i.stamp in
    let some : 1 ≤ day = d.valid.2.0 in
    let same : month_at t +ℤ m ≡ pos n = omega (arith, signed_arith, i.number) in
    let from : pos 1 ≤ℤ year_in (pos n) = omega (arith, signed_arith) in
    let to : year_in (pos n) ≤ℤ pos 9999 = omega (arith, signed_arith) in
    let there : days_from_civil (year_in (pos n)) (month_in (pos n)) day *ℤ pos 8_640_000_000 +ℤ pos clock ≡ in_month_at n within =
    omega (arith, signed_arith, day-of n day some, i.rest) in
    let stamp : IsStamp (in_month_at n within) = subst IsStamp there (mid-stamp day clock (pos n) from to some early d.clock) in (
      months-line t m i.stamp early ∙ ap (λ k. stamp_if_any (month_line day clock k)) same
          ∙ ap stamp_if_any (line-mid day clock (pos n) from to ∙ there) ∙ stamp-some (in_month_at n within) stamp,
      stamp,
    )

-- a stamp some months later that exists is in a month of the years
pub month-exists : (t m month within : ℤ) → IsInMonth t month within → day_of_month t ≤ 28 → is_some (months_after t m) ≡ true
    → (pos 12 ≤ℤ (month +ℤ m)) × ((month +ℤ m) ≤ℤ pos 119_999)
month-exists t m month within i early h =
    by_lt_z (month +ℤ m) (pos 12)
    (λ low. absurd (let no_ = sym (ap is_some (too-early t m month within i early low)) ∙ h in cc))
    (λ from. by_lt_z (pos 119_999) (month +ℤ m)
    (λ high. absurd (let no_ = sym (ap is_some (too-late t m month within i early high)) ∙ h in cc))
    (λ to. (from, to)))

-- a number that is a stamp
pub stamp-exists : (n : ℤ) → is_some (stamp_if_any n) ≡ true → IsStamp n
stamp-exists n h = let s = some-is (stamp_if_any n) h in (stamp-is n s.0 s.1).1

-- a product as the code has it
pub product : (a b : ℤ) → FitsSigned w64 a → FitsSigned w64 b → to_z w64 (of_z w64 a) *ℤ to_z w64 (of_z w64 b) ≡ a *ℤ b
product a b x y = ap (λ n. n *ℤ to_z w64 (of_z w64 b)) (to_z-of_z x) ∙ ap (λ n. a *ℤ n) (to_z-of_z y)
