-- The date that is found for a day number is a date of the calendar, and has that number.
use Rattle.std.proofs.Common.{◌≡◌, ℕ, zero, suc, ◌+◌, ◌-◌, ◌<◌, ◌≤◌, inl, inr, refl, ap, ◌∙◌, arith, ℤ, pos, negsuc, ◌+ℤ◌, ◌≤ℤ◌, unsigned_abs, Some}
use Rattle.std.specs.Int.{int_rem_euclid}
use Rattle.std.proofs.lemmas.Bool.{cases_lt}
use Rattle.jiff_core.specs.Calendar.{days_in_year, days_in_month, days_of_months, day_of_year, day_count, days_from_civil, IsCivilDate}
use Rattle.jiff_core.proofs.SignedLemmas.{signed_arith}
use Rattle.jiff_core.proofs.CalendarLemmas.{days_of_months_more, days_of_months-zero, days_of_months_all, day_count-day_of_year, day_count-next_year, day_count-end, days_from_civil-day_count}
use Rattle.ts_base.specs.Moment.{Civil, civil_in_year, civil_in_years, civil_of, IsStamp, day_of, clock_of, read_stamp, stamp_text}
use Rattle.ts_base.proofs.CivilLemmas.{lt_yes, lt_no, day_count-first_year}
use Rattle.ts_base.proofs.RoundTrip.{read_stamp-text, units_back}

-- a date of the year y, with its place in the year
record InYear (y place : ℕ) (c : Civil) : Type 0 where
  same : c.year ≡ y
  first_month : 1 ≤ c.month
  last_month : c.month ≤ 12
  first_day : 1 ≤ c.day
  last_day : c.day ≤ days_in_month (pos y) c.month
  at : day_of_year (pos y) c.month c.day ≡ place

in_year : (more y m rest : ℕ) → 1 ≤ m → m + more ≤ 13 → rest + days_of_months (pos y) (m - 1) < days_of_months (pos y) (m - 1 + more)
    → InYear y (rest + days_of_months (pos y) (m - 1) + 1) (civil_in_year more y m rest)
unfolding civil_in_year
in_year zero y m rest low high h = let e : m - 1 + 0 ≡ m - 1 = omega arith in absurd (omega (arith, rw e at h))
in_year (suc more) y m rest low high h =
    elim (cases_lt rest (days_in_month (pos y) m)) [
      | inl lt ↦ rw (lt_yes rest (days_in_month (pos y) m) lt) (record {
        same = refl;
        first_month = low;
        last_month = omega arith;
        first_day = omega arith;
        last_day = omega arith;
        at = omega arith;
      })
      | inr ge ↦
          let next : m + 1 - 1 ≡ m = omega arith in
          let here = days_of_months_more (pos y) m low in
          let fuel : m - 1 + suc more ≡ m + more = omega arith in
          let inner = in_year more y (m + 1) (rest - days_in_month (pos y) m) (omega arith) (omega arith) (rw next (omega (arith, rw fuel at h))) in
          let place : rest - days_in_month (pos y) m + days_of_months (pos y) (m + 1 - 1) + 1 ≡ rest + days_of_months (pos y) (m - 1) + 1 = rw next (omega arith) in
          rw (lt_no rest (days_in_month (pos y) m) ge) (rw place at inner)
    ]

-- a date of the calendar from a year on, with its day count
pub record IsFound (y count : ℕ) (c : Civil) : Type 0 where
  pub from : y ≤ c.year
  pub most : c.year ≤ 9999
  pub valid : IsCivilDate (pos c.year) c.month c.day
  pub number : day_count (pos c.year) c.month c.day ≡ count

of_year : (y rest : ℕ) → y ≤ 9999 → rest < days_in_year (pos y) → IsFound y (rest + day_count (pos y) 1 1) (civil_in_year 12 y 1 rest)
of_year y rest high h =
    let c = civil_in_year 12 y 1 rest in
    let f = in_year 12 y 1 rest (omega arith) (omega arith) (omega (arith, days_of_months-zero (pos y), days_of_months_all (pos y))) in
    let place = day_count-day_of_year (pos y) c.month c.day f.first_day in
    record {
      from = omega (arith, f.same);
      most = omega (arith, f.same);
      valid = rw f.same ((omega (arith, signed_arith), omega (arith, signed_arith)), (f.first_month, f.last_month), (f.first_day, f.last_day));
      number = rw f.same (omega (arith, f.at, days_of_months-zero (pos y)));
    }

in_years : (more y rest : ℕ) → y + more ≡ 10_000 → rest + day_count (pos y) 1 1 < 7_304_850 → IsFound y (rest + day_count (pos y) 1 1) (civil_in_years more y rest)
unfolding civil_in_years
in_years zero y rest sum h = let end : y ≡ 10_000 = omega arith in absurd (omega (arith, rw end at h, day_count-end))
in_years (suc more) y rest sum h =
    elim (cases_lt rest (days_in_year (pos y))) [
      | inl lt ↦ rw (lt_yes rest (days_in_year (pos y)) lt) (of_year y rest (omega arith) lt)
      | inr ge ↦
          let next = day_count-next_year (pos y) (pos (y + 1)) (omega (arith, signed_arith)) (omega (arith, signed_arith)) in
          let inner = in_years more (y + 1) (rest - days_in_year (pos y)) (omega arith) (omega (arith, next)) in
          let place : rest - days_in_year (pos y) + day_count (pos (y + 1)) 1 1 ≡ rest + day_count (pos y) 1 1 = omega (arith, next) in
          rw (lt_no rest (days_in_year (pos y)) ge) (later (rw place at inner))
    ]
  where
    later : {y n : ℕ} {c : Civil} → IsFound (y + 1) n c → IsFound y n c
    later f = record { from = omega (arith, f.from); most = f.most; valid = f.valid; number = f.number }

-- each day number of the years 1 to 9999 has a date
pub civil_of-found : (day : ℤ) (n : ℕ) → day +ℤ pos 719_162 ≡ pos n → n < 3_652_059 → IsFound 1 (n + 3_652_791) (civil_of day)
unfolding civil_of
civil_of-found day n e h =
    let count : n + day_count (pos 1) 1 1 ≡ n + 3_652_791 = ap (λ k. n + k) day_count-first_year in
    rw e (rw count at (in_years 9999 1 n (omega arith) (omega (arith, day_count-first_year))))

pub civil_of-number : (day : ℤ) → negsuc 719_161 ≤ℤ day → day ≤ℤ pos 2_932_896
    → (1 ≤ (civil_of day).year) × IsCivilDate (pos (civil_of day).year) (civil_of day).month (civil_of day).day
    × (days_from_civil (pos (civil_of day).year) (civil_of day).month (civil_of day).day ≡ day)
civil_of-number day low high =
    let c = civil_of day in
    let n = unsigned_abs (day +ℤ pos 719_162) in
    let e : day +ℤ pos 719_162 ≡ pos n = nonnegative (day +ℤ pos 719_162) (omega (arith, signed_arith)) in
    let f = civil_of-found day n e (omega (arith, signed_arith)) in
    (f.from, f.valid, omega (arith, signed_arith, f.number, days_from_civil-day_count (pos c.year) c.month c.day))
  where
    nonnegative : (z : ℤ) → pos 0 ≤ℤ z → z ≡ pos (unsigned_abs z)
    nonnegative (pos n) h = refl
    nonnegative (negsuc n) h = absurd (omega (arith, signed_arith))

-- the text of a stamp reads as the stamp
pub read_stamp-stamp_text : (t : ℤ) → IsStamp t → read_stamp (stamp_text t) ≡ Some t
unfolding stamp_text
read_stamp-stamp_text t h =
    let f = civil_of-number (day_of t) (omega (arith, signed_arith, h.0)) (omega (arith, signed_arith, h.1)) in
    let clock : pos (clock_of t) ≡ int_rem_euclid t (pos 8_640_000_000) = omega (arith, signed_arith) in
    read_stamp-text (civil_of (day_of t)) (clock_of t) f.0 f.1 (omega (arith, signed_arith, clock))
    ∙ ap Some (units_back t _ _ f.2 clock)
