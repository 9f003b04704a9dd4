-- The date that is found year by year and month by month is the date that was counted.
use Rattle.std.proofs.Common.{Some, true, false, ◌≡◌, ℕ, zero, suc, ◌+◌, ◌-◌, ◌<◌, ◌≤◌, inl, inr, nat_lt, refl, arith, ℤ, pos, negsuc, ◌+ℤ◌, ◌≤ℤ◌, unsigned_abs}
use Rattle.std.proofs.lemmas.Bool.{cases_lt}
use Rattle.std.proofs.lemmas.Int.{by_lt_z}
use Rattle.std.proofs.lemmas.Bool.Decides.{nat_tests}
use Rattle.jiff_core.specs.Calendar.{days_in_year, days_in_month, days_of_months, day_of_year, day_count, days_from_civil, IsCivilDate}
use Rattle.jiff_core.proofs.SignedLemmas.{signed_arith}
use Rattle.jiff_core.proofs.CalendarLemmas.{days_of_months_more, days_of_months_mono, days_of_months-zero, day_count-day_of_year, day_count-next_year, day_count-later_year, day_count-lt_year, day_count_bounds, day_of_year_bound, days_from_civil-day_count}
use Rattle.jiff_core.proofs.MarchLemmas.{day_count-early}
use Rattle.ts_base.specs.Moment.{Moment, stamp_at, units_of, Civil, civil_in_year, civil_in_years, civil_of}

abbrev pub civil : ℕ → ℕ → ℕ → Civil
civil y m d = record { year = y; month = m; day = d }

pub lt_yes : (a b : ℕ) → a < b → nat_lt a b ≡ true
lt_yes a b h = grind (arith, nat_tests)

pub lt_no : (a b : ℕ) → b ≤ a → nat_lt a b ≡ false
lt_no a b h = grind (arith, nat_tests)

civil_in_year-found : (more y m rest m₂ d : ℕ) → 1 ≤ m → m ≤ m₂ → m₂ ≤ m + more → 1 ≤ d → d ≤ days_in_month (pos y) m₂
    → rest + days_of_months (pos y) (m - 1) + 1 ≡ days_of_months (pos y) (m₂ - 1) + d → civil_in_year more y m rest ≡ civil y m₂ d
unfolding civil_in_year
civil_in_year-found zero y m rest m₂ d low up top first last e =
    let same : m ≡ m₂ = omega arith in
    let day : rest + 1 ≡ d = omega (arith, rw same at e) in
    rw (same, day)
civil_in_year-found (suc more) y m rest m₂ d low up top first last e =
    elim (cases_lt m m₂) [
      | inl lt ↦
          let next : m + 1 - 1 ≡ m = omega arith in
          let here = days_of_months_more (pos y) m low in
          let past : days_of_months (pos y) m ≤ days_of_months (pos y) (m₂ - 1) = days_of_months_mono (pos y) m (m₂ - 1) (omega arith) in
          let over : nat_lt rest (days_in_month (pos y) m) ≡ false = lt_no _ _ (omega arith) in
          rw over (civil_in_year-found more y (m + 1) (rest - days_in_month (pos y) m) m₂ d (omega arith) (omega arith) (omega arith) first last (rw next (omega arith)))
      | inr ge ↦
          let same : m ≡ m₂ = omega arith in
          let day : rest + 1 ≡ d = omega (arith, rw same at e) in
          let within : nat_lt rest (days_in_month (pos y) m) ≡ true = lt_yes _ _ (rw same (omega arith)) in
          rw within (rw (same, day))
    ]

civil_in_year-whole : (y rest m d : ℕ) → IsCivilDate (pos y) m d → rest + 1 ≡ day_of_year (pos y) m d → civil_in_year 12 y 1 rest ≡ civil y m d
civil_in_year-whole y rest m d h e =
    civil_in_year-found 12 y 1 rest m d (omega arith) h.1.0 (omega arith) h.2.0 h.2.1 (omega (arith, days_of_months-zero (pos y)))

civil_in_years-found : (more y rest y₂ m d : ℕ) → IsCivilDate (pos y₂) m d → y ≤ y₂ → y₂ ≤ y + more
    → rest + day_count (pos y) 1 1 ≡ day_count (pos y₂) m d → civil_in_years more y rest ≡ civil y₂ m d
unfolding civil_in_years
civil_in_years-found zero y rest y₂ m d h low up e =
    let same : y ≡ y₂ = omega arith in
    rw same (civil_in_year-whole y₂ rest m d h (omega (arith, rw same at e, day_count-day_of_year (pos y₂) m d h.2.0)))
civil_in_years-found (suc more) y rest y₂ m d h low up e =
    elim (cases_lt y y₂) [
      | inl lt ↦
          let after = day_count-later_year (pos y) (pos y₂) (omega (arith, signed_arith)) (omega (arith, signed_arith)) in
          let next = day_count-next_year (pos y) (pos (y + 1)) (omega (arith, signed_arith)) (omega (arith, signed_arith)) in
          let over : nat_lt rest (days_in_year (pos y)) ≡ false = lt_no _ _ (omega (arith, day_count-day_of_year (pos y₂) m d h.2.0)) in
          rw over (civil_in_years-found more (y + 1) (rest - days_in_year (pos y)) y₂ m d h (omega arith) (omega arith) (omega (arith, day_count-day_of_year (pos y₂) m d h.2.0)))
      | inr ge ↦
          let same : y ≡ y₂ = omega arith in
          let place : rest + 1 ≡ day_of_year (pos y₂) m d = omega (arith, rw same at e, day_count-day_of_year (pos y₂) m d h.2.0) in
          let within : nat_lt rest (days_in_year (pos y)) ≡ true = lt_yes _ _ (rw same (omega (arith, day_of_year_bound (pos y₂) m d h))) in
          rw within (rw same (civil_in_year-whole y₂ rest m d h place))
    ]

pub day_count-first_year : day_count (pos 1) 1 1 ≡ 3_652_791
day_count-first_year = day_count-early (pos 1) 10000 1 1 refl (omega arith) (omega arith) (omega arith)

first_year_first : (y : ℕ) → 1 ≤ y → 3_652_791 ≤ day_count (pos y) 1 1
first_year_first y h =
    elim (cases_lt 1 y) [
      | inl lt ↦ omega (arith, day_count-first_year, day_count-later_year (pos 1) (pos y) (omega (arith, signed_arith)) (omega (arith, signed_arith)))
      | inr le ↦ let same : y ≡ 1 = omega arith in rw same (omega (arith, day_count-first_year))
    ]

-- the date of the day number of a date is that date
pub civil_of-days : (y m d : ℕ) → 1 ≤ y → IsCivilDate (pos y) m d → civil_of (days_from_civil (pos y) m d) ≡ civil y m d
unfolding civil_of
civil_of-days y m d low h =
    let n = day_count (pos y) m d - 3_652_791 in
    let first = first_year_first y low in
    let place = day_count-day_of_year (pos y) m d h.2.0 in
    let e : days_from_civil (pos y) m d +ℤ pos 719_162 ≡ pos n = omega (arith, signed_arith, days_from_civil-day_count (pos y) m d) in
    rw e (civil_in_years-found 9999 1 n y m d h low (omega (arith, signed_arith)) (omega (arith, day_count-first_year)))

year_from : (y : ℤ) (m d : ℕ) → IsCivilDate y m d → negsuc 719_161 ≤ℤ days_from_civil y m d → pos 1 ≤ℤ y
year_from y m d h low =
    by_lt_z y (pos 1)
    (λ lt. absurd (omega (arith, signed_arith, days_from_civil-day_count y m d, day_count-lt_year y m d (pos 1) 1 1 h (omega arith) lt, day_count-first_year)))
    (λ ge. ge)

pub natural : (y : ℤ) → pos 1 ≤ℤ y → y ≡ pos (unsigned_abs y)
natural (pos n) h = refl
natural (negsuc n) h = absurd (omega (arith, signed_arith))

-- the date of a day number from 0001-01-01 on has the parts of any date with that number
pub civil_of-date : (y : ℤ) (m d : ℕ) (day : ℤ) → IsCivilDate y m d → days_from_civil y m d ≡ day → negsuc 719_161 ≤ℤ day
    → (civil_of day ≡ civil (unsigned_abs y) m d) × (pos 1 ≤ℤ y)
civil_of-date y m d day h e low =
    let from : pos 1 ≤ℤ y = year_from y m d h (rw e low) in
    let n = natural y from in
    let found = civil_of-days (unsigned_abs y) m d (omega (arith, signed_arith)) (rw (← n) h) in
    (rw (← e) (rw (← n) at found), from)

-- the day numbers of the years 1 to 9999
pub days_bounds : (y : ℤ) (m d : ℕ) → IsCivilDate y m d → pos 1 ≤ℤ y → (negsuc 719_161 ≤ℤ days_from_civil y m d) × (days_from_civil y m d ≤ℤ pos 2_932_896)
days_bounds y m d h low =
    let n = natural y low in
    let first = rw (← n) at (first_year_first (unsigned_abs y) (omega (arith, signed_arith))) in
    omega (arith, signed_arith, days_from_civil-day_count y m d, first, day_count-day_of_year y m d h.2.0, day_count_bounds y m d h)

-- the stamp of a moment that the calendar has
pub stamp_at-moment : (m : Moment) → 1 ≤ m.year → IsCivilDate (pos m.year) m.month m.day → m.hour < 24 → m.minute < 60 → m.second < 60 → m.fraction < 100_000 → stamp_at m ≡ Some (units_of m)
stamp_at-moment m low h hour minute second fraction = grind (arith, nat_tests)

pub same_parts : (y y₂ : ℤ) (m m₂ d d₂ : ℕ) → y ≡ y₂ → m ≡ m₂ → d ≡ d₂ → IsCivilDate y m d → IsCivilDate y₂ m₂ d₂ × (days_from_civil y m d ≡ days_from_civil y₂ m₂ d₂)
same_parts y y₂ m m₂ d d₂ a b c h = (rw (← a, ← b, ← c) h, cc)
