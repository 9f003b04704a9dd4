-- Days moved by whole months.
use Rattle.std.proofs.Common.{◌≡◌, ℕ, ◌+◌, ◌<◌, ◌≤◌, Bool, true, false, ◌&&◌, refl, sym, ap, ◌∙◌, arith, ℤ, pos, negsuc, ◌+ℤ◌, ◌<ℤ◌, ◌≤ℤ◌, unsigned_abs, Some, None}
use Rattle.std.specs.Prelude.{int_lt}
use Rattle.std.specs.Int.{int_div_euclid, int_rem_euclid}
use Rattle.std.proofs.lemmas.Int.{by_lt_z, ints}
use Rattle.jiff_core.specs.declared.civil.date.Date.{Date}
use Rattle.jiff_core.specs.Calendar.{IsCivilDate, days_from_civil}
use Rattle.jiff_core.proofs.SignedLemmas.{signed_arith}
use Rattle.jiff_core.proofs.CalendarLemmas.{days_in_month_bounds}
use Rattle.jiff_span.specs.Months.{month_number, add_months, shifted_year, shifted_month, shifted_day, IsShiftable}
use Rattle.jiff_span.proofs.MonthLemmas.{shift_parts, days_from_civil-month}
use Rattle.ts_base.specs.Moment.{Civil, month_of, in_month, days_after}
use Rattle.ts_base.proofs.CivilLemmas.{civil, natural}

int_lt_yes : (a b : ℤ) → a <ℤ b → int_lt a b ≡ true
int_lt_yes a b h = grind (arith, ints)

int_lt_no : (a b : ℤ) → b ≤ℤ a → int_lt a b ≡ false
int_lt_no a b h = grind (arith, ints)

and-false : (b : Bool) → (b && false) ≡ false
and-false true = refl
and-false false = refl

in_month-low : (n : ℤ) (day : ℕ) → int_div_euclid n (pos 12) ≤ℤ pos 0 → in_month n day ≡ None
in_month-low n day h = rw (int_lt_no (pos 0) (int_div_euclid n (pos 12)) h)

in_month-high : (n : ℤ) (day : ℕ) → pos 10_000 ≤ℤ int_div_euclid n (pos 12) → in_month n day ≡ None
in_month-high n day h = rw (int_lt_no (int_div_euclid n (pos 12)) (pos 10_000) h, and-false (int_lt (pos 0) (int_div_euclid n (pos 12))))

in_month-some : (n : ℤ) (day : ℕ) → pos 1 ≤ℤ int_div_euclid n (pos 12) → int_div_euclid n (pos 12) ≤ℤ pos 9999
    → in_month n day ≡ Some (days_from_civil (int_div_euclid n (pos 12)) (unsigned_abs (int_rem_euclid n (pos 12)) + 1) day)
in_month-some n day low high = rw (int_lt_yes (pos 0) (int_div_euclid n (pos 12)) (omega (arith, signed_arith)), int_lt_yes (int_div_euclid n (pos 12)) (pos 10_000) (omega (arith, signed_arith)))

-- no year is so many months away
pub far : (c : Civil) (k : ℤ) → c.year ≤ 9999 → c.month ≤ 12 → 200_000 < unsigned_abs k → days_after c k ≡ None
far c (pos n) year month h = in_month-high (month_of c +ℤ pos n) c.day (omega (arith, signed_arith))
far c (negsuc n) year month h = in_month-low (month_of c +ℤ negsuc n) c.day (omega (arith, signed_arith))

same_number : (d : Date) (k : ℤ) → pos 1 ≤ℤ d.year → month_of (civil (unsigned_abs d.year) d.month d.day) +ℤ k ≡ month_number d +ℤ k
same_number d k low =
    let y : d.year ≡ pos (unsigned_abs d.year) = natural d.year low in
    omega (arith, signed_arith)

days_after-date : (d : Date) (k : ℤ) → pos 1 ≤ℤ d.year → days_after (civil (unsigned_abs d.year) d.month d.day) k ≡ in_month (month_number d +ℤ k) d.day
days_after-date d k low = ap (λ n. in_month n d.day) (same_number d k low)

pub moved_not : (d : Date) (k : ℤ) → pos 1 ≤ℤ d.year → (IsShiftable d k → ⊥) → days_after (civil (unsigned_abs d.year) d.month d.day) k ≡ None
moved_not d k low refused =
    days_after-date d k low ∙
    by_lt_z (shifted_year d k) (pos 1)
    (λ lt. in_month-low (month_number d +ℤ k) d.day (omega (arith, signed_arith)))
    (λ ge. by_lt_z (shifted_year d k) (pos 10_000)
    (λ lt. absurd (refused (omega (arith, signed_arith), omega (arith, signed_arith))))
    (λ high. in_month-high (month_number d +ℤ k) d.day high))

year-moved : (d e : Date) (k : ℤ) → month_number e ≡ month_number d +ℤ k → shifted_year d k ≡ e.year
year-moved d e k h = (shift_parts d k e.year e.month (sym h) e.month_in.0 e.month_in.1).0

pub moved_low : (d e : Date) (k : ℤ) → pos 1 ≤ℤ d.year → month_number e ≡ month_number d +ℤ k → e.year ≤ℤ pos 0 → days_after (civil (unsigned_abs d.year) d.month d.day) k ≡ None
moved_low d e k low h before =
    days_after-date d k low ∙ in_month-low (month_number d +ℤ k) d.day (rw (year-moved d e k h) before)

pub moved_to : (d e : Date) (k : ℤ) → pos 1 ≤ℤ d.year → month_number e ≡ month_number d +ℤ k → d.day ≤ 28 → pos 1 ≤ℤ e.year
    → days_after (civil (unsigned_abs d.year) d.month d.day) k ≡ Some (add_months d k)
moved_to d e k low h early from =
    let year = year-moved d e k h in
    let bound = e.year_in in
    let dim = days_in_month_bounds (shifted_year d k) (shifted_month d k) in
    let day : d.day ≡ shifted_day d k = omega (arith, dim.1) in
    days_after-date d k low
    ∙ in_month-some (month_number d +ℤ k) d.day (rw year from) (rw year bound.1)
    ∙ ap (λ n. Some (days_from_civil (shifted_year d k) (shifted_month d k) n)) day

-- the months rise: a later month number has a later day number, whatever the two days of the month
pub months-rise : (n k : ℤ) (day₁ day₂ : ℕ) → n <ℤ k
    → IsCivilDate (int_div_euclid n (pos 12)) (unsigned_abs (int_rem_euclid n (pos 12)) + 1) day₁ → 1 ≤ day₂
    → days_from_civil (int_div_euclid n (pos 12)) (unsigned_abs (int_rem_euclid n (pos 12)) + 1) day₁
    <ℤ days_from_civil (int_div_euclid k (pos 12)) (unsigned_abs (int_rem_euclid k (pos 12)) + 1) day₂
months-rise n k day₁ day₂ lt valid some =
    days_from_civil-month (int_div_euclid n (pos 12)) (int_div_euclid k (pos 12)) _ _ day₁ day₂ valid
    (omega arith) (omega (arith, signed_arith)) some
    (omega (arith, signed_arith))
