-- What is written is read again.
use Rattle.std.proofs.Common.{◌≡◌, ℕ, ◌+◌, ◌*◌, ◌/◌, ◌%◌, ◌<◌, ◌≤◌, true, List, ap, ◌∙◌, arith, Some, ℤ, pos, ◌+ℤ◌, ◌*ℤ◌}
use Rattle.std.proofs.lemmas.Bool.Decides.{nat_tests}
use Rattle.std.specs.Char.{is_ascii_digit}
use Rattle.jiff_core.specs.Calendar.{IsCivilDate, days_from_civil}
use Rattle.std.specs.Int.{int_rem_euclid}
use Rattle.jiff_core.proofs.CalendarLemmas.{days_in_month_bounds}
use Rattle.jiff_core.proofs.SignedLemmas.{signed_arith}
use Rattle.ts_base.specs.Moment.{Moment, Civil, day_of, stamp_at, has_stamp_form, number_of, moment_in, read_stamp, text_of, digit, two_digits, four_digits, five_digits}
use Rattle.ts_base.proofs.CivilLemmas.{stamp_at-moment}

digit-is : (n : ℕ) → is_ascii_digit (digit n) ≡ true
digit-is n = grind (arith, nat_tests)

two : (n : ℕ) → n < 100 → number_of (two_digits n) ≡ n
two n h = omega arith

four : (n : ℕ) → n < 10_000 → number_of (four_digits n) ≡ n
four n h = omega arith

five : (n : ℕ) → n < 100_000 → number_of (five_digits n) ≡ n
five n h = omega arith

abbrev moment : ℕ → ℕ → ℕ → ℕ → ℕ → ℕ → ℕ → Moment
moment y m d h mi s f = record { year = y; month = m; day = d; hour = h; minute = mi; second = s; fraction = f }

-- the moment of a date and the units since midnight
abbrev moment_of : Civil → ℕ → Moment
moment_of c clock = record {
  year = c.year;
  month = c.month;
  day = c.day;
  hour = clock / 360_000_000;
  minute = clock / 6_000_000 % 60;
  second = clock / 100_000 % 60;
  fraction = clock % 100_000;
}

form-text : (c : Civil) (clock : ℕ) → has_stamp_form (text_of c clock) ≡ true
form-text c clock = simp digit-is

same_moment : {y y₂ m m₂ d d₂ h h₂ mi mi₂ s s₂ f f₂ : ℕ} → y ≡ y₂ → m ≡ m₂ → d ≡ d₂ → h ≡ h₂ → mi ≡ mi₂ → s ≡ s₂ → f ≡ f₂ → moment y m d h mi s f ≡ moment y₂ m₂ d₂ h₂ mi₂ s₂ f₂
same_moment a b c d e f g = cc

moment_in-text : (c : Civil) (clock : ℕ) → c.year < 10_000 → c.month < 100 → c.day < 100 → clock < 8_640_000_000 → moment_in (text_of c clock) ≡ moment_of c clock
moment_in-text c clock year month day low =
    same_moment (four c.year year) (two c.month month) (two c.day day)
    (two (clock / 360_000_000) (omega arith)) (two (clock / 6_000_000 % 60) (omega arith)) (two (clock / 100_000 % 60) (omega arith))
    (omega (arith, five (clock % 100_000) (omega arith)))

clock_parts : (clock : ℕ) → clock < 8_640_000_000 → ((clock / 360_000_000 * 60 + clock / 6_000_000 % 60) * 60 + clock / 100_000 % 60) * 100_000 + clock % 100_000 ≡ clock
clock_parts clock h = omega arith

read_stamp-form : (s : List ℕ) (m : Moment) → has_stamp_form s ≡ true → moment_in s ≡ m → read_stamp s ≡ stamp_at m
unfolding read_stamp
read_stamp-form s m form same = rw form (ap stamp_at same)

-- the text of a date and a time of day reads as their stamp
pub read_stamp-text : (c : Civil) (clock : ℕ) → 1 ≤ c.year → IsCivilDate (pos c.year) c.month c.day → clock < 8_640_000_000
    → read_stamp (text_of c clock) ≡ Some (days_from_civil (pos c.year) c.month c.day *ℤ pos 8_640_000_000 +ℤ pos clock)
read_stamp-text c clock low h small =
    let in_month = days_in_month_bounds (pos c.year) c.month in
    let form = form-text c clock in
    let same = moment_in-text c clock (omega (arith, signed_arith, h.0)) (omega arith) (omega (arith, in_month)) small in
    let stamp = stamp_at-moment (moment_of c clock) low h (omega arith) (omega arith) (omega arith) (omega arith) in
    read_stamp-form (text_of c clock) _ form same ∙ (stamp ∙ ap (λ k. Some (days_from_civil (pos c.year) c.month c.day *ℤ pos 8_640_000_000 +ℤ pos k)) (clock_parts clock small))

pub units_back : (t day : ℤ) (clock : ℕ) → day ≡ day_of t → pos clock ≡ int_rem_euclid t (pos 8_640_000_000) → day *ℤ pos 8_640_000_000 +ℤ pos clock ≡ t
units_back t day clock d e = rw d (omega (arith, signed_arith))
