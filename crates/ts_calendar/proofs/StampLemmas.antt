-- Numbers that are stamps, and the dates of stamps.
use Rattle.std.proofs.Common.{◌≡◌, ◌<◌, ◌≤◌, true, false, arith, ℤ, pos, negsuc, ◌+ℤ◌, ◌*ℤ◌, ◌≤ℤ◌, ◌<ℤ◌, Some, None}
use Rattle.std.specs.Prelude.{int_lt}
use Rattle.std.proofs.lemmas.Int.{by_lt_z, ints}
use Rattle.jiff_core.specs.Calendar.{days_from_civil, IsCivilDate}
use Rattle.jiff_core.proofs.SignedLemmas.{signed_arith}
use Rattle.ts_base.specs.Moment.{IsStamp, stamp_if_any, civil_of, day_of, clock_of}
use Rattle.ts_base.proofs.CivilValid.{civil_of-number}

pub int_lt_yes : (a b : ℤ) → a <ℤ b → int_lt a b ≡ true
int_lt_yes a b h = grind (arith, ints)

pub int_lt_no : (a b : ℤ) → b ≤ℤ a → int_lt a b ≡ false
int_lt_no a b h = grind (arith, ints)

-- a test of order that was answered
pub int_lt-true : (a b : ℤ) → int_lt a b ≡ true → a <ℤ b
int_lt-true a b h = by_lt_z a b (λ lt. lt) (λ ge. absurd (let no = int_lt_no a b ge in cc))

pub int_lt-false : (a b : ℤ) → int_lt a b ≡ false → b ≤ℤ a
int_lt-false a b h = by_lt_z a b (λ lt. absurd (let yes_ = int_lt_yes a b lt in cc)) (λ ge. ge)

-- no stamp comes before the year 1
pub stamp-low : (t : ℤ) → t <ℤ negsuc 6_213_559_679_999_999 → stamp_if_any t ≡ None
stamp-low t h = rw (int_lt_yes t (negsuc 6_213_559_679_999_999) h)

-- nor after the year 9999
pub stamp-high : (t : ℤ) → negsuc 6_213_559_679_999_999 ≤ℤ t → pos 25_340_230_079_999_999 <ℤ t → stamp_if_any t ≡ None
stamp-high t low h = rw (int_lt_no t (negsuc 6_213_559_679_999_999) low, int_lt_yes (pos 25_340_230_079_999_999) t h)

pub stamp-some : (t : ℤ) → IsStamp t → stamp_if_any t ≡ Some t
stamp-some t h = rw (int_lt_no t (negsuc 6_213_559_679_999_999) h.0, int_lt_no (pos 25_340_230_079_999_999) t h.1)

-- what a stamp that is there tells
pub stamp-is : (t f : ℤ) → stamp_if_any t ≡ Some f → (f ≡ t) × IsStamp t
stamp-is t f e =
    by_lt_z t (negsuc 6_213_559_679_999_999)
    (λ lt. let none = stamp-low t lt in absurd (cc))
    (λ low. by_lt_z (pos 25_340_230_079_999_999) t
    (λ lt. let none = stamp-high t low lt in absurd (cc))
    (λ high. let here = stamp-some t (low, high) in (cc, (low, high))))

-- what one that isn't there tells
pub stamp-not : (t : ℤ) → stamp_if_any t ≡ None → negsuc 6_213_559_679_999_999 ≤ℤ t → pos 25_340_230_079_999_999 <ℤ t
stamp-not t e low = by_lt_z (pos 25_340_230_079_999_999) t (λ lt. lt) (λ high. let here = stamp-some t (low, high) in absurd (cc))

-- the date and the time of a stamp
pub record IsDated (t : ℤ) : Type 0 where
  pub year_low : 1 ≤ (civil_of (day_of t)).year
  pub valid : IsCivilDate (pos (civil_of (day_of t)).year) (civil_of (day_of t)).month (civil_of (day_of t)).day
  pub number : days_from_civil (pos (civil_of (day_of t)).year) (civil_of (day_of t)).month (civil_of (day_of t)).day ≡ day_of t
  pub clock : clock_of t < 8_640_000_000
  pub whole : t ≡ day_of t *ℤ pos 8_640_000_000 +ℤ pos (clock_of t)

pub dated : (t : ℤ) → IsStamp t → IsDated t
dated t h =
    let low : negsuc 719_161 ≤ℤ day_of t = omega (arith, signed_arith, h.0, h.1) in
    let high : day_of t ≤ℤ pos 2_932_896 = omega (arith, signed_arith, h.0, h.1) in
    let n = civil_of-number (day_of t) low high in
    record {
      year_low = n.0;
      valid = n.1;
      number = n.2;
      clock = omega (arith, signed_arith);
      whole = omega (arith, signed_arith);
    }
