-- What the form of a stamp's text gives.
use Rattle.std.proofs.Common.{◌≡◌, ℕ, ◌+◌, ◌-◌, ◌*◌, ◌^◌, ◌<◌, ◌≤◌, inl, inr, Fits, w32, true, false, ◌&&◌, List, take, drop, length, get_or, arith, IsTrue}
use Rattle.std.proofs.lemmas.Bool.{and_parts}
use Rattle.std.proofs.Math.Nat.{pow-le-pow_right}
use Rattle.std.proofs.lemmas.Grind.{pow_more}
use Rattle.std.proofs.lemmas.List.Folds.{list_all_at}
use Rattle.std.proofs.lemmas.Bool.{cases_lt}
use Rattle.std.specs.Char.{is_ascii_digit}
use Rattle.std.proofs.lemmas.Bool.Decides.{nat_tests}
use Rattle.ts_base.specs.Moment.{has_stamp_form, has_stamp_length, has_stamp_digits, has_stamp_signs, all_digits}

pub record FormFacts (s : List ℕ) : Type 0 where
  pub year : IsTrue (all_digits (take 4 s))
  pub month : IsTrue (all_digits (take 2 (drop 5 s)))
  pub day : IsTrue (all_digits (take 2 (drop 8 s)))
  pub hour : IsTrue (all_digits (take 2 (drop 11 s)))
  pub minute : IsTrue (all_digits (take 2 (drop 14 s)))
  pub second : IsTrue (all_digits (take 2 (drop 17 s)))
  pub fraction : IsTrue (all_digits (drop 20 s))
  pub least : 19 ≤ length s
  pub most : length s ≤ 25

length_facts : (s : List ℕ) → has_stamp_length s ≡ true → (19 ≤ length s) × (length s ≤ 25)
length_facts s h = grind (arith, nat_tests)

pub form_facts : (s : List ℕ) → has_stamp_form s ≡ true → FormFacts s
form_facts s h =
    let both = and_parts (has_stamp_length s && has_stamp_signs s) (has_stamp_digits s) h in
    let first = and_parts (has_stamp_length s) (has_stamp_signs s) both.0 in
    let lengths = length_facts s first.0 in
    let p6 = and_parts _ _ both.1 in
    let p5 = and_parts _ _ p6.0 in
    let p4 = and_parts _ _ p5.0 in
    let p3 = and_parts _ _ p4.0 in
    let p2 = and_parts _ _ p3.0 in
    let p1 = and_parts _ _ p2.0 in
    record { year = p1.0; month = p1.1; day = p2.1; hour = p3.1; minute = p4.1; second = p5.1; fraction = p6.1; least = lengths.0; most = lengths.1 }

not_digit : (c : ℕ) → 57 < c → is_ascii_digit c ≡ false
not_digit c h = grind (arith, nat_tests)

-- a byte of digits is at most `9`
pub digit_at : (s : List ℕ) (i : ℕ) → IsTrue (all_digits s) → i < length s → get_or s i 0 ≤ 57
digit_at s i h lt =
    elim (cases_lt 57 (get_or s i 0)) [
      | inl over ↦ let no = list_all_at is_ascii_digit s i 0 lt (not_digit _ over) in cc
      | inr le ↦ le
    ]

-- one digit more keeps a number of at most nine digits in 32 bits
pub digit_room : (n i len c : ℕ) → n < 10 ^ i → i < len → len ≤ 9 → c ≤ 57 → Fits w32 (n * 10) × Fits w32 (n * 10 + (c - 48)) × (n * 10 + (c - 48) < 10 ^ (i + 1))
digit_room n i len c h lt short digit =
    let small : 10 ^ i ≤ 10 ^ 8 = pow-le-pow_right {n = 10} (omega arith) {i = i} {j = 8} (omega arith) in
    let next : 10 ^ (i + 1) ≡ 10 ^ i * 10 = pow_more 10 i in
    (omega (arith, small, next), omega (arith, small, next), omega (arith, small, next))
