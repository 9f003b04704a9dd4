-- A number that is read is the longest.
use Rattle.std.proofs.Common.{◌≡◌, ◌⊎◌, ℕ, zero, suc, ◌+◌, ◌-◌, ◌<◌, ◌≤◌, ◌==◌, true, false, cond, IsTrue, List, [], ◌∷◌, ◌++◌, length, take, drop, take-append-drop, length-append, append_assoc, nat_le, Some, refl, sym, ◌∙◌, ap, arith, inl, inr}
use Rattle.std.proofs.Math.Seq.{take-add, drop-append_seam}
use Rattle.std.proofs.lemmas.Bool.{cases_eq, and_parts}
use Rattle.std.proofs.lemmas.Bool.Decides.{nat_tests}
use Rattle.std.proofs.lemmas.List.{length-take}
use Rattle.std.proofs.lemmas.List.Sums.{sum_by-append}
use Rattle.std.specs.List.{list_all}
use Rattle.std.specs.Char.{is_ascii_digit}
use Rattle.ts_tokens.proofs.RunLemmas.{short_run_passes}
use Rattle.ts_text.specs.Phrase.{digit_count, digits_in_front}
use Rattle.ts_tokens.specs.NumberForm.{are_digits, IsMagnitude, HasSign, IsNumber}
use Rattle.ts_tokens.specs.Tokens.{fraction_length, magnitude_length, signed_length, number_length}
use Rattle.ts_tokens.proofs.TokenLengths.{number_digits, digits_in_front-within}

-- the two parts of what digits are
pub digits_parts : (text : List ℕ) → IsTrue (are_digits text) → (1 ≤ length text) × (list_all is_ascii_digit text ≡ true)
digits_parts text is =
    let parts = and_parts (nat_le 1 (length text)) (list_all is_ascii_digit text) is in
    (grind (arith, nat_tests, parts.0), parts.1)

pub digits_made : (text : List ℕ) → 1 ≤ length text → list_all is_ascii_digit text ≡ true → IsTrue (are_digits text)
digits_made text some all = grind (arith, nat_tests)

pub count-append : (a b : List ℕ) → digit_count (a ++ b) ≡ digit_count a + digit_count b
count-append a b = sum_by-append (λ (x : ℕ). cond (is_ascii_digit x) 1 0) a b

-- digits alone are counted each
count_digits : (text : List ℕ) → list_all is_ascii_digit text ≡ true → digit_count text ≡ length text
count_digits [] all = refl
count_digits (b ∷ text) all =
    let parts = and_parts (is_ascii_digit b) (list_all is_ascii_digit text) all in
    let more = count_digits text parts.1 in
    let one : digit_count (b ∷ []) ≡ 1 = rw parts.0 refl in
    omega (arith, more, one, count-append (b ∷ []) text)

-- digits that stand in front are all counted, where there is room
reaches : (digits rest : List ℕ) (room : ℕ) → list_all is_ascii_digit digits ≡ true → length digits ≤ room → length digits ≤ digits_in_front room (digits ++ rest)
reaches [] rest room all fits = omega arith
reaches (b ∷ digits) rest zero all fits = absurd (omega arith)
reaches (b ∷ digits) rest (suc room) all fits =
    let parts = and_parts (is_ascii_digit b) (list_all is_ascii_digit digits) all in
    let more = reaches digits rest room parts.1 (omega arith) in
    rw parts.0 (omega (arith, more))

-- and no more where another byte stands behind them
pub stops : (digits rest : List ℕ) (b room : ℕ) → list_all is_ascii_digit digits ≡ true → is_ascii_digit b ≡ false → length digits ≤ room → digits_in_front room (digits ++ b ∷ rest) ≡ length digits
stops [] rest b zero all other fits = refl
stops [] rest b (suc room) all other fits = rw other refl
stops (a ∷ digits) rest b zero all other fits = absurd (omega arith)
stops (a ∷ digits) rest b (suc room) all other fits =
    let parts = and_parts (is_ascii_digit a) (list_all is_ascii_digit digits) all in
    let more = stops digits rest b room parts.1 other (omega arith) in
    rw parts.0 (omega (arith, more))

-- what was counted is digits
counted : (room : ℕ) (s : List ℕ) → 1 ≤ digits_in_front room s → IsTrue (are_digits (take (digits_in_front room s) s))
counted room s some =
    digits_made (take (digits_in_front room s) s) (omega (arith, length-take (digits_in_front room s) s, digits_in_front-within room s)) (short_run_passes is_ascii_digit room s)

-- a point and digits, or nothing
fraction_form : (room : ℕ) (s : List ℕ) → (fraction_length room s ≡ 0) ⊎ ((fraction : List ℕ) × (take (fraction_length room s) s ≡ 46 ∷ fraction) × IsTrue (are_digits fraction))
unfolding fraction_length
fraction_form room [] = inl refl
fraction_form room (b ∷ s) = elim (cases_eq b 46) [
  | inr other ↦ let differs : (b == 46) ≡ false = grind (arith, nat_tests) in rw differs (inl refl)
  | inl is ↦ elim (cases_eq (digits_in_front room s) 0) [
    | inl none ↦ rw (is, none) (inl refl)
    | inr some ↦
        let d : ℕ = digits_in_front room s in
        let differs : (d == 0) ≡ false = grind (arith, nat_tests) in
        let next : 1 + d ≡ suc d = omega arith in
        rw (is, differs, next) (inr (take d s, refl, counted room s (omega arith)))
  ]
]

-- what is read without a sign is digits, and maybe a point and digits
magnitude_form : (s : List ℕ) → 0 < magnitude_length s → IsMagnitude (take (magnitude_length s) s)
unfolding magnitude_length
magnitude_form s some = elim (cases_eq (digits_in_front 38 s) 0) [
  | inl none ↦ absurd (let no = rw none at some in omega (arith, no))
  | inr any ↦
      let w : ℕ = digits_in_front 38 s in
      let differs : (w == 0) ≡ false = grind (arith, nat_tests) in
      let whole : IsTrue (are_digits (take w s)) = counted 38 s (omega arith) in
      rw differs (by_fraction w whole (fraction_form (38 - w) (drop w s)))
] where
  by_fraction : (w : ℕ) → IsTrue (are_digits (take w s)) → (fraction_length (38 - w) (drop w s) ≡ 0) ⊎ ((fraction : List ℕ) × (take (fraction_length (38 - w) (drop w s)) (drop w s) ≡ 46 ∷ fraction) × IsTrue (are_digits fraction)) → IsMagnitude (take (w + fraction_length (38 - w) (drop w s)) s)
  by_fraction w whole (inl none) = let size : w + fraction_length (38 - w) (drop w s) ≡ w = omega (arith, none) in rw size (inl whole)
  by_fraction w whole (inr found) = inr (record {
    whole = take w s;
    fraction = found.0;
    split = take-add w (fraction_length (38 - w) (drop w s)) s ∙ ap (λ (l : List ℕ). take w s ++ l) found.1;
    before = whole;
    behind = found.2;
  })

-- a number without a sign has a byte, and begins with a digit
magnitude_some : (text : List ℕ) → IsMagnitude text → 1 ≤ length text
magnitude_some text (inl digits) = (digits_parts text digits).0
magnitude_some text (inr point) = omega (arith, ap length point.split, length-append point.whole (46 ∷ point.fraction))

first_of : (b : ℕ) (text whole rest : List ℕ) → b ∷ text ≡ whole ++ rest → IsTrue (are_digits whole) → is_ascii_digit b ≡ true
first_of b text [] rest split digits = absurd (let no = (digits_parts [] digits).0 in omega (arith, no))
first_of b text (c ∷ whole) rest split digits =
    let same : b ≡ c = cc in
    rw same (and_parts (is_ascii_digit c) (list_all is_ascii_digit whole) (digits_parts (c ∷ whole) digits).1).0

begins : (b : ℕ) (text : List ℕ) → IsMagnitude (b ∷ text) → is_ascii_digit b ≡ true
begins b text (inl digits) = (and_parts (is_ascii_digit b) (list_all is_ascii_digit text) (digits_parts (b ∷ text) digits).1).0
begins b text (inr point) = first_of b text point.whole (46 ∷ point.fraction) point.split point.before

-- of what stands in front none without a sign is longer
magnitude_longest : (s : List ℕ) (n : ℕ) → n ≤ length s → IsMagnitude (take n s) → digit_count (take n s) ≤ 38 → n ≤ magnitude_length s
unfolding magnitude_length fraction_length
magnitude_longest s n within (inl digits) few =
    let parts = digits_parts (take n s) digits in
    let size : length (take n s) ≡ n = omega (arith, length-take n s) in
    let most : length (take n s) ≤ 38 = omega (arith, count_digits (take n s) parts.1) in
    let reached : length (take n s) ≤ digits_in_front 38 (take n s ++ drop n s) = reaches (take n s) (drop n s) 38 parts.1 most in
    let again : length (take n s) ≤ digits_in_front 38 s = rw (take-append-drop n s) at reached in
    let w : ℕ = digits_in_front 38 s in
    let some : 1 ≤ w = omega (arith, parts.0) in
    let differs : (w == 0) ≡ false = grind (arith, nat_tests) in
    rw differs (omega arith)
magnitude_longest s n within (inr point) few =
    let whole = digits_parts point.whole point.before in
    let fraction = digits_parts point.fraction point.behind in
    let rest : List ℕ = point.fraction ++ drop n s in
    let bytes : s ≡ point.whole ++ 46 ∷ rest = sym (take-append-drop n s) ∙ ap (λ (l : List ℕ). l ++ drop n s) point.split ∙ append_assoc point.whole (46 ∷ point.fraction) (drop n s) in
    let size : n ≡ length point.whole + (1 + length point.fraction) = omega (arith, length-take n s, ap length point.split, length-append point.whole (46 ∷ point.fraction)) in
    let digits : length point.whole + length point.fraction ≤ 38 =
    omega (arith, few, ap digit_count point.split, count-append point.whole (46 ∷ point.fraction), count_digits point.whole whole.1, count_digits point.fraction fraction.1) in
    let w : ℕ = length point.whole in
    let counted_is : digits_in_front 38 s ≡ w = ap (digits_in_front 38) bytes ∙ stops point.whole rest 46 38 whole.1 refl (omega arith) in
    let behind : drop w s ≡ 46 ∷ rest = ap (drop w) bytes ∙ drop-append_seam point.whole (46 ∷ rest) in
    let reached : length point.fraction ≤ digits_in_front (38 - w) rest = reaches point.fraction (drop n s) (38 - w) fraction.1 (omega arith) in
    let some : (w == 0) ≡ false = let above : 1 ≤ w = whole.0 in grind (arith, nat_tests) in
    let some_behind : (digits_in_front (38 - w) rest == 0) ≡ false = let above : 1 ≤ length point.fraction = fraction.0 in grind (arith, nat_tests) in
    rw (counted_is, some, behind, some_behind) (omega arith)

-- what is read is a number
pub number_form : (s : List ℕ) (size : ℕ) → number_length s ≡ Some size → IsNumber (take size s)
unfolding number_length
number_form s size is = (by_sign s size is, (number_digits s size is).0) where
  unsigned : (s : List ℕ) (n : ℕ) → signed_length 0 (magnitude_length s) ≡ Some n → IsMagnitude (take n s) ⊎ HasSign (take n s)
  unsigned s n e = elim (cases_eq (magnitude_length s) 0) [
    | inl none ↦ absurd (let no = rw none at e in cc)
    | inr some ↦
        let m : ℕ = magnitude_length s in
        let differs : (m == 0) ≡ false = grind (arith, nat_tests) in
        let at = rw differs at e in
        let same : 0 + m ≡ n = cc in
        let is_m : n ≡ m = omega (arith, same) in
        rw is_m (inl (magnitude_form s (omega arith)))
  ]

  signed : (s : List ℕ) (n : ℕ) → signed_length 1 (magnitude_length s) ≡ Some n → IsMagnitude (take n (45 ∷ s)) ⊎ HasSign (take n (45 ∷ s))
  signed s n e = elim (cases_eq (magnitude_length s) 0) [
    | inl none ↦ absurd (let no = rw none at e in cc)
    | inr some ↦
        let m : ℕ = magnitude_length s in
        let differs : (m == 0) ≡ false = grind (arith, nat_tests) in
        let at = rw differs at e in
        let same : 1 + m ≡ n = cc in
        let is_m : n ≡ suc m = omega (arith, same) in
        rw is_m (inr (record { magnitude = take m s; split = refl; form = magnitude_form s (omega arith) }))
  ]

  by_sign : (s : List ℕ) (n : ℕ) → number_length s ≡ Some n → IsMagnitude (take n s) ⊎ HasSign (take n s)
  by_sign [] n e = absurd (cc)
  by_sign (b ∷ s) n e = elim (cases_eq b 45) [
    | inl minus ↦ rw minus (signed s n (rw minus at e))
    | inr other ↦ let differs : (b == 45) ≡ false = grind (arith, nat_tests) in unsigned (b ∷ s) n (rw differs at e)
  ]

-- where a number stands one is read, and no shorter one
pub number_longest : (s : List ℕ) (n : ℕ) → n ≤ length s → IsNumber (take n s) → (m : ℕ) × (number_length s ≡ Some m) × (n ≤ m)
unfolding number_length
number_longest [] n within is = absurd (nothing n is.0) where
  nothing : (n : ℕ) → IsMagnitude (take n []) ⊎ HasSign (take n []) → ⊥
  nothing zero (inl form) = absurd (let no = magnitude_some [] form in omega (arith, no))
  nothing zero (inr sign) = absurd (let no = sign.split in cc)
  nothing (suc n) (inl form) = absurd (let no = magnitude_some [] form in omega (arith, no))
  nothing (suc n) (inr sign) = absurd (let no = sign.split in cc)
number_longest (b ∷ s) zero within is = absurd (nothing is.0) where
  nothing : IsMagnitude [] ⊎ HasSign [] → ⊥
  nothing (inl form) = absurd (let no = magnitude_some [] form in omega (arith, no))
  nothing (inr sign) = absurd (let no = sign.split in cc)
number_longest (b ∷ s) (suc n) within is = by_form is.0 where
  found : (sign m size : ℕ) → 1 ≤ m → size ≤ sign + m → (k : ℕ) × (signed_length sign m ≡ Some k) × (size ≤ k)
  found sign m size some le = let differs : (m == 0) ≡ false = grind (arith, nat_tests) in rw differs (sign + m, refl, le)

  by_form : IsMagnitude (b ∷ take n s) ⊎ HasSign (b ∷ take n s) → (m : ℕ) × (number_length (b ∷ s) ≡ Some m) × (suc n ≤ m)
  by_form (inl form) =
      let digit : is_ascii_digit b ≡ true = begins b (take n s) form in
      let differs : (b == 45) ≡ false = grind (arith, nat_tests) in
      let le : suc n ≤ magnitude_length (b ∷ s) = magnitude_longest (b ∷ s) (suc n) within form is.1 in
      rw differs (found 0 (magnitude_length (b ∷ s)) (suc n) (omega arith) (omega arith))
  by_form (inr sign) =
      let minus : b ≡ 45 = let e = sign.split in cc in
      let rest : take n s ≡ sign.magnitude = let e = sign.split in cc in
      let form : IsMagnitude (take n s) = rw rest sign.form in
      let few : digit_count (take n s) ≤ 38 = omega (arith, is.1, count-append (b ∷ []) (take n s)) in
      let le : n ≤ magnitude_length s = magnitude_longest s n (omega arith) form few in
      let some : 1 ≤ n = omega (arith, magnitude_some (take n s) form, length-take n s) in
      rw minus (found 1 (magnitude_length s) (suc n) (omega arith) (omega arith))
