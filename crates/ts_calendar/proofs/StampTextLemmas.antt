-- The text of a stamp has no closing bracket, and no blank at its two ends.
use Rattle.std.proofs.Common.{◌≡◌, ◌==◌, ℕ, zero, suc, ◌+◌, ◌-◌, ◌<◌, ◌≤◌, inl, inr, ◌⊎◌, Bool, true, false, not, ◌&&◌, nat_le, List, [], ◌∷◌, length, take, drop, get_or, reverse, refl, sym, ap, ◌∙◌, arith, Some, ℤ}
use Rattle.std.specs.Prelude.{slice_index}
use Rattle.std.specs.List.{list_all}
use Rattle.std.specs.Char.{is_ascii_digit}
use Rattle.std.proofs.lemmas.Bool.{and_parts, cases_Bool, cases_lt}
use Rattle.std.proofs.lemmas.Bool.Decides.{nat_tests}
use Rattle.std.proofs.lemmas.List.{get_or-take, get_or-drop, get_or-reverse, length-reverse, reverse-reverse}
use Rattle.std.proofs.lemmas.List.Folds.{list_all_at}
use Rattle.ts_base.specs.Name.{is_blank}
use Rattle.ts_base.specs.Moment.{has_stamp_form, has_stamp_length, has_stamp_signs, has_stamp_digits, all_digits, read_stamp}
use Rattle.ts_base.proofs.TextLemmas.{form_facts}
use Rattle.ts_text.specs.Phrase.{unblanked}
use Rattle.ts_calendar.specs.Calendars.{trimmed}

-- no closing bracket
abbrev pub is_inner : ℕ → Bool
is_inner b = not (b == 41)

inner-digit : (b : ℕ) → is_ascii_digit b ≡ true → is_inner b ≡ true
inner-digit b h = grind (arith, nat_tests)

inner-other : (b c : ℕ) → b ≡ c → (c == 41) ≡ false → is_inner b ≡ true
inner-other b c e h = rw (e, h) refl

solid-digit : (b : ℕ) → is_ascii_digit b ≡ true → is_blank b ≡ false
solid-digit b h = grind (arith, nat_tests)

eq-is : (a b : ℕ) → (a == b) ≡ true → a ≡ b
eq-is a b h = grind (arith, nat_tests)

-- a byte of digits within the text
digit-at : (s : List ℕ) (i n k j : ℕ) → all_digits (take n (drop i s)) ≡ true → k < n → k < length (take n (drop i s)) → j ≡ i + k → is_ascii_digit (get_or s j 0) ≡ true
digit-at s i n k j h lt inside e =
    let here : get_or (take n (drop i s)) k 0 ≡ get_or s j 0 = get_or-take n (drop i s) k 0 lt ∙ get_or-drop i s k 0 ∙ ap (λ m. get_or s m 0) (sym e) in
    elim (cases_Bool (is_ascii_digit (get_or s j 0))) [
      | inl digit ↦ digit
      | inr other ↦
          let no_ = list_all_at is_ascii_digit (take n (drop i s)) k 0 inside (ap is_ascii_digit here ∙ other) in
          absurd (cc)
    ]

-- where the signs stand
record HasSigns (s : List ℕ) : Type 0 where
  four : get_or s 4 0 ≡ 45
  seven : get_or s 7 0 ≡ 45
  ten : get_or s 10 0 ≡ 32
  thirteen : get_or s 13 0 ≡ 58
  sixteen : get_or s 16 0 ≡ 58

signs : (s : List ℕ) → has_stamp_form s ≡ true → HasSigns s
signs s h =
    let both = and_parts (has_stamp_length s && has_stamp_signs s) (has_stamp_digits s) h in
    let first = and_parts (has_stamp_length s) (has_stamp_signs s) both.0 in
    let p4 = and_parts _ _ first.1 in
    let p3 = and_parts _ _ p4.0 in
    let p2 = and_parts _ _ p3.0 in
    let p1 = and_parts _ _ p2.0 in
    record { four = eq-is _ _ p1.0; seven = eq-is _ _ p1.1; ten = eq-is _ _ p2.1; thirteen = eq-is _ _ p3.1; sixteen = eq-is _ _ p4.1 }

-- 19 bytes, or more with a point
length-or : (s : List ℕ) → has_stamp_form s ≡ true → (length s ≡ 19) ⊎ ((21 ≤ length s) × (get_or s 19 0 ≡ 46))
length-or s h =
    let both = and_parts (has_stamp_length s && has_stamp_signs s) (has_stamp_digits s) h in
    let first = and_parts (has_stamp_length s) (has_stamp_signs s) both.0 in
    elim (cases_Bool (length s == 19)) [
      | inl same ↦ inl (eq-is (length s) 19 same)
      | inr other ↦
          let more = rw other at first.0 in
          let parts = and_parts (nat_le 21 (length s) && nat_le (length s) 25) (slice_index s 19 == 46) more in
          let long = and_parts (nat_le 21 (length s)) (nat_le (length s) 25) parts.0 in
          let low : 21 ≤ length s = grind (arith, nat_tests) in
          inr (low, eq-is _ _ parts.1)
    ]

take-len : (n : ℕ) (s : List ℕ) → n ≤ length s → length (take n s) ≡ n
take-len zero s h = refl
take-len (suc n) [] h = absurd (omega arith)
take-len (suc n) (x ∷ s) h = ap suc (take-len n s (omega arith))

drop-len : (n : ℕ) (s : List ℕ) → length (drop n s) ≡ length s - n
drop-len zero s = omega arith
drop-len (suc n) [] = omega arith
drop-len (suc n) (x ∷ s) = omega (arith, drop-len n s)

inside-len : (s : List ℕ) (i n : ℕ) → i + n ≤ length s → length (take n (drop i s)) ≡ n
inside-len s i n h = take-len n (drop i s) (omega (arith, drop-len i s))

-- the digits, where they stand
part-digit : (s : List ℕ) (i n j : ℕ) → all_digits (take n (drop i s)) ≡ true → i + n ≤ length s → i ≤ j → j < i + n → is_ascii_digit (get_or s j 0) ≡ true
part-digit s i n j h room low high = digit-at s i n (j - i) j h (omega arith) (omega (arith, inside-len s i n room)) (omega arith)

-- and the digits behind the point
last-digit : (s : List ℕ) (j : ℕ) → all_digits (drop 20 s) ≡ true → 20 ≤ j → j < length s → is_ascii_digit (get_or s j 0) ≡ true
last-digit s j h low high =
    let here : get_or (drop 20 s) (j - 20) 0 ≡ get_or s j 0 = get_or-drop 20 s (j - 20) 0 ∙ ap (λ m. get_or s m 0) (omega arith) in
    elim (cases_Bool (is_ascii_digit (get_or s j 0))) [
      | inl digit ↦ digit
      | inr other ↦
          let no_ = list_all_at is_ascii_digit (drop 20 s) (j - 20) 0 (omega (arith, drop-len 20 s)) (ap is_ascii_digit here ∙ other) in
          absurd (cc)
    ]

inner-at : (s : List ℕ) (j : ℕ) → has_stamp_form s ≡ true → j < length s → is_inner (get_or s j 0) ≡ true
inner-at s j h lt =
    let f = form_facts s h in
    let g = signs s h in
    let at = λ (n : ℕ) (e : j ≡ n). ap (λ m. get_or s m 0) e in
    elim (cases_lt j 4) [
      | inl a ↦ inner-digit _ (part-digit s 0 4 j f.year (omega (arith, f.least)) (omega arith) (omega arith))
      | inr a ↦ elim (cases_lt j 5) [
        | inl b ↦ inner-other _ 45 (at 4 (omega arith) ∙ g.four) refl
        | inr b ↦ elim (cases_lt j 7) [
          | inl c ↦ inner-digit _ (part-digit s 5 2 j f.month (omega (arith, f.least)) b (omega arith))
          | inr c ↦ elim (cases_lt j 8) [
            | inl d ↦ inner-other _ 45 (at 7 (omega arith) ∙ g.seven) refl
            | inr d ↦ elim (cases_lt j 10) [
              | inl e ↦ inner-digit _ (part-digit s 8 2 j f.day (omega (arith, f.least)) d (omega arith))
              | inr e ↦ later s j h lt e
            ]
          ]
        ]
      ]
    ]
  where
    last : (s : List ℕ) (j : ℕ) → has_stamp_form s ≡ true → j < length s → 17 ≤ j → is_inner (get_or s j 0) ≡ true
    last s j h lt low =
        let f = form_facts s h in
        elim (cases_lt j 19) [
          | inl a ↦ inner-digit _ (part-digit s 17 2 j f.second (omega (arith, f.least)) low (omega arith))
          | inr a ↦ elim (length-or s h) [
            | inl short ↦ absurd (omega arith)
            | inr long ↦ elim (cases_lt j 20) [
              | inl b ↦ inner-other _ 46 (ap (λ m. get_or s m 0) (the_end j a b) ∙ long.1) refl
              | inr b ↦ inner-digit _ (last-digit s j f.fraction b lt)
            ]
          ]
        ]
      where
        the_end : (j : ℕ) → 19 ≤ j → j < 20 → j ≡ 19
        the_end j a b = omega arith

    later : (s : List ℕ) (j : ℕ) → has_stamp_form s ≡ true → j < length s → 10 ≤ j → is_inner (get_or s j 0) ≡ true
    later s j h lt low =
        let f = form_facts s h in
        let g = signs s h in
        let at = λ (n : ℕ) (e : j ≡ n). ap (λ m. get_or s m 0) e in
        elim (cases_lt j 11) [
          | inl a ↦ inner-other _ 32 (at 10 (omega arith) ∙ g.ten) refl
          | inr a ↦ elim (cases_lt j 13) [
            | inl b ↦ inner-digit _ (part-digit s 11 2 j f.hour (omega (arith, f.least)) a (omega arith))
            | inr b ↦ elim (cases_lt j 14) [
              | inl c ↦ inner-other _ 58 (at 13 (omega arith) ∙ g.thirteen) refl
              | inr c ↦ elim (cases_lt j 16) [
                | inl d ↦ inner-digit _ (part-digit s 14 2 j f.minute (omega (arith, f.least)) c (omega arith))
                | inr d ↦ elim (cases_lt j 17) [
                  | inl e ↦ inner-other _ 58 (at 16 (omega arith) ∙ g.sixteen) refl
                  | inr e ↦ last s j h lt e
                ]
              ]
            ]
          ]
        ]

all-from : (f : ℕ → Bool) (s : List ℕ) → ((j : ℕ) → j < length s → f (get_or s j 0) ≡ true) → list_all f s ≡ true
all-from f [] h = refl
all-from f (b ∷ s) h = rw (h 0 (omega arith)) (all-from f s (λ j lt. h (suc j) (omega arith)))

unblanked-front : (s : List ℕ) → 0 < length s → is_blank (get_or s 0 0) ≡ false → unblanked s ≡ s
unblanked-front [] some h = absurd (omega arith)
unblanked-front (b ∷ s) some h = rw h refl

-- nothing is taken from an end that is no blank
pub trimmed-same : (s : List ℕ) → 0 < length s → is_blank (get_or s (length s - 1 - 0) 0) ≡ false → trimmed s ≡ s
trimmed-same s some h =
    let last : is_blank (get_or (reverse s) 0 0) ≡ false = ap is_blank (get_or-reverse s 0 0 some) ∙ h in
    ap reverse (unblanked-front (reverse s) (omega (arith, length-reverse s)) last) ∙ reverse-reverse s

last-solid : (s : List ℕ) → has_stamp_form s ≡ true → is_blank (get_or s (length s - 1 - 0) 0) ≡ false
last-solid s h =
    let f = form_facts s h in
    elim (length-or s h) [
      | inl short ↦ solid-digit (get_or s (length s - 1 - 0) 0) (part-digit s 17 2 (length s - 1 - 0) f.second (omega arith) (omega arith) (omega arith))
      | inr long ↦ solid-digit (get_or s (length s - 1 - 0) 0) (last-digit s (length s - 1 - 0) f.fraction (omega arith) (omega arith))
    ]

-- what the text of a stamp is like
pub record IsPlain (s : List ℕ) : Type 0 where
  pub inner : list_all is_inner s ≡ true
  pub front : unblanked s ≡ s
  pub end : trimmed s ≡ s
  pub some : 0 < length s

pub stamp-plain : (s : List ℕ) (t : ℤ) → read_stamp s ≡ Some t → IsPlain s
unfolding read_stamp
stamp-plain s t h = elim (cases_Bool (has_stamp_form s)) [
  | inl form ↦
      let f = form_facts s form in
      record {
        inner = all-from is_inner s (λ j lt. inner-at s j form lt);
        front = unblanked-front s (omega (arith, f.least)) (solid-digit (get_or s 0 0) (part-digit s 0 4 0 f.year (omega (arith, f.least)) (omega arith) (omega arith)));
        end = trimmed-same s (omega (arith, f.least)) (last-solid s form);
        some = omega (arith, f.least);
      }
  | inr other ↦ absurd (let none = rw other at h in cc)
]
