-- A text that is read is the longest.
use Rattle.std.proofs.Common.{◌≡◌, ℕ, zero, suc, ◌+◌, ◌<◌, ◌≤◌, ◌==◌, true, false, List, [], ◌∷◌, length, take, Option, Some, None, refl, arith, inl, inr}
use Rattle.std.proofs.lemmas.Bool.{cases_Bool}
use Rattle.std.proofs.lemmas.Bool.Decides.{nat_tests}
use Rattle.ts_base.specs.Name.{is_text_byte}
use Rattle.ts_tokens.specs.Tokens.{closing, later, or_before}
use Rattle.ts_tokens.specs.TextForm.{closes, ClosesNoLater, ClosesNowhere}

-- the end that is found, if one is, is the last
abbrev pub IsLast : List ℕ → Option ℕ → Type 0
IsLast bytes None = ClosesNowhere bytes
IsLast bytes (Some end) = (closes (take end bytes) ≡ true) × ClosesNoLater bytes end

-- a front of one byte
front_of_one : (b : ℕ) (bytes : List ℕ) → take 1 (b ∷ bytes) ≡ b ∷ []
front_of_one b bytes = refl

-- behind a doubled quote
doubled : (bytes : List ℕ) (end : Option ℕ) → IsLast bytes end → IsLast (39 ∷ 39 ∷ bytes) (or_before (Some 1) (later 2 end))
doubled bytes None last = (refl, λ at past within. by_end at past within) where
  by_end : (at : ℕ) → 1 < at → at ≤ length (39 ∷ 39 ∷ bytes) → closes (take at (39 ∷ 39 ∷ bytes)) ≡ false
  by_end zero past within = absurd (omega arith)
  by_end (suc zero) past within = absurd (omega arith)
  by_end (suc (suc n)) past within = last n (omega arith)
doubled bytes (Some end) last = (let two : 2 + end ≡ suc (suc end) = omega arith in rw two last.0, λ at past within. by_end at past within) where
  by_end : (at : ℕ) → 2 + end < at → at ≤ length (39 ∷ 39 ∷ bytes) → closes (take at (39 ∷ 39 ∷ bytes)) ≡ false
  by_end zero past within = absurd (omega arith)
  by_end (suc zero) past within = absurd (omega arith)
  by_end (suc (suc n)) past within = last.1 n (omega arith) (omega arith)

-- behind a quote that isn't doubled
single : (c : ℕ) (bytes : List ℕ) → (c == 39) ≡ false → IsLast (39 ∷ c ∷ bytes) (Some 1)
single c bytes differs = (refl, λ at past within. by_end at past within) where
  by_end : (at : ℕ) → 1 < at → at ≤ length (39 ∷ c ∷ bytes) → closes (take at (39 ∷ c ∷ bytes)) ≡ false
  by_end zero past within = absurd (omega arith)
  by_end (suc zero) past within = absurd (omega arith)
  by_end (suc (suc n)) past within = rw differs refl

-- behind a byte of a text
text_byte : (b c : ℕ) (bytes : List ℕ) (end : Option ℕ) → (b == 39) ≡ false → is_text_byte b ≡ true → IsLast (c ∷ bytes) end → IsLast (b ∷ c ∷ bytes) (later 1 end)
text_byte b c bytes None differs text last = λ at within. by_end at within where
  by_end : (at : ℕ) → at ≤ length (b ∷ c ∷ bytes) → closes (take at (b ∷ c ∷ bytes)) ≡ false
  by_end zero within = refl
  by_end (suc zero) within = differs
  by_end (suc (suc n)) within = rw (differs, text) (last (suc n) (omega arith))
text_byte b c bytes (Some end) differs text last = (by_first end last, λ at past within. by_end at past within) where
  by_first : (end : ℕ) → (closes (take end (c ∷ bytes)) ≡ true) × ClosesNoLater (c ∷ bytes) end → closes (take (1 + end) (b ∷ c ∷ bytes)) ≡ true
  by_first zero last = absurd (let no = last.0 in cc)
  by_first (suc n) last = let two : 1 + suc n ≡ suc (suc n) = omega arith in rw (two, differs, text) last.0

  by_end : (at : ℕ) → 1 + end < at → at ≤ length (b ∷ c ∷ bytes) → closes (take at (b ∷ c ∷ bytes)) ≡ false
  by_end zero past within = absurd (omega arith)
  by_end (suc zero) past within = absurd (omega arith)
  by_end (suc (suc n)) past within = rw (differs, text) (last.1 (suc n) (omega arith) (omega arith))

-- no text has such a byte
other_byte : (b c : ℕ) (bytes : List ℕ) → (b == 39) ≡ false → is_text_byte b ≡ false → IsLast (b ∷ c ∷ bytes) None
other_byte b c bytes differs text = λ at within. by_end at within where
  by_end : (at : ℕ) → at ≤ length (b ∷ c ∷ bytes) → closes (take at (b ∷ c ∷ bytes)) ≡ false
  by_end zero within = refl
  by_end (suc zero) within = differs
  by_end (suc (suc n)) within = rw (differs, text) refl

-- one byte alone
alone : (b : ℕ) → IsLast (b ∷ []) (closing (b ∷ []))
unfolding closing
alone b = elim (cases_Bool (b == 39)) [
  | inl t ↦ rw t (t, λ at past within. absurd (omega arith))
  | inr f ↦ rw f (λ at within. by_end f at within)
] where
  by_end : (b == 39) ≡ false → (at : ℕ) → at ≤ length (b ∷ []) → closes (take at (b ∷ [])) ≡ false
  by_end differs zero within = refl
  by_end differs (suc zero) within = differs
  by_end differs (suc (suc n)) within = absurd (omega arith)

is_quote : (b : ℕ) → (b == 39) ≡ true → b ≡ 39
is_quote b quote = grind (arith, nat_tests)

pub closing_is_last : (bytes : List ℕ) → IsLast bytes (closing bytes)
unfolding closing
closing_is_last [] = λ at within. nothing at where
  nothing : (at : ℕ) → closes (take at []) ≡ false
  nothing zero = refl
  nothing (suc n) = refl
closing_is_last (b ∷ []) = alone b
closing_is_last (b ∷ c ∷ bytes) = elim (cases_Bool (b == 39)) [
  | inl quote ↦ let b_is = is_quote b quote in elim (cases_Bool (c == 39)) [
    | inl double ↦ let c_is = is_quote c double in rw (b_is, c_is) (doubled bytes (closing bytes) (closing_is_last bytes))
    | inr differs ↦ rw (b_is, differs) (single c bytes differs)
  ]
  | inr differs ↦ elim (cases_Bool (is_text_byte b)) [
    | inl text ↦ rw (differs, text) (text_byte b c bytes (closing (c ∷ bytes)) differs text (closing_is_last (c ∷ bytes)))
    | inr other ↦ rw (differs, other) (other_byte b c bytes differs other)
  ]
]
