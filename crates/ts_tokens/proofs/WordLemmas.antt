-- A word that is read is the longest.
use Rattle.std.proofs.Common.{◌≡◌, ℕ, zero, suc, ◌+◌, ◌<◌, ◌≤◌, ◌==◌, ◌||◌, Bool, true, false, List, [], ◌∷◌, length, take, Some, refl, arith, inl, inr}
use Rattle.std.proofs.lemmas.Bool.{cases_Bool}
use Rattle.std.specs.List.{prefix_len, list_all}
use Rattle.ts_base.specs.Name.{begins_word, continues_word, is_word}
use Rattle.ts_tokens.proofs.RunLemmas.{run_passes}
use Rattle.ts_tokens.specs.Tokens.{closing, later, number_length, front}
use Rattle.ts_text.specs.declared.token.TokenKind.TheVariants.{Word, Number, Text, Sign}
use Rattle.ts_text.proofs.CallerLemmas.{token_is}
use Rattle.ts_tokens.proofs.TokenLengths.{of_kind_is}

-- more of the list doesn't
more_fails : (p : ℕ → Bool) (s : List ℕ) (longer : ℕ) → prefix_len p s < longer → longer ≤ length s → list_all p (take longer s) ≡ false
more_fails p [] longer past within = absurd (omega arith)
more_fails p (b ∷ s) zero past within = absurd (omega arith)
more_fails p (b ∷ s) (suc n) past within = elim (cases_Bool (p b)) [
  | inl t ↦ let less = rw t at past in rw t (more_fails p s n (omega arith) (omega arith))
  | inr f ↦ rw f refl
]

-- the word in front
word_size : (b : ℕ) (s : List ℕ) (size : ℕ) → front (b ∷ s) ≡ Some (Word, size) → (begins_word b ≡ true) × (1 + prefix_len continues_word s ≡ size)
unfolding front
word_size b s size is = elim (cases_Bool (begins_word b)) [
  | inl t ↦ (t, (token_is Word Word (1 + prefix_len continues_word s) size (rw t at is)).1)
  | inr f1 ↦ elim (cases_Bool (b == 39)) [
    | inl t ↦ let no = (of_kind_is Text Word (later 1 (closing s)) size (rw (f1, t) at is)).0 in absurd (cc)
    | inr f2 ↦ elim (cases_Bool (b == 40 || b == 41 || b == 44)) [
      | inl t ↦ let no = (token_is Sign Word 1 size (rw (f1, f2, t) at is)).0 in absurd (cc)
      | inr f3 ↦ let no = (of_kind_is Number Word (number_length (b ∷ s)) size (rw (f1, f2, f3) at is)).0 in absurd (cc)
    ]
  ]
]

nothing_stands : (size : ℕ) → front [] ≡ Some (Word, size) → ⊥
unfolding front
nothing_stands size is = absurd (cc)

pub word_token : (s : List ℕ) (size : ℕ) → front s ≡ Some (Word, size) → (is_word (take size s) ≡ true) × ((longer : ℕ) → size < longer → longer ≤ length s → is_word (take longer s) ≡ false)
word_token [] size is = absurd (nothing_stands size is)
word_token (b ∷ s) size is =
    let at = word_size b s size is in
    let next : 1 + prefix_len continues_word s ≡ suc (prefix_len continues_word s) = omega arith in
    (rw (← at.1, next, at.0) (run_passes continues_word s), λ longer past within. by_longer at.0 (omega (arith, at.1)) longer within past) where
      by_longer : begins_word b ≡ true → 1 + prefix_len continues_word s ≤ size → (longer : ℕ) → longer ≤ length (b ∷ s) → size < longer → is_word (take longer (b ∷ s)) ≡ false
      by_longer begins le zero within past = absurd (omega arith)
      by_longer begins le (suc n) within past = rw begins (more_fails continues_word s n (omega arith) (omega arith))
