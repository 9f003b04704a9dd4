-- What a byte more means.
use Rattle.std.proofs.Common.{◌≡◌, ℕ, ◌+◌, ◌%◌, ◌==◌, ◌&&◌, true, false, not, cond, if◌then◌else◌, List, [], ◌∷◌, ◌++◌, length, refl, ◌∙◌, Some, None, arith, inl, inr, count_by}
use Rattle.std.proofs.lemmas.Bool.{cases_eq, cases_Bool}
use Rattle.std.proofs.lemmas.Bool.Decides.{nat_tests}
use Rattle.std.proofs.lemmas.List.Folds.{list_all-append}
use Rattle.std.proofs.lemmas.List.Sums.{sum_by-append}
use Rattle.ts_items.specs.Items.{Statement, TooLong, after, all_blank, quotes_match}
use Rattle.ts_base.specs.Name.{is_blank}

parity : (n : ℕ) → ((n + 1) % 2 == 0) ≡ not (n % 2 == 0)
parity n = elim (cases_eq (n % 2) 0) [
  | inl even ↦ let e : (n + 1) % 2 ≡ 1 = omega arith in grind (arith, nat_tests)
  | inr odd ↦ let e : (n + 1) % 2 ≡ 0 = omega arith in grind (arith, nat_tests)
]

abbrev quotes : List ℕ → ℕ
quotes text = count_by (λ b. b == 39) text

quotes-push : (text : List ℕ) (b : ℕ) → quotes (text ++ b ∷ []) ≡ quotes text + quotes (b ∷ [])
quotes-push text b = sum_by-append (λ (x : ℕ). cond (x == 39) 1 0) text (b ∷ [])

pub quotes_match-push : (text : List ℕ) (b : ℕ) → quotes_match (text ++ b ∷ []) ≡ (if b == 39 then not (quotes_match text) else quotes_match text)
quotes_match-push text b = elim (cases_Bool (b == 39)) [
  | inl t ↦ let e : quotes (text ++ b ∷ []) ≡ quotes text + 1 = quotes-push text b ∙ rw t (omega arith) in rw (t, e) (parity (quotes text))
  | inr f ↦ let e : quotes (text ++ b ∷ []) ≡ quotes text = quotes-push text b ∙ rw f (omega arith) in rw (f, e) refl
]

pub all_blank-push : (text : List ℕ) (b : ℕ) → all_blank (text ++ b ∷ []) ≡ (all_blank text && is_blank b)
all_blank-push text b = list_all-append is_blank text (b ∷ []) ∙ elim (cases_Bool (is_blank b)) [
  | inl t ↦ rw t refl
  | inr f ↦ rw f refl
]

pub past_end : (b : ℕ) → b ≡ 59 → after None b ≡ ([], Some [])
unfolding after
past_end b e = grind (arith, nat_tests)

pub past_more : (b : ℕ) → (b ≡ 59 → ⊥) → after None b ≡ ([], None)
unfolding after
past_more b e = grind (arith, nat_tests)

pub blank_end : (text : List ℕ) (b : ℕ) → b ≡ 59 → quotes_match text ≡ true → all_blank text ≡ true → after (Some text) b ≡ ([], Some [])
unfolding after
blank_end text b e even blank = rw (e, even, blank) refl

pub statement_end : (text : List ℕ) (b : ℕ) → b ≡ 59 → quotes_match text ≡ true → all_blank text ≡ false → after (Some text) b ≡ (Statement (text ++ b ∷ []) ∷ [], Some [])
unfolding after
statement_end text b e even blank = rw (e, even, blank) refl

-- the byte doesn't end the statement
abbrev pub GoesOn : List ℕ → ℕ → Type 0
GoesOn text b = (b == 59 && quotes_match text) ≡ false

pub blank_limit : (text : List ℕ) (b : ℕ) → GoesOn text b → length (text ++ b ∷ []) ≡ 65536 → all_blank (text ++ b ∷ []) ≡ true → after (Some text) b ≡ ([], Some [])
unfolding after
blank_limit text b on long blank = rw (on, long, blank) refl

pub too_long : (text : List ℕ) (b : ℕ) → GoesOn text b → length (text ++ b ∷ []) ≡ 65536 → all_blank (text ++ b ∷ []) ≡ false → after (Some text) b ≡ (TooLong ∷ [], None)
unfolding after
too_long text b on long blank = rw (on, long, blank) refl

pub goes_on : (text : List ℕ) (b : ℕ) → GoesOn text b → (length (text ++ b ∷ []) ≡ 65536 → ⊥) → after (Some text) b ≡ ([], Some (text ++ b ∷ []))
unfolding after
goes_on text b on short = let no : (length (text ++ b ∷ []) == 65536) ≡ false = grind (arith, nat_tests) in rw (on, no) refl
