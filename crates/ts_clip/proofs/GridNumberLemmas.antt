-- Entries by numbers: those of starts behind others, and those by rows that agree.
use Rattle.std.proofs.Common.{◌≡◌, ℕ, suc, ◌+◌, ◌<◌, ℤ, Option, None, List, [], ◌∷◌, ◌++◌, length, map, take, drop, refl, sym, ap, ◌∙◌, inl, inr, arith, append-nil}
use Rattle.std.proofs.lemmas.Bool.{cases_lt}
use Rattle.std.proofs.lemmas.List.{drop_all, length-take-le}
use Rattle.std.proofs.Math.Seq.{take-nil}
use Rattle.ts_row.specs.Row.{Row}
use Rattle.ts_entry.specs.Entry.{Entry}
use Rattle.ts_clip.specs.Numbered.{numbered}
use Rattle.ts_clip.proofs.GridStartLemmas.{take_parts}

module _ (row_of : ℕ → Option Row) where
  -- starts behind others
  pub numbered_both : (n m : ℕ) (starts others : List ℤ) → m ≡ n + length starts → numbered row_of n (starts ++ others) ≡ numbered row_of n starts ++ numbered row_of m others
  numbered_both n m [] others is = ap (λ (k : ℕ). numbered row_of k others) (let same : n ≡ m = omega (arith, is) in same)
  numbered_both n m (s ∷ starts) others is = ap (λ (l : List Entry). (s, row_of n) ∷ l) (numbered_both (n + 1) m starts others (omega (arith, is)))

-- by rows that agree
pub numbered_same : (row_of other : ℕ → Option Row) (n m : ℕ) (starts : List ℤ) → ((i : ℕ) → i < length starts → row_of (n + i) ≡ other (m + i)) → numbered row_of n starts ≡ numbered other m starts
numbered_same row_of other n m [] same = refl
numbered_same row_of other n m (s ∷ starts) same =
    let first : row_of n ≡ other m = (λ j. row_of (zero_more n j)) ∙ same 0 (omega arith) ∙ (λ j. other (sym (zero_more m) j)) in
    let rest = numbered_same row_of other (n + 1) (m + 1) starts (λ i within. (λ j. row_of (one_more n i j)) ∙ same (suc i) (omega (arith, within)) ∙ (λ j. other (sym (one_more m i) j))) in
    λ j. (s, first j) ∷ rest j
  where
    zero_more : (n : ℕ) → n ≡ n + 0
    zero_more n = omega arith

    one_more : (n i : ℕ) → n + 1 + i ≡ n + suc i
    one_more n i = omega arith

-- without any
pub numbered_none : (row_of : ℕ → Option Row) (n : ℕ) (starts : List ℤ) → ((i : ℕ) → i < length starts → row_of (n + i) ≡ None) → map (λ start. (start, None)) starts ≡ numbered row_of n starts
numbered_none row_of n [] none = refl
numbered_none row_of n (s ∷ starts) none =
    let first : row_of n ≡ None = (λ j. row_of (zero_more j)) ∙ none 0 (omega arith) in
    let rest = numbered_none row_of (n + 1) starts (λ i within. (λ j. row_of (one_more i j)) ∙ none (suc i) (omega (arith, within))) in
    λ j. (s, sym first j) ∷ rest j
  where
    zero_more : n ≡ n + 0
    zero_more = omega arith

    one_more : (i : ℕ) → n + 1 + i ≡ n + suc i
    one_more i = omega arith

-- of starts in two parts
pub numbered_parts : (row_of : ℕ → Option Row) (n m k j all : ℕ) (starts : List ℤ) → m ≡ n + k → all ≡ k + j
    → numbered row_of n (take all starts) ≡ numbered row_of n (take k starts) ++ numbered row_of m (take j (drop k starts))
numbered_parts row_of n m k j all starts is whole = ap (numbered row_of n) (take_parts k j all starts whole) ∙ elim (cases_lt (length starts) k) [
  | inl short ↦
      let over : take j (drop k starts) ≡ [] = ap (take j) (drop_all k starts (omega (arith, short))) ∙ take-nil j in
      ap (λ (l : List ℤ). numbered row_of n (take k starts ++ l)) over ∙ ap (numbered row_of n) (append-nil (take k starts)) ∙ sym (append-nil (numbered row_of n (take k starts)))
      ∙ ap (λ (l : List ℤ). numbered row_of n (take k starts) ++ numbered row_of m l) (sym over)
  | inr long ↦ numbered_both row_of n m (take k starts) (take j (drop k starts)) (omega (arith, is, length-take-le k starts long))
]
