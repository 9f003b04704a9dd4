-- Starts that are taken one after the other.
use Rattle.std.proofs.Common.{◌≡◌, ℕ, zero, suc, ◌+◌, ◌<◌, ◌≤◌, ℤ, Some, None, List, [], ◌∷◌, ◌++◌, length, take, drop, sym, ap, ◌∙◌, arith}
use Rattle.std.specs.List.{slice_get}
use Rattle.std.proofs.lemmas.List.{drop-drop, drop-take, drop_all, length-take, take-append-drop, take-take, take_all}

-- the first one that is left is the next
pub next_within : (starts : List ℤ) (k : ℕ) (s : ℤ) → slice_get (drop k starts) 0 ≡ Some s → k < length starts
next_within [] zero s is = absurd (cc)
next_within [] (suc k) s is = absurd (cc)
next_within (x ∷ starts) zero s is = omega arith
next_within (x ∷ starts) (suc k) s is = let rest = next_within starts k s is in omega (arith, rest)

taken : (starts : List ℤ) (k : ℕ) (s : ℤ) → slice_get (drop k starts) 0 ≡ Some s → take (suc k) starts ≡ take k starts ++ s ∷ []
taken [] zero s is = absurd (cc)
taken [] (suc k) s is = absurd (cc)
taken (x ∷ starts) zero s is = let same : x ≡ s = cc in ap (λ (t : ℤ). t ∷ []) same
taken (x ∷ starts) (suc k) s is = ap (λ (l : List ℤ). x ∷ l) (taken starts k s is)

pub next_taken : (starts : List ℤ) (k n : ℕ) (s : ℤ) → n ≡ suc k → Some s ≡ slice_get (drop k starts) 0 → take n starts ≡ take k starts ++ s ∷ []
next_taken starts k n s more is = ap (λ (m : ℕ). take m starts) more ∙ taken starts k s (sym is)

pub next_left : (starts : List ℤ) (k n : ℕ) → n ≡ suc k → drop 1 (drop k starts) ≡ drop n starts
next_left starts k n more = drop-drop 1 k starts ∙ ap (λ (m : ℕ). drop m starts) (let one : k + 1 ≡ n = omega (arith, more) in one)

-- where none is left, there are no more of them
pub none_left : (starts : List ℤ) (k : ℕ) → None ≡ slice_get (drop k starts) 0 → length starts ≤ k
none_left [] k none = omega arith
none_left (x ∷ starts) zero none = absurd (cc)
none_left (x ∷ starts) (suc k) none = let rest = none_left starts k none in omega (arith, rest)

pub over_taken : (starts : List ℤ) (k n : ℕ) → length starts ≤ k → k ≤ n → take n starts ≡ take k starts
over_taken starts k n all more = take_all n starts (omega (arith, all, more)) ∙ sym (take_all k starts all)

pub over_left : (starts : List ℤ) (k n : ℕ) → length starts ≤ k → k ≤ n → drop 1 (drop k starts) ≡ drop n starts
over_left starts k n all more = ap (drop 1) (drop_all k starts all) ∙ sym (drop_all n starts (omega (arith, all, more)))

-- starts in two parts
pub take_parts : {A : Type 0} (k j n : ℕ) (starts : List A) → n ≡ k + j → take n starts ≡ take k starts ++ take j (drop k starts)
take_parts k j n starts is =
    ap (λ (m : ℕ). take m starts) is ∙ sym (take-append-drop k (take (k + j) starts))
    ∙ (λ i. take-take k (k + j) starts (omega arith) i ++ drop-take k j starts i)

pub few_taken : (k : ℕ) (starts : List ℤ) → length (take k starts) ≤ k
few_taken k starts = omega (arith, length-take k starts)
