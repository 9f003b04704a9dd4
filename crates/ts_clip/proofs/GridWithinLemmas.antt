-- The elements of a range of offsets: of two lists, of a range without offsets, of cells, of one page.
use Rattle.std.proofs.Common.{◌≡◌, ◌⊎◌, ℕ, ◌+◌, ◌<◌, ◌≤◌, max, min, Bool, true, false, cond, not, Some, None, List, [], ◌∷◌, ◌++◌, length, refl, sym, ap, ◌∙◌, inl, inr, arith}
use Rattle.std.proofs.lemmas.Bool.{cases_lt}
use Rattle.std.proofs.lemmas.Bool.Decides.{nat_tests}
use Rattle.std.proofs.lemmas.List.Elements.{filter-append}
use Rattle.ts_regular.specs.RegularPage.{Cell, OffsetElement, elements_from, seen}
use Rattle.ts_regular.specs.Range.{is_between, within}
use Rattle.ts_regular.proofs.OffsetLemmas.{AreLess, AreMore}

-- which offsets are in a range
pub between_in : (from to at : ℕ) → from ≤ at → at < to → is_between from to at ≡ true
between_in from to at low high = grind (arith, nat_tests)

pub between_before : (from to at : ℕ) → at < from → is_between from to at ≡ false
between_before from to at low = grind (arith, nat_tests)

pub between_behind : (from to at : ℕ) → to ≤ at → is_between from to at ≡ false
between_behind from to at high = grind (arith, nat_tests)

-- the elements of a range: those of two lists, of a range without offsets, and of ranges that agree on the cells
pub within_both : (from to : ℕ) (xs ys : List OffsetElement) → within from to (xs ++ ys) ≡ within from to xs ++ within from to ys
within_both from to xs ys = filter-append (λ (e : OffsetElement). is_between from to e.0) xs ys

pub within_none : (from to : ℕ) (es : List OffsetElement) → to ≤ from → within from to es ≡ []
within_none from to [] turned = refl
within_none from to (e ∷ es) turned = let out : is_between from to e.0 ≡ false = grind (arith, nat_tests) in rw out (within_none from to es turned)

pub within_before : (from to : ℕ) (es : List OffsetElement) → AreLess from es → within from to es ≡ []
within_before from to [] less = refl
within_before from to (e ∷ es) less = rw (between_before from to e.0 less.0) (within_before from to es less.1)

pub within_behind : (from to n : ℕ) (es : List OffsetElement) → to ≤ n + 1 → AreMore n es → within from to es ≡ []
within_behind from to n [] high more = refl
within_behind from to n (e ∷ es) high more =
    let above = more.0 in
    let out : is_between from to e.0 ≡ false = between_behind from to e.0 (omega (arith, high, above)) in
    rw out (within_behind from to n es high more.1)

pub within_cells : (from to low high at : ℕ) (cells : List Cell) → ((n : ℕ) → at ≤ n → n < at + length cells → is_between from to n ≡ is_between low high n) → within from to (elements_from at cells) ≡ within low high (elements_from at cells)
within_cells from to low high at [] same = refl
within_cells from to low high at (None ∷ cells) same = within_cells from to low high (at + 1) cells (λ n above below. same n (omega (arith, above)) (omega (arith, below)))
within_cells from to low high at (Some row ∷ cells) same =
    let first = same at (omega arith) (omega arith) in
    let rest = within_cells from to low high (at + 1) cells (λ n above below. same n (omega (arith, above)) (omega (arith, below))) in
    λ j. cond (first j) ((at, row) ∷ rest j) (rest j)

-- those that aren't hidden, of a range
pub seen_within : (lower upper : ℕ) (es : List OffsetElement) → seen (within lower upper es) ≡ within lower upper (seen es)
seen_within lower upper [] = refl
seen_within lower upper (e ∷ es) = one (not e.1.hidden) (is_between lower upper e.0) refl refl (seen_within lower upper es)
  where
    one : (b c : Bool) → b ≡ not e.1.hidden → c ≡ is_between lower upper e.0 → seen (within lower upper es) ≡ within lower upper (seen es) → seen (cond c (e ∷ within lower upper es) (within lower upper es)) ≡ within lower upper (cond b (e ∷ seen es) (seen es))
    one true true first second rest = ap (λ (k : Bool). cond k (e ∷ seen (within lower upper es)) (seen (within lower upper es))) (sym first) ∙ ap (λ (l : List OffsetElement). e ∷ l) rest ∙ ap (λ (k : Bool). cond k (e ∷ within lower upper (seen es)) (within lower upper (seen es))) second
    one true false first second rest = rest ∙ ap (λ (k : Bool). cond k (e ∷ within lower upper (seen es)) (within lower upper (seen es))) second
    one false true first second rest = ap (λ (k : Bool). cond k (e ∷ seen (within lower upper es)) (seen (within lower upper es))) (sym first) ∙ rest
    one false false first second rest = rest

-- the elements of a range that a page has cells for
module _ (lower upper base own_base room from to : ℕ) (cells : List Cell) (long : length cells ≡ room) (same : base ≡ own_base) (from_is : from ≡ max lower base) (to_is : to ≡ min upper (base + room)) where
  pub none_here : to ≤ from → within lower upper (elements_from own_base cells) ≡ []
  none_here turned =
      within_cells lower upper 0 0 own_base cells (λ n above below. out n (aside n (omega (arith, same, above)) (omega (arith, long, same, below)))) ∙ within_none 0 0 (elements_from own_base cells) (omega arith)
    where
      none_in : (n : ℕ) → is_between 0 0 n ≡ false
      none_in n = grind (arith, nat_tests)

      aside : (n : ℕ) → base ≤ n → n < base + room → (n < lower) ⊎ (upper ≤ n)
      aside n above below = elim (cases_lt n lower) [
        | inl low ↦ inl low
        | inr high ↦ inr (omega (arith, from_is, to_is, turned, above, below, high))
      ]

      out : (n : ℕ) → (n < lower) ⊎ (upper ≤ n) → is_between lower upper n ≡ is_between 0 0 n
      out n (inl low) = between_before lower upper n low ∙ sym (none_in n)
      out n (inr high) = between_behind lower upper n high ∙ sym (none_in n)

  pub own_here : from < to → within from to (elements_from own_base cells) ≡ within lower upper (elements_from own_base cells)
  own_here order = within_cells from to lower upper own_base cells (λ n above below. agree n (omega (arith, same, above)) (omega (arith, long, same, below)))
    where
      agree : (n : ℕ) → base ≤ n → n < base + room → is_between from to n ≡ is_between lower upper n
      agree n above below = elim (cases_lt n lower) [
        | inl low ↦ between_before from to n (omega (arith, from_is, low)) ∙ sym (between_before lower upper n low)
        | inr high ↦ elim (cases_lt n upper) [
          | inl inside ↦ between_in from to n (omega (arith, from_is, above, high)) (omega (arith, to_is, below, inside)) ∙ sym (between_in lower upper n high inside)
          | inr behind ↦ between_behind from to n (omega (arith, to_is, behind)) ∙ sym (between_behind lower upper n behind)
        ]
      ]
