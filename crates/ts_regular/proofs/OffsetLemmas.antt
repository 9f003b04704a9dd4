-- Edits of a list of elements at offsets, by what stands before the offset and behind it.
use Rattle.std.proofs.Common.{◌≡◌, ◌≢◌, ℕ, ◌<◌, ◌≤◌, ◌==◌, true, false, not, Some, None, List, [], ◌∷◌, ◌++◌, refl, sym, ap, ◌∙◌, arith, inl, inr}
use Rattle.std.specs.Prelude.{nat_lt}
use Rattle.std.proofs.lemmas.Bool.{cases_lt}
use Rattle.std.proofs.lemmas.Bool.Decides.{nat_tests}
use Rattle.ts_row.specs.Row.{Row}
use Rattle.ts_regular.specs.RegularPage.{OffsetElement, AreRising, element_at, with_element, without_element}

-- what a test of offsets says
pub lt_yes : (a b : ℕ) → a < b → nat_lt a b ≡ true
lt_yes a b h = grind (arith, nat_tests)

pub lt_no : (a b : ℕ) → b ≤ a → nat_lt a b ≡ false
lt_no a b h = grind (arith, nat_tests)

pub eq_yes : (a b : ℕ) → a ≡ b → (a == b) ≡ true
eq_yes a b h = grind (arith, nat_tests)

pub eq_no : (a b : ℕ) → a ≢ b → (a == b) ≡ false
eq_no a b h = grind (arith, nat_tests)

-- each offset is less than this
abbrev pub AreLess : ℕ → List OffsetElement → Type 0
AreLess n [] = Unit {0}
AreLess n (e ∷ es) = (e.0 < n) × AreLess n es

-- each is greater
abbrev pub AreMore : ℕ → List OffsetElement → Type 0
AreMore n [] = Unit {0}
AreMore n (e ∷ es) = (n < e.0) × AreMore n es

-- what the comparison with the first element decides
pub at_below : (n : ℕ) (e : OffsetElement) (es : List OffsetElement) → e.0 < n → element_at n (e ∷ es) ≡ element_at n es
at_below n e es low = rw (lt_no n e.0 (omega (arith, low)), eq_no n e.0 (λ same. omega (arith, same, low))) refl

pub at_above : (n : ℕ) (e : OffsetElement) (es : List OffsetElement) → n < e.0 → element_at n (e ∷ es) ≡ element_at n es
at_above n e es high = rw (lt_yes n e.0 high) refl

pub at_same : (n : ℕ) (e : OffsetElement) (es : List OffsetElement) → n ≡ e.0 → element_at n (e ∷ es) ≡ Some e.1
at_same n e es same = rw (lt_no n e.0 (omega (arith, same)), eq_yes n e.0 same) refl

pub with_below : (n : ℕ) (row : Row) (e : OffsetElement) (es : List OffsetElement) → e.0 < n → with_element n row (e ∷ es) ≡ e ∷ with_element n row es
with_below n row e es low = rw (lt_no n e.0 (omega (arith, low)), eq_no n e.0 (λ same. omega (arith, same, low))) refl

pub with_above : (n : ℕ) (row : Row) (e : OffsetElement) (es : List OffsetElement) → n < e.0 → with_element n row (e ∷ es) ≡ (n, row) ∷ e ∷ es
with_above n row e es high = rw (lt_yes n e.0 high) refl

pub with_same : (n : ℕ) (row : Row) (e : OffsetElement) (es : List OffsetElement) → n ≡ e.0 → with_element n row (e ∷ es) ≡ (e.0, row) ∷ es
with_same n row e es same = rw (lt_no n e.0 (omega (arith, same)), eq_yes n e.0 same) refl

pub without_other : (n : ℕ) (e : OffsetElement) (es : List OffsetElement) → n ≢ e.0 → without_element n (e ∷ es) ≡ e ∷ without_element n es
without_other n e es other = rw (eq_no n e.0 other) refl

pub without_same : (n : ℕ) (e : OffsetElement) (es : List OffsetElement) → n ≡ e.0 → without_element n (e ∷ es) ≡ without_element n es
without_same n e es same = rw (eq_yes n e.0 same) refl

-- a list of greater offsets
pub none_more : (n : ℕ) (es : List OffsetElement) → AreMore n es → element_at n es ≡ None
none_more n [] more = refl
none_more n (e ∷ es) more = at_above n e es more.0 ∙ none_more n es more.1

pub first_more : (n : ℕ) (row : Row) (es : List OffsetElement) → AreMore n es → with_element n row es ≡ (n, row) ∷ es
first_more n row [] more = refl
first_more n row (e ∷ es) more = with_above n row e es more.0

pub kept_more : (n : ℕ) (es : List OffsetElement) → AreMore n es → without_element n es ≡ es
kept_more n [] more = refl
kept_more n (e ∷ es) more =
    let above = more.0 in
    without_other n e es (λ same. omega (arith, same, above)) ∙ ap (λ (l : List OffsetElement). e ∷ l) (kept_more n es more.1)

-- lesser offsets before others
pub at_front : (n : ℕ) (xs ys : List OffsetElement) → AreLess n xs → element_at n (xs ++ ys) ≡ element_at n ys
at_front n [] ys less = refl
at_front n (x ∷ xs) ys less = at_below n x (xs ++ ys) less.0 ∙ at_front n xs ys less.1

pub with_front : (n : ℕ) (row : Row) (xs ys : List OffsetElement) → AreLess n xs → with_element n row (xs ++ ys) ≡ xs ++ with_element n row ys
with_front n row [] ys less = refl
with_front n row (x ∷ xs) ys less = with_below n row x (xs ++ ys) less.0 ∙ ap (λ (l : List OffsetElement). x ∷ l) (with_front n row xs ys less.1)

pub without_front : (n : ℕ) (xs ys : List OffsetElement) → AreLess n xs → without_element n (xs ++ ys) ≡ xs ++ without_element n ys
without_front n [] ys less = refl
without_front n (x ∷ xs) ys less =
    let below = less.0 in
    without_other n x (xs ++ ys) (λ same. omega (arith, same, below)) ∙ ap (λ (l : List OffsetElement). x ∷ l) (without_front n xs ys less.1)

-- one of three orders
abbrev pub Ordered : ℕ → ℕ → Type 0 → Type 0
Ordered a b P = (a < b → P) → (a ≡ b → P) → (b < a → P) → P

pub by_order : (a b : ℕ) (P : Type 0) → Ordered a b P
by_order a b P less same more = elim (cases_lt a b) [
  | inl low ↦ less low
  | inr high ↦ elim (cases_lt b a) [
    | inl above ↦ more above
    | inr below ↦ same (omega (arith, high, below))
  ]
]

-- greater offsets behind others
pub at_back : (n : ℕ) (xs ys : List OffsetElement) → AreMore n ys → element_at n (xs ++ ys) ≡ element_at n xs
at_back n [] ys more = none_more n ys more
at_back n (x ∷ xs) ys more = by_order n x.0 _
    (λ low. at_above n x (xs ++ ys) low ∙ at_back n xs ys more ∙ sym (at_above n x xs low))
    (λ same. at_same n x (xs ++ ys) same ∙ sym (at_same n x xs same))
    (λ high. at_below n x (xs ++ ys) high ∙ at_back n xs ys more ∙ sym (at_below n x xs high))

pub with_back : (n : ℕ) (row : Row) (xs ys : List OffsetElement) → AreMore n ys → with_element n row (xs ++ ys) ≡ with_element n row xs ++ ys
with_back n row [] ys more = first_more n row ys more
with_back n row (x ∷ xs) ys more = by_order n x.0 _
    (λ low. with_above n row x (xs ++ ys) low ∙ ap (λ (l : List OffsetElement). l ++ ys) (sym (with_above n row x xs low)))
    (λ same. with_same n row x (xs ++ ys) same ∙ ap (λ (l : List OffsetElement). l ++ ys) (sym (with_same n row x xs same)))
    (λ high. with_below n row x (xs ++ ys) high ∙ ap (λ (l : List OffsetElement). x ∷ l) (with_back n row xs ys more) ∙ ap (λ (l : List OffsetElement). l ++ ys) (sym (with_below n row x xs high)))

keep_first : (n : ℕ) (x : OffsetElement) (xs ys : List OffsetElement) → n ≢ x.0 → without_element n (xs ++ ys) ≡ without_element n xs ++ ys → without_element n (x ∷ (xs ++ ys)) ≡ without_element n (x ∷ xs) ++ ys
keep_first n x xs ys not rest = without_other n x (xs ++ ys) not ∙ ap (λ (l : List OffsetElement). x ∷ l) rest ∙ ap (λ (l : List OffsetElement). l ++ ys) (sym (without_other n x xs not))

pub without_back : (n : ℕ) (xs ys : List OffsetElement) → AreMore n ys → without_element n (xs ++ ys) ≡ without_element n xs ++ ys
without_back n [] ys more = kept_more n ys more
without_back n (x ∷ xs) ys more =
    let rest : without_element n (xs ++ ys) ≡ without_element n xs ++ ys = without_back n xs ys more in
    by_order n x.0 _
    (λ low. keep_first n x xs ys (λ same. omega (arith, same, low)) rest)
    (λ same. without_same n x (xs ++ ys) same ∙ rest ∙ ap (λ (l : List OffsetElement). l ++ ys) (sym (without_same n x xs same)))
    (λ high. keep_first n x xs ys (λ same. omega (arith, same, high)) rest)

-- two lists together
pub more_both : (n : ℕ) (xs ys : List OffsetElement) → AreMore n xs → AreMore n ys → AreMore n (xs ++ ys)
more_both n [] ys first second = second
more_both n (x ∷ xs) ys first second = (first.0, more_both n xs ys first.1 second)

pub less_both : (n : ℕ) (xs ys : List OffsetElement) → AreLess n xs → AreLess n ys → AreLess n (xs ++ ys)
less_both n [] ys first second = second
less_both n (x ∷ xs) ys first second = (first.0, less_both n xs ys first.1 second)

-- a greater offset before rising ones
pub rising_first : (x : OffsetElement) (es : List OffsetElement) → AreMore x.0 es → AreRising es → AreRising (x ∷ es)
rising_first x [] more rise = tt
rising_first x (e ∷ es) more rise = (more.0, rise)
