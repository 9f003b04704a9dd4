-- Neighbours that don't fit one page, over the parts of a chain.
use Rattle.std.proofs.Common.{◌≡◌, ℕ, ◌+◌, ◌<◌, ◌≤◌, List, [], ◌∷◌, ◌++◌, length, map, sum, refl, sym, ap, subst, ◌∙◌, arith, length-append}
use Rattle.std.proofs.lemmas.List.{length-map}
use Rattle.std.proofs.lemmas.List.Sums.{sum_by-cons}
use Rattle.ts_space.specs.Charge.{irregular_charge, IsChain}
use Rattle.ts_space.proofs.ChargeLemmas.{chain_charge}
use Rattle.ts_row.specs.Row.{Element}
use Rattle.ts_sheets.specs.Stamped.{all_in, AreSized, IsDense}

-- the last of the pages and a next one with so many elements don't fit one page
abbrev pub MeetsLeft : ℕ → List (List Element) → ℕ → Type 0
MeetsLeft q [] n = Unit {0}
MeetsLeft q (es ∷ []) n = q < length es + n
MeetsLeft q (es ∷ fs ∷ chain) n = MeetsLeft q (fs ∷ chain) n

-- so many elements and the first of the pages behind them don't
abbrev pub MeetsRight : ℕ → ℕ → List (List Element) → Type 0
MeetsRight q n [] = Unit {0}
MeetsRight q n (es ∷ chain) = q < n + length es

-- parts of a chain
pub dense_tail : (q : ℕ) (es : List Element) (chain : List (List Element)) → IsDense q (es ∷ chain) → IsDense q chain
dense_tail q es [] dense = tt
dense_tail q es (fs ∷ chain) dense = dense.1

pub dense_front : (q : ℕ) (front back : List (List Element)) → IsDense q (front ++ back) → IsDense q front
dense_front q [] back dense = tt
dense_front q (es ∷ []) back dense = tt
dense_front q (es ∷ fs ∷ front) back dense = (dense.0, dense_front q (fs ∷ front) back dense.1)

pub dense_back : (q : ℕ) (front back : List (List Element)) → IsDense q (front ++ back) → IsDense q back
dense_back q [] back dense = dense
dense_back q (es ∷ front) back dense = dense_back q front back (dense_tail q es (front ++ back) dense)

pub dense_left : (q : ℕ) (front : List (List Element)) (es : List Element) (back : List (List Element)) → IsDense q (front ++ es ∷ back) → MeetsLeft q front (length es)
dense_left q [] es back dense = tt
dense_left q (xs ∷ []) es back dense = dense.0
dense_left q (xs ∷ ys ∷ front) es back dense = dense_left q (ys ∷ front) es back dense.1

pub dense_right : (q : ℕ) (es : List Element) (back : List (List Element)) → IsDense q (es ∷ back) → MeetsRight q (length es) back
dense_right q es [] dense = tt
dense_right q es (fs ∷ back) dense = dense.0

-- pages put together
pub dense_cons : (q : ℕ) (es : List Element) (back : List (List Element)) → MeetsRight q (length es) back → IsDense q back → IsDense q (es ∷ back)
dense_cons q es [] meets dense = tt
dense_cons q es (fs ∷ back) meets dense = (meets, dense)

pub dense_made : (q : ℕ) (front : List (List Element)) (es : List Element) (back : List (List Element)) → IsDense q front → MeetsLeft q front (length es) → IsDense q (es ∷ back) → IsDense q (front ++ es ∷ back)
dense_made q [] es back first meets dense = dense
dense_made q (xs ∷ []) es back first meets dense = (meets, dense)
dense_made q (xs ∷ ys ∷ front) es back first meets dense = (first.0, dense_made q (ys ∷ front) es back first.1 meets dense)

-- a larger page meets what a smaller one does
pub meets_left : (q : ℕ) (front : List (List Element)) (n m : ℕ) → n ≤ m → MeetsLeft q front n → MeetsLeft q front m
meets_left q [] n m more meets = tt
meets_left q (es ∷ []) n m more meets = omega (arith, more, meets)
meets_left q (es ∷ fs ∷ front) n m more meets = meets_left q (fs ∷ front) n m more meets

pub meets_right : (q n m : ℕ) (back : List (List Element)) → n ≤ m → MeetsRight q n back → MeetsRight q m back
meets_right q n m [] more meets = tt
meets_right q n m (es ∷ back) more meets = omega (arith, more, meets)

-- the bound by the charge
crowded : (q : ℕ) (chain : List (List Element)) → AreSized q chain → IsDense q chain → IsChain q (map length chain)
crowded q [] sized dense = tt
crowded q (es ∷ []) sized dense = let some = sized.0 in omega (arith, some)
crowded q (es ∷ fs ∷ chain) sized dense = (dense.0, crowded q (fs ∷ chain) sized.2 dense.1)

pub length-all : (chain : List (List Element)) → sum (map length chain) ≡ length (all_in chain)
length-all [] = refl
length-all (es ∷ chain) = sum_by-cons (λ x. x) (length es) (map length chain) ∙ ap (λ (n : ℕ). length es + n) (length-all chain) ∙ sym (length-append es (all_in chain))

pub within_charge : (q : ℕ) (chain : List (List Element)) → 0 < q → AreSized q chain → IsDense q chain → length chain ≤ irregular_charge q (length (all_in chain))
within_charge q chain some sized dense =
    let bound = chain_charge q (map length chain) some (crowded q chain sized dense) in
    let long : length (map length chain) ≡ length chain = length-map chain length in
    omega (arith, long, subst (λ (n : ℕ). length (map length chain) ≤ irregular_charge q n) (length-all chain) bound)
