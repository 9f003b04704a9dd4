-- Facts on each two places of a list, which hold in whatever order its elements stand.
use Rattle.std.specs.Prelude.{All, AllPairs, IsPermutation}
use Rattle.std.specs.List.{swap}
use Rattle.std.proofs.Common.{◌≡◌, ◌≢◌, ℕ, zero, suc, ◌<◌, ◌≤◌, ◌⊎◌, List, [], ◌∷◌, ◌++◌, length, get_or, refl, sym, ap, ◌∙◌, subst, arith, inl, inr}
use Rattle.std.proofs.lemmas.Bool.{cases_eq, cases_lt}
use Rattle.std.proofs.lemmas.List.Edits.{length-swap, swapped_from_swap}
use Rattle.std.proofs.lemmas.List.Sorted.{IsPermutation-keeps}

-- where an element stood before two were exchanged
abbrev Came : ℕ → ℕ → ℕ → ℕ → Type 0
Came a b now before = ((now ≡ a) × (before ≡ b)) ⊎ (((now ≡ b) × (before ≡ a)) ⊎ ((now ≢ a) × (now ≢ b) × (before ≡ now)))

one_before : (a b i j m n : ℕ) → Came a b i m → Came a b j n → m ≡ n → i ≡ j
one_before a b i j m n (inl x) (inl y) same = omega (arith, x.0, y.0)
one_before a b i j m n (inl x) (inr (inl y)) same = omega (arith, x.0, x.1, y.0, y.1, same)
one_before a b i j m n (inl x) (inr (inr y)) same = absurd (y.1 (omega (arith, x.1, y.2, same)))
one_before a b i j m n (inr (inl x)) (inl y) same = omega (arith, x.0, x.1, y.0, y.1, same)
one_before a b i j m n (inr (inl x)) (inr (inl y)) same = omega (arith, x.0, y.0)
one_before a b i j m n (inr (inl x)) (inr (inr y)) same = absurd (y.0 (omega (arith, x.1, y.2, same)))
one_before a b i j m n (inr (inr x)) (inl y) same = absurd (x.1 (omega (arith, x.2, y.1, same)))
one_before a b i j m n (inr (inr x)) (inr (inl y)) same = absurd (x.0 (omega (arith, x.2, y.1, same)))
one_before a b i j m n (inr (inr x)) (inr (inr y)) same = omega (arith, x.2, y.2, same)

module _ {X : Type 0} (R : X → X → Type 0) where
  -- it holds of the elements at each two places
  abbrev pub AtEachTwo : List X → Type 0
  AtEachTwo xs = (i j : ℕ) (d : X) → i < length xs → j < length xs → i ≢ j → R (get_or xs i d) (get_or xs j d)

  pub two_from_pairs : (xs : List X) → ((x y : X) → R x y → R y x) → AllPairs R xs → AtEachTwo xs
  two_from_pairs xs both pairs i j d first second other =
      elim (cases_lt i j) [
        | inl below ↦ pairs i j d below second
        | inr past ↦ both (get_or xs j d) (get_or xs i d) (pairs j i d (omega (arith, past, other)) first)
      ]

  record Before (l : List X) (a b k : ℕ) (d : X) : Type 0 where
    place : ℕ
    within : place < length l
    is : get_or (swap l a b) k d ≡ get_or l place d
    came : Came a b k place

  before : (l : List X) (a b k : ℕ) (d : X) → a < length l → b < length l → k < length l → Before l a b k d
  before l a b k d first second within =
      let moved = swapped_from_swap l (swap l a b) a b d first second refl in
      elim (cases_eq k a) [
        | inl here ↦ record { place = b; within = second; is = ap (λ (n : ℕ). get_or (swap l a b) n d) here ∙ moved.0; came = inl (here, refl) }
        | inr apart ↦ elim (cases_eq k b) [
          | inl here ↦ record { place = a; within = first; is = ap (λ (n : ℕ). get_or (swap l a b) n d) here ∙ moved.1; came = inr (inl (here, refl)) }
          | inr other ↦ record { place = k; within = within; is = moved.2 k apart other; came = inr (inr (apart, other, refl)) }
        ]
      ]

  two_swapped : (l : List X) (a b : ℕ) → a < length l → b < length l → AtEachTwo l → AtEachTwo (swap l a b)
  two_swapped l a b first second two i j d inside within other =
      let long = length-swap l a b in
      let p = before l a b i d first second (omega (arith, inside, long)) in
      let q = before l a b j d first second (omega (arith, within, long)) in
      let held : R (get_or l p.place d) (get_or l q.place d) = two p.place q.place d p.within q.within (λ same. other (one_before a b i j p.place q.place p.came q.came same)) in
      subst (λ (x : X). R x (get_or (swap l a b) j d)) (sym p.is) (subst (R (get_or l p.place d)) (sym q.is) held)

  pub two_permuted : (xs ys : List X) → IsPermutation xs ys → AtEachTwo xs → AtEachTwo ys
  two_permuted xs ys moved two = IsPermutation-keeps xs AtEachTwo two two_swapped ys moved
