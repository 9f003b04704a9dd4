-- Lists with the same elements in another order, and lists of which each two elements differ.
use Rattle.std.specs.Prelude.{All, AllPairs, Contains, IsPermutation}
use Rattle.std.proofs.Common.{◌≡◌, ◌≢◌, ℕ, zero, suc, ◌<◌, ◌≤◌, ◌==◌, if◌then◌else◌, List, [], ◌∷◌, ◌++◌, length, get_or, set, refl, sym, ap, subst, ◌∙◌, arith, inl, inr, append_assoc, length-append}
use Rattle.std.specs.List.{flat_map, swap}
use Rattle.std.proofs.lemmas.Bool.{cases_eq, cases_lt}
use Rattle.std.proofs.lemmas.Bool.Decides.{nat_tests}
use Rattle.std.proofs.lemmas.List.{get_or_append_left}
use Rattle.std.proofs.lemmas.List.Edits.{length-swap, swap_is, swapped_from_swap}
use Rattle.std.proofs.lemmas.List.Elements.{All-append, All-contains, Contains-get_or}
use Rattle.std.proofs.lemmas.List.Kept.{AllPairs-cons}
use Rattle.std.proofs.lemmas.List.Sorted.{IsPermutation-refl, IsPermutation-trans, IsPermutation-append_left, IsPermutation-append_right, IsPermutation-append_comm, IsPermutation-keeps}
use Rattle.ts_row.specs.Row.{Element}
use Rattle.ts_sheets.specs.Stamped.{all_in}

-- where an element stood before two were exchanged
abbrev turned : ℕ → ℕ → ℕ → ℕ
turned i j m = if m == i then j else (if m == j then i else m)

turned_within : (i j m n : ℕ) → i < n → j < n → m < n → turned i j m < n
turned_within i j m n first second within = grind (arith, nat_tests)

turned_apart : (i j a b : ℕ) → a ≢ b → turned i j a ≢ turned i j b
turned_apart i j a b other same = grind (arith, nat_tests)

-- what holds of all elements of two lists side by side
module _ {X : Type 0} (P : X → Type 0) where
  pub all_front : (xs ys : List X) → All P (xs ++ ys) → All P xs
  all_front xs ys all k d within = let long = length-append xs ys in subst P (get_or_append_left xs ys d k within) (all k d (omega (arith, within, long)))

  pub all_back : (xs ys : List X) → All P (xs ++ ys) → All P ys
  all_back [] ys all = all
  all_back (x ∷ xs) ys all = all_back xs ys (λ k d within. all (suc k) d (omega (arith, within)))

module _ {X : Type 0} (R : X → X → Type 0) where
  -- each two elements, whichever is first
  abbrev AllApart : List X → Type 0
  AllApart xs = (i j : ℕ) (d : X) → i < length xs → j < length xs → i ≢ j → R (get_or xs i d) (get_or xs j d)

  pairs_apart : ((x y : X) → R x y → R y x) → (xs : List X) → AllPairs R xs → AllApart xs
  pairs_apart turn xs pairs i j d first second other = elim (cases_lt i j) [
    | inl before ↦ pairs i j d before second
    | inr behind ↦ turn (get_or xs j d) (get_or xs i d) (pairs j i d (omega (arith, behind, other)) first)
  ]

  apart_pairs : (xs : List X) → AllApart xs → AllPairs R xs
  apart_pairs xs apart i j d before within = apart i j d (omega (arith, before, within)) within (λ same. absurd (omega (arith, before, same)))

  source : (xs : List X) (i j m : ℕ) (d : X) → i < length xs → j < length xs → get_or (swap xs i j) m d ≡ get_or xs (turned i j m) d
  source xs i j m d first second =
      let swapped = swapped_from_swap xs (swap xs i j) i j d first second refl in
      elim (cases_eq m i) [
        | inl same ↦
            let at : turned i j m ≡ j = grind (arith, nat_tests) in
            ap (λ (n : ℕ). get_or (swap xs i j) n d) same ∙ swapped.0 ∙ ap (λ (n : ℕ). get_or xs n d) (sym at)
        | inr other ↦ elim (cases_eq m j) [
          | inl same ↦
              let at : turned i j m ≡ i = grind (arith, nat_tests) in
              ap (λ (n : ℕ). get_or (swap xs i j) n d) same ∙ swapped.1 ∙ ap (λ (n : ℕ). get_or xs n d) (sym at)
          | inr neither ↦
              let at : turned i j m ≡ m = grind (arith, nat_tests) in
              swapped.2 m other neither ∙ ap (λ (n : ℕ). get_or xs n d) (sym at)
        ]
      ]

  apart_swapped : (xs : List X) (i j : ℕ) → i < length xs → j < length xs → AllApart xs → AllApart (swap xs i j)
  apart_swapped xs i j first second apart a b d left right other =
      let long = length-swap xs i j in
      let in_left : turned i j a < length xs = turned_within i j a (length xs) first second (omega (arith, left, long)) in
      let in_right : turned i j b < length xs = turned_within i j b (length xs) first second (omega (arith, right, long)) in
      subst (λ (x : X). R x (get_or (swap xs i j) b d)) (sym (source xs i j a d first second))
      (subst (λ (y : X). R (get_or xs (turned i j a) d) y) (sym (source xs i j b d first second)) (apart (turned i j a) (turned i j b) d in_left in_right (turned_apart i j a b other)))

  -- elements of which each two are related, either way, are so in any order
  pub pairs_permuted : ((x y : X) → R x y → R y x) → (xs ys : List X) → IsPermutation xs ys → AllPairs R xs → AllPairs R ys
  pairs_permuted turn xs ys moved pairs = apart_pairs ys (IsPermutation-keeps xs AllApart (pairs_apart turn xs pairs) (λ l i j first second apart. apart_swapped l i j first second apart) ys moved)

  -- the first element, and the others
  pub pairs_first : (x : X) (xs : List X) → AllPairs R (x ∷ xs) → All (R x) xs
  pairs_first x xs pairs k d within = pairs 0 (suc k) d (omega arith) (omega (arith, within))

  pub pairs_rest : (x : X) (xs : List X) → AllPairs R (x ∷ xs) → AllPairs R xs
  pairs_rest x xs pairs i j d before within = pairs (suc i) (suc j) d (omega (arith, before)) (omega (arith, within))

  pub pairs_none : AllPairs R []
  pairs_none i j d before within = absurd (omega (arith, within))

  -- two lists side by side
  pub pairs_front : (xs ys : List X) → AllPairs R (xs ++ ys) → AllPairs R xs
  pairs_front xs ys pairs i j d before within =
      let long = length-append xs ys in
      subst (λ (x : X). R x (get_or xs j d)) (get_or_append_left xs ys d i (omega (arith, before, within)))
      (subst (λ (y : X). R (get_or (xs ++ ys) i d) y) (get_or_append_left xs ys d j within) (pairs i j d before (omega (arith, within, long))))

  pub pairs_back : (xs ys : List X) → AllPairs R (xs ++ ys) → AllPairs R ys
  pairs_back [] ys pairs = pairs
  pairs_back (x ∷ xs) ys pairs = pairs_back xs ys (pairs_rest x (xs ++ ys) pairs)

  further : (x y : X) (xs : List X) → Contains xs y → Contains (x ∷ xs) y
  further x y xs there = let low = there.1 in (suc there.0, omega (arith, low), there.2)

  pub pairs_join : (xs ys : List X) → AllPairs R xs → AllPairs R ys → ((x y : X) → Contains xs x → Contains ys y → R x y) → AllPairs R (xs ++ ys)
  pairs_join [] ys first second each = second
  pairs_join (x ∷ xs) ys first second each =
      AllPairs-cons R x (xs ++ ys) (All-append (R x) xs ys (pairs_first x xs first) (λ k d within. each x (get_or ys k d) (0, omega arith, refl) (Contains-get_or ys k d within)))
      (pairs_join xs ys (pairs_rest x xs first) second (λ a b here there. each a b (further x a xs here) there))

  pub pairs_across : (xs ys : List X) (x y : X) → AllPairs R (xs ++ ys) → Contains xs x → Contains ys y → R x y
  pairs_across [] ys x y pairs here there = let low = here.1 in absurd (omega (arith, low))
  pairs_across (z ∷ xs) ys x y pairs (zero, low, is) there =
      subst (λ (a : X). R a y) is (All-contains (R z) ys y (all_back (R z) xs ys (pairs_first z (xs ++ ys) pairs)) there)
  pairs_across (z ∷ xs) ys x y pairs (suc k, low, is) there = pairs_across xs ys x y (pairs_rest z (xs ++ ys) pairs) (k, omega (arith, low), is) there

  -- a list of one element or none
  pub pairs_short : (xs : List X) → length xs ≤ 1 → AllPairs R xs
  pairs_short xs short i j d before within = absurd (omega (arith, short, before, within))

-- parts that are exchanged
pub parts_exchanged : {X : Type 0} (a b c : List X) → IsPermutation (a ++ (b ++ c)) (b ++ (a ++ c))
parts_exchanged {X} a b c =
    subst (λ (l : List X). IsPermutation l (b ++ (a ++ c))) (append_assoc a b c)
    (subst (λ (l : List X). IsPermutation ((a ++ b) ++ c) l) (append_assoc b a c) (IsPermutation-append_left c (a ++ b) (b ++ a) (IsPermutation-append_comm a b)))

-- lists joined end to end, of which one is put in front
module _ {A X : Type 0} (f : A → List X) where
  abbrev pub without_at : ℕ → List A → List A
  without_at i [] = []
  without_at zero (x ∷ xs) = xs
  without_at (suc i) (x ∷ xs) = x ∷ without_at i xs

  pub one_in_front : (xs : List A) (i : ℕ) (d : A) → i < length xs → IsPermutation (flat_map f xs) (f (get_or xs i d) ++ flat_map f (without_at i xs))
  one_in_front [] i d within = absurd (omega (arith, within))
  one_in_front (x ∷ xs) zero d within = IsPermutation-refl (f x ++ flat_map f xs)
  one_in_front (x ∷ xs) (suc i) d within =
      IsPermutation-trans _ _ _ (IsPermutation-append_right (f x) _ _ (one_in_front xs i d (omega (arith, within)))) (parts_exchanged (f x) (f (get_or xs i d)) (flat_map f (without_at i xs)))

  pub without_set : (xs : List A) (i : ℕ) (y : A) → without_at i (set xs i y) ≡ without_at i xs
  without_set [] i y = refl
  without_set (x ∷ xs) zero y = refl
  without_set (x ∷ xs) (suc i) y = ap (λ (l : List A). x ∷ l) (without_set xs i y)

  -- an element that is exchanged with the first
  first_exchanged : (x d : A) (xs : List A) (m : ℕ) → m < length xs → IsPermutation (f x ++ flat_map f xs) (f (get_or xs m d) ++ flat_map f (set xs m x))
  first_exchanged x d [] m within = absurd (omega (arith, within))
  first_exchanged x d (y ∷ xs) zero within = parts_exchanged (f x) (f y) (flat_map f xs)
  first_exchanged x d (y ∷ xs) (suc m) within =
      IsPermutation-trans _ _ _ (parts_exchanged (f x) (f y) (flat_map f xs))
      (IsPermutation-trans _ _ _ (IsPermutation-append_right (f y) _ _ (first_exchanged x d xs m (omega (arith, within))))
      (parts_exchanged (f y) (f (get_or xs m d)) (flat_map f (set xs m x))))

  -- two elements that are exchanged
  two_exchanged : (d : A) (xs : List A) (i j : ℕ) → i < length xs → j < length xs → IsPermutation (flat_map f xs) (flat_map f (set (set xs i (get_or xs j d)) j (get_or xs i d)))
  two_exchanged d [] i j first second = absurd (omega (arith, first))
  two_exchanged d (x ∷ xs) zero zero first second = IsPermutation-refl (f x ++ flat_map f xs)
  two_exchanged d (x ∷ xs) zero (suc j) first second = first_exchanged x d xs j (omega (arith, second))
  two_exchanged d (x ∷ xs) (suc i) zero first second = first_exchanged x d xs i (omega (arith, first))
  two_exchanged d (x ∷ xs) (suc i) (suc j) first second = IsPermutation-append_right (f x) _ _ (two_exchanged d xs i j (omega (arith, first)) (omega (arith, second)))

  swapped : (xs : List A) (i j : ℕ) → i < length xs → j < length xs → IsPermutation (flat_map f xs) (flat_map f (swap xs i j))
  swapped [] i j first second = absurd (omega (arith, first))
  swapped (x ∷ xs) i j first second =
      let is = swap_is (x ∷ xs) i j x first second in
      subst (λ (l : List A). IsPermutation (flat_map f (x ∷ xs)) (flat_map f l)) is (two_exchanged x (x ∷ xs) i j first second)

  -- lists that are joined end to end in another order
  pub flat_map_permuted : (xs ys : List A) → IsPermutation xs ys → IsPermutation (flat_map f xs) (flat_map f ys)
  flat_map_permuted xs ys moved =
      IsPermutation-keeps xs (λ (l : List A). IsPermutation (flat_map f xs) (flat_map f l)) (IsPermutation-refl (flat_map f xs))
      (λ l i j first second so_far. IsPermutation-trans _ _ _ so_far (swapped l i j first second)) ys moved

-- the elements of pages in another order
all_in_is : (chain : List (List Element)) → all_in chain ≡ flat_map (λ es. es) chain
all_in_is [] = refl
all_in_is (es ∷ chain) = ap (λ (l : List Element). es ++ l) (all_in_is chain)

pub all_in_permuted : (chain others : List (List Element)) → IsPermutation chain others → IsPermutation (all_in chain) (all_in others)
all_in_permuted chain others moved =
    subst (λ (l : List Element). IsPermutation l (all_in others)) (sym (all_in_is chain))
    (subst (λ (l : List Element). IsPermutation (flat_map (λ es. es) chain) l) (sym (all_in_is others)) (flat_map_permuted (λ (es : List Element). es) chain others moved))
