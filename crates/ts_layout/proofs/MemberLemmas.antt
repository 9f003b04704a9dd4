-- Lists by what they contain: those with the same elements are permutations, and such as rise are equal.
use Rattle.std.specs.Prelude.{All, AllPairs, Contains, IsPermutation}
use Rattle.std.proofs.Common.{◌≡◌, ◌≢◌, ℕ, zero, suc, ◌<◌, ◌≤◌, ◌⊎◌, List, [], ◌∷◌, ◌++◌, map, length, set, get_or, refl, sym, ap, subst, ◌∙◌, arith, inl, inr, length-append, ℤ, ◌<ℤ◌}
use Rattle.std.proofs.lemmas.Int.{ints}
use Rattle.std.proofs.lemmas.List.{length-map, get_or-map}
use Rattle.std.proofs.lemmas.List.Sorted.{IsPermutation-refl, IsPermutation-sym, IsPermutation-trans, IsPermutation-cons, IsPermutation-middle, IsPermutation-keeps, IsPermutation-swap, Contains-permutation, length_permutation}
use Rattle.std.specs.List.{swap}
use Rattle.ts_space.specs.declared.place.Place.{Place}
use Rattle.ts_space.specs.Place.{AreAbove, IsRising}

module _ {X : Type 0} where
  -- what a list contains, element by element
  abbrev pub Among : X → List X → Type 0
  Among x [] = ⊥
  Among x (y ∷ ys) = (x ≡ y) ⊎ Among x ys

  pub among_from : (xs : List X) (x : X) → Contains xs x → Among x xs
  among_from [] x (k, below, is) = absurd (omega (arith, below))
  among_from (y ∷ ys) x (zero, below, is) = inl (sym is)
  among_from (y ∷ ys) x (suc k, below, is) = inr (among_from ys x (k, omega (arith, below), is))

  pub among_contains : (xs : List X) (x : X) → Among x xs → Contains xs x
  among_contains [] x there = absurd there
  among_contains (y ∷ ys) x (inl is) = (0, omega arith, sym is)
  among_contains (y ∷ ys) x (inr there) = let rest = among_contains ys x there in let low = rest.1 in (suc rest.0, omega (arith, low), rest.2)

  pub among_permuted : (xs ys : List X) (x : X) → IsPermutation xs ys → Among x xs → Among x ys
  among_permuted xs ys x moved there = among_from ys x (Contains-permutation xs ys x moved (among_contains xs x there))

  pub among_front : (xs ys : List X) (x : X) → Among x xs → Among x (xs ++ ys)
  among_front [] ys x there = absurd there
  among_front (y ∷ xs) ys x (inl is) = inl is
  among_front (y ∷ xs) ys x (inr there) = inr (among_front xs ys x there)

  pub among_back : (xs ys : List X) (x : X) → Among x ys → Among x (xs ++ ys)
  among_back [] ys x there = there
  among_back (y ∷ xs) ys x there = inr (among_back xs ys x there)

  pub among_either : (xs ys : List X) (x : X) → Among x (xs ++ ys) → Among x xs ⊎ Among x ys
  among_either [] ys x there = inr there
  among_either (y ∷ xs) ys x (inl is) = inl (inl is)
  among_either (y ∷ xs) ys x (inr there) = elim (among_either xs ys x there) [ inl front ↦ inl (inr front) | inr back ↦ inr back ]

  pub all_among : (P : X → Type 0) (xs : List X) (x : X) → All P xs → Among x xs → P x
  all_among P [] x all there = absurd there
  all_among P (y ∷ xs) x all (inl is) = subst P (sym is) (all 0 y (omega arith))
  all_among P (y ∷ xs) x all (inr there) = all_among P xs x (λ k d within. all (suc k) d (omega (arith, within))) there

  -- no element stands there twice
  abbrev pub AreOnce : List X → Type 0
  AreOnce [] = Unit {0}
  AreOnce (x ∷ xs) = (Among x xs → ⊥) × AreOnce xs

  pub once_from : (xs : List X) → AllPairs (λ a b. a ≢ b) xs → AreOnce xs
  once_from [] pairs = tt
  once_from (x ∷ xs) pairs =
      (λ there. all_among (λ y. x ≢ y) xs x (λ k d within. pairs 0 (suc k) d (omega arith) (omega (arith, within))) there refl, once_from xs (λ i j d before within. pairs (suc i) (suc j) d (omega (arith, before)) (omega (arith, within))))

  pub once_front : (xs ys : List X) → AreOnce (xs ++ ys) → AreOnce xs
  once_front [] ys once = tt
  once_front (x ∷ xs) ys once = (λ there. once.0 (among_front xs ys x there), once_front xs ys once.1)

  pub once_back : (xs ys : List X) → AreOnce (xs ++ ys) → AreOnce ys
  once_back [] ys once = once
  once_back (x ∷ xs) ys once = once_back xs ys once.1

  pub once_apart : (xs ys : List X) (x : X) → AreOnce (xs ++ ys) → Among x xs → Among x ys → ⊥
  once_apart [] ys x once here there = here
  once_apart (y ∷ xs) ys x once (inl is) there = once.0 (subst (λ (z : X). Among z (xs ++ ys)) is (among_back xs ys x there))
  once_apart (y ∷ xs) ys x once (inr here) there = once_apart xs ys x once.1 here there

  -- a list around one of its elements
  pub record Split (x : X) (xs : List X) : Type 0 where
    pub front : List X
    pub back : List X
    pub is : xs ≡ front ++ x ∷ back

  split : (x : X) (xs : List X) → Among x xs → Split x xs
  split x [] there = absurd there
  split x (y ∷ xs) (inl is) = record { front = []; back = xs; is = ap (λ (z : X). z ∷ xs) (sym is) }
  split x (y ∷ xs) (inr there) = let rest = split x xs there in record { front = y ∷ rest.front; back = rest.back; is = ap (λ (l : List X). y ∷ l) rest.is }

  others_among : (x z : X) (front back : List X) → z ≢ x → Among z (front ++ x ∷ back) → Among z (front ++ back)
  others_among x z [] back other (inl is) = absurd (other is)
  others_among x z [] back other (inr there) = there
  others_among x z (y ∷ front) back other (inl is) = inl is
  others_among x z (y ∷ front) back other (inr there) = inr (others_among x z front back other there)

  -- a list whose elements are all different and in one as long is a permutation of it
  pub members_permuted : (xs ys : List X) → AreOnce xs → ((z : X) → Among z xs → Among z ys) → length ys ≤ length xs → IsPermutation xs ys
  members_permuted [] [] once there long = IsPermutation-refl []
  members_permuted [] (y ∷ ys) once there long = absurd (omega (arith, long))
  members_permuted (x ∷ xs) ys once there long =
      let cut = split x ys (there x (inl refl)) in
      let count = ap (λ (l : List X). length l) cut.is in
      let rest = members_permuted xs (cut.front ++ cut.back) once.1
      (λ z here. others_among x z cut.front cut.back (λ same. once.0 (subst (λ (y : X). Among y xs) same here)) (subst (Among z) cut.is (there z (inr here))))
      (omega (arith, long, count, length-append cut.front (x ∷ cut.back), length-append cut.front cut.back)) in
      subst (IsPermutation (x ∷ xs)) (sym cut.is)
      (IsPermutation-trans (x ∷ xs) (x ∷ (cut.front ++ cut.back)) (cut.front ++ x ∷ cut.back) (IsPermutation-cons x xs (cut.front ++ cut.back) rest)
      (IsPermutation-sym (cut.front ++ x ∷ cut.back) (x ∷ (cut.front ++ cut.back)) (IsPermutation-middle cut.front x cut.back)))

  -- what is left of two permutations without the same part, where no element stands twice
  pub rest_permuted : (xs ys part : List X) → AreOnce (xs ++ part) → IsPermutation (xs ++ part) (part ++ ys) → IsPermutation xs ys
  rest_permuted xs ys part once moved =
      let many = length_permutation (xs ++ part) (part ++ ys) moved in
      members_permuted xs ys (once_front xs part once)
      (λ z here. elim (among_either part ys z (among_permuted (xs ++ part) (part ++ ys) z moved (among_front xs part z here))) [
        | inl in_part ↦ absurd (once_apart xs part z once here in_part)
        | inr there ↦ there
      ]) (omega (arith, many, length-append xs part, length-append part ys))

-- places above one
above_all : (at : ℤ) (ps : List Place) (p : Place) → AreAbove at ps → Among p ps → at <ℤ p.at
above_all at [] p above there = absurd there
above_all at (q ∷ ps) p above (inl is) = subst (λ (x : Place). at <ℤ x.at) (sym is) above.0
above_all at (q ∷ ps) p above (inr there) = above_all at ps p above.1 there

never_both : (x y : ℤ) → x <ℤ y → y <ℤ x → ⊥
never_both x y first second = omega (arith, ints, first, second)

never_itself : (p q : Place) → p ≡ q → q.at <ℤ p.at → ⊥
never_itself p q same below = never_both q.at p.at below (subst (λ (x : Place). x.at <ℤ q.at) (sym same) (subst (λ (x : Place). q.at <ℤ x.at) same below))

same_places : (ps qs : List Place) → IsRising ps → IsRising qs → ((p : Place) → Among p ps → Among p qs) → ((p : Place) → Among p qs → Among p ps) → ps ≡ qs
same_places [] [] first second there back = refl
same_places [] (q ∷ qs) first second there back = absurd (back q (inl refl))
same_places (p ∷ ps) [] first second there back = absurd (there p (inl refl))
same_places (p ∷ ps) (q ∷ qs) first second there back =
    let head : p ≡ q = elim (there p (inl refl)) [
      | inl same ↦ same
      | inr behind ↦ elim (back q (inl refl)) [
        | inl same ↦ sym same
        | inr behind' ↦ absurd (never_both p.at q.at (above_all p.at ps q first.0 behind') (above_all q.at qs p second.0 behind))
      ]
    ] in
    let tail = same_places ps qs first.1 second.1
    (λ r here. elim (there r (inr here)) [ inl same ↦ absurd (never_itself r p (same ∙ sym head) (above_all p.at ps r first.0 here)) | inr ok ↦ ok ])
    (λ r here. elim (back r (inr here)) [ inl same ↦ absurd (never_itself r q (same ∙ head) (above_all q.at qs r second.0 here)) | inr ok ↦ ok ]) in
    λ i. head i ∷ tail i

-- places that rise are in one order
pub rising_once : (ps qs : List Place) → IsRising ps → IsRising qs → IsPermutation ps qs → ps ≡ qs
rising_once ps qs first second moved =
    same_places ps qs first second (λ p here. among_permuted ps qs p moved here) (λ p here. among_permuted qs ps p (IsPermutation-sym ps qs moved) here)

-- a permutation of what a function gives is what it gives of a permutation
module _ {P X : Type 0} (f : P → X) where
  pub record Lifted (ps : List P) (xs : List X) : Type 0 where
    pub list : List P
    pub is : map f list ≡ xs
    pub moved : IsPermutation ps list

  map_swap : (ps : List P) (i j : ℕ) → i < length ps → j < length ps → map f (swap ps i j) ≡ swap (map f ps) i j
  map_swap [] i j first second = refl
  map_swap (d ∷ ps) i j first second =
      map_set (set (d ∷ ps) i (get_or (d ∷ ps) j d)) j (get_or (d ∷ ps) i d)
      ∙ (λ t. set ((map_set (d ∷ ps) i (get_or (d ∷ ps) j d) ∙ ap (set (map f (d ∷ ps)) i) (sym (get_or-map f (d ∷ ps) j d (f d) second))) t) j (sym (get_or-map f (d ∷ ps) i d (f d) first) t))
    where
      map_set : (qs : List P) (k : ℕ) (q : P) → map f (set qs k q) ≡ set (map f qs) k (f q)
      map_set [] k q = refl
      map_set (r ∷ qs) zero q = refl
      map_set (r ∷ qs) (suc k) q = ap (λ (l : List X). f r ∷ l) (map_set qs k q)

  pub lifted : (ps : List P) (xs : List X) → IsPermutation (map f ps) xs → Lifted ps xs
  lifted ps xs moved = IsPermutation-keeps (map f ps) (Lifted ps) (record { list = ps; is = refl; moved = IsPermutation-refl ps }) (λ l i j first second so. step l i j first second so) xs moved where
    step : (l : List X) (i j : ℕ) → i < length l → j < length l → Lifted ps l → Lifted ps (swap l i j)
    step l i j first second so =
        let long = length-map so.list f in
        let count = ap (λ (k : List X). length k) so.is in
        let left : i < length so.list = omega (arith, first, long, count) in
        let right : j < length so.list = omega (arith, second, long, count) in
        record {
          list = swap so.list i j;
          is = map_swap so.list i j left right ∙ ap (λ (k : List X). swap k i j) so.is;
          moved = IsPermutation-trans ps so.list (swap so.list i j) so.moved (IsPermutation-swap so.list (swap so.list i j) i j left right refl);
        }
