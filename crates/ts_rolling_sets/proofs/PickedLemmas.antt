-- What is picked of some numbers: those of which nothing is picked don't count, and what is picked first and last.
use Rattle.std.proofs.Common.{◌≡◌, ℕ, zero, suc, ◌+◌, ◌<◌, ◌≤◌, ◌==◌, Bool, true, false, ◌||◌, inl, inr, Option, Some, None, List, [], ◌∷◌, ◌++◌, length, get_or, take, drop, option_to_list, refl, sym, ap, subst, ◌∙◌, arith}
use Rattle.std.proofs.lemmas.Bool.{cases_lt}
use Rattle.std.proofs.lemmas.List.{get_or-take}
use Rattle.std.proofs.lemmas.List.Folds.{list_any-append}
use Rattle.std.proofs.lemmas.Bool.Decides.{nat_tests}
use Rattle.std.specs.List.{list_any, filter_map, cons_option}

-- one in front of more
cons_append : (o : Option ℕ) (xs ys : List ℕ) → cons_option o (xs ++ ys) ≡ cons_option o xs ++ ys
cons_append None xs ys = refl
cons_append (Some x) xs ys = refl

module _ (f : ℕ → Option ℕ) where
  -- nothing is picked where none is
  pub picked_nothing : (xs : List ℕ) → ((k : ℕ) → k < length xs → f (get_or xs k 0) ≡ None) → filter_map f xs ≡ []
  picked_nothing [] none = refl
  picked_nothing (x ∷ xs) none =
      ap (λ (o : Option ℕ). cons_option o (filter_map f xs)) (none zero (omega arith)) ∙ picked_nothing xs (λ k within. none (suc k) (omega (arith, within)))

  -- those in front of which none is picked don't count
  pub picked_behind : (xs : List ℕ) (a : ℕ) → ((k : ℕ) → k < a → k < length xs → f (get_or xs k 0) ≡ None) → filter_map f (drop a xs) ≡ filter_map f xs
  picked_behind [] zero none = refl
  picked_behind [] (suc a) none = refl
  picked_behind (x ∷ xs) zero none = refl
  picked_behind (x ∷ xs) (suc a) none =
      picked_behind xs a (λ k before within. none (suc k) (omega (arith, before)) (omega (arith, within)))
      ∙ sym (ap (λ (o : Option ℕ). cons_option o (filter_map f xs)) (none zero (omega arith) (omega arith)))

  -- nor do those behind
  pub picked_before : (xs : List ℕ) (b : ℕ) → ((k : ℕ) → b ≤ k → k < length xs → f (get_or xs k 0) ≡ None) → filter_map f (take b xs) ≡ filter_map f xs
  picked_before [] zero none = refl
  picked_before [] (suc b) none = refl
  picked_before (x ∷ xs) zero none = sym (picked_nothing (x ∷ xs) (λ k within. none k (omega arith) within))
  picked_before (x ∷ xs) (suc b) none =
      ap (cons_option (f x)) (picked_before xs b (λ k behind within. none (suc k) (omega (arith, behind)) (omega (arith, within))))

  -- so between two places all are picked
  pub picked_between : (xs : List ℕ) (a b m : ℕ) → m ≤ a → m ≤ b → b ≤ length xs → ((k : ℕ) → k < a → k < length xs → f (get_or xs k 0) ≡ None) → ((k : ℕ) → b ≤ k → k < length xs → f (get_or xs k 0) ≡ None)
      → filter_map f (drop m (take b xs)) ≡ filter_map f xs
  picked_between xs a b m low high within before behind =
      picked_behind (take b xs) m (λ k lt inside. ap f (get_or-take b xs k 0 (omega (arith, lt, high))) ∙ before k (omega (arith, lt, low)) (omega (arith, lt, high, within)))
      ∙ picked_before xs b behind

  -- one that is picked, between those before and those behind
  pub picked_here : (xs : List ℕ) (i y : ℕ) → i < length xs → f (get_or xs i 0) ≡ Some y → (rest : List ℕ) × (filter_map f xs ≡ filter_map f (take i xs) ++ y ∷ rest)
  picked_here [] i y within is = absurd (omega (arith, within))
  picked_here (x ∷ xs) zero y within is = (filter_map f xs, ap (λ (o : Option ℕ). cons_option o (filter_map f xs)) is)
  picked_here (x ∷ xs) (suc i) y within is =
      let more = picked_here xs i y (omega (arith, within)) is in
      (more.0, ap (cons_option (f x)) more.1 ∙ cons_append (f x) (filter_map f (take i xs)) (y ∷ more.0))

  -- the last that is picked
  pub picked_last : (xs : List ℕ) (i y : ℕ) → i < length xs → f (get_or xs i 0) ≡ Some y → ((k : ℕ) → i < k → k < length xs → f (get_or xs k 0) ≡ None) → filter_map f xs ≡ filter_map f (take i xs) ++ y ∷ []
  picked_last [] i y within is none = absurd (omega (arith, within))
  picked_last (x ∷ xs) zero y within is none =
      (λ j. cons_option (is j) (picked_nothing xs (λ k inside. none (suc k) (omega arith) (omega (arith, inside))) j))
  picked_last (x ∷ xs) (suc i) y within is none =
      ap (cons_option (f x)) (picked_last xs i y (omega (arith, within)) is (λ k behind inside. none (suc k) (omega (arith, behind)) (omega (arith, inside))))
      ∙ cons_append (f x) (filter_map f (take i xs)) (y ∷ [])

  -- what is picked is among them, and only that
  pub any_picked : (xs : List ℕ) (i y : ℕ) → i < length xs → f (get_or xs i 0) ≡ Some y → list_any (λ k. k == y) (filter_map f xs) ≡ true
  any_picked xs i y within is =
      let here = picked_here xs i y within is in
      ap (list_any (λ k. k == y)) here.1 ∙ list_any-append (λ k. k == y) (filter_map f (take i xs)) (y ∷ here.0) ∙ or_so (list_any (λ k. k == y) (filter_map f (take i xs))) (y == y) (list_any (λ k. k == y) here.0) (itself y)
    where
      itself : (n : ℕ) → (n == n) ≡ true
      itself n = grind (arith, nat_tests)

      or_so : (a b c : Bool) → b ≡ true → (a || (b || c)) ≡ true
      or_so true b c is = refl
      or_so false b c is = ap (λ (t : Bool). t || c) is

  pub picked_where : (xs : List ℕ) (y : ℕ) → list_any (λ k. k == y) (filter_map f xs) ≡ true → (i : ℕ) × (i < length xs) × (f (get_or xs i 0) ≡ Some y)
  picked_where [] y any = absurd (cc)
  picked_where (x ∷ xs) y any = by (f x) refl (picked_where xs y) any
    where
      same : (j : ℕ) → (j == y) ≡ true → j ≡ y
      same j is = grind (arith, nat_tests)

      further : (i : ℕ) × (i < length xs) × (f (get_or xs i 0) ≡ Some y) → (i : ℕ) × (i < length (x ∷ xs)) × (f (get_or (x ∷ xs) i 0) ≡ Some y)
      further there = (suc there.0, omega (arith, there.1), there.2)

      at : (j : ℕ) (b : Bool) → f x ≡ Some j → (j == y) ≡ b → (list_any (λ k. k == y) (filter_map f xs) ≡ true → (i : ℕ) × (i < length xs) × (f (get_or xs i 0) ≡ Some y))
          → (b || list_any (λ k. k == y) (filter_map f xs)) ≡ true → (i : ℕ) × (i < length (x ∷ xs)) × (f (get_or (x ∷ xs) i 0) ≡ Some y)
      at j true is tie rest more = (zero, omega arith, is ∙ ap Some (same j tie))
      at j false is tie rest more = further (rest more)

      by : (o : Option ℕ) → f x ≡ o → (list_any (λ k. k == y) (filter_map f xs) ≡ true → (i : ℕ) × (i < length xs) × (f (get_or xs i 0) ≡ Some y))
          → list_any (λ k. k == y) (cons_option o (filter_map f xs)) ≡ true → (i : ℕ) × (i < length (x ∷ xs)) × (f (get_or (x ∷ xs) i 0) ≡ Some y)
      by None is rest more = further (rest more)
      by (Some j) is rest more = at j (j == y) is refl rest more

-- nothing is picked of one more
pub none_next : (f : ℕ → Option ℕ) (xs : List ℕ) (i : ℕ) → ((k : ℕ) → k < i → k < length xs → f (get_or xs k 0) ≡ None) → f (get_or xs i 0) ≡ None → (k : ℕ) → k < i + 1 → k < length xs → f (get_or xs k 0) ≡ None
none_next f xs i none here k before within = elim (cases_lt k i) [
  | inl lt ↦ none k lt within
  | inr ge ↦ let same : i ≡ k = omega (arith, before, ge) in subst (λ (n : ℕ). f (get_or xs n 0) ≡ None) same here
]

-- one of an option
pub one_of : (o : Option ℕ) (y : ℕ) → list_any (λ k. k == y) (option_to_list o) ≡ true → o ≡ Some y
one_of None y any = absurd (cc)
one_of (Some j) y any = ap Some (same j y (or_none (j == y) any))
  where
    or_none : (b : Bool) → (b || false) ≡ true → b ≡ true
    or_none true is = refl
    or_none false is = is

    same : (i k : ℕ) → (i == k) ≡ true → i ≡ k
    same i k is = grind (arith, nat_tests)
