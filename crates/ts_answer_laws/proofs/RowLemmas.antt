-- Lists by their elements: what filters and maps keep of them, and what is known of those that rise.
use Rattle.std.specs.Prelude.{AllPairs, Contains, int_lt}
use Rattle.std.proofs.Common.{◌≡◌, ℕ, zero, suc, ◌≤◌, ◌⊎◌, Bool, true, false, cond, not, ◌&&◌, Option, Some, None, List, [], ◌∷◌, length, map, filter, filter_map, slice_get, get_or, refl, sym, ap, subst, ◌∙◌, arith, inl, inr, ℤ, ◌<ℤ◌, ◌≤ℤ◌}
use Rattle.std.specs.List.{cons_option}
use Rattle.std.specs.Option.{option_to_list}
use Rattle.std.proofs.lemmas.Int.{ints}
use Rattle.std.proofs.lemmas.List.{get_or_default}
use Rattle.std.proofs.lemmas.List.Elements.{All-map}
use Rattle.std.proofs.lemmas.List.Kept.{AllPairs-cons}
use Rattle.ts_calendar.proofs.StampLemmas.{int_lt_yes, int_lt_no, int_lt-false}

module _ {X : Type 0} where
  -- what a list contains, element by element
  abbrev pub Among : X → List X → Type 0
  Among x [] = ⊥
  Among x (y ∷ ys) = (x ≡ y) ⊎ Among x ys

  pub among_from : (xs : List X) (x : X) → Contains xs x → Among x xs
  among_from [] x (k, below, is) = absurd (omega (arith, below))
  among_from (y ∷ ys) x (zero, below, is) = inl (sym is)
  among_from (y ∷ ys) x (suc k, below, is) = inr (among_from ys x (k, omega (arith, below), is))

  pub among_contains : (xs : List X) (x : X) → Among x xs → Contains xs x
  among_contains [] x there = absurd there
  among_contains (y ∷ ys) x (inl is) = (0, omega arith, sym is)
  among_contains (y ∷ ys) x (inr there) = let rest = among_contains ys x there in let low = rest.1 in (suc rest.0, omega (arith, low), rest.2)

  pub among_place : (xs : List X) (n : ℕ) (x : X) → slice_get xs n ≡ Some x → Among x xs
  among_place [] n x is = absurd (cc)
  among_place (y ∷ ys) zero x is = inl (let same : x ≡ y = cc in same)
  among_place (y ∷ ys) (suc n) x is = inr (among_place ys n x is)

  pub place_among : (xs : List X) (x : X) → Among x xs → (n : ℕ) × (slice_get xs n ≡ Some x)
  place_among [] x there = absurd there
  place_among (y ∷ ys) x (inl is) = (0, ap Some (sym is))
  place_among (y ∷ ys) x (inr there) = let rest = place_among ys x there in (suc rest.0, rest.1)

  -- what a filter keeps
  pub among_filter : (p : X → Bool) (xs : List X) (x : X) → Among x xs → p x ≡ true → Among x (filter p xs)
  among_filter p [] x there passes = absurd there
  among_filter p (y ∷ ys) x there passes = by (p y) refl there (λ rest. among_filter p ys x rest passes)
    where
      by : (b : Bool) → p y ≡ b → Among x (y ∷ ys) → (Among x ys → Among x (filter p ys)) → Among x (cond b (y ∷ filter p ys) (filter p ys))
      by true on (inl is) more = inl is
      by true on (inr rest) more = inr (more rest)
      by false off (inl is) more = absurd (let no = sym passes ∙ ap p is ∙ off in cc)
      by false off (inr rest) more = more rest

  pub among_filtered : (p : X → Bool) (xs : List X) (x : X) → Among x (filter p xs) → Among x xs × (p x ≡ true)
  among_filtered p [] x there = absurd there
  among_filtered p (y ∷ ys) x there = by (p y) refl there (among_filtered p ys x)
    where
      by : (b : Bool) → p y ≡ b → Among x (cond b (y ∷ filter p ys) (filter p ys)) → (Among x (filter p ys) → Among x ys × (p x ≡ true)) → Among x (y ∷ ys) × (p x ≡ true)
      by true on (inl is) more = (inl is, ap p is ∙ on)
      by true on (inr rest) more = let r = more rest in (inr r.0, r.1)
      by false off rest more = let r = more rest in (inr r.0, r.1)

  -- a filter by two tests is one filter after the other
  pub filter_both : (q r : X → Bool) (xs : List X) → filter (λ x. q x && r x) xs ≡ filter r (filter q xs)
  filter_both q r [] = refl
  filter_both q r (x ∷ xs) = by (q x) (r x) refl (filter_both q r xs)
    where
      by : (a b : Bool) → r x ≡ b → filter (λ y. q y && r y) xs ≡ filter r (filter q xs)
          → cond (a && b) (x ∷ filter (λ y. q y && r y) xs) (filter (λ y. q y && r y) xs) ≡ filter r (cond a (x ∷ filter q xs) (filter q xs))
      by true true is more = ap (λ (l : List X). x ∷ l) more ∙ ap (λ (t : Bool). cond t (x ∷ filter r (filter q xs)) (filter r (filter q xs))) (sym is)
      by true false is more = more ∙ ap (λ (t : Bool). cond t (x ∷ filter r (filter q xs)) (filter r (filter q xs))) (sym is)
      by false true is more = more
      by false false is more = more

  pub few_listed : (o : Option X) → length (option_to_list o) ≤ 1
  few_listed None = omega arith
  few_listed (Some x) = omega arith

module _ {X Y : Type 0} where
  -- what a map makes
  pub among_map : (f : X → Y) (xs : List X) (x : X) → Among x xs → Among (f x) (map f xs)
  among_map f [] x there = absurd there
  among_map f (y ∷ ys) x (inl is) = inl (ap f is)
  among_map f (y ∷ ys) x (inr rest) = inr (among_map f ys x rest)

  pub among_mapped : (f : X → Y) (xs : List X) (z : Y) → Among z (map f xs) → (x : X) × Among x xs × (z ≡ f x)
  among_mapped f [] z there = absurd there
  among_mapped f (y ∷ ys) z (inl is) = (y, inl refl, is)
  among_mapped f (y ∷ ys) z (inr rest) = let r = among_mapped f ys z rest in (r.0, inr r.1, r.2)

  pub pairs_map : (f : X → Y) (R : Y → Y → Type 0) (xs : List X) → AllPairs (λ a b. R (f a) (f b)) xs → AllPairs R (map f xs)
  pairs_map f R [] pairs = λ i j d low within. absurd (omega (arith, within))
  pairs_map f R (x ∷ xs) pairs =
      AllPairs-cons R (f x) (map f xs) (All-map (R (f x)) f xs (λ k d within. pairs 0 (suc k) d (omega arith) (omega (arith, within))))
      (pairs_map f R xs (λ i j d low within. pairs (suc i) (suc j) d (omega (arith, low)) (omega (arith, within))))

  -- what a choice of some makes
  pub among_taken : (f : X → Option Y) (xs : List X) (x : X) (y : Y) → Among x xs → f x ≡ Some y → Among y (filter_map f xs)
  among_taken f [] x y there is = absurd there
  among_taken f (z ∷ zs) x y there is = by (f z) refl there (λ rest. among_taken f zs x y rest is)
    where
      by : (o : Option Y) → f z ≡ o → Among x (z ∷ zs) → (Among x zs → Among y (filter_map f zs)) → Among y (cons_option o (filter_map f zs))
      by None none (inl same) more = absurd (let no = sym is ∙ ap f same ∙ none in cc)
      by None none (inr rest) more = more rest
      by (Some v) some (inl same) more = inl (let e = sym is ∙ ap f same ∙ some in let one : y ≡ v = cc in one)
      by (Some v) some (inr rest) more = inr (more rest)

  pub among_came : (f : X → Option Y) (xs : List X) (y : Y) → Among y (filter_map f xs) → (x : X) × Among x xs × (f x ≡ Some y)
  among_came f [] y there = absurd there
  among_came f (z ∷ zs) y there = by (f z) refl there (among_came f zs y)
    where
      by : (o : Option Y) → f z ≡ o → Among y (cons_option o (filter_map f zs)) → (Among y (filter_map f zs) → (x : X) × Among x zs × (f x ≡ Some y)) → (x : X) × Among x (z ∷ zs) × (f x ≡ Some y)
      by None none rest more = let r = more rest in (r.0, inr r.1, r.2)
      by (Some v) some (inl is) more = (z, inl refl, some ∙ ap Some (sym is))
      by (Some v) some (inr rest) more = let r = more rest in (r.0, inr r.1, r.2)

  -- a choice that takes no others
  pub among_more : (f g : X → Option Y) (xs : List X) → ((x : X) (y : Y) → g x ≡ Some y → f x ≡ Some y) → (y : Y) → Among y (filter_map g xs) → Among y (filter_map f xs)
  among_more f g xs takes y there = let r = among_came g xs y there in among_taken f xs r.0 y r.1 (takes r.0 y r.2)

  pub fewer_taken : (f g : X → Option Y) (xs : List X) → ((x : X) (y : Y) → g x ≡ Some y → f x ≡ Some y) → length (filter_map g xs) ≤ length (filter_map f xs)
  fewer_taken f g [] takes = omega arith
  fewer_taken f g (x ∷ xs) takes = by (g x) refl (fewer_taken f g xs takes)
    where
      one_more : (o : Option Y) → length (filter_map g xs) ≤ length (filter_map f xs) → length (filter_map g xs) ≤ length (cons_option o (filter_map f xs))
      one_more None few = few
      one_more (Some y) few = omega (arith, few)

      by : (o : Option Y) → g x ≡ o → length (filter_map g xs) ≤ length (filter_map f xs) → length (cons_option o (filter_map g xs)) ≤ length (cons_option (f x) (filter_map f xs))
      by None none few = one_more (f x) few
      by (Some y) some few = subst (λ (o : Option Y). length (y ∷ filter_map g xs) ≤ length (cons_option o (filter_map f xs))) (sym (takes x y some)) (omega (arith, few))

-- numbers that rise strictly
abbrev pub Rise : List ℤ → Type 0
Rise xs = AllPairs (λ a b. a <ℤ b) xs

rest_rises : (x : ℤ) (xs : List ℤ) → Rise (x ∷ xs) → Rise xs
rest_rises x xs rise = λ i j d low within. rise (suc i) (suc j) d (omega (arith, low)) (omega (arith, within))

first_least : (x : ℤ) (xs : List ℤ) (s : ℤ) → Rise (x ∷ xs) → Among s xs → x <ℤ s
first_least x xs s rise there =
    let at = among_contains xs s there in
    let low = at.1 in
    subst (λ (t : ℤ). x <ℤ t) at.2 (rise 0 (suc at.0) s (omega arith) (omega (arith, low)))

-- a test that numbers pass up to some point keeps a front of them
pub front_kept : (p : ℤ → Bool) → ((a b : ℤ) → a <ℤ b → p b ≡ true → p a ≡ true) → (xs : List ℤ) (n : ℕ) (s : ℤ) → Rise xs → slice_get (filter p xs) n ≡ Some s → slice_get xs n ≡ Some s
front_kept p closed [] n s rise is = is
front_kept p closed (x ∷ xs) n s rise is = by (p x) refl n is (λ m. front_kept p closed xs m s (rest_rises x xs rise))
  where
    by : (b : Bool) → p x ≡ b → (m : ℕ) → slice_get (cond b (x ∷ filter p xs) (filter p xs)) m ≡ Some s
        → ((k : ℕ) → slice_get (filter p xs) k ≡ Some s → slice_get xs k ≡ Some s) → slice_get (x ∷ xs) m ≡ Some s
    by true on zero is more = is
    by true on (suc m) is more = more m is
    by false off m is more =
        let there = among_filtered p xs s (among_place (filter p xs) m s is) in
        absurd (let no = sym off ∙ closed x s (first_least x xs s rise there.0) there.1 in cc)

-- and each that passes keeps its place
pub front_keeps : (p : ℤ → Bool) → ((a b : ℤ) → a <ℤ b → p b ≡ true → p a ≡ true) → (xs : List ℤ) (n : ℕ) (s : ℤ) → Rise xs → slice_get xs n ≡ Some s → p s ≡ true
    → slice_get (filter p xs) n ≡ Some s
front_keeps p closed [] n s rise is passes = is
front_keeps p closed (x ∷ xs) zero s rise is passes =
    let same : x ≡ s = cc in
    ap (λ (b : Bool). slice_get (cond b (x ∷ filter p xs) (filter p xs)) 0) (ap p same ∙ passes) ∙ is
front_keeps p closed (x ∷ xs) (suc n) s rise is passes =
    let before = first_least x xs s rise (among_place xs n s is) in
    ap (λ (b : Bool). slice_get (cond b (x ∷ filter p xs) (filter p xs)) (suc n)) (closed x s before passes)
    ∙ front_keeps p closed xs n s (rest_rises x xs rise) is passes

-- what is made of them, each at its number, rises too
module _ {Y : Type 0} (at : Y → ℤ) (f : ℤ → Option Y) (same : (x : ℤ) (y : Y) → f x ≡ Some y → at y ≡ x) where
  abbrev RiseAt : List Y → Type 0
  RiseAt ys = AllPairs (λ a b. at a <ℤ at b) ys

  taken_later : (x : ℤ) (xs : List ℤ) (y z : Y) → Rise (x ∷ xs) → f x ≡ Some y → Among z (filter_map f xs) → at y <ℤ at z
  taken_later x xs y z rise some there =
      let from = among_came f xs z there in
      let low = first_least x xs from.0 rise from.1 in
      subst (λ (t : ℤ). t <ℤ at z) (sym (same x y some)) (subst (λ (t : ℤ). x <ℤ t) (sym (same from.0 z from.2)) low)

  pub taken_rise : (xs : List ℤ) → Rise xs → RiseAt (filter_map f xs)
  taken_rise [] rise = λ i j d low within. absurd (omega (arith, within))
  taken_rise (x ∷ xs) rise = by (f x) refl (taken_rise xs (rest_rises x xs rise))
    where
      by : (o : Option Y) → f x ≡ o → RiseAt (filter_map f xs) → RiseAt (cons_option o (filter_map f xs))
      by None none more = more
      by (Some y) some more = AllPairs-cons (λ a b. at a <ℤ at b) y (filter_map f xs)
          (λ k d within.
          let ys = filter_map f xs in
          let z = get_or ys k d in
          taken_later x xs y z rise some (among_from ys z (k, within, get_or_default ys k z d within))) more

-- none of them passes
pub none_kept : (p : ℤ → Bool) (xs : List ℤ) → ((x : ℤ) → Among x xs → p x ≡ false) → filter p xs ≡ []
none_kept p [] none = refl
none_kept p (x ∷ xs) none = ap (λ (b : Bool). cond b (x ∷ filter p xs) (filter p xs)) (none x (inl refl)) ∙ none_kept p xs (λ y there. none y (inr there))

-- so many of them stand before one
pub rank_at : (xs : List ℤ) (n : ℕ) (s : ℤ) → Rise xs → slice_get xs n ≡ Some s → length (filter (λ x. int_lt x s) xs) ≡ n
rank_at [] n s rise is = absurd (cc)
rank_at (x ∷ xs) zero s rise is =
    let same : x ≡ s = cc in
    let none = none_kept (λ y. int_lt y s) xs (λ y there. let later = first_least x xs y rise there in int_lt_no y s (omega (arith, ints, later, same))) in
    ap (λ (b : Bool). length (cond b (x ∷ filter (λ y. int_lt y s) xs) (filter (λ y. int_lt y s) xs))) (int_lt_no x s (omega (arith, ints, same)))
    ∙ ap (λ (l : List ℤ). length l) none
rank_at (x ∷ xs) (suc n) s rise is =
    let before = first_least x xs s rise (among_place xs n s is) in
    let rest = rank_at xs n s (rest_rises x xs rise) is in
    ap (λ (b : Bool). length (cond b (x ∷ filter (λ y. int_lt y s) xs) (filter (λ y. int_lt y s) xs))) (int_lt_yes x s before)
    ∙ omega (arith, rest)

-- a stamp between two
neither : (a b : Bool) → (not a && not b) ≡ true → (a ≡ false) × (b ≡ false)
neither true b is = absurd (cc)
neither false true is = absurd (cc)
neither false false is = (refl, refl)

pub between_true : (from to t : ℤ) → (not (int_lt t from) && not (int_lt to t)) ≡ true → (from ≤ℤ t) × (t ≤ℤ to)
between_true from to t is =
    let both = neither (int_lt t from) (int_lt to t) is in
    (int_lt-false t from both.0, int_lt-false to t both.1)

pub between_yes : (from to t : ℤ) → from ≤ℤ t → t ≤ℤ to → (not (int_lt t from) && not (int_lt to t)) ≡ true
between_yes from to t low high = ap (λ (b : Bool). not b && not (int_lt to t)) (int_lt_no t from low) ∙ ap not (int_lt_no to t high)

pub not_false : (b : Bool) → not b ≡ true → b ≡ false
not_false true is = absurd (cc)
not_false false is = refl
