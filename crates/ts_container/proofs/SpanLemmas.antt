-- The spans of pages: neighbours, and those of one series.
use Rattle.std.specs.Prelude.{All, AllPairs}
use Rattle.std.proofs.Common.{◌≡◌, ℕ, zero, suc, ◌+◌, ◌<◌, ◌≤◌, ◌==◌, Bool, true, false, cond, nat_lt, List, [], ◌∷◌, length, map, get_or, refl, sym, ap, subst, ◌∙◌, arith, inl, inr, ℤ, ◌<ℤ◌, ◌≤ℤ◌, int_lt}
use Rattle.std.specs.List.{AllAdjacentBelow}
use Rattle.std.specs.Ordering.{is_lt, ordering_then, nat_cmp, int_cmp}
use Rattle.std.specs.declared.cmp.Ordering.TheVariants.{Less, Equal, Greater}
use Rattle.std.proofs.lemmas.Bool.{cases_eq}
use Rattle.std.proofs.lemmas.Bool.Decides.{nat_tests}
use Rattle.std.proofs.lemmas.Int.{ints}
use Rattle.std.proofs.lemmas.List.Elements.{All-cons, All-filter}
use Rattle.ts_space.specs.Place.{AreAbove, IsRising}
use Rattle.ts_container.specs.declared.span.Span.{Span}
use Rattle.ts_container.specs.Spans.{Follows, AreSorted, IsApart, AreApart, IsSpan, spans_in, place_in, places_in}

-- what a sort by slots and stamps answers of two
by_tests : (b c d e : Bool) → is_lt (ordering_then (cond b Less (cond c Equal Greater)) (cond d Less (cond e Greater Equal))) ≡ false → (b ≡ false) × (c ≡ true → d ≡ false)
by_tests true c d e is = absurd (cc)
by_tests false true true e is = absurd (cc)
by_tests false true false e is = (refl, λ same. refl)
by_tests false false d e is = (refl, λ same. absurd (cc))

pub follows : (a b : Span) → is_lt (ordering_then (nat_cmp b.slot a.slot) (int_cmp b.first a.first)) ≡ false → Follows a b
follows a b is =
    let t = by_tests (nat_lt b.slot a.slot) (b.slot == a.slot) (int_lt b.first a.first) (int_lt a.first b.first) is in
    let low = t.0 in
    record {
      slots = grind (arith, nat_tests, low);
      stamps = λ same.
          let equal : (b.slot == a.slot) ≡ true = grind (arith, nat_tests) in
          let high = t.1 equal in
          grind (arith, ints, high);
    }

-- each element and the one behind it
module _ {X : Type 0} (R : X → X → Type 0) where
  abbrev pub Neighbours : List X → Type 0
  Neighbours [] = Unit {0}
  Neighbours (x ∷ []) = Unit {0}
  Neighbours (x ∷ y ∷ xs) = R x y × Neighbours (y ∷ xs)

  pub neighbours_from : (xs : List X) → AllAdjacentBelow R xs (length xs) → Neighbours xs
  neighbours_from [] adjacent = tt
  neighbours_from (x ∷ []) adjacent = tt
  neighbours_from (x ∷ y ∷ xs) adjacent = (adjacent 0 x (omega arith), neighbours_from (y ∷ xs) (λ k d within. further k d within)) where
    further : (k : ℕ) (d : X) → k + 1 < length (y ∷ xs) → R (get_or (y ∷ xs) k d) (get_or (y ∷ xs) (k + 1) d)
    further k d within =
        let next : suc k + 1 ≡ suc (k + 1) = omega arith in
        subst (λ (n : ℕ). R (get_or (y ∷ xs) k d) (get_or (x ∷ y ∷ xs) n d)) next (adjacent (suc k) d (omega (arith, within)))

  pub neighbours_to : (xs : List X) → Neighbours xs → AllAdjacentBelow R xs (length xs)
  neighbours_to [] near k d within = absurd (omega (arith, within))
  neighbours_to (x ∷ []) near k d within = absurd (omega (arith, within))
  neighbours_to (x ∷ y ∷ xs) near zero d within = near.0
  neighbours_to (x ∷ y ∷ xs) near (suc k) d within =
      let next : suc (k + 1) ≡ suc k + 1 = omega arith in
      subst (λ (n : ℕ). R (get_or (y ∷ xs) k d) (get_or (x ∷ y ∷ xs) n d)) next (neighbours_to (y ∷ xs) near.1 k d (omega (arith, within)))

  pub neighbours_tail : (x : X) (xs : List X) → Neighbours (x ∷ xs) → Neighbours xs
  neighbours_tail x [] near = tt
  neighbours_tail x (y ∷ xs) near = near.1

  -- those of pairs
  pub neighbours_pairs : (xs : List X) → AllPairs R xs → Neighbours xs
  neighbours_pairs [] pairs = tt
  neighbours_pairs (x ∷ []) pairs = tt
  neighbours_pairs (x ∷ y ∷ xs) pairs = (pairs 0 1 x (omega arith) (omega arith), neighbours_pairs (y ∷ xs) (λ i j d before within. pairs (suc i) (suc j) d (omega (arith, before)) (omega (arith, within))))

-- what follows from another relation of neighbours that have something
pub neighbours_weaker : {X : Type 0} (P : X → Type 0) (R S : X → X → Type 0) → ((x y : X) → P x → P y → R x y → S x y) → (xs : List X) → All P xs → Neighbours R xs → Neighbours S xs
neighbours_weaker P R S so [] all near = tt
neighbours_weaker P R S so (x ∷ []) all near = tt
neighbours_weaker P R S so (x ∷ y ∷ xs) all near =
    (so x y (all 0 x (omega arith)) (all 1 x (omega arith)) near.0, neighbours_weaker P R S so (y ∷ xs) (λ k d within. all (suc k) d (omega (arith, within))) near.1)

-- two relations of neighbours
pub neighbours_both : {X : Type 0} (R S : X → X → Type 0) (xs : List X) → Neighbours R xs → Neighbours S xs → Neighbours (λ x y. R x y × S x y) xs
neighbours_both R S [] first second = tt
neighbours_both R S (x ∷ []) first second = tt
neighbours_both R S (x ∷ y ∷ xs) first second = ((first.0, second.0), neighbours_both R S (y ∷ xs) first.1 second.1)

-- those of what a function gives
pub neighbours_map : {X Y : Type 0} (f : X → Y) (R : Y → Y → Type 0) (xs : List X) → Neighbours R (map f xs) → Neighbours (λ x y. R (f x) (f y)) xs
neighbours_map f R [] near = tt
neighbours_map f R (x ∷ []) near = tt
neighbours_map f R (x ∷ y ∷ xs) near = (near.0, neighbours_map f R (y ∷ xs) near.1)

pub map_neighbours : {X Y : Type 0} (f : X → Y) (R : Y → Y → Type 0) (xs : List X) → Neighbours (λ x y. R (f x) (f y)) xs → Neighbours R (map f xs)
map_neighbours f R [] near = tt
map_neighbours f R (x ∷ []) near = tt
map_neighbours f R (x ∷ y ∷ xs) near = (near.0, map_neighbours f R (y ∷ xs) near.1)

-- whether a span is of a series
of_series : (a : Span) (slot : ℕ) → a.slot ≡ slot → (a.slot == slot) ≡ true
of_series a slot same = grind (arith, nat_tests)

of_another : (a : Span) (slot : ℕ) → (a.slot ≡ slot → ⊥) → (a.slot == slot) ≡ false
of_another a slot other = grind (arith, nat_tests)

pub in_own : (a : Span) (slot : ℕ) (spans : List Span) → a.slot ≡ slot → spans_in slot (a ∷ spans) ≡ a ∷ spans_in slot spans
in_own a slot spans same = ap (λ (b : Bool). cond b (a ∷ spans_in slot spans) (spans_in slot spans)) (of_series a slot same)

pub in_others : (a : Span) (slot : ℕ) (spans : List Span) → (a.slot ≡ slot → ⊥) → spans_in slot (a ∷ spans) ≡ spans_in slot spans
in_others a slot spans other = ap (λ (b : Bool). cond b (a ∷ spans_in slot spans) (spans_in slot spans)) (of_another a slot other)

-- behind a later series there is none of this one
none_behind : (slot : ℕ) (a : Span) (spans : List Span) → slot < a.slot → Neighbours Follows (a ∷ spans) → spans_in slot (a ∷ spans) ≡ []
none_behind slot a [] later near = in_others a slot [] (λ same. omega (arith, same, later))
none_behind slot a (b ∷ spans) later near =
    let next = near.0.slots in
    in_others a slot (b ∷ spans) (λ same. omega (arith, same, later)) ∙ none_behind slot b spans (omega (arith, later, next)) near.1

-- those of one series stand side by side
module _ (R : Span → Span → Type 0) where
  pub near_in : (slot : ℕ) (spans : List Span) → Neighbours Follows spans → Neighbours R spans → Neighbours R (spans_in slot spans)
  near_in slot [] order near = tt
  near_in slot (a ∷ []) order near = elim (cases_eq a.slot slot) [
    | inl same ↦ subst (Neighbours R) (sym (in_own a slot [] same)) tt
    | inr other ↦ subst (Neighbours R) (sym (in_others a slot [] other)) tt
  ]
  near_in slot (a ∷ b ∷ spans) order near =
      let rest = near_in slot (b ∷ spans) order.1 near.1 in
      elim (cases_eq a.slot slot) [
        | inl same ↦ subst (Neighbours R) (sym (in_own a slot (b ∷ spans) same)) (elim (cases_eq b.slot slot) [
          | inl also ↦
              let own = in_own b slot spans also in
              subst (λ (l : List Span). Neighbours R (a ∷ l)) (sym own) (near.0, subst (Neighbours R) own rest)
          | inr other ↦
              let next = order.0.slots in
              subst (λ (l : List Span). Neighbours R (a ∷ l)) (sym (none_behind slot b spans (later same next other) order.1)) tt
        ])
        | inr other ↦ subst (Neighbours R) (sym (in_others a slot (b ∷ spans) other)) rest
      ] where
        later : {a b slot : ℕ} → a ≡ slot → a ≤ b → (b ≡ slot → ⊥) → slot < b
        later same next other = grind arith

  -- what holds of neighbours of each series holds of those of one series
  pub near_all : (spans : List Span) → ((slot : ℕ) → Neighbours R (spans_in slot spans)) → Neighbours (λ a b. a.slot ≡ b.slot → R a b) spans
  near_all [] each = tt
  near_all (a ∷ []) each = tt
  near_all (a ∷ b ∷ spans) each = (
    λ same. (subst (Neighbours R) (in_own a b.slot (b ∷ spans) same ∙ ap (λ (l : List Span). a ∷ l) (in_own b b.slot spans refl)) (each b.slot)).0,
    near_all (b ∷ spans) (λ slot. elim (cases_eq a.slot slot) [
      | inl same ↦ neighbours_tail R a (spans_in slot (b ∷ spans)) (subst (Neighbours R) (in_own a slot (b ∷ spans) same) (each slot))
      | inr other ↦ subst (Neighbours R) (in_others a slot (b ∷ spans) other) (each slot)
    ]),
  )

-- they are of this series
pub in_series : (slot : ℕ) (spans : List Span) → All (λ span. span.slot ≡ slot) (spans_in slot spans)
in_series slot [] = λ k d within. absurd (omega (arith, within))
in_series slot (a ∷ spans) = elim (cases_eq a.slot slot) [
  | inl same ↦ subst (All (λ span. span.slot ≡ slot)) (sym (in_own a slot spans same)) (All-cons (λ span. span.slot ≡ slot) a (spans_in slot spans) same (in_series slot spans))
  | inr other ↦ subst (All (λ span. span.slot ≡ slot)) (sym (in_others a slot spans other)) (in_series slot spans)
]

-- spans of one series that are apart begin one behind the other
abbrev pub Ends : Span → Span → Type 0
Ends a b = a.last <ℤ b.first

above_from : (at : ℤ) (a : Span) (spans : List Span) → at <ℤ a.first → All IsSpan (a ∷ spans) → Neighbours Ends (a ∷ spans) → AreAbove at (map place_in (a ∷ spans))
above_from at a [] below ends near = (below, tt)
above_from at a (b ∷ spans) below ends near =
    let own : a.first ≤ℤ a.last = ends 0 a (omega arith) in
    let next = near.0 in
    (below, above_from at b spans (omega (arith, ints, below, own, next)) (λ k d within. ends (suc k) d (omega (arith, within))) near.1)

pub rising_from : (spans : List Span) → All IsSpan spans → Neighbours Ends spans → IsRising (map place_in spans)
rising_from [] ends near = tt
rising_from (a ∷ []) ends near = (tt, tt)
rising_from (a ∷ b ∷ spans) ends near =
    let own : a.first ≤ℤ a.last = ends 0 a (omega arith) in
    let next = near.0 in
    let others : All IsSpan (b ∷ spans) = λ k d within. ends (suc k) d (omega (arith, within)) in
    (above_from a.first b spans (omega (arith, ints, own, next)) others near.1, rising_from (b ∷ spans) others near.1)

-- the places of a series whose spans are sorted and apart
pub ends_in : (slot : ℕ) (spans : List Span) → AreSorted spans → AreApart spans → Neighbours Ends (spans_in slot spans)
ends_in slot spans order apart =
    neighbours_weaker (λ a. a.slot ≡ slot) IsApart Ends (λ a b first second so. so (first ∙ sym second)) (spans_in slot spans) (in_series slot spans)
    (near_in IsApart slot spans (neighbours_from Follows spans order) (neighbours_from IsApart spans apart))

pub rising_in : (slot : ℕ) (spans : List Span) → AreSorted spans → All IsSpan spans → AreApart spans → IsRising (places_in slot spans)
rising_in slot spans order ends apart =
    rising_from (spans_in slot spans) (All-filter (λ (a : Span). a.slot == slot) IsSpan spans ends) (ends_in slot spans order apart)
