-- Lists by their elements, and tables by their slots.
use Rattle.std.proofs.Common.{◌≡◌, ℕ, zero, suc, ◌<◌, ◌⊎◌, Bool, true, false, cond, T, Option, Some, None, List, [], ◌∷◌, ◌++◌, length, filter_map, flat_map, slice_get, get_or, option_map, refl, sym, ap, ◌∙◌, arith, inl, inr}
use Rattle.std.specs.List.{filter, cons_option}
use Rattle.std.specs.Ordering.{eq_by_cmp, is_eq, ordering_reverse}
use Rattle.std.specs.Cmp.{IsTotalOrder, tied_itself}
use Rattle.std.specs.declared.cmp.Ordering.{Ordering}
use Rattle.std.specs.declared.cmp.Ordering.TheVariants.{Less, Greater}
use Rattle.std.specs.FinMap.{FinMap, IsAntisymmetric, entries, entries_sorted, find, get, get-entries, is_sorted}
use Rattle.std.specs.FinMap.Entries.{below_all}
use Rattle.ts_model.specs.Definitions.{at_slot}
use Rattle.ts_catalogue_laws.proofs.MapLemmas.{first, second, less, tied}

pub one_of : {X : Type 0} (o : Option X) (a b : X) → o ≡ Some a → o ≡ Some b → a ≡ b
one_of o a b one other = let same = sym one ∙ other in cc

pub mapped : {A B : Type 0} (f : A → B) (o : Option A) (b : B) → option_map f o ≡ Some b → (a : A) × (o ≡ Some a) × (f a ≡ b)
mapped f None b is = absurd (let never : ⊥ = cc in never)
mapped f (Some a) b is = (a, refl, cc)

module _ {X : Type 0} where
  abbrev pub Among : X → List X → Type 0
  Among x [] = ⊥
  Among x (y ∷ ys) = (x ≡ y) ⊎ Among x ys

  among_either : (xs ys : List X) (x : X) → Among x (xs ++ ys) → Among x xs ⊎ Among x ys
  among_either [] ys x there = inr there
  among_either (y ∷ xs) ys x (inl is) = inl (inl is)
  among_either (y ∷ xs) ys x (inr there) = elim (among_either xs ys x there) [ inl front ↦ inl (inr front) | inr back ↦ inr back ]

  pub place_filtered : (p : X → Bool) (xs : List X) (n : ℕ) (x : X) → slice_get (filter p xs) n ≡ Some x → (m : ℕ) × (slice_get xs m ≡ Some x) × (p x ≡ true)
  place_filtered p [] n x is = absurd (let never : ⊥ = cc in never)
  place_filtered p (y ∷ ys) n x is = by (p y) refl n is (place_filtered p ys)
    where
      by : (b : Bool) → p y ≡ b → (n : ℕ) → slice_get (cond b (y ∷ filter p ys) (filter p ys)) n ≡ Some x
          → ((n : ℕ) (x : X) → slice_get (filter p ys) n ≡ Some x → (m : ℕ) × (slice_get ys m ≡ Some x) × (p x ≡ true)) → (m : ℕ) × (slice_get (y ∷ ys) m ≡ Some x) × (p x ≡ true)
      by true on zero is more = (0, is, let same : y ≡ x = cc in ap p (sym same) ∙ on)
      by true on (suc n) is more = let rest = more n x is in (suc rest.0, rest.1, rest.2)
      by false off n is more = let rest = more n x is in (suc rest.0, rest.1, rest.2)

pub among_joined : {X Y : Type 0} (f : X → List Y) (xs : List X) (y : Y) → Among y (flat_map f xs) → (n : ℕ) × (x : X) × (slice_get xs n ≡ Some x) × Among y (f x)
among_joined f [] y there = absurd there
among_joined f (x ∷ xs) y there = elim (among_either (f x) (flat_map f xs) y there) [
  | inl here ↦ (0, x, refl, here)
  | inr rest ↦ let more = among_joined f xs y rest in (suc more.0, more.1, more.2, more.3)
]

pub among_mapped : {X Y : Type 0} (f : X → Option Y) (xs : List X) (y : Y) → Among y (filter_map f xs) → (x : X) × Among x xs × (f x ≡ Some y)
among_mapped f [] y there = absurd there
among_mapped {X} {Y} f (x ∷ xs) y there = by (f x) refl there (among_mapped f xs y)
  where
    by : (o : Option Y) → f x ≡ o → Among y (cons_option o (filter_map f xs)) → (Among y (filter_map f xs) → (x' : X) × Among x' xs × (f x' ≡ Some y)) → (x' : X) × Among x' (x ∷ xs) × (f x' ≡ Some y)
    by None is there later = let more = later there in (more.0, inr more.1, more.2)
    by (Some z) is (inl same) later = (x, inl refl, is ∙ ap Some (sym same))
    by (Some z) is (inr rest) later = let more = later rest in (more.0, inr more.1, more.2)

-- what is found under a key stands among the entries
pub found_among : {K X : Type 0} (R : K → K → Ordering) → IsAntisymmetric R → (q : K) (x : X) (es : List (K × X)) → find R q es ≡ Some x → Among (q, x) es
found_among R same q x [] is = absurd (let never : ⊥ = cc in never)
found_among {K} {X} R same q x (e ∷ es) is = elim (eq_by_cmp R q e.0) as (λ (b : Bool). eq_by_cmp R q e.0 ≡ b → cond b (Some e.1) (find R q es) ≡ Some x → Among (q, x) (e ∷ es)) [
  | true ↦ λ tie at. inl (let value : x ≡ e.1 = cc in let key : q ≡ e.0 = same q e.0 (tied (R q e.0) tie) in λ i. (key i, value i))
  | false ↦ λ other at. inr (found_among R same q x es at)
] refl is

-- a slot that is filled is one of the table
pub within_table : {A : Type 0} (slot : ℕ) (table : List (Option A)) (a : A) → at_slot slot table ≡ Some a → slot < length table
within_table slot [] a is = absurd (let never : ⊥ = cc in never)
within_table zero (o ∷ table) a is = omega arith
within_table (suc slot) (o ∷ table) a is = let rest : slot < length table = within_table slot table a is in omega arith

-- what stands among the entries of a map is found under its key
among_later : {K X : Type 0} (R : K → K → Ordering) (q : K) (es : List (K × X)) (e : K × X) → T (below_all R q es) → Among e es → R q e.0 ≡ Less
among_later R q [] e below there = absurd there
among_later {K} {X} R q (f ∷ es) e below (inl is) = ap (λ (g : K × X). R q g.0) is ∙ less _ (first _ _ below)
among_later R q (f ∷ es) e below (inr there) = among_later R q es e (second _ _ below) there

among_found : {K X : Type 0} (R : K → K → Ordering) → IsTotalOrder R → (es : List (K × X)) (e : K × X) → T (is_sorted R es) → Among e es → find R e.0 es ≡ Some e.1
among_found R o [] e sorted there = absurd there
among_found {K} {X} R o (f ∷ es) e sorted (inl is) =
    ap (λ (g : K × X). find R g.0 (f ∷ es)) is
    ∙ ap (λ (r : Ordering). cond (is_eq r) (Some f.1) (find R f.0 es)) (tied_itself o f.0) ∙ ap (λ (g : K × X). Some g.1) (sym is)
among_found {K} {X} R o (f ∷ es) e sorted (inr there) =
    let after : R e.0 f.0 ≡ Greater = o.antisymm e.0 f.0 ∙ ap ordering_reverse (among_later R f.0 es e (first _ _ sorted) there) in
    ap (λ (r : Ordering). cond (is_eq r) (Some f.1) (find R e.0 es)) after ∙ among_found R o es e (second _ _ sorted) there

pub entry_found : {K X : Type 0} {R : K → K → Ordering} → IsTotalOrder R → (m : FinMap R X) (e : K × X) → Among e (entries m) → get m e.0 ≡ Some e.1
entry_found {R = R} o m e there = get-entries m e.0 ∙ among_found R o (entries m) e (entries_sorted m) there

pub among_filtered : {X : Type 0} (p : X → Bool) (xs : List X) (x : X) → Among x (filter p xs) → Among x xs
among_filtered p [] x there = absurd there
among_filtered p (y ∷ ys) x there = by (p y) there (among_filtered p ys x)
  where
    by : (b : Bool) → Among x (cond b (y ∷ filter p ys) (filter p ys)) → (Among x (filter p ys) → Among x ys) → Among x (y ∷ ys)
    by true (inl is) more = inl is
    by true (inr rest) more = inr (more rest)
    by false rest more = inr (more rest)

pub among_place : {X : Type 0} (xs : List X) (n : ℕ) (x : X) → slice_get xs n ≡ Some x → Among x xs
among_place [] n x is = absurd (let never : ⊥ = cc in never)
among_place (y ∷ ys) zero x is = inl (let same : x ≡ y = cc in same)
among_place (y ∷ ys) (suc n) x is = inr (among_place ys n x is)

pub among_filter : {X : Type 0} (p : X → Bool) (xs : List X) (x : X) → Among x xs → p x ≡ true → Among x (filter p xs)
among_filter p [] x there passes = absurd there
among_filter {X} p (y ∷ ys) x there passes = by (p y) refl there (λ rest. among_filter p ys x rest passes)
  where
    by : (b : Bool) → p y ≡ b → Among x (y ∷ ys) → (Among x ys → Among x (filter p ys)) → Among x (cond b (y ∷ filter p ys) (filter p ys))
    by true on (inl is) more = inl is
    by true on (inr rest) more = inr (more rest)
    by false off (inl is) more = absurd (let no = sym passes ∙ ap p is ∙ off in let never : ⊥ = cc in never)
    by false off (inr rest) more = more rest

pub place_among : {X : Type 0} (xs : List X) (x : X) → Among x xs → (n : ℕ) × (slice_get xs n ≡ Some x)
place_among [] x there = absurd there
place_among (y ∷ ys) x (inl is) = (0, ap Some (sym is))
place_among (y ∷ ys) x (inr there) = let rest = place_among ys x there in (suc rest.0, rest.1)

pub at_place : {X : Type 0} (xs : List X) (n : ℕ) (x d : X) → slice_get xs n ≡ Some x → (n < length xs) × (get_or xs n d ≡ x)
at_place [] n x d is = absurd (let never : ⊥ = cc in never)
at_place (y ∷ ys) zero x d is = (omega arith, let same : y ≡ x = cc in same)
at_place (y ∷ ys) (suc n) x d is = let rest = at_place ys n x d is in let low : n < length ys = rest.0 in (omega arith, rest.1)

pub found_listed : {K X : Type 0} {R : K → K → Ordering} → IsAntisymmetric R → (m : FinMap R X) (q : K) (x : X) → get m q ≡ Some x → Among (q, x) (entries m)
found_listed {R = R} same m q x there = found_among R same q x (entries m) (sym (get-entries m q) ∙ there)
