-- The filled slots under their names: how many they are, what they sum up to, and whether one of them passes a test.
use Rattle.std.proofs.Common.{◌≡◌, ℕ, zero, suc, ◌+◌, ◌<◌, ◌≤◌, Bool, true, false, cond, ◌||◌, Option, Some, None, List, [], ◌∷◌, map, length, refl, sym, ap, subst, ◌∙◌, arith, zero-add, add-zero}
use Rattle.std.specs.List.{list_any, sum, sum_by, filter}
use Rattle.std.specs.Option.{option_map, is_none, is_some}
use Rattle.std.specs.Ordering.{is_eq}
use Rattle.std.specs.declared.cmp.Ordering.{Ordering}
use Rattle.std.specs.declared.cmp.Ordering.TheVariants.{Less, Equal, Greater}
use Rattle.std.proofs.lemmas.List.Sums.{sum_by-cons}
use Rattle.std.proofs.lemmas.List.Quantifiers.{position-Some}
use Rattle.std.specs.FinMap.{find, put, get, entries, values, len, insert, empty, from_entries, get-entries, get-from_entries, entries-insert, len-insert, len-entries, len-empty}
use Rattle.std.specs.FinMap.Entries.{by_order}
use Rattle.ts_model.specs.Catalogue.{name_cmp, Named}
use Rattle.ts_model.specs.declared.def.Def.{Def}
use Rattle.ts_model.specs.Definitions.{at_slot, filled_from, by_name, vacant_slot}
use Rattle.ts_model.proofs.OrderLemmas.{total}
use Rattle.ts_model.proofs.SlotLemmas.{AreApart, apart-rest, find-other}
use Rattle.ts_model.proofs.IndexLemmas.{position-more, empty-list}
use Rattle.ts_layout.proofs.LayoutLemmas.{none≢some}

-- a test of one of two lists, in either order
either_order : (a b c : Bool) → (b || (a || c)) ≡ (a || (b || c))
either_order true true c = refl
either_order true false c = refl
either_order false true c = refl
either_order false false c = refl

or_false : (b : Bool) → b ≡ (b || false)
or_false true = refl
or_false false = refl

-- the values of entries
pub any_values : {X : Type 0} (p : X → Bool) (es : List (List ℕ × X)) → list_any p (map (λ e. e.1) es) ≡ list_any (λ e. p e.1) es
any_values p [] = refl
any_values p (e ∷ es) = ap (λ (b : Bool). p e.1 || b) (any_values p es)

pub sum_values : {X : Type 0} (g : X → ℕ) (es : List (List ℕ × X)) → sum (map g (map (λ e. e.1) es)) ≡ sum_by (λ e. g e.1) es
sum_values g [] = refl
sum_values {X} g (e ∷ es) =
    sum_by-cons (λ (n : ℕ). n) (g e.1) (map g (map (λ (x : List ℕ × X). x.1) es)) ∙ ap (λ (n : ℕ). g e.1 + n) (sum_values g es)
    ∙ sym (sum_by-cons (λ (x : List ℕ × X). g x.1) e es)

-- nothing passes a test where a filter leaves nothing
pub none_filtered : {X : Type 0} (p : X → Bool) (xs : List X) → list_any p xs ≡ false → filter p xs ≡ []
none_filtered p [] none = refl
none_filtered {X} p (x ∷ xs) none =
    elim (p x) as (λ (b : Bool). (b || list_any p xs) ≡ false → cond b (x ∷ filter p xs) (filter p xs) ≡ []) [
      | true ↦ λ is. absurd (cc)
      | false ↦ λ is. none_filtered p xs is
    ] none

pub filtered_none : {X : Type 0} (p : X → Bool) (xs : List X) → filter p xs ≡ [] → list_any p xs ≡ false
filtered_none p [] none = refl
filtered_none {X} p (x ∷ xs) none =
    elim (p x) as (λ (b : Bool). cond b (x ∷ filter p xs) (filter p xs) ≡ [] → (b || list_any p xs) ≡ false) [
      | true ↦ λ is. absurd (cc)
      | false ↦ λ is. filtered_none p xs is
    ] none

-- an entry with a new name that is put to its place
any_put : {X : Type 0} (p : List ℕ × X → Bool) (k : List ℕ) (v : X) (es : List (List ℕ × X)) → find name_cmp k es ≡ None → list_any p (put name_cmp k v es) ≡ (p (k, v) || list_any p es)
any_put p k v [] none = refl
any_put {X} p k v (e ∷ es) none =
    elim (name_cmp k e.0) as (λ (r : Ordering). cond (is_eq r) (Some e.1) (find name_cmp k es) ≡ None → list_any p (by_order r ((k, v) ∷ e ∷ es) ((e.0, v) ∷ es) (e ∷ put name_cmp k v es)) ≡ (p (k, v) || (p e || list_any p es))) [
      | Less ↦ λ here. refl
      | Equal ↦ λ here. absurd (cc)
      | Greater ↦ λ here. ap (λ (b : Bool). p e || b) (any_put p k v es here) ∙ either_order (p (k, v)) (p e) (list_any p es)
    ] none

sum_put : {X : Type 0} (g : List ℕ × X → ℕ) (k : List ℕ) (v : X) (es : List (List ℕ × X)) → find name_cmp k es ≡ None → sum_by g (put name_cmp k v es) ≡ g (k, v) + sum_by g es
sum_put g k v [] none = sum_by-cons g (k, v) []
sum_put {X} g k v (e ∷ es) none =
    elim (name_cmp k e.0) as (λ (r : Ordering). cond (is_eq r) (Some e.1) (find name_cmp k es) ≡ None → sum_by g (by_order r ((k, v) ∷ e ∷ es) ((e.0, v) ∷ es) (e ∷ put name_cmp k v es)) ≡ g (k, v) + sum_by g (e ∷ es)) [
      | Less ↦ λ here. sum_by-cons g (k, v) (e ∷ es)
      | Equal ↦ λ here. absurd (cc)
      | Greater ↦ λ here.
          let rest = sum_put g k v es here in
          let before = sum_by-cons g e es in
          let after = sum_by-cons g e (put name_cmp k v es) in
          omega (arith, rest, before, after)
    ] none

no_entries : {X : Type 0} → entries (empty {X = X} {R = name_cmp}) ≡ []
no_entries {X} = empty-list (entries (empty {X = X} {R = name_cmp})) (sym (len-entries (empty {X = X} {R = name_cmp})) ∙ len-empty name_cmp X)

-- a table of which each slot is filled, or one is not
vacant_map : {A : Type 0} (f : A → Def) (table : List (Option A)) → vacant_slot (map (option_map f) table) ≡ vacant_slot table
vacant_map f [] = refl
vacant_map {A} f (None ∷ table) = position-more (λ (x : Option Def). is_none x) None (map (option_map f) table) ∙ sym (position-more (λ (x : Option A). is_none x) None table)
vacant_map {A} f (Some a ∷ table) =
    position-more (λ (x : Option Def). is_none x) (Some (f a)) (map (option_map f) table)
    ∙ ap (option_map (λ (n : ℕ). suc n)) (vacant_map f table) ∙ sym (position-more (λ (x : Option A). is_none x) (Some a) table)

no_more : (o : Option ℕ) → option_map (λ n. suc n) o ≡ None → o ≡ None
no_more None none = refl
no_more (Some n) none = absurd (cc)

pub empty_is : {A : Type 0} (o : Option A) → is_none o ≡ true → o ≡ None
empty_is None is = refl
empty_is (Some a) is = absurd (cc)

vacant_is : {A : Type 0} (f : A → Def) (table : List (Option A)) (slot : ℕ) → vacant_slot (map (option_map f) table) ≡ Some slot → (slot < length table) × (at_slot slot table ≡ None)
vacant_is {A} f table slot is =
    let found = position-Some (λ (x : Option A). is_none x) table slot None (sym (vacant_map f table) ∙ is) in
    (found.0, empty_is (at_slot slot table) found.1)

module _ {A X : Type 0} (name : A → List ℕ) (value : ℕ → A → X) where
  filled_most : (first : ℕ) (table : List (Option A)) → length (filled_from name value first table) ≤ length table
  filled_most first [] = omega arith
  filled_most first (None ∷ table) = let rest = filled_most (first + 1) table in omega (arith, rest)
  filled_most first (Some a ∷ table) = let rest = filled_most (first + 1) table in omega (arith, rest)

  filled_fewer : (first slot : ℕ) (table : List (Option A)) → slot < length table → at_slot slot table ≡ None → length (filled_from name value first table) < length table
  filled_fewer first slot [] within empty = absurd (omega arith)
  filled_fewer first slot (None ∷ table) within empty = let rest = filled_most (first + 1) table in omega (arith, rest)
  filled_fewer first zero (Some a ∷ table) within empty = absurd (cc)
  filled_fewer first (suc slot) (Some a ∷ table) within empty = let rest = filled_fewer (first + 1) slot table (omega arith) empty in omega (arith, rest)

  filled_all : (first : ℕ) (table : List (Option A)) → vacant_slot table ≡ None → length (filled_from name value first table) ≡ length table
  filled_all first [] full = refl
  filled_all first (None ∷ table) full = absurd (none≢some (vacant_slot (let x : Option A = None in x ∷ table)) 0 full (position-more (λ (x : Option A). is_none x) None table))
  filled_all first (Some a ∷ table) full =
      let rest = filled_all (first + 1) table (no_more (vacant_slot table) (sym (position-more (λ (x : Option A). is_none x) (Some a) table) ∙ full)) in
      omega (arith, rest)

  -- the name in front is none of those behind
  first_name : (first : ℕ) (a : A) (table : List (Option A)) → AreApart name (Some a ∷ table) → find name_cmp (name a) (filled_from name value (first + 1) table) ≡ None
  first_name first a table apart =
      find-other name value table (first + 1) (name a) (λ i b here same.
      let never : 0 ≡ suc i = apart 0 (suc i) a b refl here same in absurd (omega (arith, never)))

  first_new : (first : ℕ) (a : A) (table : List (Option A)) → AreApart name (Some a ∷ table) → find name_cmp (name a) (entries (from_entries {R = name_cmp} (filled_from name value (first + 1) table))) ≡ None
  first_new first a table apart =
      sym (get-entries (from_entries {R = name_cmp} (filled_from name value (first + 1) table)) (name a))
      ∙ get-from_entries total (filled_from name value (first + 1) table) (name a) ∙ first_name first a table apart

  any_from : (p : List ℕ × X → Bool) (first : ℕ) (table : List (Option A)) → AreApart name table → list_any p (entries (from_entries {R = name_cmp} (filled_from name value first table))) ≡ list_any p (filled_from name value first table)
  any_from p first [] apart = ap (list_any p) no_entries
  any_from p first (None ∷ table) apart = any_from p (first + 1) table (apart-rest name None table apart)
  any_from p first (Some a ∷ table) apart =
      ap (list_any p) (entries-insert total (from_entries {R = name_cmp} (filled_from name value (first + 1) table)) (name a) (value first a))
      ∙ any_put p (name a) (value first a) (entries (from_entries {R = name_cmp} (filled_from name value (first + 1) table))) (first_new first a table apart)
      ∙ ap (λ (b : Bool). p (name a, value first a) || b) (any_from p (first + 1) table (apart-rest name (Some a) table apart))

  sum_from : (g : List ℕ × X → ℕ) (first : ℕ) (table : List (Option A)) → AreApart name table → sum_by g (entries (from_entries {R = name_cmp} (filled_from name value first table))) ≡ sum_by g (filled_from name value first table)
  sum_from g first [] apart = ap (sum_by g) no_entries
  sum_from g first (None ∷ table) apart = sum_from g (first + 1) table (apart-rest name None table apart)
  sum_from g first (Some a ∷ table) apart =
      ap (sum_by g) (entries-insert total (from_entries {R = name_cmp} (filled_from name value (first + 1) table)) (name a) (value first a))
      ∙ sum_put g (name a) (value first a) (entries (from_entries {R = name_cmp} (filled_from name value (first + 1) table))) (first_new first a table apart)
      ∙ ap (λ (n : ℕ). g (name a, value first a) + n) (sum_from g (first + 1) table (apart-rest name (Some a) table apart))
      ∙ sym (sum_by-cons g (name a, value first a) (filled_from name value (first + 1) table))

  len_from : (first : ℕ) (table : List (Option A)) → AreApart name table → len (from_entries {R = name_cmp} (filled_from name value first table)) ≡ length (filled_from name value first table)
  len_from first [] apart = len-empty name_cmp X
  len_from first (None ∷ table) apart = len_from (first + 1) table (apart-rest name None table apart)
  len_from first (Some a ∷ table) apart =
      let m : Named X = from_entries {R = name_cmp} (filled_from name value (first + 1) table) in
      let new : get m (name a) ≡ None = get-from_entries total (filled_from name value (first + 1) table) (name a) ∙ first_name first a table apart in
      let one : len (insert m (name a) (value first a)) ≡ len m + 1 =
      len-insert total m (name a) (value first a) ∙ ap (λ (o : Option X). cond (is_some o) (len m) (len m + 1)) new in
      let rest = len_from (first + 1) table (apart-rest name (Some a) table apart) in
      omega (arith, one, rest)

  -- how many names there are
  pub len_full : (f : A → Def) (table : List (Option A)) → AreApart name table → vacant_slot (map (option_map f) table) ≡ None → len (by_name name value table) ≡ length table
  len_full f table apart full = len_from 0 table apart ∙ filled_all 0 table (sym (vacant_map f table) ∙ full)

  pub len_fewer : (f : A → Def) (table : List (Option A)) (slot : ℕ) → AreApart name table → vacant_slot (map (option_map f) table) ≡ Some slot → len (by_name name value table) < length table
  len_fewer f table slot apart vacant =
      let empty = vacant_is f table slot vacant in
      let fewer = filled_fewer 0 slot table empty.0 empty.1 in
      let same = len_from 0 table apart in
      omega (arith, fewer, same)

  -- a test that something in a slot passes
  any_slot : (p : List ℕ × X → Bool) (first i : ℕ) (a : A) (table : List (Option A)) → at_slot i table ≡ Some a → p (name a, value (first + i) a) ≡ true → list_any p (filled_from name value first table) ≡ true
  any_slot p first i a [] here passes = absurd (cc)
  any_slot p first zero a (None ∷ table) here passes = absurd (cc)
  any_slot p first (suc i) a (None ∷ table) here passes =
      let e : first + suc i ≡ first + 1 + i = omega arith in
      any_slot p (first + 1) i a table here (subst (λ (n : ℕ). p (name a, value n a) ≡ true) e passes)
  any_slot p first zero a (Some b ∷ table) here passes =
      let same : b ≡ a = cc in
      let one : p (name b, value first b) ≡ true = (λ j. p (name (same j), value (sym (add-zero first) j) (same j))) ∙ passes in
      ap (λ (t : Bool). t || list_any p (filled_from name value (first + 1) table)) one
  any_slot p first (suc i) a (Some b ∷ table) here passes =
      let e : first + suc i ≡ first + 1 + i = omega arith in
      let rest = any_slot p (first + 1) i a table here (subst (λ (n : ℕ). p (name a, value n a) ≡ true) e passes) in
      ap (λ (t : Bool). p (name b, value first b) || t) rest
      ∙ elim (p (name b, value first b)) as (λ (t : Bool). (t || true) ≡ true) [ true ↦ refl | false ↦ refl ]

  slot_any : (p : List ℕ × X → Bool) (first : ℕ) (table : List (Option A)) → list_any p (filled_from name value first table) ≡ true → (i : ℕ) × (a : A) × (at_slot i table ≡ Some a) × (p (name a, value (first + i) a) ≡ true)
  slot_any p first [] some = absurd (cc)
  slot_any p first (None ∷ table) some =
      let rest = slot_any p (first + 1) table some in
      let e : first + 1 + rest.0 ≡ first + suc rest.0 = omega arith in
      (suc rest.0, rest.1, rest.2, subst (λ (n : ℕ). p (name rest.1, value n rest.1) ≡ true) e rest.3)
  slot_any p first (Some a ∷ table) some =
      elim (p (name a, value first a)) as (λ (b : Bool). p (name a, value first a) ≡ b → (b || list_any p (filled_from name value (first + 1) table)) ≡ true → (i : ℕ) × (c : A) × (at_slot i (Some a ∷ table) ≡ Some c) × (p (name c, value (first + i) c) ≡ true)) [
        | true ↦ λ t is. (0, a, refl, subst (λ (n : ℕ). p (name a, value n a) ≡ true) (sym (add-zero first)) t)
        | false ↦ λ t is.
            let rest = slot_any p (first + 1) table is in
            let e : first + 1 + rest.0 ≡ first + suc rest.0 = omega arith in
            (suc rest.0, rest.1, rest.2, subst (λ (n : ℕ). p (name rest.1, value n rest.1) ≡ true) e rest.3)
      ] refl some

  pub any_here : (p : List ℕ × X → Bool) (i : ℕ) (a : A) (table : List (Option A)) → AreApart name table → at_slot i table ≡ Some a → p (name a, value i a) ≡ true → list_any p (entries (by_name name value table)) ≡ true
  any_here p i a table apart here passes =
      any_from p 0 table apart ∙ any_slot p 0 i a table here (subst (λ (n : ℕ). p (name a, value n a) ≡ true) (sym (zero-add i)) passes)

  pub any_there : (p : List ℕ × X → Bool) (table : List (Option A)) → AreApart name table → list_any p (entries (by_name name value table)) ≡ true → (i : ℕ) × (a : A) × (at_slot i table ≡ Some a) × (p (name a, value i a) ≡ true)
  any_there p table apart some =
      let there = slot_any p 0 table (sym (any_from p 0 table apart) ∙ some) in
      (there.0, there.1, there.2, subst (λ (n : ℕ). p (name there.1, value n there.1) ≡ true) (zero-add there.0) there.3)

  -- what the filled slots sum up to
  sum_slots : (g : X → ℕ) (h : Option A → ℕ) (first : ℕ) (table : List (Option A)) → h None ≡ 0 → ((n : ℕ) (a : A) → h (Some a) ≡ g (value n a)) → sum_by (λ e. g e.1) (filled_from name value first table) ≡ sum_by h table
  sum_slots g h first [] none some = refl
  sum_slots g h first (None ∷ table) none some =
      let rest = sum_slots g h (first + 1) table none some in
      let one = sum_by-cons h None table in
      omega (arith, rest, one, none)
  sum_slots g h first (Some a ∷ table) none some =
      let rest = sum_slots g h (first + 1) table none some in
      let one = sum_by-cons h (Some a) table in
      let more = sum_by-cons (λ (e : List ℕ × X). g e.1) (name a, value first a) (filled_from name value (first + 1) table) in
      let here = some first a in
      omega (arith, rest, one, more, here)

  pub sum_of_values : (g : X → ℕ) (h : Option A → ℕ) (table : List (Option A)) → AreApart name table → h None ≡ 0 → ((n : ℕ) (a : A) → h (Some a) ≡ g (value n a)) → sum_by h table ≡ sum (map g (values (by_name name value table)))
  sum_of_values g h table apart none some =
      sym (sum_values g (entries (by_name name value table)) ∙ sum_from (λ (e : List ℕ × X). g e.1) 0 table apart ∙ sum_slots g h 0 table none some)
