-- Tables of filled slots: what one slot changes, and what is found under the names.
use Rattle.std.proofs.Common.{◌≡◌, ℕ, suc, ◌+◌, ◌<◌, Option, Some, None, List, [], ◌∷◌, map, length, set, refl, sym, ap, subst, ◌∙◌, arith, inl, inr, ◌⊎◌, length-set, get_or-set_same, get_or-set_other, zero-add, add-zero}
use Rattle.std.specs.Option.{option_map}
use Rattle.std.proofs.lemmas.Bool.{cases_eq}
use Rattle.std.specs.FinMap.{find, get, insert, from_entries, get-from_entries}
use Rattle.ts_model.specs.declared.def.Def.{Def}
use Rattle.ts_model.specs.Catalogue.{name_cmp}
use Rattle.ts_model.specs.Definitions.{at_slot, name_of, slot_of, filled_from, by_name, IsTable}
use Rattle.ts_model.proofs.OrderLemmas.{total}
use Rattle.ts_model.proofs.SlotLemmas.{AreApart, find-filled, find-missing, find-other, find-slot, by_name-fill}
use Rattle.ts_model.proofs.TableLemmas.{slot_of-find}
use Rattle.ts_layout.proofs.PlaceLemmas.{at_slot-map}
use Rattle.ts_layout.proofs.SlotLemmas.{own}
use Rattle.ts_layout.proofs.LayoutLemmas.{none≢some, one_of}

module _ {A : Type 0} where
  -- what stands in the slots after one was filled
  pub at_filled : (table : List (Option A)) (slot i : ℕ) (a b : A) → slot < length table → at_slot i (set table slot (Some a)) ≡ Some b → ((i ≡ slot) × (b ≡ a)) ⊎ ((i ≡ slot → ⊥) × (at_slot i table ≡ Some b))
  at_filled table slot i a b within here = elim (cases_eq i slot) [
    | inl same ↦ inl (same, one_of (at_slot i (set table slot (Some a))) b a here (ap (λ (n : ℕ). at_slot n (set table slot (Some a))) same ∙ get_or-set_same table slot (Some a) None within))
    | inr other ↦ inr (other, sym (get_or-set_other table slot i (Some a) None other) ∙ here)
  ]

  -- after one was emptied
  pub at_cleared : (table : List (Option A)) (slot i : ℕ) (b : A) → slot < length table → at_slot i (set table slot None) ≡ Some b → (i ≡ slot → ⊥) × (at_slot i table ≡ Some b)
  at_cleared table slot i b within here = elim (cases_eq i slot) [
    | inl same ↦ absurd (none≢some (at_slot i (set table slot None)) b (ap (λ (n : ℕ). at_slot n (set table slot None)) same ∙ get_or-set_same table slot None None within) here)
    | inr other ↦ (other, sym (get_or-set_other table slot i None None other) ∙ here)
  ]

  -- a slot that is filled before and after is another one
  pub still_filled : (table : List (Option A)) (slot i : ℕ) (o : Option A) (b : A) → at_slot slot table ≡ None → at_slot i table ≡ Some b → at_slot i (set table slot o) ≡ Some b
  still_filled table slot i o b empty here =
      get_or-set_other table slot i o None (λ same. none≢some (at_slot i table) b (ap (λ (n : ℕ). at_slot n table) same ∙ empty) here) ∙ here

  pub other_filled : (table : List (Option A)) (slot i : ℕ) (o : Option A) → (i ≡ slot → ⊥) → at_slot i (set table slot o) ≡ at_slot i table
  other_filled table slot i o other = get_or-set_other table slot i o None other

  module _ (name : A → List ℕ) where
    pub table_filled : (count slot : ℕ) (a : A) (table : List (Option A)) → slot < count → IsTable name count table → ((i : ℕ) (b : A) → at_slot i table ≡ Some b → name a ≡ name b → ⊥) → IsTable name count (set table slot (Some a))
    table_filled count slot a table below rules new =
        let within : slot < length table = omega (arith, below, rules.size) in
        record {
          size = length-set table slot (Some a) ∙ rules.size;
          apart = λ i j b c here there same. elim (at_filled table slot i a b within here) [
            | inl one ↦ elim (at_filled table slot j a c within there) [
              | inl two ↦ one.0 ∙ sym two.0
              | inr two ↦ absurd (new j c two.1 (ap name (sym one.1) ∙ same))
            ]
            | inr one ↦ elim (at_filled table slot j a c within there) [
              | inl two ↦ absurd (new i b one.1 (sym (same ∙ ap name two.1)))
              | inr two ↦ rules.apart i j b c one.1 two.1 same
            ]
          ];
        }

    pub table_cleared : (count slot : ℕ) (table : List (Option A)) → slot < count → IsTable name count table → IsTable name count (set table slot None)
    table_cleared count slot table below rules =
        let within : slot < length table = omega (arith, below, rules.size) in
        record {
          size = length-set table slot None ∙ rules.size;
          apart = λ i j b c here there same. rules.apart i j b c (at_cleared table slot i b within here).1 (at_cleared table slot j c within there).1 same;
        }

    -- the same values, one by one
    pub filled_same : {X : Type 0} (value value' : ℕ → A → X) (first : ℕ) (table : List (Option A)) → ((i : ℕ) (a : A) → at_slot i table ≡ Some a → value (first + i) a ≡ value' (first + i) a) → filled_from name value first table ≡ filled_from name value' first table
    filled_same value value' first [] same = refl
    filled_same value value' first (None ∷ table) same =
        filled_same value value' (first + 1) table (λ i a here.
        let e : first + suc i ≡ first + 1 + i = omega arith in
        subst (λ (n : ℕ). value n a ≡ value' n a) e (same (suc i) a here))
    filled_same {X} value value' first (Some a ∷ table) same =
        let rest = filled_same value value' (first + 1) table (λ i b here.
        let e : first + suc i ≡ first + 1 + i = omega arith in
        subst (λ (n : ℕ). value n b ≡ value' n b) e (same (suc i) b here)) in
        let one : value first a ≡ value' first a = subst (λ (n : ℕ). value n a ≡ value' n a) (add-zero first) (same 0 a refl) in
        λ j. (name a, one j) ∷ rest j

    pub by_name_same : {X : Type 0} (value value' : ℕ → A → X) (table : List (Option A)) → ((i : ℕ) (a : A) → at_slot i table ≡ Some a → value i a ≡ value' i a) → by_name name value table ≡ by_name name value' table
    by_name_same {X} value value' table same =
        ap (λ (es : List (List ℕ × X)). from_entries {R = name_cmp} es)
        (filled_same value value' 0 table (λ i a here. subst (λ (n : ℕ). value n a ≡ value' n a) (sym (zero-add i)) (same i a here)))

    module _ (f : A → Def) (named : (a : A) → name_of (f a) ≡ name a) where
      there_as_def : (table : List (Option A)) (i : ℕ) (a : A) → at_slot i table ≡ Some a → at_slot i (map (option_map f) table) ≡ Some (f a)
      there_as_def table i a here = at_slot-map f i table ∙ ap (option_map f) here

      -- a name that no slot has
      pub no_such_name : (table : List (Option A)) (q : List ℕ) → slot_of q (map (option_map f) table) ≡ None → (i : ℕ) (a : A) → at_slot i table ≡ Some a → q ≡ name a → ⊥
      no_such_name table q none i a here same =
          find-missing name_of (λ slot def. slot) (map (option_map f) table) 0 q (slot_of-find (map (option_map f) table) q ∙ none) i (f a) (there_as_def table i a here) (same ∙ sym (named a))

      pub no_slot_of : (table : List (Option A)) (q : List ℕ) → ((i : ℕ) (a : A) → at_slot i table ≡ Some a → q ≡ name a → ⊥) → slot_of q (map (option_map f) table) ≡ None
      no_slot_of table q none =
          sym (slot_of-find (map (option_map f) table) q)
          ∙ find-other name_of (λ slot def. slot) (map (option_map f) table) 0 q (λ i def here same.
          let mine = own f i table def here in
          none i mine.0 mine.1 (same ∙ ap name_of (sym mine.2) ∙ named mine.0))

      -- what stands in the slot that has a name
      pub slot_there : (table : List (Option A)) (q : List ℕ) (slot : ℕ) → slot_of q (map (option_map f) table) ≡ Some slot → (a : A) × (at_slot slot table ≡ Some a) × (name a ≡ q)
      slot_there table q slot is =
          let there = find-filled name_of (λ slot def. slot) (map (option_map f) table) 0 q slot (slot_of-find (map (option_map f) table) q ∙ is) in
          let here : at_slot slot (map (option_map f) table) ≡ Some there.1 = ap (λ (n : ℕ). at_slot n (map (option_map f) table)) (there.4 ∙ zero-add there.0) ∙ there.2 in
          let mine = own f slot table there.1 here in
          (mine.0, mine.1, sym (named mine.0) ∙ ap name_of mine.2 ∙ sym there.3)

      apart_as_defs : (table : List (Option A)) → AreApart name table → AreApart name_of (map (option_map f) table)
      apart_as_defs table apart i j a b here there same =
          let first = own f i table a here in
          let second = own f j table b there in
          apart i j first.0 second.0 first.1 second.1 (sym (named first.0) ∙ ap name_of first.2 ∙ same ∙ sym (ap name_of second.2) ∙ named second.0)

      -- the slot of a name that one has
      pub slot_here : (table : List (Option A)) (slot : ℕ) (a : A) → AreApart name table → at_slot slot table ≡ Some a → slot_of (name a) (map (option_map f) table) ≡ Some slot
      slot_here table slot a apart here =
          sym (slot_of-find (map (option_map f) table) (name a)) ∙ ap (λ (q : List ℕ). find name_cmp q (filled_from name_of (λ slot def. slot) 0 (map (option_map f) table))) (sym (named a))
          ∙ find-slot name_of (λ slot def. slot) (map (option_map f) table) 0 slot (f a) (apart_as_defs table apart) (there_as_def table slot a here)
          ∙ ap (λ (n : ℕ). Some n) (zero-add slot)

      module _ {X : Type 0} (value : ℕ → A → X) where
        -- a name without a slot is in no map, and the other way round
        pub get_none : (table : List (Option A)) (q : List ℕ) → slot_of q (map (option_map f) table) ≡ None → get (by_name name value table) q ≡ None
        get_none table q none = get-from_entries total _ q ∙ find-other name value table 0 q (no_such_name table q none)

        pub got_none : (table : List (Option A)) (q : List ℕ) → get (by_name name value table) q ≡ None → slot_of q (map (option_map f) table) ≡ None
        got_none table q none = no_slot_of table q (find-missing name value table 0 q (sym (get-from_entries total _ q) ∙ none))

        -- what stands in a slot is under its name
        pub get_slot : (table : List (Option A)) (slot : ℕ) (a : A) → AreApart name table → at_slot slot table ≡ Some a → get (by_name name value table) (name a) ≡ Some (value slot a)
        get_slot table slot a apart here =
            get-from_entries total _ (name a) ∙ find-slot name value table 0 slot a apart here ∙ ap (λ (n : ℕ). Some (value n a)) (zero-add slot)

        pub get_some : (table : List (Option A)) (q : List ℕ) (slot : ℕ) (a : A) → AreApart name table → slot_of q (map (option_map f) table) ≡ Some slot → at_slot slot table ≡ Some a → get (by_name name value table) q ≡ Some (value slot a)
        get_some table q slot a apart is here =
            let there = slot_there table q slot is in
            let same : name a ≡ q = ap name (one_of (at_slot slot table) a there.0 here there.1) ∙ there.2 in
            ap (get (by_name name value table)) (sym same) ∙ get_slot table slot a apart here

        -- what is under a name stands in a slot
        pub got_some : (table : List (Option A)) (q : List ℕ) (x : X) → AreApart name table → get (by_name name value table) q ≡ Some x → (slot : ℕ) × (a : A) × (slot_of q (map (option_map f) table) ≡ Some slot) × (at_slot slot table ≡ Some a) × (name a ≡ q) × (x ≡ value slot a)
        got_some table q x apart is =
            let there = find-filled name value table 0 q x (sym (get-from_entries total _ q) ∙ is) in
            (there.0, there.1, ap (λ (n : List ℕ). slot_of n (map (option_map f) table)) there.3 ∙ slot_here table there.0 there.1 apart there.2, there.2, sym there.3, there.4 ∙ ap (λ (n : ℕ). value n there.1) (zero-add there.0))

        -- an empty slot is filled under a new name
        pub by_name_filled : (table : List (Option A)) (slot : ℕ) (a : A) → slot < length table → at_slot slot table ≡ None → slot_of (name a) (map (option_map f) table) ≡ None → by_name name value (set table slot (Some a)) ≡ insert (by_name name value table) (name a) (value slot a)
        by_name_filled table slot a within empty new = by_name-fill name value table slot a within empty (get_none table (name a) new)
