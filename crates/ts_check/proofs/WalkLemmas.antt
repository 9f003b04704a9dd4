-- Definitions of a kind in the order of their names: the slots of the index, and the entries of the catalogue.
use Rattle.std.proofs.Common.{◌≡◌, ℕ, zero, suc, ◌+◌, ◌<◌, Option, Some, None, List, [], ◌∷◌, map, length, refl, ap, sym, ◌∙◌, subst, arith, zero-add, add-zero}
use Rattle.std.specs.Option.{option_map}
use Rattle.std.specs.declared.cmp.Ordering.{Ordering}
use Rattle.std.specs.declared.cmp.Ordering.TheVariants.{Less, Equal, Greater}
use Rattle.std.specs.FinMap.{put, entries, values, empty, from_entries, entries-insert, len-entries, len-empty}
use Rattle.std.specs.FinMap.Entries.{by_order}
use Rattle.ts_model.specs.declared.def.Def.{Def}
use Rattle.ts_model.specs.Catalogue.{name_cmp}
use Rattle.ts_model.specs.Definitions.{name_of, at_slot, filled_from, slots_by_name, by_name}
use Rattle.ts_model.proofs.OrderLemmas.{total, same_name}
use Rattle.ts_model.proofs.IndexLemmas.{empty-list}

-- an entry with another value
abbrev pub with_value : {X Y : Type 0} → (X → Y) → List ℕ × X → List ℕ × Y
with_value f e = (e.0, f e.1)

put_map : {X Y : Type 0} (f : X → Y) (k : List ℕ) (v : X) (es : List (List ℕ × X)) → put name_cmp k (f v) (map (with_value f) es) ≡ map (with_value f) (put name_cmp k v es)
put_map f k v [] = refl
put_map {X} {Y} f k v (e ∷ es) =
    elim (name_cmp k e.0) as (λ (r : Ordering). by_order r ((k, f v) ∷ with_value f e ∷ map (with_value f) es) ((e.0, f v) ∷ map (with_value f) es) (with_value f e ∷ put name_cmp k (f v) (map (with_value f) es)) ≡ map (with_value f) (by_order r ((k, v) ∷ e ∷ es) ((e.0, v) ∷ es) (e ∷ put name_cmp k v es))) [
      | Less ↦ refl
      | Equal ↦ refl
      | Greater ↦ ap (λ (rest : List (List ℕ × Y)). with_value f e ∷ rest) (put_map f k v es)
    ]

no_entries : {X : Type 0} → entries (empty {X = X} {R = name_cmp}) ≡ []
no_entries {X} = empty-list (entries (empty {X = X} {R = name_cmp})) (sym (len-entries (empty {X = X} {R = name_cmp})) ∙ len-empty name_cmp X)

entries_map : {X Y : Type 0} (f : X → Y) (es : List (List ℕ × X)) → entries (from_entries {R = name_cmp} (map (with_value f) es)) ≡ map (with_value f) (entries (from_entries {R = name_cmp} es))
entries_map {X} {Y} f [] = no_entries {X = Y} ∙ sym (ap (map (with_value f)) (no_entries {X = X}))
entries_map {X} {Y} f (e ∷ es) =
    entries-insert total (from_entries {R = name_cmp} (map (with_value f) es)) e.0 (f e.1)
    ∙ ap (put name_cmp e.0 (f e.1)) (entries_map f es)
    ∙ put_map f e.0 e.1 (entries (from_entries {R = name_cmp} es))
    ∙ sym (ap (map (with_value f)) (entries-insert total (from_entries {R = name_cmp} es) e.0 e.1))

-- definitions of one kind, which have these names and are so as definitions of any
module _ {A : Type 0} (name : A → List ℕ) (to_def : A → Def) (as_def : (a : A) → name_of (to_def a) ≡ name a) where
  -- the filled slots, with their numbers and definitions
  abbrev slotted : ℕ → List (Option A) → List (List ℕ × (ℕ × A))
  slotted first table = filled_from name (λ n a. (n, a)) first table

  -- the same in the order of the names
  abbrev pub walk : List (Option A) → List (List ℕ × (ℕ × A))
  walk table = entries (from_entries {R = name_cmp} (slotted 0 table))

  filled_values : {X : Type 0} (value : ℕ → A → X) (first : ℕ) (table : List (Option A)) → filled_from name value first table ≡ map (with_value (λ p. value p.0 p.1)) (slotted first table)
  filled_values value first [] = refl
  filled_values value first (None ∷ table) = filled_values value (first + 1) table
  filled_values {X} value first (Some a ∷ table) = ap (λ (rest : List (List ℕ × X)). (name a, value first a) ∷ rest) (filled_values value (first + 1) table)

  filled_as_defs : (first : ℕ) (table : List (Option A)) → filled_from name_of (λ slot def. slot) first (map (option_map to_def) table) ≡ filled_from name (λ slot a. slot) first table
  filled_as_defs first [] = refl
  filled_as_defs first (None ∷ table) = filled_as_defs (first + 1) table
  filled_as_defs first (Some a ∷ table) = λ i. (as_def a i, first) ∷ filled_as_defs (first + 1) table i

  numbers : (ws : List (List ℕ × (ℕ × A))) → map (λ e. e.1) (map (with_value (λ p. p.0)) ws) ≡ map (λ e. e.1.0) ws
  numbers [] = refl
  numbers (w ∷ ws) = ap (λ (rest : List ℕ). w.1.0 ∷ rest) (numbers ws)

  -- the index is the walk by numbers
  pub index_walk : (table : List (Option A)) → values (slots_by_name (map (option_map to_def) table)) ≡ map (λ e. e.1.0) (walk table)
  index_walk table =
      ap (λ (es : List (List ℕ × ℕ)). map (λ (e : List ℕ × ℕ). e.1) (entries (from_entries {R = name_cmp} es))) (filled_as_defs 0 table ∙ filled_values (λ slot a. slot) 0 table)
      ∙ ap (map (λ (e : List ℕ × ℕ). e.1)) (entries_map (λ (p : ℕ × A). p.0) (slotted 0 table)) ∙ numbers (walk table)

  -- the entries of the catalogue are the walk by values
  pub value_walk : {X : Type 0} (value : ℕ → A → X) (table : List (Option A)) → entries (by_name name value table) ≡ map (with_value (λ p. value p.0 p.1)) (walk table)
  value_walk {X} value table =
      ap (λ (es : List (List ℕ × X)). entries (from_entries {R = name_cmp} es)) (filled_values value 0 table)
      ∙ entries_map (λ (p : ℕ × A). value p.0 p.1) (slotted 0 table)

  -- what is walked stands in the slots, under its name
  pub record Stands (table : List (Option A)) (e : List ℕ × (ℕ × A)) : Type 0 where
    pub there : at_slot e.1.0 table ≡ Some e.1.1
    pub its_name : e.0 ≡ name e.1.1

  abbrev pub AllStand : List (Option A) → List (List ℕ × (ℕ × A)) → Type 0
  AllStand table [] = Unit {0}
  AllStand table (e ∷ es) = Stands table e × AllStand table es

  put_stands : (table : List (Option A)) (k : List ℕ) (v : ℕ × A) (es : List (List ℕ × (ℕ × A))) → Stands table (k, v) → AllStand table es → AllStand table (put name_cmp k v es)
  put_stands table k v [] here all = (here, tt)
  put_stands table k v (e ∷ es) here all =
      elim (name_cmp k e.0) as (λ (r : Ordering). name_cmp k e.0 ≡ r → AllStand table (by_order r ((k, v) ∷ e ∷ es) ((e.0, v) ∷ es) (e ∷ put name_cmp k v es))) [
        | Less ↦ λ is. (here, all)
        | Equal ↦ λ is. (record { there = here.there; its_name = sym (same_name k e.0 is) ∙ here.its_name }, all.1)
        | Greater ↦ λ is. (all.0, put_stands table k v es here all.1)
      ] refl

  filled_stand : (whole : List (Option A)) (first : ℕ) (table : List (Option A)) → ((i : ℕ) (a : A) → at_slot i table ≡ Some a → at_slot (first + i) whole ≡ Some a) → AllStand whole (entries (from_entries {R = name_cmp} (slotted first table)))
  filled_stand whole first [] part = subst (AllStand whole) (sym (no_entries {X = ℕ × A})) tt
  filled_stand whole first (None ∷ table) part =
      filled_stand whole (first + 1) table (λ i a here.
      let e : first + suc i ≡ first + 1 + i = omega arith in
      subst (λ (n : ℕ). at_slot n whole ≡ Some a) e (part (suc i) a here))
  filled_stand whole first (Some a ∷ table) part =
      let rest = filled_stand whole (first + 1) table (λ i b here.
      let e : first + suc i ≡ first + 1 + i = omega arith in
      subst (λ (n : ℕ). at_slot n whole ≡ Some b) e (part (suc i) b here)) in
      let here : at_slot first whole ≡ Some a = subst (λ (n : ℕ). at_slot n whole ≡ Some a) (add-zero first) (part 0 a refl) in
      subst (AllStand whole) (sym (entries-insert total (from_entries {R = name_cmp} (slotted (first + 1) table)) (name a) (first, a)))
      (put_stands whole (name a) (first, a) (entries (from_entries {R = name_cmp} (slotted (first + 1) table))) (record { there = here; its_name = refl }) rest)

  pub walk_stands : (table : List (Option A)) → AllStand table (walk table)
  walk_stands table = filled_stand table 0 table (λ i a here. subst (λ (n : ℕ). at_slot n table ≡ Some a) (sym (zero-add i)) here)
