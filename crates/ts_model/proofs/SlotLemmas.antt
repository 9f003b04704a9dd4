-- The filled slots under their names: what one slot that is filled or emptied changes.
use Rattle.std.proofs.Common.{◌≡◌, ℕ, zero, suc, ◌+◌, ◌<◌, Bool, true, false, cond, Option, Some, None, List, [], ◌∷◌, ◌++◌, length, set, replicate, refl, ap, sym, ◌∙◌, subst, arith, add-zero, zero-add}
use Rattle.std.specs.Ordering.{eq_by_cmp}
use Rattle.std.specs.FinMap.{find, get, insert, remove, same_map, get-insert, get-remove, get-from_entries}
use Rattle.ts_model.specs.Catalogue.{name_cmp}
use Rattle.ts_model.specs.Definitions.{at_slot, filled_from, by_name}
use Rattle.ts_model.proofs.OrderLemmas.{total, same_name, ties-refl, ties-same}

pub some≢none : {A : Type 0} (x : A) → Some x ≡ None → ⊥
some≢none x h = cc

-- two tests that never hold together can be made in either order
swapped : {A : Type 0} (a b : Bool) (x y z : A) → (a ≡ true → b ≡ true → ⊥) → cond a x (cond b y z) ≡ cond b y (cond a x z)
swapped true true x y z apart = absurd (apart refl refl)
swapped true false x y z apart = refl
swapped false b x y z apart = refl

twice : {A : Type 0} (b : Bool) (x z : A) → cond b x (cond b x z) ≡ cond b x z
twice true x z = refl
twice false x z = refl

-- no two slots have one name
abbrev pub AreApart : {A : Type 0} → (A → List ℕ) → List (Option A) → Type 0
AreApart {A} name table = (i j : ℕ) (a b : A) → at_slot i table ≡ Some a → at_slot j table ≡ Some b → name a ≡ name b → i ≡ j

suc-same : (i j : ℕ) → suc i ≡ suc j → i ≡ j
suc-same i j h = omega arith

module _ {A : Type 0} (name : A → List ℕ) where
  pub apart-rest : (x : Option A) (table : List (Option A)) → AreApart name (x ∷ table) → AreApart name table
  apart-rest x table apart i j a b here there same = suc-same i j (apart (suc i) (suc j) a b here there same)

  module _ {X : Type 0} (value : ℕ → A → X) where
    found : ℕ → List (Option A) → List ℕ → Option X
    found first table q = find name_cmp q (filled_from name value first table)

    -- what is found stands in a slot
    pub find-filled : (table : List (Option A)) (first : ℕ) (q : List ℕ) (v : X) → find name_cmp q (filled_from name value first table) ≡ Some v → (i : ℕ) × (a : A) × (at_slot i table ≡ Some a) × (q ≡ name a) × (v ≡ value (first + i) a)
    find-filled [] first q v h = absurd (some≢none v (sym h))
    find-filled (None ∷ table) first q v h =
        let rest = find-filled table (first + 1) q v h in
        let e : (first + 1) + rest.0 ≡ first + suc rest.0 = omega arith in
        (suc rest.0, rest.1, rest.2, rest.3, rest.4 ∙ ap (λ (n : ℕ). value n rest.1) e)
    find-filled (Some a ∷ table) first q v h =
        elim (eq_by_cmp name_cmp q (name a)) as (λ (b : Bool). eq_by_cmp name_cmp q (name a) ≡ b → cond b (Some (value first a)) (find name_cmp q (filled_from name value (first + 1) table)) ≡ Some v → (i : ℕ) × (c : A) × (at_slot i (Some a ∷ table) ≡ Some c) × (q ≡ name c) × (v ≡ value (first + i) c)) [
          | true ↦ λ t is. (0, a, refl, ties-same q (name a) t, (let inner : v ≡ value first a = cc in inner) ∙ ap (λ (n : ℕ). value n a) (sym (add-zero first)))
          | false ↦ λ t is.
              let rest = find-filled table (first + 1) q v is in
              let e : (first + 1) + rest.0 ≡ first + suc rest.0 = omega arith in
              (suc rest.0, rest.1, rest.2, rest.3, rest.4 ∙ ap (λ (n : ℕ). value n rest.1) e)
        ] refl h

    -- a name that no slot has is not found
    pub find-other : (table : List (Option A)) (first : ℕ) (q : List ℕ) → ((i : ℕ) (a : A) → at_slot i table ≡ Some a → q ≡ name a → ⊥) → find name_cmp q (filled_from name value first table) ≡ None
    find-other [] first q other = refl
    find-other (None ∷ table) first q other = find-other table (first + 1) q (λ i a h. other (suc i) a h)
    find-other (Some a ∷ table) first q other =
        elim (eq_by_cmp name_cmp q (name a)) as (λ (b : Bool). eq_by_cmp name_cmp q (name a) ≡ b → cond b (Some (value first a)) (find name_cmp q (filled_from name value (first + 1) table)) ≡ None) [
          | true ↦ λ t. absurd (other 0 a refl (ties-same q (name a) t))
          | false ↦ λ t. find-other table (first + 1) q (λ i c h. other (suc i) c h)
        ] refl

    -- a name that isn't found is that of no slot
    pub find-missing : (table : List (Option A)) (first : ℕ) (q : List ℕ) → find name_cmp q (filled_from name value first table) ≡ None → (i : ℕ) (a : A) → at_slot i table ≡ Some a → q ≡ name a → ⊥
    find-missing [] first q none i a here same = some≢none a (sym here)
    find-missing (None ∷ table) first q none zero a here same = some≢none a (sym here)
    find-missing (None ∷ table) first q none (suc i) a here same = find-missing table (first + 1) q none i a here same
    find-missing (Some c ∷ table) first q none zero a here same =
        let e : a ≡ c = cc in
        let t : eq_by_cmp name_cmp q (name c) ≡ true = ap (λ (n : List ℕ). eq_by_cmp name_cmp n (name c)) (same ∙ ap name e) ∙ ties-refl (name c) in
        some≢none (value first c) (subst (λ (b : Bool). cond b (Some (value first c)) (find name_cmp q (filled_from name value (first + 1) table)) ≡ None) t none)
    find-missing (Some c ∷ table) first q none (suc i) a here same =
        elim (eq_by_cmp name_cmp q (name c)) as (λ (b : Bool). cond b (Some (value first c)) (find name_cmp q (filled_from name value (first + 1) table)) ≡ None → ⊥) [
          | true ↦ λ is. some≢none (value first c) is
          | false ↦ λ is. find-missing table (first + 1) q is i a here same
        ] none

    -- what stands in a slot is found under its name, where no two slots have one name
    pub find-slot : (table : List (Option A)) (first i : ℕ) (a : A) → AreApart name table → at_slot i table ≡ Some a → find name_cmp (name a) (filled_from name value first table) ≡ Some (value (first + i) a)
    find-slot [] first i a apart here = absurd (some≢none a (sym here))
    find-slot (None ∷ table) first zero a apart here = absurd (some≢none a (sym here))
    find-slot (None ∷ table) first (suc i) a apart here =
        let e : (first + 1) + i ≡ first + suc i = omega arith in
        find-slot table (first + 1) i a (apart-rest None table apart) here ∙ ap (λ (n : ℕ). Some (value n a)) e
    find-slot (Some c ∷ table) first zero a apart here =
        let e : c ≡ a = cc in
        let z : first ≡ first + zero = omega arith in
        ap (λ (b : Bool). cond b (Some (value first c)) (find name_cmp (name a) (filled_from name value (first + 1) table))) (ap (λ (n : List ℕ). eq_by_cmp name_cmp (name a) n) (ap name e) ∙ ties-refl (name a))
        ∙ (λ j. Some (value (z j) (e j)))
    find-slot (Some c ∷ table) first (suc i) a apart here =
        let e : (first + 1) + i ≡ first + suc i = omega arith in
        elim (eq_by_cmp name_cmp (name a) (name c)) as (λ (b : Bool). eq_by_cmp name_cmp (name a) (name c) ≡ b → cond b (Some (value first c)) (find name_cmp (name a) (filled_from name value (first + 1) table)) ≡ Some (value (first + suc i) a)) [
          | true ↦ λ t. let never : suc i ≡ 0 = apart (suc i) 0 a c here refl (ties-same (name a) (name c) t) in absurd (omega (arith, never))
          | false ↦ λ t. find-slot table (first + 1) i a (apart-rest (Some c) table apart) here ∙ ap (λ (n : ℕ). Some (value n a)) e
        ] refl

    -- an empty slot is filled under a new name
    pub find-fill : (table : List (Option A)) (first i : ℕ) (a : A) (q : List ℕ) → i < length table → at_slot i table ≡ None → find name_cmp (name a) (filled_from name value first table) ≡ None
        → find name_cmp q (filled_from name value first (set table i (Some a))) ≡ cond (eq_by_cmp name_cmp q (name a)) (Some (value (first + i) a)) (find name_cmp q (filled_from name value first table))
    find-fill [] first i a q within empty none = absurd (omega arith)
    find-fill (None ∷ table) first zero a q within empty none =
        let z : first ≡ first + zero = omega arith in
        ap (λ (n : ℕ). cond (eq_by_cmp name_cmp q (name a)) (Some (value n a)) (find name_cmp q (filled_from name value (first + 1) table))) z
    find-fill (None ∷ table) first (suc i) a q within empty none =
        let e : (first + 1) + i ≡ first + suc i = omega arith in
        find-fill table (first + 1) i a q (omega arith) empty none
        ∙ ap (λ (n : ℕ). cond (eq_by_cmp name_cmp q (name a)) (Some (value n a)) (find name_cmp q (filled_from name value (first + 1) table))) e
    find-fill (Some c ∷ table) first zero a q within empty none = absurd (some≢none c empty)
    find-fill (Some c ∷ table) first (suc i) a q within empty none =
        let e : (first + 1) + i ≡ first + suc i = omega arith in
        elim (eq_by_cmp name_cmp (name a) (name c)) as (λ (b : Bool). eq_by_cmp name_cmp (name a) (name c) ≡ b → cond b (Some (value first c)) (find name_cmp (name a) (filled_from name value (first + 1) table)) ≡ None
        → cond (eq_by_cmp name_cmp q (name c)) (Some (value first c)) (find name_cmp q (filled_from name value (first + 1) (set table i (Some a)))) ≡ cond (eq_by_cmp name_cmp q (name a)) (Some (value (first + suc i) a)) (cond (eq_by_cmp name_cmp q (name c)) (Some (value first c)) (find name_cmp q (filled_from name value (first + 1) table)))) [
          | true ↦ λ t is. absurd (some≢none (value first c) is)
          | false ↦ λ t is.
              let rest = find-fill table (first + 1) i a q (omega arith) empty is ∙ ap (λ (n : ℕ). cond (eq_by_cmp name_cmp q (name a)) (Some (value n a)) (find name_cmp q (filled_from name value (first + 1) table))) e in
              ap (cond (eq_by_cmp name_cmp q (name c)) (Some (value first c))) rest
              ∙ sym (swapped (eq_by_cmp name_cmp q (name a)) (eq_by_cmp name_cmp q (name c)) _ _ _ (λ p r.
              let one : name a ≡ name c = sym (ties-same q (name a) p) ∙ ties-same q (name c) r in
              let tie : eq_by_cmp name_cmp (name a) (name c) ≡ true = ap (λ (n : List ℕ). eq_by_cmp name_cmp n (name c)) one ∙ ties-refl (name c) in
              absurd (cc)))
        ] refl none

    -- a filled slot is emptied
    pub find-clear : (table : List (Option A)) (first i : ℕ) (a : A) (q : List ℕ) → AreApart name table → at_slot i table ≡ Some a
        → find name_cmp q (filled_from name value first (set table i None)) ≡ cond (eq_by_cmp name_cmp q (name a)) None (find name_cmp q (filled_from name value first table))
    find-clear [] first i a q apart here = absurd (some≢none a (sym here))
    find-clear (None ∷ table) first zero a q apart here = absurd (some≢none a (sym here))
    find-clear (None ∷ table) first (suc i) a q apart here = find-clear table (first + 1) i a q (apart-rest None table apart) here
    find-clear (Some c ∷ table) first zero a q apart here =
        let e : c ≡ a = cc in
        subst (λ (d : A). find name_cmp q (filled_from name value (first + 1) table) ≡ cond (eq_by_cmp name_cmp q (name d)) None (cond (eq_by_cmp name_cmp q (name c)) (Some (value first c)) (find name_cmp q (filled_from name value (first + 1) table)))) e
        (elim (eq_by_cmp name_cmp q (name c)) as (λ (b : Bool). eq_by_cmp name_cmp q (name c) ≡ b → find name_cmp q (filled_from name value (first + 1) table) ≡ cond b None (cond b (Some (value first c)) (find name_cmp q (filled_from name value (first + 1) table)))) [
          | true ↦ λ t. find-other table (first + 1) q (λ j d there same. let never : suc j ≡ 0 = apart (suc j) 0 d c there refl (sym same ∙ ties-same q (name c) t) in absurd (omega (arith, never)))
          | false ↦ λ t. refl
        ] refl)
    find-clear (Some c ∷ table) first (suc i) a q apart here =
        let rest = find-clear table (first + 1) i a q (apart-rest (Some c) table apart) here in
        ap (cond (eq_by_cmp name_cmp q (name c)) (Some (value first c))) rest
        ∙ sym (swapped (eq_by_cmp name_cmp q (name a)) (eq_by_cmp name_cmp q (name c)) _ _ _ (λ p r.
        let never : suc i ≡ 0 = apart (suc i) 0 a c here refl (sym (ties-same q (name a) p) ∙ ties-same q (name c) r) in
        absurd (omega (arith, never))))

    -- empty slots behind change nothing
    pub filled-replicate : (first n : ℕ) → filled_from name value first (replicate n None) ≡ []
    filled-replicate first zero = refl
    filled-replicate first (suc n) = filled-replicate (first + 1) n

    pub filled-padded : (table : List (Option A)) (first n : ℕ) → filled_from name value first (table ++ replicate n None) ≡ filled_from name value first table
    filled-padded [] first n = filled-replicate first n
    filled-padded (None ∷ table) first n = filled-padded table (first + 1) n
    filled-padded (Some a ∷ table) first n = ap (λ (l : List (List ℕ × X)). (name a, value first a) ∷ l) (filled-padded table (first + 1) n)

    -- to fill an empty slot under a new name is to insert
    pub by_name-fill : (table : List (Option A)) (i : ℕ) (a : A) → i < length table → at_slot i table ≡ None → get (by_name name value table) (name a) ≡ None
        → by_name name value (set table i (Some a)) ≡ insert (by_name name value table) (name a) (value i a)
    by_name-fill table i a within empty none =
        same_map total same_name _ _ (λ q.
        get-from_entries total _ q ∙ find-fill table 0 i a q within empty (sym (get-from_entries total _ (name a)) ∙ none)
        ∙ (λ j. cond (eq_by_cmp name_cmp q (name a)) (Some (value (zero-add i j) a)) (sym (get-from_entries total (filled_from name value 0 table) q) j))
        ∙ sym (get-insert total (by_name name value table) (name a) (value i a) q))

    -- to empty a slot is to remove
    pub by_name-clear : (table : List (Option A)) (i : ℕ) (a : A) → AreApart name table → at_slot i table ≡ Some a
        → by_name name value (set table i None) ≡ remove (by_name name value table) (name a)
    by_name-clear table i a apart here =
        same_map total same_name _ _ (λ q.
        get-from_entries total _ q ∙ find-clear table 0 i a q apart here
        ∙ (λ j. cond (eq_by_cmp name_cmp q (name a)) None (sym (get-from_entries total (filled_from name value 0 table) q) j))
        ∙ sym (get-remove total (by_name name value table) (name a) q))
