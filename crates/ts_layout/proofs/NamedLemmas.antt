-- A table of definitions under their names, of which one comes to mean something else.
use Rattle.std.proofs.Common.{◌≡◌, ◌≢◌, ℕ, zero, suc, ◌<◌, Bool, true, false, cond, Option, Some, None, List, [], ◌∷◌, length, set, refl, sym, ap, ◌∙◌, arith, length-set, get_or-set_same}
use Rattle.std.specs.Ordering.{eq_by_cmp}
use Rattle.std.specs.FinMap.{get, insert, remove, same_map, get-insert, get-remove}
use Rattle.ts_model.specs.Catalogue.{name_cmp, Named}
use Rattle.ts_model.specs.Definitions.{at_slot, by_name}
use Rattle.ts_model.proofs.OrderLemmas.{total, same_name, ties-refl}
use Rattle.ts_model.proofs.SlotLemmas.{AreApart, by_name-fill, by_name-clear}
use Rattle.ts_layout.proofs.LayoutLemmas.{none≢some, within_table}
use Rattle.ts_layout.proofs.FilledLemmas.{at_cleared, by_name_same}

-- a slot that is emptied and filled again
set_back : {A : Type 0} (table : List (Option A)) (i : ℕ) (a : A) → at_slot i table ≡ Some a → set (set table i None) i (Some a) ≡ table
set_back [] i a there = absurd (none≢some None a refl there)
set_back (o ∷ table) zero a there = ap (λ x. x ∷ table) (sym there)
set_back (o ∷ table) (suc i) a there = ap (λ l. o ∷ l) (set_back table i a there)

twice : {X : Type 0} (b : Bool) (x : X) (o : Option X) → cond b (Some x) (cond b None o) ≡ cond b (Some x) o
twice true x o = refl
twice false x o = refl

-- what was removed is inserted
pub insert_removed : {X : Type 0} (m : Named X) (k : List ℕ) (x : X) → insert (remove m k) k x ≡ insert m k x
insert_removed m k x =
    same_map total same_name (insert (remove m k) k x) (insert m k x) (λ q.
    get-insert total (remove m k) k x q ∙ ap (cond (eq_by_cmp name_cmp q k) (Some x)) (get-remove total m k q) ∙ twice (eq_by_cmp name_cmp q k) x (get m q) ∙ sym (get-insert total m k x q))

-- one slot comes to mean something else
pub changed : {A X : Type 0} (name : A → List ℕ) (f g : ℕ → A → X) (table : List (Option A)) (i : ℕ) (a : A) → AreApart name table → at_slot i table ≡ Some a → ((j : ℕ) (b : A) → j ≢ i → g j b ≡ f j b)
    → by_name name g table ≡ insert (by_name name f table) (name a) (g i a)
changed {A} {X} name f g table i a apart there same =
    let cleared : List (Option A) = set table i None in
    let within : i < length table = within_table table i a there in
    let empty : at_slot i cleared ≡ None = get_or-set_same table i None None within in
    let room : i < length cleared = omega (arith, within, length-set table i (let o : Option A = None in o)) in
    let none : get (by_name name g cleared) (name a) ≡ None =
    ap (λ (m : Named X). get m (name a)) (by_name-clear name g table i a apart there) ∙ get-remove total (by_name name g table) (name a) (name a)
    ∙ ap (λ (b : Bool). cond b None (get (by_name name g table) (name a))) (ties-refl (name a)) in
    let agree : by_name name g cleared ≡ by_name name f cleared = by_name_same name g f cleared (λ j b here. same j b (at_cleared table i j b within here).0) in
    ap (by_name name g) (sym (set_back table i a there)) ∙ by_name-fill name g cleared i a room empty none
    ∙ ap (λ (m : Named X). insert m (name a) (g i a)) (agree ∙ by_name-clear name f table i a apart there) ∙ insert_removed (by_name name f table) (name a) (g i a)
