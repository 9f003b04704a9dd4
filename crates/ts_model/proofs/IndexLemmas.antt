-- The numbers of the filled slots in the order of their names, as an index: what stands at each of its places.
use Rattle.std.proofs.Common.{◌≡◌, ℕ, suc, ◌+◌, ◌-◌, ◌<◌, Bool, true, false, cond, T, Option, Some, None, List, [], ◌∷◌, length, get_or, set, map, replicate, nat_lt, not, inl, inr, refl, ap, sym, ◌∙◌, subst, arith, zero-add, add-zero}
use Rattle.std.proofs.lemmas.List.{get_or-map, length-map}
use Rattle.std.proofs.lemmas.Bool.{cases_lt, lt-ltb, le-ltb}
use Rattle.std.specs.List.{insert, remove, position, position_or_len}
use Rattle.std.specs.Cmp.{alike_right, eq_by_cmp_equiv}
use Rattle.std.specs.Str.{bytes_eq}
use Rattle.std.specs.Option.{option_map, IsSome}
use Rattle.std.specs.Ordering.{eq_by_cmp, is_eq}
use Rattle.std.specs.FinMap.{find, get, is_sorted, from_entries, entries, values, entries_sorted, get-entries, get-from_entries, get-remove, entries-insert, entries-from_sorted, get-from_sorted, from_sorted, same_map}
use Rattle.std.specs.FinMap as finmap
use Rattle.std.specs.FinMap.Entries.{where_key, is_sorted-where_key, find-where_key}
use Rattle.ts_model.specs.Catalogue.{name_cmp, Named}
use Rattle.ts_model.specs.Definitions.{at_slot, filled_from, slots_by_name, name_of, slot_of, has_name}
use Rattle.ts_model.specs.Table.{place_of, stands_at, padded}
use Rattle.ts_model.specs.declared.def.Def.{Def}
use Rattle.ts_model.proofs.OrderLemmas.{total, same_name, eq_ties, find-at, found_at, none_at, stands_within, put-new, without-place, place_of-found, map-insert, map-remove}
use Rattle.ts_model.proofs.SlotLemmas.{AreApart, find-filled, find-slot, by_name-fill, by_name-clear, filled-padded, filled-replicate}

-- the entries of the index, and their names in order
abbrev pub index : List (Option Def) → List (List ℕ × ℕ)
index items = entries (slots_by_name items)

pub index-sorted : (items : List (Option Def)) → T (is_sorted name_cmp (index items))
index-sorted items = entries_sorted (slots_by_name items)

pub index-length : (items : List (Option Def)) → length (values (slots_by_name items)) ≡ length (index items)
index-length items = length-map (index items) (λ (e : List ℕ × ℕ). e.1)

-- the index finds what the slots have
pub index-find : (items : List (Option Def)) (q : List ℕ) → find name_cmp q (index items) ≡ find name_cmp q (filled_from name_of (λ slot def. slot) 0 items)
index-find items q = sym (get-entries (slots_by_name items) q) ∙ get-from_entries total _ q

-- each place of the index is the number of a filled slot
pub index-slot : (items : List (Option Def)) (k : ℕ) (d : List ℕ × ℕ) → k < length (index items) → (a : Def) × (at_slot (get_or (values (slots_by_name items)) k 0) items ≡ Some a) × ((get_or (index items) k d).0 ≡ name_of a)
index-slot items k d within =
    let e = get_or (index items) k d in
    let there = find-filled name_of (λ slot def. slot) items 0 e.0 e.1 (sym (index-find items e.0) ∙ find-at (index items) k d (index-sorted items) within) in
    let number : get_or (values (slots_by_name items)) k 0 ≡ there.0 = get_or-map (λ (x : List ℕ × ℕ). x.1) (index items) k d 0 within ∙ there.4 ∙ zero-add there.0 in
    (there.1, ap (λ (n : ℕ). at_slot n items) number ∙ there.2, there.3)

pub some-is : {A : Type 0} (o : Option A) (x : A) → o ≡ Some x → IsSome o
some-is {A} o x e = subst (λ (p : Option A). IsSome p) (sym e) refl

pub index-filled : (items : List (Option Def)) (order : List ℕ) (k : ℕ) → order ≡ values (slots_by_name items) → k < length order → IsSome (at_slot (get_or order k 0) items)
index-filled items order k same within =
    let inside : k < length (index items) = subst (λ (n : ℕ). k < n) (ap length same ∙ index-length items) within in
    let there = index-slot items k ([], 0) inside in
    some-is _ there.0 (ap (λ (l : List ℕ). at_slot (get_or l k 0) items) same ∙ there.1)

-- the name in the slot at a place is that of the index
pub index-name : (items : List (Option Def)) (order : List ℕ) (k : ℕ) (n : List ℕ) → order ≡ values (slots_by_name items) → k < length order → Some n ≡ option_map name_of (at_slot (get_or order k 0) items) → n ≡ (get_or (index items) k ([], 0)).0
index-name items order k n same within read =
    let inside : k < length (index items) = subst (λ (m : ℕ). k < m) (ap length same ∙ index-length items) within in
    let there = index-slot items k ([], 0) inside in
    let whole : Some n ≡ Some (name_of there.0) = read ∙ ap (option_map name_of) (ap (λ (l : List ℕ). at_slot (get_or l k 0) items) same ∙ there.1) in
    let names : n ≡ name_of there.0 = cc in
    names ∙ sym there.2

one-more : (n : ℕ) → 1 + n ≡ suc n
one-more n = omega arith

-- what a search for the first that passes finds, from the front on
pub position-more : {A : Type 0} (p : A → Bool) (x : A) (xs : List A) → position p (x ∷ xs) ≡ cond (p x) (Some 0) (option_map (λ n. suc n) (position p xs))
position-more p x xs =
    elim (p x) as (λ (b : Bool). cond (nat_lt (cond (not b) (1 + position_or_len p xs) 0) (suc (length xs))) (Some (cond (not b) (1 + position_or_len p xs) 0)) None ≡ cond b (Some 0) (option_map (λ n. suc n) (position p xs))) [
      | true ↦ ap (λ (t : Bool). cond t (Some 0) None) (lt-ltb 0 (suc (length xs)) (omega arith))
      | false ↦ elim (cases_lt (position_or_len p xs) (length xs)) [
        | inl low ↦
            ap (λ (t : Bool). cond t (Some (1 + position_or_len p xs)) None) (lt-ltb (1 + position_or_len p xs) (suc (length xs)) (omega (arith, low)))
            ∙ ap (λ (n : ℕ). Some n) (one-more (position_or_len p xs))
            ∙ ap (option_map (λ (n : ℕ). suc n)) (ap (λ (t : Bool). cond t (Some (position_or_len p xs)) None) (sym (lt-ltb (position_or_len p xs) (length xs) low)))
        | inr high ↦
            ap (λ (t : Bool). cond t (Some (1 + position_or_len p xs)) None) (le-ltb (1 + position_or_len p xs) (suc (length xs)) (omega (arith, high)))
            ∙ ap (option_map (λ (n : ℕ). suc n)) (ap (λ (t : Bool). cond t (Some (position_or_len p xs)) None) (sym (le-ltb (position_or_len p xs) (length xs) high)))
      ]
    ]

shifted : (first : ℕ) (o : Option ℕ) → option_map (λ n. (first + 1) + n) o ≡ option_map (λ n. first + n) (option_map (λ n. suc n) o)
shifted first None = refl
shifted first (Some n) = let e : (first + 1) + n ≡ first + suc n = omega arith in ap (λ (m : ℕ). Some m) e

pub unshifted : (o : Option ℕ) → option_map (λ n. 0 + n) o ≡ o
unshifted None = refl
unshifted (Some n) = ap (λ (m : ℕ). Some m) (zero-add n)

-- to be found under a name is to stand in the first slot that has it
pub find-position : (table : List (Option Def)) (first : ℕ) (q : List ℕ) → find name_cmp q (filled_from name_of (λ slot def. slot) first table) ≡ option_map (λ n. first + n) (position (has_name q) table)
find-position [] first q = refl
find-position (None ∷ table) first q =
    find-position table (first + 1) q ∙ shifted first (position (has_name q) table)
    ∙ ap (option_map (λ (n : ℕ). first + n)) (sym (position-more (has_name q) None table))
find-position (Some a ∷ table) first q =
    let rest = find-position table (first + 1) q ∙ shifted first (position (has_name q) table) in
    elim (bytes_eq q (name_of a)) as (λ (b : Bool). eq_by_cmp name_cmp q (name_of a) ≡ b → cond (eq_by_cmp name_cmp q (name_of a)) (Some first) (find name_cmp q (filled_from name_of (λ slot def. slot) (first + 1) table)) ≡ option_map (λ n. first + n) (cond b (Some 0) (option_map (λ n. suc n) (position (has_name q) table)))) [
      | true ↦ λ t. ap (λ (b : Bool). cond b (Some first) (find name_cmp q (filled_from name_of (λ slot def. slot) (first + 1) table))) t ∙ ap (λ (m : ℕ). Some m) (sym (add-zero first))
      | false ↦ λ t. ap (λ (b : Bool). cond b (Some first) (find name_cmp q (filled_from name_of (λ slot def. slot) (first + 1) table))) t ∙ rest
    ] (sym (eq_ties q (name_of a)))
    ∙ ap (option_map (λ (n : ℕ). first + n)) (sym (position-more (has_name q) (Some a) table))

-- the index finds the slot that has a name
pub index-slot_of : (count : ℕ) (items : List (Option Def)) (q : List ℕ) → find name_cmp q (index items) ≡ slot_of q (padded count items)
index-slot_of count items q =
    index-find items q ∙ ap (find name_cmp q) (sym (filled-padded name_of (λ slot def. slot) items 0 (count - length items)))
    ∙ find-position (padded count items) 0 q ∙ unshifted (slot_of q (padded count items))

-- the index with one more slot
pub index-fill : (items : List (Option Def)) (order : List ℕ) (slot : ℕ) (a : Def) → order ≡ values (slots_by_name items) → slot < length items → at_slot slot items ≡ None → find name_cmp (name_of a) (index items) ≡ None
    → insert order (place_of (name_of a) (index items)) slot ≡ values (slots_by_name (set items slot (Some a)))
index-fill items order slot a same within empty none =
    let k = name_of a in
    let m = slots_by_name items in
    ap (λ (l : List ℕ). insert l (place_of k (index items)) slot) same
    ∙ sym (map-insert (λ (e : List ℕ × ℕ). e.1) (index items) (place_of k (index items)) (k, slot))
    ∙ ap (map (λ (e : List ℕ × ℕ). e.1)) (sym (put-new (index items) k slot none) ∙ sym (entries-insert total m k slot)
    ∙ ap (λ (n : Named ℕ). entries n) (sym (by_name-fill name_of (λ slot def. slot) items slot a within empty (get-entries m k ∙ none))))

flipped : {A : Type 0} (b : Bool) (x y : A) → cond (not b) x y ≡ cond b y x
flipped true x y = refl
flipped false x y = refl

-- the index with one slot less
pub index-clear : (items : List (Option Def)) (order : List ℕ) (slot : ℕ) (a : Def) → order ≡ values (slots_by_name items) → AreApart name_of items → at_slot slot items ≡ Some a
    → remove order (place_of (name_of a) (index items)) ≡ values (slots_by_name (set items slot None))
index-clear items order slot a same apart here =
    let k = name_of a in
    let m = slots_by_name items in
    let p : List ℕ → Bool = λ x. not (eq_by_cmp name_cmp k x) in
    let others = where_key name_cmp p (index items) in
    let sorted = is_sorted-where_key name_cmp p (index items) (index-sorted items) in
    let found : find name_cmp k (index items) ≡ Some slot = index-find items k ∙ find-slot name_of (λ slot def. slot) items 0 slot a apart here ∙ ap (λ (n : ℕ). Some n) (zero-add slot) in
    let left : slots_by_name (set items slot None) ≡ from_sorted others = same_map total same_name _ _ (λ q.
    (λ i. get (by_name-clear name_of (λ slot def. slot) items slot a apart here i) q) ∙ get-remove total m k q
    ∙ ap (λ (b : Bool). cond b None (get m q)) ((eq_by_cmp_equiv total).symm q k) ∙ sym (flipped (eq_by_cmp name_cmp k q) (get m q) None)
    ∙ ap (λ (o : Option ℕ). cond (p q) o None) (get-entries m q)
    ∙ sym (find-where_key name_cmp p q (λ x t. ap (λ r. not (is_eq r)) (sym (alike_right total q x k t))) (index items))
    ∙ sym (get-from_sorted name_cmp others q sorted)) in
    ap (λ (l : List ℕ). remove l (place_of k (index items))) same
    ∙ sym (map-remove (λ (e : List ℕ × ℕ). e.1) (index items) (place_of k (index items)))
    ∙ ap (map (λ (e : List ℕ × ℕ). e.1)) (sym (without-place (index items) k slot (index-sorted items) found) ∙ sym (entries-from_sorted name_cmp others sorted) ∙ ap (λ (n : Named ℕ). entries n) (sym left))

-- where a slot's name stands in the index
pub index-place : (items : List (Option Def)) (slot : ℕ) (a : Def) → AreApart name_of items → at_slot slot items ≡ Some a → place_of (name_of a) (index items) < length (index items)
index-place items slot a apart here =
    place_of-found (index items) (name_of a) _ (index-sorted items) (index-find items (name_of a) ∙ find-slot name_of (λ slot def. slot) items 0 slot a apart here)

-- no names are out of order where there are none
pub empty-list : {A : Type 0} (l : List A) → length l ≡ 0 → l ≡ []
empty-list [] h = refl
empty-list (x ∷ l) h = absurd (omega (arith, h))

pub index-none : (count : ℕ) → values (slots_by_name (replicate count None)) ≡ []
index-none count =
    ap (λ (l : List (List ℕ × ℕ)). values (from_entries {R = name_cmp} l)) (filled-replicate name_of (λ slot def. slot) 0 count)
    ∙ ap (map (λ (e : List ℕ × ℕ). e.1)) (empty-list (entries (finmap.empty {R = name_cmp})) (sym (finmap.len-entries (finmap.empty {R = name_cmp})) ∙ finmap.len-empty name_cmp ℕ))

-- what a search of the index gives is the slot that has the name
pub search-found : (count : ℕ) (items : List (Option Def)) (order : List ℕ) (q : List ℕ) (p : ℕ) → order ≡ values (slots_by_name items) → p ≡ place_of q (index items) → stands_at p q (index items) ≡ true → Some (get_or order p 0) ≡ slot_of q (padded count items)
search-found count items order q p same place found =
    let es = index items in
    let here : stands_at (place_of q es) q es ≡ true = ap (λ (n : ℕ). stands_at n q es) (sym place) ∙ found in
    (λ i. Some (get_or (same i) (place i) 0)) ∙ ap (λ (n : ℕ). Some n) (get_or-map (λ (e : List ℕ × ℕ). e.1) es (place_of q es) ([], 0) 0 (stands_within es (place_of q es) q here))
    ∙ sym (found_at es q ([], 0) here) ∙ index-slot_of count items q

pub search-none : (count : ℕ) (items : List (Option Def)) (q : List ℕ) (p : ℕ) → p ≡ place_of q (index items) → stands_at p q (index items) ≡ false → None ≡ slot_of q (padded count items)
search-none count items q p place none =
    let es = index items in
    let here : stands_at (place_of q es) q es ≡ false = ap (λ (n : ℕ). stands_at n q es) (sym place) ∙ none in
    sym (none_at es q (index-sorted items) here) ∙ index-slot_of count items q
