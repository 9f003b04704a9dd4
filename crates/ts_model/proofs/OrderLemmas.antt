-- Entries in the order of their names: where a name stands, and what one entry more or less leaves.
use Rattle.std.proofs.Common.{◌≡◌, ℕ, zero, suc, ◌<◌, ◌≤◌, Bool, true, false, cond, not, ◌&&◌, T, Some, None, List, [], ◌∷◌, length, get_or, map, refl, ap, sym, ◌∙◌, subst, arith}
use Rattle.std.specs.List.{insert, remove}
use Rattle.std.specs.declared.cmp.Ordering.{Ordering}
use Rattle.std.specs.declared.cmp.Ordering.TheVariants.{Less, Equal, Greater}
use Rattle.std.specs.Ordering.{is_lt, is_eq, is_gt, eq_by_cmp, ordering_reverse}
use Rattle.std.specs.Cmp.{IsTotalOrder, tied_itself}
use Rattle.std.specs.Cmp.Lexicographic.{nat_list_cmp_total, texts_ties}
use Rattle.std.specs.FinMap.{find, put, is_sorted, slice_cmp-IsAntisymmetric, nat_cmp-IsAntisymmetric}
use Rattle.std.specs.FinMap.Entries.{below_all, where_key, by_order}
use Rattle.std.specs.Str.{bytes_eq}
use Rattle.ts_model.specs.Catalogue.{name_cmp}
use Rattle.ts_model.specs.Table.{place_of, stands_at}

pub total : IsTotalOrder name_cmp
total = nat_list_cmp_total

-- names that tie are one
pub same_name : (a b : List ℕ) → name_cmp a b ≡ Equal → a ≡ b
same_name = slice_cmp-IsAntisymmetric nat_cmp-IsAntisymmetric

-- the two tests of equality agree
pub eq_ties : (a b : List ℕ) → bytes_eq a b ≡ eq_by_cmp name_cmp a b
eq_ties = texts_ties

pub ties-refl : (a : List ℕ) → eq_by_cmp name_cmp a a ≡ true
ties-refl a = ap is_eq (tied_itself total a)

is_equal : (r : Ordering) → is_eq r ≡ true → r ≡ Equal
is_equal Less h = absurd (cc)
is_equal Equal h = refl
is_equal Greater h = absurd (cc)

pub ties-same : (a b : List ℕ) → eq_by_cmp name_cmp a b ≡ true → a ≡ b
ties-same a b h = same_name a b (is_equal (name_cmp a b) h)

pub turned : (a b : List ℕ) → name_cmp a b ≡ Less → name_cmp b a ≡ Greater
turned a b h = total.antisymm b a ∙ ap ordering_reverse h

pub turned_back : (a b : List ℕ) → name_cmp a b ≡ Greater → name_cmp b a ≡ Less
turned_back a b h = total.antisymm b a ∙ ap ordering_reverse h

pub both : (a b : Bool) → T (a && b) → T a × T b
both true b h = (tt, h)
both false b h = absurd h

pub less : (r : Ordering) → T (is_lt r) → r ≡ Less
less Less h = refl
less Equal h = absurd h
less Greater h = absurd h

-- a name below all is below each
pub below_each : (q : List ℕ) (es : List (List ℕ × ℕ)) (k : ℕ) (d : List ℕ × ℕ) → T (below_all name_cmp q es) → k < length es → name_cmp q (get_or es k d).0 ≡ Less
below_each q [] k d below within = absurd (omega arith)
below_each q (e ∷ es) zero d below within = less _ (both _ _ below).0
below_each q (e ∷ es) (suc k) d below within = below_each q es k d (both _ _ below).1 (omega arith)

pub below_all-less : (q : List ℕ) (e : List ℕ × ℕ) (es : List (List ℕ × ℕ)) → name_cmp q e.0 ≡ Less → T (below_all name_cmp e.0 es) → T (below_all name_cmp q es)
below_all-less q e [] h below = tt
below_all-less q e (f ∷ es) h below =
    let first : name_cmp q f.0 ≡ Less = total.trans q e.0 f.0 h (less _ (both _ _ below).0) in
    subst (λ (r : Ordering). T (is_lt r && below_all name_cmp q es)) (sym first) (below_all-less q e es h (both _ _ below).1)

-- a name below all is not found
pub find-below : (q : List ℕ) (es : List (List ℕ × ℕ)) → T (below_all name_cmp q es) → find name_cmp q es ≡ None
find-below q [] below = refl
find-below q (e ∷ es) below =
    ap (λ (r : Ordering). cond (is_eq r) (Some e.1) (find name_cmp q es)) (less _ (both _ _ below).0) ∙ find-below q es (both _ _ below).1

-- each entry is found under its name
pub find-at : (es : List (List ℕ × ℕ)) (k : ℕ) (d : List ℕ × ℕ) → T (is_sorted name_cmp es) → k < length es → find name_cmp (get_or es k d).0 es ≡ Some (get_or es k d).1
find-at [] k d sorted within = absurd (omega arith)
find-at (e ∷ es) zero d sorted within = ap (λ (r : Ordering). cond (is_eq r) (Some e.1) (find name_cmp e.0 es)) (tied_itself total e.0)
find-at (e ∷ es) (suc k) d sorted within =
    let here = (get_or es k d).0 in
    let higher : name_cmp here e.0 ≡ Greater = turned e.0 here (below_each e.0 es k d (both _ _ sorted).0 (omega arith)) in
    ap (λ (r : Ordering). cond (is_eq r) (Some e.1) (find name_cmp here es)) higher ∙ find-at es k d (both _ _ sorted).1 (omega arith)

pub place_within : (es : List (List ℕ × ℕ)) (q : List ℕ) → place_of q es ≤ length es
place_within [] q = omega arith
place_within (e ∷ es) q =
    elim (name_cmp q e.0) as (λ (r : Ordering). cond (is_gt r) (suc (place_of q es)) 0 ≤ suc (length es)) [
      | Less ↦ omega arith
      | Equal ↦ omega arith
      | Greater ↦ omega (arith, place_within es q)
    ]

-- an entry of a lower name stands before the place
pub place_above : (es : List (List ℕ × ℕ)) (q : List ℕ) (k : ℕ) (d : List ℕ × ℕ) → T (is_sorted name_cmp es) → k < length es → name_cmp q (get_or es k d).0 ≡ Greater → k < place_of q es
place_above [] q k d sorted within higher = absurd (omega arith)
place_above (e ∷ es) q zero d sorted within higher =
    subst (λ (r : Ordering). 0 < cond (is_gt r) (suc (place_of q es)) 0) (sym higher) (omega arith)
place_above (e ∷ es) q (suc k) d sorted within higher =
    let here = (get_or es k d).0 in
    let first : name_cmp e.0 q ≡ Less = total.trans e.0 here q (below_each e.0 es k d (both _ _ sorted).0 (omega arith)) (turned_back q here higher) in
    let rest : k < place_of q es = place_above es q k d (both _ _ sorted).1 (omega arith) higher in
    subst (λ (r : Ordering). suc k < cond (is_gt r) (suc (place_of q es)) 0) (sym (turned e.0 q first)) (omega (arith, rest))

-- another one doesn't
pub place_below : (es : List (List ℕ × ℕ)) (q : List ℕ) (k : ℕ) (d : List ℕ × ℕ) → k < length es → is_gt (name_cmp q (get_or es k d).0) ≡ false → place_of q es ≤ k
place_below [] q k d within low = absurd (omega arith)
place_below (e ∷ es) q zero d within low =
    subst (λ (b : Bool). cond b (suc (place_of q es)) 0 ≤ 0) (sym low) (omega arith)
place_below (e ∷ es) q (suc k) d within low =
    let rest = place_below es q k d (omega arith) low in
    elim (is_gt (name_cmp q e.0)) as (λ (b : Bool). cond b (suc (place_of q es)) 0 ≤ suc k) [
      | true ↦ omega (arith, rest)
      | false ↦ omega arith
    ]

pub stands_at-is : (es : List (List ℕ × ℕ)) (place : ℕ) (q : List ℕ) (d : List ℕ × ℕ) → place < length es → stands_at place q es ≡ bytes_eq q (get_or es place d).0
stands_at-is [] place q d within = absurd (omega arith)
stands_at-is (e ∷ es) zero q d within = refl
stands_at-is (e ∷ es) (suc place) q d within = stands_at-is es place q d (omega arith)

pub stands_at-past : (es : List (List ℕ × ℕ)) (place : ℕ) (q : List ℕ) → length es ≤ place → stands_at place q es ≡ false
stands_at-past [] place q past = refl
stands_at-past (e ∷ es) zero q past = absurd (omega arith)
stands_at-past (e ∷ es) (suc place) q past = stands_at-past es place q (omega arith)

pub stands_within : (es : List (List ℕ × ℕ)) (place : ℕ) (q : List ℕ) → stands_at place q es ≡ true → place < length es
stands_within [] place q found = absurd (cc)
stands_within (e ∷ es) zero q found = omega arith
stands_within (e ∷ es) (suc place) q found = omega (arith, stands_within es place q found)

unlike : (a b : List ℕ) (r : Ordering) → name_cmp a b ≡ r → is_eq r ≡ false → bytes_eq a b ≡ false
unlike a b r is other = eq_ties a b ∙ ap is_eq is ∙ other

alike : (a b : List ℕ) → name_cmp a b ≡ Equal → bytes_eq a b ≡ true
alike a b is = eq_ties a b ∙ ap is_eq is

-- what is found at the place
pub found_at : (es : List (List ℕ × ℕ)) (q : List ℕ) (d : List ℕ × ℕ) → stands_at (place_of q es) q es ≡ true → find name_cmp q es ≡ Some (get_or es (place_of q es) d).1
found_at [] q d found = absurd (cc)
found_at (e ∷ es) q d found =
    elim (name_cmp q e.0) as (λ (r : Ordering). name_cmp q e.0 ≡ r → stands_at (cond (is_gt r) (suc (place_of q es)) 0) q (e ∷ es) ≡ true → cond (is_eq r) (Some e.1) (find name_cmp q es) ≡ Some (get_or (e ∷ es) (cond (is_gt r) (suc (place_of q es)) 0) d).1) [
      | Less ↦ λ is here. let other = unlike q e.0 Less is refl in absurd (cc)
      | Equal ↦ λ is here. refl
      | Greater ↦ λ is here. found_at es q d here
    ] refl found

pub none_at : (es : List (List ℕ × ℕ)) (q : List ℕ) → T (is_sorted name_cmp es) → stands_at (place_of q es) q es ≡ false → find name_cmp q es ≡ None
none_at [] q sorted none = refl
none_at (e ∷ es) q sorted none =
    elim (name_cmp q e.0) as (λ (r : Ordering). name_cmp q e.0 ≡ r → stands_at (cond (is_gt r) (suc (place_of q es)) 0) q (e ∷ es) ≡ false → cond (is_eq r) (Some e.1) (find name_cmp q es) ≡ None) [
      | Less ↦ λ is here. find-below q es (below_all-less q e es is (both _ _ sorted).0)
      | Equal ↦ λ is here. let other = alike q e.0 is in absurd (cc)
      | Greater ↦ λ is here. none_at es q (both _ _ sorted).1 here
    ] refl none

-- an entry with a new name goes to its place
pub put-new : (es : List (List ℕ × ℕ)) (k : List ℕ) (v : ℕ) → find name_cmp k es ≡ None → put name_cmp k v es ≡ insert es (place_of k es) (k, v)
put-new [] k v none = refl
put-new (e ∷ es) k v none =
    elim (name_cmp k e.0) as (λ (r : Ordering). cond (is_eq r) (Some e.1) (find name_cmp k es) ≡ None → by_order r ((k, v) ∷ e ∷ es) ((e.0, v) ∷ es) (e ∷ put name_cmp k v es) ≡ insert (e ∷ es) (cond (is_gt r) (suc (place_of k es)) 0) (k, v)) [
      | Less ↦ λ here. refl
      | Equal ↦ λ here. absurd (cc)
      | Greater ↦ λ here. ap (λ (l : List (List ℕ × ℕ)). e ∷ l) (put-new es k v here)
    ] none

where_key-all : (k : List ℕ) (es : List (List ℕ × ℕ)) → T (below_all name_cmp k es) → where_key name_cmp (λ x. not (eq_by_cmp name_cmp k x)) es ≡ es
where_key-all k [] below = refl
where_key-all k (e ∷ es) below =
    ap (λ (r : Ordering). cond (not (is_eq r)) (e ∷ where_key name_cmp (λ x. not (eq_by_cmp name_cmp k x)) es) (where_key name_cmp (λ x. not (eq_by_cmp name_cmp k x)) es)) (less _ (both _ _ below).0)
    ∙ ap (λ (l : List (List ℕ × ℕ)). e ∷ l) (where_key-all k es (both _ _ below).1)

-- without the entry that stands at the place
pub without-place : (es : List (List ℕ × ℕ)) (k : List ℕ) (v : ℕ) → T (is_sorted name_cmp es) → find name_cmp k es ≡ Some v → where_key name_cmp (λ x. not (eq_by_cmp name_cmp k x)) es ≡ remove es (place_of k es)
without-place [] k v sorted found = absurd (cc)
without-place (e ∷ es) k v sorted found =
    let others = where_key name_cmp (λ x. not (eq_by_cmp name_cmp k x)) es in
    elim (name_cmp k e.0) as (λ (r : Ordering). name_cmp k e.0 ≡ r → cond (is_eq r) (Some e.1) (find name_cmp k es) ≡ Some v → cond (not (is_eq r)) (e ∷ others) others ≡ remove (e ∷ es) (cond (is_gt r) (suc (place_of k es)) 0)) [
      | Less ↦ λ is here. let none = find-below k es (below_all-less k e es is (both _ _ sorted).0) in absurd (cc)
      | Equal ↦ λ is here. let same = same_name k e.0 is in where_key-all k es (subst (λ (n : List ℕ). T (below_all name_cmp n es)) (sym same) (both _ _ sorted).0)
      | Greater ↦ λ is here. ap (λ (l : List (List ℕ × ℕ)). e ∷ l) (without-place es k v (both _ _ sorted).1 here)
    ] refl found

pub place_of-found : (es : List (List ℕ × ℕ)) (k : List ℕ) (v : ℕ) → T (is_sorted name_cmp es) → find name_cmp k es ≡ Some v → place_of k es < length es
place_of-found [] k v sorted found = absurd (cc)
place_of-found (e ∷ es) k v sorted found =
    elim (name_cmp k e.0) as (λ (r : Ordering). name_cmp k e.0 ≡ r → cond (is_eq r) (Some e.1) (find name_cmp k es) ≡ Some v → cond (is_gt r) (suc (place_of k es)) 0 < suc (length es)) [
      | Less ↦ λ is here. omega arith
      | Equal ↦ λ is here. omega arith
      | Greater ↦ λ is here. omega (arith, place_of-found es k v (both _ _ sorted).1 here)
    ] refl found

pub map-insert : {A B : Type 0} (f : A → B) (xs : List A) (p : ℕ) (x : A) → map f (insert xs p x) ≡ insert (map f xs) p (f x)
map-insert f [] zero x = refl
map-insert f [] (suc p) x = refl
map-insert f (y ∷ ys) zero x = refl
map-insert {A} {B} f (y ∷ ys) (suc p) x = ap (λ (l : List B). f y ∷ l) (map-insert f ys p x)

pub map-remove : {A B : Type 0} (f : A → B) (xs : List A) (p : ℕ) → map f (remove xs p) ≡ remove (map f xs) p
map-remove f [] zero = refl
map-remove f [] (suc p) = refl
map-remove f (y ∷ ys) zero = refl
map-remove {A} {B} f (y ∷ ys) (suc p) = ap (λ (l : List B). f y ∷ l) (map-remove f ys p)
