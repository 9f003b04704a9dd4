-- Elements as a map by their stamps: in order they are its entries, it is edited as the list, and their order plays no part.
use Rattle.std.specs.Prelude.{IsPermutation}
use Rattle.std.proofs.Common.{◌≡◌, Bool, true, false, T, ◌&&◌, not, cond, Option, Some, None, List, [], ◌∷◌, refl, sym, ap, subst, ◌∙◌, inl, inr, ◌⊎◌, length, ℤ, ◌<ℤ◌}
use Rattle.std.proofs.lemmas.Map.Lookups.{exact_signed}
use Rattle.std.specs.Ordering.{int_cmp, int_eq, is_eq, is_lt}
use Rattle.std.specs.declared.cmp.Ordering.{Ordering}
use Rattle.std.specs.declared.cmp.Ordering.TheVariants.{Less, Equal, Greater}
use Rattle.std.specs.Cmp.{int_cmp_is, int_cmp_total, eq_by_cmp_equiv, tied_itself}
use Rattle.std.specs.FinMap.{find, get, insert, remove, entries, len, len-entries, is_sorted, from_sorted, same_map, int_cmp-IsAntisymmetric, get-from_entries, get-from_sorted, get-insert, get-remove, entries-from_sorted}
use Rattle.std.specs.FinMap.Entries.{find-put, find-where_key, below_all}
use Rattle.std.proofs.lemmas.List.Sorted.{IsPermutation-sym}
use Rattle.ts_row.specs.Row.{Row}
use Rattle.ts_row.specs.declared.kind.Column.{Column}
use Rattle.ts_cells.specs.IrregularPage.{Element, AreInOrder, AreRising}
use Rattle.ts_irregular.specs.Edit.{element_at, with_element, without_element}
use Rattle.ts_sheets.specs.Stamped.{AreLater}
use Rattle.ts_sheets.proofs.OrderLemmas.{later_of, rising_tail}
use Rattle.ts_layout.specs.Chains.{by_stamp}
use Rattle.ts_layout.proofs.MemberLemmas.{Among, among_permuted}

-- searched and edited as the list
pub map_found : (stamp : ℤ) (es : List Element) → get (by_stamp es) stamp ≡ element_at stamp es
map_found stamp es = get-from_entries int_cmp_total es stamp

pub map_put : (stamp : ℤ) (row : Row) (es : List Element) → by_stamp (with_element stamp row es) ≡ insert (by_stamp es) stamp row
map_put stamp row es = same_map int_cmp_total int_cmp-IsAntisymmetric _ _ (λ q.
    map_found q (with_element stamp row es) ∙ find-put int_cmp int_cmp_total q stamp row es
    ∙ ap (λ (o : Option Row). cond (int_eq q stamp) (Some row) o) (sym (map_found q es)) ∙ sym (get-insert int_cmp_total (by_stamp es) stamp row q))

pub map_taken : (stamp : ℤ) (es : List Element) → by_stamp (without_element stamp es) ≡ remove (by_stamp es) stamp
map_taken stamp es = same_map int_cmp_total int_cmp-IsAntisymmetric _ _ (λ q.
    map_found q (without_element stamp es)
    ∙ find-where_key int_cmp (λ (k : ℤ). not (int_eq stamp k)) q (λ x tie. ap (λ (y : ℤ). not (int_eq stamp y)) (sym (exact_signed q x tie))) es
    ∙ turned (int_eq stamp q) (int_eq q stamp) (find int_cmp q es) ((eq_by_cmp_equiv int_cmp_total).symm stamp q)
    ∙ ap (λ (o : Option Row). cond (int_eq q stamp) None o) (sym (map_found q es)) ∙ sym (get-remove int_cmp_total (by_stamp es) stamp q))
  where
    by_test : (b : Bool) (o : Option Row) → cond (not b) o None ≡ cond b None o
    by_test true o = refl
    by_test false o = refl

    turned : (a b : Bool) (o : Option Row) → a ≡ b → cond (not a) o None ≡ cond b None o
    turned a b o same = ap (λ (t : Bool). cond (not t) o None) same ∙ by_test b o

-- in order they are sorted
both : (a b : Bool) → T a → T b → T (a && b)
both true true first second = tt
both true false first second = second
both false b first second = first

below_later : (stamp : ℤ) (es : List Element) → AreLater stamp es → T (below_all int_cmp stamp es)
below_later stamp [] later = tt
below_later stamp (e ∷ es) later = both (is_lt (int_cmp stamp e.0)) (below_all int_cmp stamp es) (subst (λ (r : Ordering). T (is_lt r)) (int_cmp_is stamp e.0 Less later.0) tt) (below_later stamp es later.1)

rising_sorted : (es : List Element) → AreRising es → T (is_sorted int_cmp es)
rising_sorted [] rising = tt
rising_sorted (e ∷ es) rising = both (below_all int_cmp e.0 es) (is_sorted int_cmp es) (below_later e.0 es (later_of e es rising)) (rising_sorted es (rising_tail e es rising))

pub rising_entries : (es : List Element) → AreRising es → entries (by_stamp es) ≡ es
rising_entries es rising =
    let sorted = rising_sorted es rising in
    let same : by_stamp es ≡ from_sorted {R = int_cmp} es = same_map int_cmp_total int_cmp-IsAntisymmetric (by_stamp es) (from_sorted {R = int_cmp} es)
    (λ q. map_found q es ∙ sym (get-from_sorted int_cmp es q sorted)) in
    ap entries same ∙ entries-from_sorted int_cmp es sorted

pub map_entries : (columns : List Column) (es : List Element) → AreInOrder columns es → entries (by_stamp es) ≡ es
map_entries columns es order = rising_entries es order.rising

pub map_count : (columns : List Column) (es : List Element) → AreInOrder columns es → len (by_stamp es) ≡ length es
map_count columns es order = len-entries (by_stamp es) ∙ ap (λ (l : List Element). length l) (map_entries columns es order)

-- an element that stands in a list is found, and what is found stands there
same_stamp : (x y : ℤ) → int_eq x y ≡ true → x ≡ y
same_stamp x y is = elim (int_cmp x y) as (λ (r : Ordering). int_cmp x y ≡ r → is_eq r ≡ true → x ≡ y) [
  | Less ↦ λ at t. absurd (let no : ⊥ = cc in no)
  | Equal ↦ λ at t. exact_signed x y at
  | Greater ↦ λ at t. absurd (let no : ⊥ = cc in no)
] refl is

other_stamp : (x y : ℤ) → y <ℤ x → int_eq x y ≡ false
other_stamp x y below = ap is_eq (sym (int_cmp_is x y Greater below))

pub found_among : (q : ℤ) (r : Row) (es : List Element) → find int_cmp q es ≡ Some r → Among (q, r) es
found_among q r [] is = absurd (let no : ⊥ = cc in no)
found_among q r (e ∷ es) is = elim (int_eq q e.0) as (λ (b : Bool). int_eq q e.0 ≡ b → cond b (Some e.1) (find int_cmp q es) ≡ Some r → Among (q, r) (e ∷ es)) [
  | true ↦ λ t at. inl (let row : r ≡ e.1 = cc in let stamp = same_stamp q e.0 t in λ i. (stamp i, row i))
  | false ↦ λ f at. inr (found_among q r es at)
] refl is

later_than : (stamp : ℤ) (es : List Element) (e : Element) → AreLater stamp es → Among e es → stamp <ℤ e.0
later_than stamp [] e later there = absurd there
later_than stamp (f ∷ es) e later (inl is) = subst (λ (x : Element). stamp <ℤ x.0) (sym is) later.0
later_than stamp (f ∷ es) e later (inr there) = later_than stamp es e later.1 there

among_found : (e : Element) (es : List Element) → AreRising es → Among e es → find int_cmp e.0 es ≡ Some e.1
among_found e [] rising there = absurd there
among_found e (f ∷ es) rising (inl is) =
    ap (λ (x : Element). find int_cmp x.0 (f ∷ es)) is ∙ ap (λ (b : Bool). cond b (Some f.1) (find int_cmp f.0 es)) (ap is_eq (tied_itself int_cmp_total f.0)) ∙ ap (λ (x : Element). Some x.1) (sym is)
among_found e (f ∷ es) rising (inr there) =
    ap (λ (b : Bool). cond b (Some f.1) (find int_cmp e.0 es)) (other_stamp e.0 f.0 (later_than f.0 es e (later_of f es rising) there))
    ∙ among_found e es (rising_tail f es rising) there

not_missing : (q : ℤ) (r : Row) (es : List Element) → find int_cmp q es ≡ None → Among (q, r) es → ⊥
not_missing q r [] none there = there
not_missing q r (e ∷ es) none there = elim (int_eq q e.0) as (λ (b : Bool). int_eq q e.0 ≡ b → cond b (Some e.1) (find int_cmp q es) ≡ None → ⊥) [
  | true ↦ λ t at. let no : ⊥ = cc in no
  | false ↦ λ f at. elim there [
    | inl is ↦ let yes : int_eq q e.0 ≡ true = ap (λ (x : Element). int_eq q x.0) (sym is) ∙ ap is_eq (tied_itself int_cmp_total q) in let no : ⊥ = cc in no
    | inr behind ↦ not_missing q r es at behind
  ]
] refl none

-- the elements of a permutation of such as rise are the same map
none_or : (o : Option Row) → (o ≡ None) ⊎ ((r : Row) × (o ≡ Some r))
none_or None = inl refl
none_or (Some r) = inr (r, refl)

pub by_stamp_permuted : (es fs : List Element) → AreRising es → IsPermutation es fs → by_stamp fs ≡ by_stamp es
by_stamp_permuted es fs rising moved = same_map int_cmp_total int_cmp-IsAntisymmetric _ _ (λ q.
    map_found q fs ∙ same q (none_or (find int_cmp q fs)) (none_or (find int_cmp q es)) ∙ sym (map_found q es))
  where
    there : (q : ℤ) (r : Row) → find int_cmp q fs ≡ Some r → find int_cmp q es ≡ Some r
    there q r is = among_found (q, r) es rising (among_permuted fs es (q, r) (IsPermutation-sym es fs moved) (found_among q r fs is))

    same : (q : ℤ) → (find int_cmp q fs ≡ None) ⊎ ((r : Row) × (find int_cmp q fs ≡ Some r)) → (find int_cmp q es ≡ None) ⊎ ((r : Row) × (find int_cmp q es ≡ Some r)) → find int_cmp q fs ≡ find int_cmp q es
    same q (inl none) (inl none') = none ∙ sym none'
    same q (inl none) (inr some) = absurd (not_missing q some.0 fs none (among_permuted es fs (q, some.0) moved (found_among q some.0 es some.1)))
    same q (inr some) other = some.1 ∙ sym (there q some.0 some.1)
