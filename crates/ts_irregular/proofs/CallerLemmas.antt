-- What callers cite of elements that are marked, and of those that are seen.
use Rattle.std.proofs.Common.{◌≡◌, ◌∙◌, Bool, true, false, IsTrue, cond, not, ℤ, ◌≤ℤ◌, Option, Some, None, IsSome, is_some, List, [], ◌∷◌, length, refl, sym, ap, subst, arith}
use Rattle.std.specs.Option.{option_and_then}
use Rattle.std.specs.Ordering.{int_cmp}
use Rattle.std.specs.Cmp.{int_cmp_is, int_cmp_total}
use Rattle.std.specs.declared.cmp.Ordering.{Ordering}
use Rattle.std.specs.declared.cmp.Ordering.TheVariants.{Less}
use Rattle.std.specs.FinMap.{put, entries, empty, from_entries, entries-insert, len-entries, len-empty}
use Rattle.std.specs.FinMap.Entries.{by_order}
use Rattle.std.proofs.lemmas.Int.{by_lt_z, ints}
use Rattle.ts_base.specs.Moment.{IsStamp}
use Rattle.ts_row.specs.declared.kind.Column.{Column}
use Rattle.ts_row.specs.Row.{Row, marked, fits, Element, seen}
use Rattle.ts_cells.specs.IrregularPage.{IsElement, AreElements, AreRising, AreInOrder}
use Rattle.ts_irregular.specs.Edit.{element_at, with_element, row_if_seen, rank_of}
use Rattle.ts_irregular.proofs.EditLemmas.{AreRising-tail, element_at-lower, element_at-higher, element_at-same, none_after, rank_below_length, put_there, with_in_order}
use Rattle.ts_irregular.proofs.BytesLemmas.{length-replaced}
use Rattle.ts_irregular.proofs.SeeLemmas.{some_one}

-- the element at a stamp is one of a row type, as all are, and so it is with another mark
pub element_in : (columns : List Column) (stamp : ℤ) (row : Row) (es : List Element) → AreElements columns es → element_at stamp es ≡ Some row → IsElement columns (stamp, row)
element_in columns stamp row [] are there = absurd (cc)
element_in columns stamp row (e ∷ es) are there = by_lt_z e.0 stamp
    (λ low. element_in columns stamp row es are.1 (sym (element_at-lower stamp e es low) ∙ there))
    (λ high. by_lt_z stamp e.0
    (λ above. element_in columns stamp row es are.1 (sym (element_at-higher stamp e es above) ∙ there))
    (λ below.
    let at : e.0 ≡ stamp = omega (arith, ints, high, below) in
    let same : e.1 ≡ row = some_one (sym (element_at-same stamp e es high below) ∙ there) in
    record { stamp = subst IsStamp at are.0.stamp; row = subst (λ (r : Row). IsTrue (fits columns r)) same are.0.row }))

pub mark_in_order : (columns : List Column) (stamp : ℤ) (hidden : Bool) (row : Row) (es : List Element) → AreInOrder columns es → element_at stamp es ≡ Some row → AreInOrder columns (with_element stamp (marked hidden row) es)
mark_in_order columns stamp hidden row es order there =
    let is = element_in columns stamp row es order.each there in
    with_in_order columns stamp (marked hidden row) es order (record { stamp = is.stamp; row = is.row })

-- a row in place of one keeps the number of elements
is_some_of : {A : Type 0} (o : Option A) → IsSome o → is_some o ≡ true
is_some_of (Some a) some = refl
is_some_of None some = absurd (cc)

pub count_kept : (stamp : ℤ) (row : Row) (es : List Element) → AreRising es → IsSome (element_at stamp es) → length (with_element stamp row es) ≡ length es
count_kept stamp row es rise some =
    let there = is_some_of (element_at stamp es) some in
    ap length (put_there stamp row es rise there) ∙ length-replaced (rank_of stamp es) (stamp, row) es (rank_below_length stamp es rise there)

-- elements in their order are the entries of their map
put_first : (e : Element) (es : List Element) → AreRising (e ∷ es) → put int_cmp e.0 e.1 es ≡ e ∷ es
put_first e [] rising = refl
put_first e (f ∷ es) rising =
    ap (λ (r : Ordering). by_order r ((e.0, e.1) ∷ f ∷ es) ((f.0, e.1) ∷ es) (f ∷ put int_cmp e.0 e.1 es)) (sym (int_cmp_is e.0 f.0 Less rising.0))

empty_list : (es : List Element) → length es ≡ 0 → es ≡ []
empty_list [] none = refl
empty_list (e ∷ es) none = absurd (omega (arith, none))

pub entries_rising : (es : List Element) → AreRising es → entries (from_entries {R = int_cmp} es) ≡ es
entries_rising [] rising = empty_list (entries (empty {R = int_cmp})) (sym (len-entries (empty {R = int_cmp})) ∙ len-empty int_cmp Row)
entries_rising (e ∷ es) rising =
    entries-insert int_cmp_total (from_entries es) e.0 e.1 ∙ ap (put int_cmp e.0 e.1) (entries_rising es (AreRising-tail e es rising)) ∙ put_first e es rising

-- what is at a stamp among those that aren't hidden
pub seen_at : (stamp : ℤ) (es : List Element) → AreRising es → element_at stamp (seen es) ≡ option_and_then row_if_seen (element_at stamp es)
seen_at stamp [] rise = refl
seen_at stamp (e ∷ es) rise =
    let rest = seen_at stamp es (AreRising-tail e es rise) in by_lt_z e.0 stamp
    (λ low. or_not e.1.hidden (element_at-lower stamp e (seen es) low) ∙ rest ∙ ap (option_and_then row_if_seen) (sym (element_at-lower stamp e es low)))
    (λ high. by_lt_z stamp e.0
    (λ above. or_not e.1.hidden (element_at-higher stamp e (seen es) above) ∙ rest ∙ ap (option_and_then row_if_seen) (sym (element_at-higher stamp e es above)))
    (λ below. own e.1.hidden high below (rest ∙ ap (option_and_then row_if_seen) (none_after stamp e es rise high)) ∙ ap (option_and_then row_if_seen) (sym (element_at-same stamp e es high below))))
  where
    or_not : (hidden : Bool) → element_at stamp (e ∷ seen es) ≡ element_at stamp (seen es) → element_at stamp (cond (not hidden) (e ∷ seen es) (seen es)) ≡ element_at stamp (seen es)
    or_not true other = refl
    or_not false other = other

    own : (hidden : Bool) → stamp ≤ℤ e.0 → e.0 ≤ℤ stamp → element_at stamp (seen es) ≡ None → element_at stamp (cond (not hidden) (e ∷ seen es) (seen es)) ≡ cond hidden None (Some e.1)
    own true high below none = none
    own false high below none = element_at-same stamp e (seen es) high below
