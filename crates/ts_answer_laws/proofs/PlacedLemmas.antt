-- No element stands where an element is put: the stamp is free, or it is the one behind the last element of its second.
use Rattle.std.proofs.Common.{◌≡◌, ℤ, pos, ◌+ℤ◌, ◌<ℤ◌, ◌≤ℤ◌, Bool, true, false, cond, ◌&&◌, T, Option, Some, None, is_some, List, [], ◌∷◌, refl, sym, ap, ◌∙◌, arith}
use Rattle.std.specs.Option.{option_map, option_and_then}
use Rattle.std.specs.declared.cmp.Ordering.{Ordering}
use Rattle.std.specs.declared.cmp.Ordering.TheVariants.{Less, Equal, Greater}
use Rattle.std.specs.Ordering.{MatchOrdering, is_lt, int_cmp}
use Rattle.std.specs.Cmp.{int_ranks}
use Rattle.std.specs.FinMap.{is_sorted}
use Rattle.std.specs.FinMap.Entries.{below_all}
use Rattle.std.proofs.lemmas.Int.{by_lt_z, ints}
use Rattle.ts_row.specs.Row.{Row, Element}
use Rattle.ts_cells.specs.IrregularPage.{AreRising}
use Rattle.ts_irregular.specs.Edit.{element_at, last_of}
use Rattle.ts_irregular.proofs.EditLemmas.{int_lt_yes, int_lt_no, AreRising-tail}
use Rattle.ts_sheets.specs.Stamped.{AreLater, earlier, last_before, next_second, place_for, unit_after}
use Rattle.ts_sheets.proofs.OrderLemmas.{later_of}
use Rattle.ts_chain.proofs.EditLemmas.{at_lower, at_higher}
use Rattle.ts_chain.proofs.LastLemmas.{last_back}

earlier_yes : (end : ℤ) (e : Element) (es : List Element) → e.0 <ℤ end → earlier end (e ∷ es) ≡ e ∷ earlier end es
earlier_yes end e es low = rw (int_lt_yes e.0 end low) refl

earlier_no : (end : ℤ) (e : Element) (es : List Element) → end ≤ℤ e.0 → earlier end (e ∷ es) ≡ earlier end es
earlier_no end e es high = rw (int_lt_no e.0 end high) refl

-- the stamp of the last element, if there is one
abbrev last_stamp : List Element → Option ℤ
last_stamp es = option_map (λ e. e.0) (last_of es)

-- the last of a list is its first where there is no other, else the last of the others
by_last : {P : Type 0} (last : ℤ) (e : Element) (es : List Element) → last_stamp (e ∷ es) ≡ Some last → (es ≡ [] → e.0 ≡ last → P) → (last_stamp es ≡ Some last → P) → P
by_last last e [] is own others = own refl (cc)
by_last last e (f ∷ es) is own others = others (sym (ap (option_map (λ (x : Element). x.0)) (last_back (e ∷ []) f es)) ∙ is)

-- the last element before an end is later than what all are later than
last_later : (first last end : ℤ) (es : List Element) → AreLater first es → last_before end es ≡ Some last → first <ℤ last
last_later first last end [] later is = absurd (cc)
last_later first last end (e ∷ es) later is = by_lt_z e.0 end
    (λ low. by_last last e (earlier end es) (sym (ap last_stamp (earlier_yes end e es low)) ∙ is)
    (λ none own. let here = later.0 in omega (arith, ints, here, own))
    (λ others. last_later first last end es later.1 others))
    (λ high. last_later first last end es later.1 (sym (ap last_stamp (earlier_no end e es high)) ∙ is))

-- where none is before an end, none is at a stamp before it
none_early : (place end : ℤ) (es : List Element) → place <ℤ end → earlier end es ≡ [] → element_at place es ≡ None
none_early place end [] before none = refl
none_early place end (e ∷ es) before none = by_lt_z e.0 end
    (λ low. absurd (let some = sym (earlier_yes end e es low) ∙ none in cc))
    (λ high. at_higher place e es (omega (arith, ints, before, high)) ∙ none_early place end es before (sym (earlier_no end e es high) ∙ none))

-- none stands one unit behind the last element before an end, where that is before the end
none_behind : (last place end : ℤ) (es : List Element) → AreRising es → place ≡ last +ℤ pos 1 → place <ℤ end → last_before end es ≡ Some last → element_at place es ≡ None
none_behind last place end [] rise next before is = refl
none_behind last place end (e ∷ es) rise next before is = by_lt_z e.0 end
    (λ low. by_last last e (earlier end es) (sym (ap last_stamp (earlier_yes end e es low)) ∙ is)
    (λ none own. at_lower place e es (omega (arith, ints, next, own)) ∙ none_early place end es before none)
    (λ others.
    let lower = last_later e.0 last end es (later_of e es rise) others in
    at_lower place e es (omega (arith, ints, next, lower)) ∙ none_behind last place end es (AreRising-tail e es rise) next before others))
    (λ high. at_higher place e es (omega (arith, ints, before, high)) ∙ none_behind last place end es (AreRising-tail e es rise) next before (sym (ap last_stamp (earlier_no end e es high)) ∙ is))

behind_free : (end place : ℤ) (es : List Element) (o : Option ℤ) → AreRising es → last_before end es ≡ o → option_and_then (unit_after end) o ≡ Some place → element_at place es ≡ None
behind_free end place es None rise is given = absurd (cc)
behind_free end place es (Some last) rise is given = by_lt_z (last +ℤ pos 1) end
    (λ before.
    let at : Some (last +ℤ pos 1) ≡ Some place = sym (ap (λ (b : Bool). cond b (Some (last +ℤ pos 1)) None) (int_lt_yes (last +ℤ pos 1) end before)) ∙ given in
    let same : place ≡ last +ℤ pos 1 = cc in
    none_behind last place end es rise same (omega (arith, ints, same, before)) is)
    (λ past. absurd (let none = sym (ap (λ (b : Bool). cond b (Some (last +ℤ pos 1)) (let o : Option ℤ = None in o)) (int_lt_no (last +ℤ pos 1) end past)) ∙ given in cc))

free_or_behind : (stamp place : ℤ) (es : List Element) (o : Option Row) → AreRising es → element_at stamp es ≡ o
    → cond (is_some o) (option_and_then (unit_after (next_second stamp)) (last_before (next_second stamp) es)) (Some stamp) ≡ Some place → element_at place es ≡ None
free_or_behind stamp place es None rise is given = let same : stamp ≡ place = cc in ap (λ (at : ℤ). element_at at es) (sym same) ∙ is
free_or_behind stamp place es (Some row) rise is given = behind_free (next_second stamp) place es (last_before (next_second stamp) es) rise refl given

-- entries in the order of their stamps rise
less : (A B C : Type 0) (r : Ordering) → T (is_lt r) → MatchOrdering r A B C → A
less A B C Less lt is = is
less A B C Equal lt is = absurd lt
less A B C Greater lt is = absurd lt

pub first : (a b : Bool) → T (a && b) → T a
first true b both = tt
first false b both = absurd both

pub second : (a b : Bool) → T (a && b) → T b
second true b both = both
second false b both = absurd both

sorted_rise : (es : List Element) → T (is_sorted int_cmp es) → AreRising es
sorted_rise [] sorted = tt
sorted_rise (e ∷ []) sorted = tt
sorted_rise (e ∷ f ∷ es) sorted = (
  less _ _ _ (int_cmp e.0 f.0) (first (is_lt (int_cmp e.0 f.0)) (below_all int_cmp e.0 es) (first (below_all int_cmp e.0 (f ∷ es)) (is_sorted int_cmp (f ∷ es)) sorted)) (int_ranks e.0 f.0),
  sorted_rise (f ∷ es) (second (below_all int_cmp e.0 (f ∷ es)) (is_sorted int_cmp (f ∷ es)) sorted),
)

pub place_free : (stamp place : ℤ) (es : List Element) → T (is_sorted int_cmp es) → place_for stamp es ≡ Some place → element_at place es ≡ None
place_free stamp place es sorted given = free_or_behind stamp place es (element_at stamp es) (sorted_rise es sorted) refl given
