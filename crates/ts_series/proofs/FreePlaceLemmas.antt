-- The place that a stamp gets is a free one.
use Rattle.std.proofs.Common.{◌≡◌, ◌⊎◌, ⊎_elim, inl, inr, ℤ, pos, ◌+ℤ◌, ◌<ℤ◌, ◌≤ℤ◌, Option, Some, None, is_some, List, [], ◌∷◌, refl, sym, ap, ◌∙◌, subst, arith}
use Rattle.std.specs.Prelude.{if◌then◌else◌}
use Rattle.std.specs.Option.{option_map, option_and_then}
use Rattle.std.proofs.lemmas.Int.{by_lt_z, ints}
use Rattle.ts_row.specs.Row.{Row, Element}
use Rattle.ts_cells.specs.IrregularPage.{AreRising}
use Rattle.ts_irregular.specs.Edit.{element_at, last_of}
use Rattle.ts_irregular.proofs.EditLemmas.{int_lt_yes, int_lt_no, AreRising-tail, none_after}
use Rattle.ts_sheets.specs.Stamped.{AreLater, earlier, last_before, unit_after, next_second, place_for}
use Rattle.ts_sheets.proofs.OrderLemmas.{later_of}
use Rattle.ts_chain.proofs.EditLemmas.{at_lower, at_higher}
use Rattle.ts_chain.proofs.LastLemmas.{last_back}

some_z : {a b : ℤ} → Some a ≡ Some b → a ≡ b
some_z same = cc

-- the stamp of the last element of some
abbrev stamp_of : List Element → Option ℤ
stamp_of es = option_map (λ (e : Element). e.0) (last_of es)

-- with one more before them it is that of the first one, or the same
last_more : (e : Element) (xs : List Element) (last : ℤ) → stamp_of (e ∷ xs) ≡ Some last → ((xs ≡ []) × (e.0 ≡ last)) ⊎ (stamp_of xs ≡ Some last)
last_more e [] last is = inl (refl, some_z is)
last_more e (x ∷ xs) last is = inr (sym (ap (option_map (λ (f : Element). f.0)) (last_back (e ∷ []) x xs)) ∙ is)

-- an element before the end, and one behind it
earlier_yes : (end : ℤ) (e : Element) (es : List Element) → e.0 <ℤ end → earlier end (e ∷ es) ≡ e ∷ earlier end es
earlier_yes end e es low = rw (int_lt_yes e.0 end low) refl

earlier_no : (end : ℤ) (e : Element) (es : List Element) → end ≤ℤ e.0 → earlier end (e ∷ es) ≡ earlier end es
earlier_no end e es high = rw (int_lt_no e.0 end high) refl

-- where none is before the end, none is at a stamp before it
none_before : (end stamp : ℤ) (es : List Element) → stamp <ℤ end → earlier end es ≡ [] → element_at stamp es ≡ None
none_before end stamp [] below none = refl
none_before end stamp (e ∷ es) below none = by_lt_z e.0 end
    (λ low. absurd (let some = sym (earlier_yes end e es low) ∙ none in cc))
    (λ high. at_higher stamp e es (omega (arith, ints, below, high)) ∙ none_before end stamp es below (sym (earlier_no end e es high) ∙ none))

-- the last one before an end is later than what all are later than
last_later : (from end last : ℤ) (es : List Element) → AreLater from es → last_before end es ≡ Some last → from <ℤ last
last_later from end last [] later is = absurd (cc)
last_later from end last (e ∷ es) later is = by_lt_z e.0 end
    (λ low. ⊎_elim (λ one. subst (λ (z : ℤ). from <ℤ z) one.1 later.0) (λ more. last_later from end last es later.1 more)
    (last_more e (earlier end es) last (sym (ap stamp_of (earlier_yes end e es low)) ∙ is)))
    (λ high. last_later from end last es later.1 (sym (ap stamp_of (earlier_no end e es high)) ∙ is))

-- no element stands between it and the end
none_between : (end last stamp : ℤ) (es : List Element) → AreRising es → last_before end es ≡ Some last → last <ℤ stamp → stamp <ℤ end → element_at stamp es ≡ None
none_between end last stamp [] rise is after before = refl
none_between end last stamp (e ∷ es) rise is after before = by_lt_z stamp e.0
    (λ above. at_higher stamp e es above ∙ none_after stamp e es rise (omega (arith, ints, above)))
    (λ below.
    let here : e.0 <ℤ end = omega (arith, ints, below, before) in
    ⊎_elim
    (λ one.
    let first : e.0 <ℤ stamp = omega (arith, ints, one.1, after) in
    at_lower stamp e es first ∙ none_before end stamp es before one.0)
    (λ more.
    let late = last_later e.0 end last es (later_of e es rise) more in
    at_lower stamp e es (omega (arith, ints, late, after)) ∙ none_between end last stamp es (AreRising-tail e es rise) more after before)
    (last_more e (earlier end es) last (sym (ap stamp_of (earlier_yes end e es here)) ∙ is)))

-- one unit behind a stamp, before the end
unit_between : (end last at : ℤ) → unit_after end last ≡ Some at → (last <ℤ at) × (at <ℤ end)
unit_between end last at is = by_lt_z (last +ℤ pos 1) end
    (λ low.
    let same : last +ℤ pos 1 ≡ at = some_z (sym (rw (int_lt_yes (last +ℤ pos 1) end low) refl) ∙ is) in
    (omega (arith, ints, same), omega (arith, ints, same, low)))
    (λ high. absurd (let none : unit_after end last ≡ None = rw (int_lt_no (last +ℤ pos 1) end high) refl in let both = sym none ∙ is in cc))

between : (end at : ℤ) (es : List Element) (o : Option ℤ) → AreRising es → last_before end es ≡ o → option_and_then (unit_after end) o ≡ Some at → element_at at es ≡ None
between end at es (Some last) rise is next = let in_second = unit_between end last at next in none_between end last at es rise is in_second.0 in_second.1
between end at es None rise is next = absurd (cc)

free_or_next : (stamp at : ℤ) (es : List Element) (o : Option Row) → AreRising es → element_at stamp es ≡ o
    → (if is_some o then option_and_then (unit_after (next_second stamp)) (last_before (next_second stamp) es) else Some stamp) ≡ Some at → element_at at es ≡ None
free_or_next stamp at es None rise found is = let same : stamp ≡ at = some_z is in subst (λ (z : ℤ). element_at z es ≡ None) same found
free_or_next stamp at es (Some row) rise found is = between (next_second stamp) at es (last_before (next_second stamp) es) rise refl is

pub place_is_free : (stamp at : ℤ) (es : List Element) → AreRising es → place_for stamp es ≡ Some at → element_at at es ≡ None
place_is_free stamp at es rise is = free_or_next stamp at es (element_at stamp es) rise refl is
