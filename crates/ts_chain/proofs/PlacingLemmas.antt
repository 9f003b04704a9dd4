-- The last element before the end of a second, by the rank of its last unit.
use Rattle.std.proofs.Common.{◌≡◌, ℕ, zero, suc, true, ℤ, pos, ◌+ℤ◌, ◌<ℤ◌, ◌≤ℤ◌, Option, Some, None, is_some, List, [], ◌∷◌, ◌++◌, refl, sym, ap, ◌∙◌, arith, append-nil}
use Rattle.std.specs.List.{slice_get}
use Rattle.std.specs.Prelude.{int_lt}
use Rattle.std.specs.Option.{option_map}
use Rattle.std.proofs.lemmas.Int.{by_lt_z, ints}
use Rattle.std.proofs.lemmas.List.Elements.{filter-append}
use Rattle.ts_row.specs.Row.{Element}
use Rattle.ts_cells.specs.IrregularPage.{AreRising, first_stamp}
use Rattle.ts_irregular.specs.Edit.{element_at, last_of, rank_of}
use Rattle.ts_irregular.proofs.EditLemmas.{int_lt_yes, int_lt_no, AreRising-tail, none_after}
use Rattle.ts_sheets.specs.Stamped.{AreLater, earlier, last_before}
use Rattle.ts_sheets.proofs.OrderLemmas.{later_than, later_of, some_z}
use Rattle.ts_chain.proofs.EditLemmas.{at_lower, at_higher, at_same}
use Rattle.ts_chain.proofs.LastLemmas.{last_back, last_some}

-- an earlier element is counted, a later one isn't
rank_of-lower : (stamp : ℤ) (e : Element) (es : List Element) → e.0 <ℤ stamp → rank_of stamp (e ∷ es) ≡ suc (rank_of stamp es)
rank_of-lower stamp e es low = rw (int_lt_yes e.0 stamp low) refl

rank_of-higher : (stamp : ℤ) (e : Element) (es : List Element) → stamp ≤ℤ e.0 → rank_of stamp (e ∷ es) ≡ 0
rank_of-higher stamp e es high = rw (int_lt_no e.0 stamp high) refl

-- an element before the end, and one behind it
earlier_yes : (end : ℤ) (e : Element) (es : List Element) → e.0 <ℤ end → earlier end (e ∷ es) ≡ e ∷ earlier end es
earlier_yes end e es low = rw (int_lt_yes e.0 end low) refl

earlier_no : (end : ℤ) (e : Element) (es : List Element) → end ≤ℤ e.0 → earlier end (e ∷ es) ≡ earlier end es
earlier_no end e es high = rw (int_lt_no e.0 end high) refl

-- none of later elements is before the end
pub earlier_none : (last end : ℤ) (es : List Element) → end ≡ last +ℤ pos 1 → AreLater last es → earlier end es ≡ []
earlier_none last end [] next later = refl
earlier_none last end (e ∷ es) next later =
    let first = later.0 in
    earlier_no end e es (omega (arith, ints, next, first)) ∙ earlier_none last end es next later.1

module _ (last end : ℤ) (next : end ≡ last +ℤ pos 1) where
  -- where an element stands at the last unit, it is that one
  pub last_there : (es : List Element) → AreRising es → is_some (element_at last es) ≡ true → last_before end es ≡ Some last
  last_there [] rise there = absurd (cc)
  last_there (e ∷ es) rise there = by_lt_z e.0 last
      (λ low.
      let rest = last_there es (AreRising-tail e es rise) (ap is_some (sym (at_lower last e es low)) ∙ there) in
      ap (λ (l : List Element). option_map (λ (f : Element). f.0) (last_of l)) (earlier_yes end e es (omega (arith, ints, low, next)))
      ∙ stays e (earlier end es) (last_of (earlier end es)) refl rest)
      (λ high. by_lt_z last e.0
      (λ above. absurd (let none = at_higher last e es above ∙ none_after last e es rise high in cc))
      (λ below.
      let same : e.0 ≡ last = omega (arith, ints, high, below) in
      ap (λ (l : List Element). option_map (λ (f : Element). f.0) (last_of l))
      (earlier_yes end e es (omega (arith, ints, below, next)) ∙ ap (λ (l : List Element). e ∷ l) (earlier_none last end es next (later_than last e.0 es high (later_of e es rise))))
      ∙ ap Some same))
    where
      stays : (e : Element) (xs : List Element) (o : Option Element) → last_of xs ≡ o → option_map (λ (f : Element). f.0) o ≡ Some last → option_map (λ (f : Element). f.0) (last_of (e ∷ xs)) ≡ Some last
      stays e xs (Some f) is there = ap (option_map (λ (f : Element). f.0)) (last_some (e ∷ []) xs f is) ∙ there
      stays e xs None is there = absurd (cc)

  -- where none does, it is the one before its rank
  none_earlier : (es : List Element) → AreRising es → element_at last es ≡ None → rank_of last es ≡ 0 → earlier end es ≡ []
  none_earlier [] rise none rank = refl
  none_earlier (e ∷ es) rise none rank = by_lt_z e.0 last
      (λ low. absurd (let one = rank_of-lower last e es low in omega (arith, one, rank)))
      (λ high. by_lt_z last e.0
      (λ above. earlier_none last end (e ∷ es) next (above, later_than last e.0 es high (later_of e es rise)))
      (λ below. absurd (let some = at_same last e es high below in cc)))

  pub last_missing : (es : List Element) (k : ℕ) (f : Element) → AreRising es → element_at last es ≡ None → rank_of last es ≡ suc k → slice_get es k ≡ Some f → last_of (earlier end es) ≡ Some f
  last_missing [] k f rise none rank at = absurd (omega (arith, rank))
  last_missing (e ∷ es) k f rise none rank at = by_lt_z e.0 last
      (λ low.
      let others : element_at last es ≡ None = sym (at_lower last e es low) ∙ none in
      let one = rank_of-lower last e es low in
      ap last_of (earlier_yes end e es (omega (arith, ints, low, next))) ∙ by_index low others (λ n. last_missing es n f (AreRising-tail e es rise) others) k (omega (arith, one, rank)) at)
      (λ high. absurd (let no = rank_of-higher last e es high in omega (arith, no, rank)))
    where
      by_index : e.0 <ℤ last → element_at last es ≡ None → ((n : ℕ) → rank_of last es ≡ suc n → slice_get es n ≡ Some f → last_of (earlier end es) ≡ Some f) → (k : ℕ) → rank_of last es ≡ k → slice_get (e ∷ es) k ≡ Some f → last_of (e ∷ earlier end es) ≡ Some f
      by_index low others rest zero rank at = ap (λ (l : List Element). last_of (e ∷ l)) (none_earlier es (AreRising-tail e es rise) others rank) ∙ at
      by_index low others rest (suc k) rank at = last_some (e ∷ []) (earlier end es) f (rest k rank at)

  pub missing_none : (es : List Element) → AreRising es → element_at last es ≡ None → rank_of last es ≡ 0 → last_before end es ≡ None
  missing_none es rise none rank = ap (λ (l : List Element). option_map (λ (f : Element). f.0) (last_of l)) (none_earlier es rise none rank)

-- among several pages it is that of the page which begins before the end, where all behind it are later
earlier_both : (end : ℤ) (xs ys : List Element) → earlier end (xs ++ ys) ≡ earlier end xs ++ earlier end ys
earlier_both end xs ys = filter-append (λ (e : Element). int_lt e.0 end) xs ys

pub last_between : (last end begins : ℤ) (front es back : List Element) → end ≡ last +ℤ pos 1 → first_stamp es ≡ Some begins → begins ≤ℤ last → AreLater last back → last_before end (front ++ (es ++ back)) ≡ last_before end es
last_between last end begins front [] back next first before later = absurd (cc)
last_between last end begins front (e ∷ es) back next first before later =
    let at : e.0 ≡ begins = some_z first in
    let own : earlier end (e ∷ es) ≡ e ∷ earlier end es = earlier_yes end e es (omega (arith, ints, at, before, next)) in
    let right : earlier end ((e ∷ es) ++ back) ≡ e ∷ earlier end es =
    earlier_both end (e ∷ es) back ∙ ap (λ (l : List Element). earlier end (e ∷ es) ++ l) (earlier_none last end back next later) ∙ append-nil (earlier end (e ∷ es)) ∙ own in
    ap (λ (l : List Element). option_map (λ (f : Element). f.0) (last_of l)) (earlier_both end front ((e ∷ es) ++ back) ∙ ap (λ (l : List Element). earlier end front ++ l) right)
    ∙ ap (option_map (λ (f : Element). f.0)) (last_back (earlier end front) e (earlier end es) ∙ ap last_of (sym own))
