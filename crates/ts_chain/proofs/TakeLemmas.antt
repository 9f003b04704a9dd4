-- What each end of a removal does to a series.
use Rattle.std.proofs.Common.{◌≡◌, ℕ, ◌+◌, ◌≤◌, ℤ, ◌≤ℤ◌, All, Bool, IsTrue, Some, IsSome, List, [], ◌∷◌, ◌++◌, length, take, drop, refl, sym, ap, subst, ◌∙◌, arith, append_assoc, length-append}
use Rattle.std.proofs.lemmas.List.{take_at, drop_at}
use Rattle.std.proofs.lemmas.List.Elements.{All-weaker}
use Rattle.ts_space.specs.declared.place.Place.{Place}
use Rattle.ts_space.specs.Place.{AreAbove, IsRising}
use Rattle.ts_page.specs.Pages.{zero_page, Contents, EqualPages, with_page}
use Rattle.ts_row.specs.declared.kind.Column.{Column}
use Rattle.ts_row.specs.Row.{Element}
use Rattle.ts_cells.specs.IrregularPage.{page_room, first_stamp}
use Rattle.ts_irregular.specs.Edit.{element_at, without_element}
use Rattle.ts_irregular.specs.OnePage.{IsOn, IsPlace}
use Rattle.ts_sheets.specs.Stamped.{all_in, IsChain}
use Rattle.ts_space.specs.declared.moved.Moved.{Moved}
use Rattle.ts_space.specs.Moved.{list_of, moved_to}
use Rattle.ts_sheets.specs.Places.{AreChained, ArePlaces, FitsFirst, FitsLast, IsBeginning, IsCounted, IsHolder}
use Rattle.ts_chain.specs.Call.{AreWritten, IsTakenAway}
use Rattle.ts_chain.specs.Window.{IsRestOf}
use Rattle.ts_sheets.proofs.DenseLemmas.{MeetsLeft, MeetsRight}
use Rattle.ts_chain.proofs.WindowLemmas.{at_page}
use Rattle.ts_chain.proofs.PlaceLemmas.{Cut, cut, holder_around}
use Rattle.ts_chain.proofs.FindLemmas.{cut_told}
use Rattle.ts_chain.proofs.RemoveLemmas.{count_parts, count_both, moved_put, moved_free, put_written, freed_written}
use Rattle.ts_chain.proofs.LessLemmas.{one_gone, first_left, left_above, meets_before, meets_behind}

-- places, counted
pub are_counted : (columns : List Column) (v : Contents) (places : List Place) → ArePlaces columns v places → All (IsCounted columns) places
are_counted columns v places are = All-weaker (IsPlace columns v) (IsCounted columns) (λ p is. record { some = is.some; room = is.room }) places are.each

-- the places after a change of some in the middle
pub moved_middle : (front gone come back : List Place) (moved : Moved) (places : List Place) → places ≡ front ++ (gone ++ back) → length front ≡ moved.index → length gone ≡ moved.gone → list_of moved.come ≡ come → moved_to moved places ≡ front ++ (come ++ back)
moved_middle front gone come back moved places parts index number is =
    let first : take moved.index places ≡ front = ap (take moved.index) parts ∙ take_at front (gone ++ back) moved.index index in
    let whole : places ≡ (front ++ gone) ++ back = parts ∙ sym (append_assoc front gone back) in
    let last : drop (moved.index + moved.gone) places ≡ back = ap (drop (moved.index + moved.gone)) whole ∙ drop_at (front ++ gone) back (moved.index + moved.gone) (omega (arith, length-append front gone, index, number)) in
    (λ j. (first j ++ is j) ++ last j) ∙ append_assoc front come back

module _ (tells : Bool) (slot : ℕ) (columns : List Column) (stamp : ℤ) (places : List Place) (index : ℕ) (v w : Contents) (h : IsHolder stamp places index) (rising : IsRising places) (are : ArePlaces columns v places) where
  whole_rising : IsRising (h.front ++ h.place ∷ h.back)
  whole_rising = subst IsRising h.parts rising

  whole_are : ArePlaces columns v (h.front ++ h.place ∷ h.back)
  whole_are = subst (λ (ps : List Place). ArePlaces columns v ps) h.parts are

  abbrev pub here : (chain : List (List Element)) → AreChained slot columns v.page places chain → Cut slot columns v.page h.front h.place h.back chain
  here chain on = cut_told slot columns stamp places index v.page chain h on

  pub found : (chain : List (List Element)) (on : AreChained slot columns v.page places chain) → IsChain columns chain → element_at stamp (all_in chain) ≡ element_at stamp (here chain on).elements
  found chain on is =
      let c = here chain on in
      ap (λ (l : List (List Element)). element_at stamp (all_in l)) c.parts ∙ at_page stamp c.before c.elements c.behind (holder_around slot columns v.page stamp h.front h.place h.back chain is.pages h.begins h.above c)

  module _ (count : ℕ) (bytes : List ℕ) (rest : IsRestOf tells slot columns stamp h.place count bytes v) where
    pub is_there : IsTrue tells → (chain : List (List Element)) → AreChained slot columns v.page places chain → IsChain columns chain → IsSome (element_at stamp (all_in chain))
    is_there told chain on is = let c = here chain on in subst IsSome (sym (found chain on is)) (rest told c.elements c.on).there

    -- the page is freed
    pub take_freed : count ≡ 0 → w.free ≡ h.place.page ∷ v.free → (IsTrue tells → EqualPages (with_page h.place.page zero_page v.page) w.page) → IsTakenAway tells slot columns stamp places (h.front ++ h.back) v w
    take_freed none free put = subst (λ (ps : List Place). IsTakenAway tells slot columns stamp ps (h.front ++ h.back) v w) (sym h.parts) (record {
      places = moved_free columns h.front h.place h.back whole_rising (are_counted columns v (h.front ++ h.place ∷ h.back) whole_are) v w free;
      count = omega (arith, count_parts h.front h.place h.back, count_both h.front h.back);
      there = λ told chain on is. is_there told chain (subst (λ (ps : List Place). AreChained slot columns v.page ps chain) (sym h.parts) on) is;
      left = λ told chain on is. freed_in told chain on is;
    })
      where
        empty : (es : List Element) → length es ≡ 0 → es ≡ []
        empty [] same = refl
        empty (e ∷ es) same = absurd (omega (arith, same))

        freed_in : IsTrue tells → (chain : List (List Element)) → AreChained slot columns v.page (h.front ++ h.place ∷ h.back) chain → IsChain columns chain
            → AreWritten slot columns (without_element stamp (all_in chain)) (h.front ++ h.place ∷ h.back) (h.front ++ h.back) v w
        freed_in told chain on is =
            let c = cut slot columns v.page h.front h.place h.back chain on in
            let around = holder_around slot columns v.page stamp h.front h.place h.back chain is.pages h.begins h.above c in
            let r = rest told c.elements c.on in
            let less : length (without_element stamp c.elements) ≡ count = r.count_is in
            let one = one_gone stamp c.elements c.on.bytes.fill.elements.rising r.there in
            subst (λ (l : List (List Element)). AreWritten slot columns (without_element stamp (all_in l)) (h.front ++ h.place ∷ h.back) (h.front ++ h.back) v w) (sym c.parts)
            (freed_written slot columns stamp c.on.bytes.number h.front h.place h.back c.before c.elements c.behind v w whole_are.different (subst (IsChain columns) c.parts is) c.front_on c.back_on around
            (omega (arith, one, less, none)) (empty (without_element stamp c.elements) (omega (arith, less, none))) (put told))

    -- the elements that are left stay on it; their first stamp was read there
    pub take_put : (one : Place) (at : ℤ) → 1 ≤ count → count ≤ page_room columns → count ≤ h.place.count → one.page ≡ h.place.page → one.count ≡ count → IsBeginning at one.at h.place h.back
        → (IsTrue tells → (es : List Element) → IsOn slot columns (v.page h.place.page) h.place es → first_stamp (without_element stamp es) ≡ Some at)
        → ¬ FitsLast (page_room columns) count h.front → ¬ FitsFirst (page_room columns) count h.back → w.free ≡ v.free → (IsTrue tells → EqualPages (with_page h.place.page bytes v.page) w.page)
        → IsTakenAway tells slot columns stamp places (h.front ++ one ∷ h.back) v w
    take_put one at some room few page is begins read left right free put = subst (λ (ps : List Place). IsTakenAway tells slot columns stamp ps (h.front ++ one ∷ h.back) v w) (sym h.parts) (record {
      places = moved_put columns h.front h.place h.back whole_rising (are_counted columns v (h.front ++ h.place ∷ h.back) whole_are) v w one free page begins.low begins.above
          (record { some = omega (arith, is, some); room = omega (arith, is, room) });
      count = omega (arith, count_parts h.front h.place h.back, count_parts h.front one h.back, is, few);
      there = λ told chain on is. is_there told chain (subst (λ (ps : List Place). AreChained slot columns v.page ps chain) (sym h.parts) on) is;
      left = put_in;
    })
      where
        put_in : IsTrue tells → (chain : List (List Element)) → AreChained slot columns v.page (h.front ++ h.place ∷ h.back) chain → IsChain columns chain
            → AreWritten slot columns (without_element stamp (all_in chain)) (h.front ++ h.place ∷ h.back) (h.front ++ one ∷ h.back) v w
        put_in told chain on chained =
            let c = cut slot columns v.page h.front h.place h.back chain on in
            let around = holder_around slot columns v.page stamp h.front h.place h.back chain chained.pages h.begins h.above c in
            let whole : IsChain columns (c.before ++ c.elements ∷ c.behind) = subst (IsChain columns) c.parts chained in
            let r = rest told c.elements c.on in
            let es : List Element = without_element stamp c.elements in
            let size : length es ≡ count = r.count_is in
            let first : first_stamp es ≡ Some at = read told c.elements c.on in
            let low : h.place.at ≤ℤ at = first_left stamp h.place.at at c.elements c.on.bytes.fill.elements.rising c.on.first first in
            let above : AreAbove at h.back = left_above slot columns v.page stamp at h.front h.place h.back c.before c.elements c.behind whole_rising whole.pages c.back_on first in
            let same : one.at ≡ at = begins.told low above in
            subst (λ (l : List (List Element)). AreWritten slot columns (without_element stamp (all_in l)) (h.front ++ h.place ∷ h.back) (h.front ++ one ∷ h.back) v w) (sym c.parts)
            (put_written slot columns stamp c.on.bytes.number h.front h.place h.back c.before c.elements c.behind v w whole_are.different whole c.front_on c.back_on around
            one page (size ∙ sym is) (omega (arith, is, some)) (omega (arith, is, room)) (first ∙ ap Some (sym same))
            (subst (MeetsLeft (page_room columns) c.before) (sym size) (meets_before slot columns v.page (page_room columns) count h.front c.before c.front_on left))
            (subst (λ (n : ℕ). MeetsRight (page_room columns) n c.behind) (sym size) (meets_behind slot columns v.page (page_room columns) count h.back c.behind c.back_on right))
            (subst (λ (b : List ℕ). EqualPages (with_page h.place.page b v.page) w.page) r.bytes_are (put told)))
