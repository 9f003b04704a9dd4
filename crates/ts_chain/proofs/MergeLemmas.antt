-- Two pages become one when an element of one of them goes.
use Rattle.std.proofs.Common.{◌≡◌, ℕ, ◌+◌, ◌≤◌, ℤ, ◌≤ℤ◌, Bool, IsTrue, Some, IsSome, List, [], ◌∷◌, ◌++◌, length, drop, refl, sym, ap, subst, ◌∙◌, arith, append_assoc, length-append}
use Rattle.std.proofs.lemmas.Int.{ints}
use Rattle.ts_space.specs.declared.place.Place.{Place}
use Rattle.ts_space.specs.Place.{AreAbove, IsRising}
use Rattle.ts_page.specs.Pages.{Contents}
use Rattle.ts_row.specs.declared.kind.Column.{Column}
use Rattle.ts_row.specs.Row.{Element}
use Rattle.ts_cells.specs.IrregularPage.{AreElements, behind_head, first_stamp}
use Rattle.ts_cells.proofs.HeadLemmas.{irregular_behind}
use Rattle.ts_irregular.specs.Edit.{element_at, without_element}
use Rattle.ts_irregular.specs.OnePage.{IsOn}
use Rattle.ts_irregular.proofs.EditLemmas.{without_in_order}
use Rattle.ts_sheets.specs.Stamped.{all_in, ArePages, AreEarlier, AreLater, IsChain, IsAround}
use Rattle.ts_sheets.specs.Places.{AreChained, ArePlaces, IsBeginning, IsCounted}
use Rattle.ts_chain.specs.Call.{AreWritten, IsTakenAway}
use Rattle.ts_chain.specs.Window.{AreOnOne, IsRestOf}
use Rattle.ts_sheets.proofs.OrderLemmas.{all_in-append, earlier_than, later_front, later_back, earlier_front, earlier_back}
use Rattle.ts_chain.proofs.EditLemmas.{without_behind, without_before}
use Rattle.ts_chain.proofs.WindowLemmas.{at_page}
use Rattle.ts_chain.proofs.PlaceLemmas.{chain_earlier, chain_later}
use Rattle.ts_chain.proofs.SpreadLemmas.{first_both}
use Rattle.ts_chain.proofs.RemoveLemmas.{count_parts, moved_both, both_written, rising_at}
use Rattle.ts_chain.proofs.LessLemmas.{one_gone, first_left, left_above}
use Rattle.ts_chain.proofs.TakeLemmas.{are_counted}

-- the pages of two of the places, and those before and behind them
pub record CutTwo (slot : ℕ) (columns : List Column) (pages : ℕ → List ℕ) (front : List Place) (a b : Place) (back : List Place) (chain : List (List Element)) : Type 0 where
  pub before : List (List Element)
  pub first : List Element
  pub next : List Element
  pub behind : List (List Element)
  pub parts : chain ≡ before ++ first ∷ next ∷ behind
  pub front_on : AreChained slot columns pages front before
  pub first_on : IsOn slot columns (pages a.page) a first
  pub next_on : IsOn slot columns (pages b.page) b next
  pub back_on : AreChained slot columns pages back behind

pub cut_two : (slot : ℕ) (columns : List Column) (pages : ℕ → List ℕ) (front : List Place) (a b : Place) (back : List Place) (chain : List (List Element)) → AreChained slot columns pages (front ++ a ∷ b ∷ back) chain → CutTwo slot columns pages front a b back chain
cut_two slot columns pages [] a b back [] on = absurd on
cut_two slot columns pages [] a b back (es ∷ []) on = absurd on.1
cut_two slot columns pages [] a b back (es ∷ fs ∷ chain) on = record { before = []; first = es; next = fs; behind = chain; parts = refl; front_on = tt; first_on = on.0; next_on = on.1.0; back_on = on.1.1 }
cut_two slot columns pages (p ∷ front) a b back [] on = absurd on
cut_two slot columns pages (p ∷ front) a b back (es ∷ chain) on =
    let rest = cut_two slot columns pages front a b back chain on.1 in record {
      before = es ∷ rest.before;
      first = rest.first;
      next = rest.next;
      behind = rest.behind;
      parts = ap (λ (l : List (List Element)). es ∷ l) rest.parts;
      front_on = (on.0, rest.front_on);
      first_on = rest.first_on;
      next_on = rest.next_on;
      back_on = rest.back_on;
    }

module _ (tells : Bool) (slot : ℕ) (columns : List Column) (stamp : ℤ) (v w : Contents) (count : ℕ) (bytes : List ℕ) (front : List Place) (a b : Place) (back : List Place)
    (rising : IsRising (front ++ a ∷ b ∷ back)) (are : ArePlaces columns v (front ++ a ∷ b ∷ back)) (above : AreAbove stamp back) (one : Place) (counted : IsCounted columns one) (page : one.page ≡ a.page) (free : w.free ≡ b.page ∷ v.free) where
  -- what goes is on the second page
  pub take_second : b.at ≤ℤ stamp → IsRestOf tells slot columns stamp b count bytes v → one.at ≡ a.at → count ≤ b.count → one.count ≤ a.count + count
      → (IsTrue tells → (es fs : List Element) → IsOn slot columns (v.page a.page) a es → AreElements columns fs → length fs ≡ count → drop 32 bytes ≡ behind_head columns fs → AreOnOne slot columns (es ++ fs) one b.page v w)
      → IsTakenAway tells slot columns stamp (front ++ a ∷ b ∷ back) (front ++ one ∷ back) v w
  take_second begins rest at few all joined = record {
    places = moved_both columns front a b back rising (are_counted columns v (front ++ a ∷ b ∷ back) are) v w one free page (omega (arith, ints, at))
        (subst (λ (z : ℤ). AreAbove z (b ∷ back)) (sym at) (rising_at front a (b ∷ back) rising)) counted;
    count = omega (arith, count_parts front a (b ∷ back), count_parts [] b back, count_parts front one back, all, few);
    there = λ told chain on is.
        let c = cut_two slot columns v.page front a b back chain on in
        let r = rest told c.next c.next_on in
        let parts : chain ≡ (c.before ++ c.first ∷ []) ++ c.next ∷ c.behind = c.parts ∙ sym (append_assoc c.before (c.first ∷ []) (c.next ∷ c.behind)) in
        let same : element_at stamp (all_in chain) ≡ element_at stamp c.next =
        ap (λ (l : List (List Element)). element_at stamp (all_in l)) parts ∙ at_page stamp (c.before ++ c.first ∷ []) c.next c.behind
        (record { earlier = earlier_all chain is c; later = chain_later slot columns v.page stamp back c.behind c.back_on above }) in
        subst IsSome (sym same) r.there;
    left = λ told chain on is.
        let c = cut_two slot columns v.page front a b back chain on in
        let r = rest told c.next c.next_on in
        let es : List Element = without_element stamp c.next in
        let all_earlier : AreEarlier stamp (all_in c.before ++ (c.first ++ [])) = subst (AreEarlier stamp) (all_in-append c.before (c.first ∷ [])) (earlier_all chain is c) in
        let first_earlier : AreEarlier stamp c.first = earlier_front stamp c.first [] (earlier_back stamp (all_in c.before) (c.first ++ []) all_earlier) in
        let around : IsAround stamp c.before c.behind =
        record { earlier = earlier_front stamp (all_in c.before) (c.first ++ []) all_earlier; later = chain_later slot columns v.page stamp back c.behind c.back_on above } in
        let order = c.next_on.bytes.fill.elements in
        let size : length es ≡ count = r.count_is in
        let less = one_gone stamp c.next order.rising r.there in
        let some = c.first_on.bytes.fill.some in
        let both = length-append c.first es in
        let h = joined told c.first es c.first_on (without_in_order columns stamp c.next order).each size (ap (drop 32) r.bytes_are ∙ irregular_behind slot columns es) in
        subst (λ (l : List (List Element)). AreWritten slot columns (without_element stamp (all_in l)) (front ++ a ∷ b ∷ back) (front ++ one ∷ back) v w) (sym c.parts)
        (both_written slot columns stamp c.first_on.bytes.number front a b back c.before c.first c.next c.behind v w are.different (subst (IsChain columns) c.parts is) c.front_on c.back_on around
        one (c.first ++ es) (sym (without_behind stamp c.first c.next first_earlier)) (omega (arith, both)) (omega (arith, both, less, some)) counted page
        (first_both c.first es one.at (c.first_on.first ∙ ap Some (sym at))) h);
  }
    where
      earlier_all : (chain : List (List Element)) → IsChain columns chain → (c : CutTwo slot columns v.page front a b back chain) → AreEarlier stamp (all_in (c.before ++ c.first ∷ []))
      earlier_all chain is c =
          let parts : chain ≡ (c.before ++ c.first ∷ []) ++ c.next ∷ c.behind = c.parts ∙ sym (append_assoc c.before (c.first ∷ []) (c.next ∷ c.behind)) in
          earlier_than b.at stamp (all_in (c.before ++ c.first ∷ [])) begins (chain_earlier columns b.at (c.before ++ c.first ∷ []) c.next c.behind (subst (ArePages columns) parts is.pages) c.next_on.first)

  -- what goes is on the first page, and its first stamp was read there
  pub take_first : (at : ℤ) → a.at ≤ℤ stamp → AreAbove stamp (b ∷ back) → IsRestOf tells slot columns stamp a count bytes v → IsBeginning at one.at a (b ∷ back) → 1 ≤ count → count ≤ a.count → one.count ≤ count + b.count
      → (IsTrue tells → (es : List Element) → IsOn slot columns (v.page a.page) a es → first_stamp (without_element stamp es) ≡ Some at)
      → (IsTrue tells → (fs es : List Element) → IsOn slot columns (v.page b.page) b es → AreElements columns fs → length fs ≡ count → drop 32 bytes ≡ behind_head columns fs → AreOnOne slot columns (fs ++ es) one b.page v w)
      → IsTakenAway tells slot columns stamp (front ++ a ∷ b ∷ back) (front ++ one ∷ back) v w
  take_first at begins beyond rest begin more few all read joined = record {
    places = moved_both columns front a b back rising (are_counted columns v (front ++ a ∷ b ∷ back) are) v w one free page begin.low begin.above counted;
    count = omega (arith, count_parts front a (b ∷ back), count_parts [] b back, count_parts front one back, all, few);
    there = λ told chain on is.
        let c = cut_two slot columns v.page front a b back chain on in
        let r = rest told c.first c.first_on in
        let same : element_at stamp (all_in chain) ≡ element_at stamp c.first =
        ap (λ (l : List (List Element)). element_at stamp (all_in l)) c.parts ∙ at_page stamp c.before c.first (c.next ∷ c.behind) (record { earlier = earlier_all chain is c; later = later_all chain c }) in
        subst IsSome (sym same) r.there;
    left = λ told chain on is.
        let c = cut_two slot columns v.page front a b back chain on in
        let whole : IsChain columns (c.before ++ c.first ∷ c.next ∷ c.behind) = subst (IsChain columns) c.parts is in
        let r = rest told c.first c.first_on in
        let es : List Element = without_element stamp c.first in
        let around : IsAround stamp c.before c.behind = record { earlier = earlier_all chain is c; later = later_back stamp c.next (all_in c.behind) (later_all chain c) } in
        let order = c.first_on.bytes.fill.elements in
        let size : length es ≡ count = r.count_is in
        let less = one_gone stamp c.first order.rising r.there in
        let some = c.next_on.bytes.fill.some in
        let both = length-append es c.next in
        let first : first_stamp es ≡ Some at = read told c.first c.first_on in
        let low : a.at ≤ℤ at = first_left stamp a.at at c.first order.rising c.first_on.first first in
        let high : AreAbove at (b ∷ back) = left_above slot columns v.page stamp at front a (b ∷ back) c.before c.first (c.next ∷ c.behind) rising whole.pages (c.next_on, c.back_on) first in
        let same : one.at ≡ at = begin.told low high in
        let h = joined told es c.next c.next_on (without_in_order columns stamp c.first order).each size (ap (drop 32) r.bytes_are ∙ irregular_behind slot columns es) in
        subst (λ (l : List (List Element)). AreWritten slot columns (without_element stamp (all_in l)) (front ++ a ∷ b ∷ back) (front ++ one ∷ back) v w) (sym c.parts)
        (both_written slot columns stamp c.first_on.bytes.number front a b back c.before c.first c.next c.behind v w are.different whole c.front_on c.back_on around
        one (es ++ c.next) (sym (without_before stamp c.first c.next (later_front stamp c.next (all_in c.behind) (later_all chain c)))) (omega (arith, both, less, some)) (omega (arith, both)) counted page
        (first_both es c.next one.at (first ∙ ap Some (sym same))) h);
  }
    where
      earlier_all : (chain : List (List Element)) → IsChain columns chain → (c : CutTwo slot columns v.page front a b back chain) → AreEarlier stamp (all_in c.before)
      earlier_all chain is c = earlier_than a.at stamp (all_in c.before) begins (chain_earlier columns a.at c.before c.first (c.next ∷ c.behind) (subst (ArePages columns) c.parts is.pages) c.first_on.first)

      later_all : (chain : List (List Element)) → (c : CutTwo slot columns v.page front a b back chain) → AreLater stamp (c.next ++ all_in c.behind)
      later_all chain c = chain_later slot columns v.page stamp (b ∷ back) (c.next ∷ c.behind) (c.next_on, c.back_on) beyond
