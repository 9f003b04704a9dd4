-- The ends of a range among the pages that hold it.
use Rattle.std.proofs.Common.{◌≡◌, ℕ, zero, suc, ◌+◌, ◌-◌, ◌<◌, ◌≤◌, ℤ, ◌≤ℤ◌, Bool, IsTrue, Some, List, [], ◌∷◌, ◌++◌, length, get_or, take, drop, refl, sym, ap, subst, ◌∙◌, arith, append-nil, length-append}
use Rattle.std.proofs.Math.Seq.{get_or-append_seam}
use Rattle.ts_space.specs.declared.place.Place.{Place}
use Rattle.ts_space.specs.Place.{AreAbove, count_of}
use Rattle.ts_page.specs.Pages.{Contents, EqualPages}
use Rattle.ts_row.specs.declared.kind.Column.{Column}
use Rattle.ts_row.specs.Row.{Element}
use Rattle.ts_cells.specs.IrregularPage.{AreElements, behind_head, irregular_page, first_stamp}
use Rattle.ts_cells.proofs.HeadLemmas.{irregular_behind}
use Rattle.ts_irregular.specs.OnePage.{IsOn}
use Rattle.ts_sheets.specs.Stamped.{all_in, ArePages, earlier}
use Rattle.ts_sheets.specs.Places.{AreChained}
use Rattle.ts_sheets.proofs.OrderLemmas.{all_in-append, earlier_than}
use Rattle.ts_chain.proofs.PlaceLemmas.{Cut, cut, chain_earlier, chain_later}
use Rattle.ts_chain.proofs.RemoveLemmas.{count_parts}
use Rattle.ts_series.specs.Ends.{later, EndsAt, OthersAreAbove, HasElements, AreEnds, AreEndsOf, last_count}
use Rattle.ts_series.proofs.RangeLemmas.{earlier_both, earlier_none, later_both, later_none}

-- the last of some places
pub record HasEnd (places : List Place) : Type 0 where
  pub ahead : List Place
  pub last : Place
  pub parts : places ≡ ahead ++ last ∷ []

pub split_end : (p : Place) (places : List Place) → HasEnd (p ∷ places)
split_end p [] = record { ahead = []; last = p; parts = refl }
split_end p (r ∷ places) = let rest = split_end r places in record { ahead = p ∷ rest.ahead; last = rest.last; parts = ap (λ (l : List Place). p ∷ l) rest.parts }

pub end_of : (places : List Place) → 1 ≤ length places → HasEnd places
end_of [] some = absurd (omega (arith, some))
end_of (p ∷ places) some = split_end p places

pub end_begins : (to : ℤ) (ahead : List Place) (last : Place) → EndsAt to (ahead ++ last ∷ []) → last.at ≤ℤ to
end_begins to [] last ends = ends
end_begins to (p ∷ []) last ends = ends
end_begins to (p ∷ r ∷ ahead) last ends = end_begins to (r ∷ ahead) last ends

pub end_get : (places ahead : List Place) (last : Place) (i : ℕ) (d : Place) → places ≡ ahead ++ last ∷ [] → i + 1 ≡ length places → get_or places i d ≡ last
end_get places ahead last i d parts long =
    let spot : i ≡ length ahead = omega (arith, long, ap length parts, length-append ahead (last ∷ [])) in
    (λ j. get_or (parts j) (spot j) d) ∙ get_or-append_seam ahead last [] d

pub first_get : (p : Place) (places : List Place) (d : Place) → get_or (p ∷ places) 0 d ≡ p
first_get p places d = refl

-- what stands earlier than a stamp before which all but the first page are not
pub earlier_end : (slot : ℕ) (columns : List Column) (pages : ℕ → List ℕ) (from : ℤ) (p : Place) (places : List Place) (es : List Element) (chain : List (List Element)) → AreAbove from places → AreChained slot columns pages places chain
    → earlier from (all_in (es ∷ chain)) ≡ earlier from es
earlier_end slot columns pages from p places es chain above on =
    earlier_both from es (all_in chain) ∙ ap (λ (l : List Element). earlier from es ++ l) (earlier_none from (all_in chain) (chain_later slot columns pages from places chain on above)) ∙ append-nil (earlier from es)

-- what stands later than a stamp behind which all but the last page are not
pub later_end : (columns : List Column) (to at : ℤ) (before : List (List Element)) (es : List Element) → at ≤ℤ to → ArePages columns (before ++ es ∷ []) → first_stamp es ≡ Some at → later to (all_in (before ++ es ∷ [])) ≡ later to es
later_end columns to at before es low are first =
    ap (later to) (all_in-append before (es ∷ []) ∙ ap (λ (l : List Element). all_in before ++ l) (append-nil es)) ∙ later_both to (all_in before) es
    ∙ ap (λ (l : List Element). l ++ later to es) (later_none to (all_in before) (earlier_than at to (all_in before) low (chain_earlier columns at before es [] are first)))

module _ (tells : Bool) (slot : ℕ) (columns : List Column) (from to : ℤ) (v : Contents) (n m : ℕ) (page behind : List ℕ) where
  -- of one page
  pub ends_single : (p : Place) → (IsTrue tells → (es : List Element) → IsOn slot columns (v.page p.page) p es → AreEnds slot columns from to es n m page behind) → AreEndsOf tells slot columns from to (p ∷ []) v n m page behind
  ends_single p own told [] on are = absurd on
  ends_single p own told (es ∷ []) on are = subst (λ (l : List Element). AreEnds slot columns from to l n m page behind) (sym (append-nil es)) (own told es on.0)
  ends_single p own told (es ∷ fs ∷ chain) on are = absurd on.1

  -- of several
  pub ends_several : (p : Place) (places ahead : List Place) (last : Place) → (p ∷ places) ≡ ahead ++ last ∷ [] → AreAbove from places → last.at ≤ℤ to
      → (IsTrue tells → (es : List Element) → IsOn slot columns (v.page p.page) p es → HasElements slot columns (earlier from es) n page)
      → (IsTrue tells → (es : List Element) → IsOn slot columns (v.page last.page) last es → HasElements slot columns (later to es) m behind)
      → AreEndsOf tells slot columns from to (p ∷ places) v n m page behind
  ends_several p places ahead last parts above low first next told [] on are = absurd on
  ends_several p places ahead last parts above low first next told (es ∷ chain) on are =
      let whole : AreChained slot columns v.page (ahead ++ last ∷ []) (es ∷ chain) = subst (λ (ps : List Place). AreChained slot columns v.page ps (es ∷ chain)) parts on in
      let c : Cut slot columns v.page ahead last [] (es ∷ chain) = cut slot columns v.page ahead last [] (es ∷ chain) whole in
      record {
        front = subst (λ (l : List Element). HasElements slot columns l n page) (sym (earlier_end slot columns v.page from p places es chain above on.1)) (first told es on.0);
        back = subst (λ (l : List Element). HasElements slot columns l m behind) (sym (last_later c c.behind c.back_on c.parts)) (next told c.elements c.on);
      }
    where
      last_later : (c : Cut slot columns v.page ahead last [] (es ∷ chain)) (rest : List (List Element)) → AreChained slot columns v.page [] rest → (es ∷ chain) ≡ c.before ++ c.elements ∷ rest → later to (all_in (es ∷ chain)) ≡ later to c.elements
      last_later c [] none same = ap (λ (l : List (List Element)). later to (all_in l)) same ∙ later_end columns to last.at c.before c.elements low (subst (ArePages columns) same are) c.on.first
      last_later c (fs ∷ rest) none same = absurd none

-- how many elements two of the places have
pub count_ends : (p : Place) (places ahead : List Place) (last : Place) → (p ∷ places) ≡ ahead ++ last ∷ [] → 1 ≤ length places → p.count + last.count ≤ count_of (p ∷ places)
count_ends p places [] last parts some = absurd (omega (arith, some, ap length parts))
count_ends p places (r ∷ ahead) last parts some =
    let same : count_of (p ∷ places) ≡ count_of (r ∷ ahead ++ last ∷ []) = ap count_of parts in
    let first : p.count ≡ r.count = cc in
    omega (arith, same, first, count_parts [] r (ahead ++ last ∷ []), count_parts ahead last [])

-- the same, by the indices of the two
pub ends_many : (tells : Bool) (slot : ℕ) (columns : List Column) (from to : ℤ) (v u : Contents) (n m : ℕ) (page behind : List ℕ) (places : List Place) (i : ℕ) (d d2 : Place) → 1 ≤ length places → i + 1 ≡ length places → (i ≡ 0 → ⊥)
    → OthersAreAbove from places → EndsAt to places → (IsTrue tells → EqualPages v.page u.page)
    → (IsTrue tells → (es : List Element) → IsOn slot columns (v.page (get_or places 0 d).page) (get_or places 0 d) es → HasElements slot columns (earlier from es) n page)
    → (IsTrue tells → (es : List Element) → IsOn slot columns (u.page (get_or places i d2).page) (get_or places i d2) es → HasElements slot columns (later to es) m behind)
    → AreEndsOf tells slot columns from to places v n m page behind
ends_many tells slot columns from to v u n m page behind [] i d d2 some long more others ends same first next = absurd (omega (arith, some))
ends_many tells slot columns from to v u n m page behind (p ∷ places) i d d2 some long more others ends same first next =
    let h = split_end p places in
    let held : get_or (p ∷ places) i d2 ≡ h.last = end_get (p ∷ places) h.ahead h.last i d2 h.parts long in
    let low : h.last.at ≤ℤ to = end_begins to h.ahead h.last (subst (EndsAt to) h.parts ends) in
    let own : IsTrue tells → (es : List Element) → IsOn slot columns (u.page h.last.page) h.last es → HasElements slot columns (later to es) m behind =
    subst (λ (q : Place). IsTrue tells → (es : List Element) → IsOn slot columns (u.page q.page) q es → HasElements slot columns (later to es) m behind) held next in
    ends_several tells slot columns from to v n m page behind p places h.ahead h.last h.parts others low first
    (λ told es on. own told es (subst (λ (b : List ℕ). IsOn slot columns b h.last es) (sym (same told h.last.page)) on))

-- the elements of one page with those of its neighbour
pub with_front : (tells : Bool) (slot : ℕ) (columns : List Column) (v : Contents) (before : List Place) (d : Place) (count all : ℕ) (page new : List ℕ) → 1 ≤ length before → length before < 2
    → (IsTrue tells → (es fs : List Element) → IsOn slot columns (v.page (get_or before 0 d).page) (get_or before 0 d) es → AreElements columns fs → length fs ≡ count → drop 32 page ≡ behind_head columns fs
    → (all ≡ (get_or before 0 d).count + count) × (new ≡ irregular_page slot columns (es ++ fs)))
    → IsTrue tells → (chain : List (List Element)) (es : List Element) → AreChained slot columns v.page before chain → AreElements columns es → HasElements slot columns es count page
    → HasElements slot columns (all_in chain ++ es) all new
with_front tells slot columns v [] d count all page new some few joined told chain es on each has = absurd (omega (arith, some))
with_front tells slot columns v (p ∷ q ∷ places) d count all page new some few joined told chain es on each has = absurd (omega (arith, few))
with_front tells slot columns v (p ∷ []) d count all page new some few joined told [] es on each has = absurd on
with_front tells slot columns v (p ∷ []) d count all page new some few joined told (xs ∷ ys ∷ chain) es on each has = absurd on.1
with_front tells slot columns v (p ∷ []) d count all page new some few joined told (xs ∷ []) es on each has =
    let h = joined told xs es on.0 each has.number (ap (drop 32) has.bytes ∙ irregular_behind slot columns es) in
    let number : all ≡ p.count + count = h.0 in
    subst (λ (l : List Element). HasElements slot columns (l ++ es) all new) (sym (append-nil xs)) (record { number = omega (arith, length-append xs es, on.0.count, has.number, number); bytes = h.1 })

pub with_back : (tells : Bool) (slot : ℕ) (columns : List Column) (v : Contents) (behind : List Place) (d : Place) (count all : ℕ) (page new : List ℕ) → 1 ≤ length behind → length behind < 2
    → (IsTrue tells → (fs es : List Element) → IsOn slot columns (v.page (get_or behind 0 d).page) (get_or behind 0 d) es → AreElements columns fs → length fs ≡ count → drop 32 page ≡ behind_head columns fs
    → (all ≡ count + (get_or behind 0 d).count) × (new ≡ irregular_page slot columns (fs ++ es)))
    → IsTrue tells → (chain : List (List Element)) (es : List Element) → AreChained slot columns v.page behind chain → AreElements columns es → HasElements slot columns es count page
    → HasElements slot columns (es ++ all_in chain) all new
with_back tells slot columns v [] d count all page new some few joined told chain es on each has = absurd (omega (arith, some))
with_back tells slot columns v (p ∷ q ∷ places) d count all page new some few joined told chain es on each has = absurd (omega (arith, few))
with_back tells slot columns v (p ∷ []) d count all page new some few joined told [] es on each has = absurd on
with_back tells slot columns v (p ∷ []) d count all page new some few joined told (xs ∷ ys ∷ chain) es on each has = absurd on.1
with_back tells slot columns v (p ∷ []) d count all page new some few joined told (xs ∷ []) es on each has =
    let h = joined told es xs on.0 each has.number (ap (drop 32) has.bytes ∙ irregular_behind slot columns es) in
    let number : all ≡ count + p.count = h.0 in
    subst (λ (l : List Element). HasElements slot columns (es ++ l) all new) (sym (append-nil xs)) (record { number = omega (arith, length-append es xs, on.0.count, has.number, number); bytes = h.1 })

-- how many elements the last of the first places has
pub last_taken : (i : ℕ) (places : List Place) (d : Place) → suc i ≤ length places → (get_or places i d).count ≡ last_count (take (suc i) places)
last_taken i [] d within = absurd (omega (arith, within))
last_taken zero (p ∷ places) d within = refl
last_taken (suc i) (p ∷ []) d within = absurd (omega (arith, within))
last_taken (suc i) (p ∷ r ∷ places) d within = last_taken i (r ∷ places) d (omega (arith, within))

pub last_before : (index : ℕ) (places : List Place) (d : Place) → (index ≡ 0 → ⊥) → index ≤ length places → (get_or places (index - 1) d).count ≡ last_count (take index places)
last_before index places d some within =
    let spot : suc (index - 1) ≡ index = omega (arith, some) in
    last_taken (index - 1) places d (omega (arith, within, some)) ∙ ap (λ (n : ℕ). last_count (take n places)) spot
