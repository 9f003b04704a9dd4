-- A full page that is parted in two, among its neighbours.
use Rattle.std.proofs.Common.{◌≡◌, ℕ, zero, suc, ◌+◌, ◌≤◌, ℤ, ◌<ℤ◌, ◌≤ℤ◌, ◌⊎◌, inl, inr, Bool, IsTrue, Some, List, [], ◌∷◌, ◌++◌, length, take, drop, refl, sym, ap, subst, ◌∙◌, arith, append_assoc, append-nil, length-append}
use Rattle.std.specs.Int.{int_min}
use Rattle.std.specs.Prelude.{Contains, IsPermutation}
use Rattle.std.proofs.lemmas.Int.{by_lt_z, ints}
use Rattle.std.proofs.lemmas.List.{take-append-drop, length-take-le}
use Rattle.std.proofs.lemmas.List.Sorted.{IsPermutation-refl}
use Rattle.ts_space.specs.declared.place.Place.{Place}
use Rattle.ts_space.specs.declared.moved.Moved.{Moved}
use Rattle.ts_space.specs.Place.{AreAbove, IsRising, count_of, pages_of}
use Rattle.ts_space.specs.Charge.{irregular_charge}
use Rattle.ts_space.specs.Moved.{moved_to}
use Rattle.ts_page.specs.Pages.{Contents, with_page}
use Rattle.ts_row.specs.declared.kind.Column.{Column}
use Rattle.ts_row.specs.Row.{Row, Element}
use Rattle.ts_cells.specs.IrregularPage.{IsElement, page_room, AreRising, irregular_page, first_stamp}
use Rattle.ts_irregular.specs.Edit.{element_at, with_element}
use Rattle.ts_irregular.specs.OnePage.{IsOn}
use Rattle.ts_irregular.proofs.EditLemmas.{with_in_order, int_lt_yes, int_lt_no}
use Rattle.ts_sheets.specs.Stamped.{all_in, AreBefore, AreEarlier, AreLater, ArePages, IsDense, IsChain, IsAround}
use Rattle.ts_sheets.specs.Places.{AreChained, AreMoved, ArePlaces, FitsFirst, FitsLast, IsCounted, IsTarget}
use Rattle.ts_chain.specs.Call.{AreWritten, IsPutNew}
use Rattle.ts_chain.specs.Window.{half_of, AreHalves, ArePartedOf, AreSpread, HaveBoth, HavePart, begin_of}
use Rattle.ts_chain.specs.declared.halves.Halves.{Halves}
use Rattle.ts_chain.specs.Halves.{AreHalved}
use Rattle.ts_sheets.proofs.OrderLemmas.{all_in-append, earlier_than, later_front, later_back, later_of, order_first, order_others, sized_pages, earlier_front, earlier_back, some_z, first_earlier}
use Rattle.ts_chain.proofs.EditLemmas.{with_lower, with_higher, with_same}
use Rattle.ts_sheets.proofs.DenseLemmas.{MeetsLeft, MeetsRight, dense_back, dense_tail, within_charge}
use Rattle.ts_chain.proofs.WindowLemmas.{at_page}
use Rattle.ts_chain.proofs.PlaceLemmas.{Cut, cut, above_than, chain_earlier, chain_later}
use Rattle.ts_chain.proofs.PagesLemmas.{changed_page, other_page}
use Rattle.ts_chain.proofs.RemoveLemmas.{count_both, count_parts, pages_from}
use Rattle.ts_chain.proofs.LessLemmas.{meets_before, meets_behind}
use Rattle.ts_chain.proofs.TakeLemmas.{are_counted}
use Rattle.ts_chain.proofs.SpreadLemmas.{edited_all, first_both, spread_told}
use Rattle.ts_chain.proofs.PutLemmas.{chained_length, chained_count, chained_split, pages_until, window_chain, window_moved, window_written, rising_come, rising_behind, above_behind}

-- the lower of two stamps
pub min_low : (at stamp : ℤ) → int_min at stamp ≤ℤ at
min_low at stamp = by_lt_z stamp at
    (λ low. rw (int_lt_yes stamp at low) (omega (arith, ints, low)))
    (λ high. rw (int_lt_no stamp at high) (omega (arith, ints)))

pub min_first : (at stamp : ℤ) → at ≤ℤ stamp → int_min at stamp ≡ at
min_first at stamp high = rw (int_lt_no stamp at high) refl

min_second : (at stamp : ℤ) → stamp <ℤ at → int_min at stamp ≡ stamp
min_second at stamp low = rw (int_lt_yes stamp at low) refl

-- where elements begin that have a row more
pub first_with : (stamp : ℤ) (row : Row) (at : ℤ) (es : List Element) → first_stamp es ≡ Some at → first_stamp (with_element stamp row es) ≡ Some (int_min at stamp)
first_with stamp row at [] first = absurd (cc)
first_with stamp row at (e ∷ es) first =
    let same : e.0 ≡ at = some_z first in by_lt_z e.0 stamp
    (λ low. ap first_stamp (with_lower stamp row e es low) ∙ ap Some (same ∙ sym (min_first at stamp (omega (arith, ints, low, same)))))
    (λ high. by_lt_z stamp e.0
    (λ above. ap first_stamp (with_higher stamp row e es above) ∙ ap Some (sym (min_second at stamp (omega (arith, ints, above, same)))))
    (λ below. ap first_stamp (with_same stamp row e es high below) ∙ ap Some (same ∙ sym (min_first at stamp (omega (arith, ints, below, same))))))

first_take : (n : ℕ) (es : List Element) → 1 ≤ n → first_stamp (take n es) ≡ first_stamp es
first_take zero es some = absurd (omega (arith, some))
first_take (suc n) [] some = refl
first_take (suc n) (e ∷ es) some = refl

-- the second part of elements begins behind the first
drop_later : (n : ℕ) (es : List Element) (low high : ℤ) → 1 ≤ n → AreRising es → first_stamp es ≡ Some low → first_stamp (drop n es) ≡ Some high → low <ℤ high
drop_later zero es low high some rise first second = absurd (omega (arith, some))
drop_later (suc n) [] low high some rise first second = absurd (cc)
drop_later (suc n) (e ∷ es) low high some rise first second =
    let same : e.0 ≡ low = some_z first in
    subst (λ (z : ℤ). z <ℤ high) same (below n es e.0 (later_of e es rise) second)
  where
    below : (n : ℕ) (es : List Element) (z : ℤ) → AreLater z es → first_stamp (drop n es) ≡ Some high → z <ℤ high
    below zero [] z later is = absurd (cc)
    below zero (f ∷ fs) z later is = subst (λ (y : ℤ). z <ℤ y) (some_z is) later.0
    below (suc n) [] z later is = absurd (cc)
    below (suc n) (f ∷ fs) z later is = below n fs z later.1 is

earlier_drop : (at : ℤ) (n : ℕ) (es : List Element) → AreEarlier at es → AreEarlier at (drop n es)
earlier_drop at zero es earlier = earlier
earlier_drop at (suc n) [] earlier = tt
earlier_drop at (suc n) (e ∷ es) earlier = earlier_drop at n es earlier.1

earlier_with : (at stamp : ℤ) (row : Row) (es : List Element) → stamp <ℤ at → AreEarlier at es → AreEarlier at (with_element stamp row es)
earlier_with at stamp row [] own earlier = (own, tt)
earlier_with at stamp row (e ∷ es) own earlier =
    let P : List Element → Type 0 = AreEarlier at in by_lt_z e.0 stamp
    (λ low. subst P (sym (with_lower stamp row e es low)) (earlier.0, earlier_with at stamp row es own earlier.1))
    (λ high. by_lt_z stamp e.0
    (λ above. subst P (sym (with_higher stamp row e es above)) (own, earlier))
    (λ below. subst P (sym (with_same stamp row e es high below)) earlier))

-- elements before another page are earlier than it begins
before_page : (at : ℤ) (xs ys zs : List Element) → first_stamp ys ≡ Some at → AreBefore xs (ys ++ zs) → AreEarlier at xs
before_page at [] ys zs first before = tt
before_page at (x ∷ xs) [] zs first before = absurd (cc)
before_page at (x ∷ xs) (y ∷ ys) zs first before = (subst (λ (z : ℤ). x.0 <ℤ z) (some_z first) before.0.0, before_page at xs (y ∷ ys) zs first before.1)

-- where the places behind a page begin
pub beyond : (slot : ℕ) (columns : List Column) (pages : ℕ → List ℕ) (stamp : ℤ) (row : Row) (n : ℕ) (at : ℤ) (es : List Element) (back : List Place) (behind : List (List Element)) → IsRising back → AreAbove stamp back → ArePages columns (es ∷ behind) → AreChained slot columns pages back behind
    → first_stamp (drop n (with_element stamp row es)) ≡ Some at → AreAbove at back
beyond slot columns pages stamp row n at es [] behind rising above are on second = tt
beyond slot columns pages stamp row n at es (p ∷ back) [] rising above are on second = absurd on
beyond slot columns pages stamp row n at es (p ∷ back) (fs ∷ behind) rising above are on second =
    let earlier : AreEarlier p.at es = before_page p.at es fs (all_in behind) on.0.first are.1 in
    let low : at <ℤ p.at = first_earlier p.at at (drop n (with_element stamp row es)) (earlier_drop p.at n (with_element stamp row es) (earlier_with p.at stamp row es above.0 earlier)) second in
    (low, above_lower at p.at back low rising.0)
  where
    above_lower : (low high : ℤ) (ps : List Place) → low <ℤ high → AreAbove high ps → AreAbove low ps
    above_lower low high [] below above = tt
    above_lower low high (q ∷ ps) below above = let first = above.0 in (omega (arith, ints, below, first), above_lower low high ps below above.1)

module _ (tells : Bool) (slot : ℕ) (columns : List Column) (stamp : ℤ) (places : List Place) (index : ℕ) (v : Contents) (t : IsTarget stamp places index) (rising : IsRising places) (are : ArePlaces columns v places) where
  pub target_rising : IsRising (t.front ++ t.place ∷ t.back)
  target_rising = subst IsRising t.parts rising

  pub target_are : ArePlaces columns v (t.front ++ t.place ∷ t.back)
  target_are = subst (λ (ps : List Place). ArePlaces columns v ps) t.parts are

  abbrev pub here : (chain : List (List Element)) → AreChained slot columns v.page places chain → Cut slot columns v.page t.front t.place t.back chain
  here chain on = cut slot columns v.page t.front t.place t.back chain (subst (λ (ps : List Place). AreChained slot columns v.page ps chain) t.parts on)

  -- all before the page are earlier, and all behind it later
  pub target_around : (chain : List (List Element)) (on : AreChained slot columns v.page places chain) → IsChain columns chain → IsAround stamp (here chain on).before (here chain on).behind
  target_around chain on is =
      let c = here chain on in record {
        earlier = elim t.begins [
          | inl begins ↦ earlier_than t.place.at stamp (all_in c.before) begins (chain_earlier columns t.place.at c.before c.elements c.behind (subst (ArePages columns) c.parts is.pages) c.on.first)
          | inr none ↦ subst (λ (l : List (List Element)). AreEarlier stamp (all_in l)) (sym (no_pages c.before (c.count ∙ ap length none))) tt
        ];
        later = chain_later slot columns v.page stamp t.back c.behind c.back_on t.above;
      }
    where
      no_pages : (l : List (List Element)) → length l ≡ 0 → l ≡ []
      no_pages [] same = refl
      no_pages (x ∷ l) same = absurd (omega (arith, same))

  pub target_found : (chain : List (List Element)) (on : AreChained slot columns v.page places chain) → IsChain columns chain → element_at stamp (all_in chain) ≡ element_at stamp (here chain on).elements
  target_found chain on is =
      let c = here chain on in
      ap (λ (l : List (List Element)). element_at stamp (all_in l)) c.parts ∙ at_page stamp c.before c.elements c.behind (target_around chain on is)

  -- the page was full, and its halves are these
  module _ (row : Row) (element : IsElement columns (stamp, row)) (halves : Halves) (page others : List ℕ) (halved : AreHalved slot columns stamp t.front t.place t.back others halves) (parted : ArePartedOf tells slot columns stamp row t.place page others v)
      (full : t.place.count ≡ page_room columns) (some : 1 ≤ page_room columns) where
    half_some : 1 ≤ half_of columns
    half_some = omega (arith, some)

    -- so they are told
    pub are_halves : IsTrue tells → (es : List Element) → IsOn slot columns (v.page t.place.page) t.place es → AreHalves slot columns (with_element stamp row es) halves.first halves.second page others
    are_halves told es on =
        let p = parted told es on in
        let fs : List Element = with_element stamp row es in
        let order = with_in_order columns stamp row es on.bytes.fill.elements element in
        let whole : length (take (half_of columns) fs) + length (drop (half_of columns) fs) ≡ length fs = sym (length-append (take (half_of columns) fs) (drop (half_of columns) fs)) ∙ ap length (take-append-drop (half_of columns) fs) in
        let size : length fs ≡ page_room columns + 1 = omega (arith, p.longer, on.count, full) in
        let one : length (take (half_of columns) fs) ≡ half_of columns = length-take-le (half_of columns) fs (omega (arith, size, some)) in
        let two : length (drop (half_of columns) fs) ≡ halves.second.count = omega (arith, whole, one, size, halved.first_count, halved.both_count) in
        record {
          page_is = p.page_is;
          others_are = p.others_are;
          first_at = first_take (half_of columns) fs half_some ∙ first_with stamp row t.place.at es on.first ∙ ap Some (sym halved.first_at);
          second_at = halved.second_at (drop (half_of columns) fs) (order_others columns (half_of columns) fs order).each two p.others_are;
          first_count = one ∙ sym halved.first_count;
          second_count = two;
        }

    -- they begin where places can stand
    pub stand_low : IsTrue tells → (es : List Element) → IsOn slot columns (v.page t.place.page) t.place es → halves.first.at <ℤ halves.second.at
    stand_low told es on =
        let h = are_halves told es on in
        let fs : List Element = with_element stamp row es in
        let order = with_in_order columns stamp row es on.bytes.fill.elements element in
        drop_later (half_of columns) fs halves.first.at halves.second.at half_some order.rising (sym (first_take (half_of columns) fs half_some) ∙ h.first_at) h.second_at

    pub stand_high : IsTrue tells → (chain : List (List Element)) → AreChained slot columns v.page places chain → IsChain columns chain → AreAbove halves.second.at t.back
    stand_high told chain on is =
        let c = here chain on in
        let h = are_halves told c.elements c.on in
        let pages : ArePages columns (c.elements ∷ c.behind) = pages_from columns c.before (c.elements ∷ c.behind) (subst (ArePages columns) c.parts is.pages) in
        beyond slot columns v.page stamp row (half_of columns) halves.second.at c.elements t.back c.behind (rising_behind (t.place ∷ []) t.back (rising_behind t.front (t.place ∷ t.back) target_rising)) t.above pages c.back_on h.second_at

    -- nothing is said of pages that aren't told so
    pub never : (moved : Moved) → moved_to moved places ≡ places → (IsTrue tells → (chain : List (List Element)) → AreChained slot columns v.page places chain → IsChain columns chain → ⊥) → IsPutNew tells slot columns stamp row places (moved_to moved places) v v
    never moved same so = subst (λ (ps : List Place). IsPutNew tells slot columns stamp row places ps v v) (sym same) (record {
      places = record { pages = IsPermutation-refl (v.free ++ pages_of places); rising = rising; counts = are_counted columns v places are };
      count = omega arith;
      absent = λ told chain on is. absurd (so told chain on is);
      put = λ told chain on is. absurd (so told chain on is);
    })

    -- the places before the page and behind it that go, and those that stay
    module _ (ahead near next after : List Place) (front : t.front ≡ ahead ++ near) (back : t.back ≡ next ++ after) (apart : halves.first.at <ℤ halves.second.at) (above : AreAbove halves.second.at t.back) (left : (n : ℕ) (xs zs rest : List (List Element)) → AreChained slot columns v.page ahead xs → AreChained slot columns v.page near zs
        → IsDense (page_room columns) (xs ++ (zs ++ rest)) → length (all_in zs) + halves.first.count ≤ n → MeetsLeft (page_room columns) xs n)
        (right : (n : ℕ) (us ys : List (List Element)) → AreChained slot columns v.page next ys → AreChained slot columns v.page after us → IsDense (page_room columns) (ys ++ us) → halves.second.count + length (all_in ys) ≤ n → MeetsRight (page_room columns) n us) where
      pub window_parts : places ≡ ahead ++ ((near ++ t.place ∷ next) ++ after)
      window_parts =
          t.parts ∙ ap (λ (l : List Place). l ++ t.place ∷ t.back) front ∙ ap (λ (l : List Place). (ahead ++ near) ++ t.place ∷ l) back
          ∙ append_assoc ahead near (t.place ∷ (next ++ after)) ∙ ap (λ (l : List Place). ahead ++ l) (sym (append_assoc near (t.place ∷ next) after))

      -- what is told of the pages
      record IsTold (chain : List (List Element)) : Type 0 where
        xs : List (List Element)
        zs : List (List Element)
        es : List Element
        ys : List (List Element)
        us : List (List Element)
        parts : chain ≡ xs ++ ((zs ++ es ∷ ys) ++ us)
        xs_on : AreChained slot columns v.page ahead xs
        zs_on : AreChained slot columns v.page near zs
        es_on : IsOn slot columns (v.page t.place.page) t.place es
        ys_on : AreChained slot columns v.page next ys
        us_on : AreChained slot columns v.page after us
        outside : IsAround stamp xs us
        inside : IsAround stamp zs ys

      told_parts : (chain : List (List Element)) → AreChained slot columns v.page places chain → IsChain columns chain → IsTold chain
      told_parts chain on is =
          let c = here chain on in
          let around = target_around chain on is in
          let f = chained_split slot columns v.page ahead near c.before (subst (λ (ps : List Place). AreChained slot columns v.page ps c.before) front c.front_on) in
          let b = chained_split slot columns v.page next after c.behind (subst (λ (ps : List Place). AreChained slot columns v.page ps c.behind) back c.back_on) in
          let earlier : AreEarlier stamp (all_in f.before ++ all_in f.behind) = subst (AreEarlier stamp) (ap all_in f.parts ∙ all_in-append f.before f.behind) around.earlier in
          let later : AreLater stamp (all_in b.before ++ all_in b.behind) = subst (AreLater stamp) (ap all_in b.parts ∙ all_in-append b.before b.behind) around.later in
          record {
            xs = f.before;
            zs = f.behind;
            es = c.elements;
            ys = b.before;
            us = b.behind;
            parts =
                c.parts ∙ ap (λ (l : List (List Element)). l ++ c.elements ∷ c.behind) f.parts ∙ ap (λ (l : List (List Element)). (f.before ++ f.behind) ++ c.elements ∷ l) b.parts
                ∙ append_assoc f.before f.behind (c.elements ∷ (b.before ++ b.behind)) ∙ ap (λ (l : List (List Element)). f.before ++ l) (sym (append_assoc f.behind (c.elements ∷ b.before) b.behind));
            xs_on = f.front_on;
            zs_on = f.back_on;
            es_on = c.on;
            ys_on = b.front_on;
            us_on = b.back_on;
            outside = record { earlier = earlier_front stamp (all_in f.before) (all_in f.behind) earlier; later = later_back stamp (all_in b.before) (all_in b.behind) later };
            inside = record { earlier = earlier_back stamp (all_in f.before) (all_in f.behind) earlier; later = later_front stamp (all_in b.before) (all_in b.behind) later };
          }

      begin_told : (near : List Place) (zs : List (List Element)) (fs : List Element) → AreChained slot columns v.page near zs → first_stamp fs ≡ Some halves.first.at → first_stamp (all_in zs ++ fs) ≡ Some (begin_of near halves.first)
      begin_told [] [] fs on is = is
      begin_told [] (es ∷ zs) fs on is = absurd on
      begin_told (p ∷ near) [] fs on is = absurd on
      begin_told (p ∷ near) (es ∷ zs) fs on is = ap first_stamp (append_assoc es (all_in zs) fs) ∙ first_both es (all_in zs ++ fs) p.at on.0.first

      -- two pages that have the halves, and what goes together with them, have the part
      part_of : IsTrue tells → (chain : List (List Element)) → IsChain columns chain → (k : IsTold chain) → (come : Place × Place) (w : Contents) → IsCounted columns come.0 → IsCounted columns come.1 → come.0.at ≡ begin_of near halves.first → come.1.at ≡ halves.second.at
          → HaveBoth slot columns (all_in k.zs ++ take (half_of columns) (with_element stamp row k.es)) (drop (half_of columns) (with_element stamp row k.es) ++ all_in k.ys) come w
          → HavePart slot columns (with_element stamp row (all_in (k.zs ++ k.es ∷ k.ys))) come.0.count come.1.count (come.0 ∷ come.1 ∷ []) w.page
      part_of told chain is k come w counted1 counted2 at1 at2 both =
          let h = are_halves told k.es k.es_on in
          let p = parted told k.es k.es_on in
          let fs : List Element = with_element stamp row k.es in
          let pages : ArePages columns (k.zs ++ k.es ∷ k.ys) = pages_until columns (k.zs ++ k.es ∷ k.ys) k.us (pages_from columns k.xs ((k.zs ++ k.es ∷ k.ys) ++ k.us) (subst (ArePages columns) k.parts is.pages)) in
          let c : Cut slot columns v.page near t.place next (k.zs ++ k.es ∷ k.ys) =
          record { before = k.zs; elements = k.es; behind = k.ys; parts = refl; count = chained_length slot columns v.page near k.zs k.zs_on; front_on = k.zs_on; on = k.es_on; back_on = k.ys_on } in
          spread_told slot columns stamp row element v.page near t.place next (k.zs ++ k.es ∷ k.ys) pages c k.inside halves.first halves.second page others h full p.longer come.0.count come.1.count come.0 come.1 w.page counted1 counted2
          (omega (arith, both.first_count, length-append (all_in k.zs) (take (half_of columns) fs), h.first_count)) (omega (arith, both.second_count, length-append (drop (half_of columns) fs) (all_in k.ys), h.second_count))
          (begin_told near k.zs (take (half_of columns) fs) k.zs_on h.first_at ∙ ap Some (sym at1)) (sym at2) both.first_page both.second_page (omega arith) (omega arith)

      left_of : (chain : List (List Element)) → IsChain columns chain → (k : IsTold chain) → (n : ℕ) → length (all_in k.zs) + halves.first.count ≤ n → MeetsLeft (page_room columns) k.xs n
      left_of chain is k n more =
          let whole : chain ≡ k.xs ++ (k.zs ++ (k.es ∷ k.ys ++ k.us)) = k.parts ∙ ap (λ (l : List (List Element)). k.xs ++ l) (append_assoc k.zs (k.es ∷ k.ys) k.us) in
          left n k.xs k.zs (k.es ∷ k.ys ++ k.us) k.xs_on k.zs_on (subst (IsDense (page_room columns)) whole is.dense) more

      right_of : (chain : List (List Element)) → IsChain columns chain → (k : IsTold chain) → (n : ℕ) → halves.second.count + length (all_in k.ys) ≤ n → MeetsRight (page_room columns) n k.us
      right_of chain is k n more =
          let whole : chain ≡ k.xs ++ (k.zs ++ (k.es ∷ (k.ys ++ k.us))) = k.parts ∙ ap (λ (l : List (List Element)). k.xs ++ l) (append_assoc k.zs (k.es ∷ k.ys) k.us) in
          let dense : IsDense (page_room columns) (k.es ∷ (k.ys ++ k.us)) = dense_back (page_room columns) k.zs (k.es ∷ (k.ys ++ k.us)) (dense_back (page_room columns) k.xs (k.zs ++ k.es ∷ (k.ys ++ k.us)) (subst (IsDense (page_room columns)) whole is.dense)) in
          right n k.us k.ys k.ys_on k.us_on (dense_tail (page_room columns) k.es (k.ys ++ k.us) dense) more

      pages_own : (near : List Place) (next : List Place) → pages_of (near ++ halves.first ∷ next) ≡ pages_of (near ++ t.place ∷ next)
      pages_own [] next = ap (λ (n : ℕ). n ∷ pages_of next) halved.page
      pages_own (p ∷ near) next = ap (λ (l : List ℕ). p.page ∷ l) (pages_own near next)

      -- so the row is put
      pub spread_new : (come : Place × Place) (w : Contents) → AreSpread tells slot columns near halves.first halves.second next page others come v w → come.0.at ≡ begin_of near halves.first → come.1.at ≡ halves.second.at → IsRising (ahead ++ come.0 ∷ come.1 ∷ after)
          → IsPutNew tells slot columns stamp row places (ahead ++ (come.0 ∷ come.1 ∷ after)) v w
      spread_new come w s at1 at2 rises =
          let gone : List Place = near ++ t.place ∷ next in
          let new : List Place = come.0 ∷ come.1 ∷ [] in
          let whole : ArePlaces columns v (ahead ++ (gone ++ after)) = subst (λ (ps : List Place). ArePlaces columns v ps) window_parts are in
          let same : pages_of (near ++ halves.first ∷ next) ≡ pages_of gone = pages_own near next in
          let counted1 : IsCounted columns come.0 = s.window.counts 0 come.0 (omega arith) in
          let counted2 : IsCounted columns come.1 = s.window.counts 1 come.0 (omega arith) in
          let few = s.count in
          record {
            places = subst (λ (ps : List Place). AreMoved columns ps (ahead ++ (new ++ after)) v w) (sym window_parts)
                (window_moved columns v w ahead gone new after whole (subst (λ (l : List ℕ). IsPermutation (v.free ++ l) (w.free ++ pages_of new)) same s.window.pages) rises
                (are_counted columns v (ahead ++ (gone ++ after)) whole) s.window.counts);
            count =
                let old : count_of places ≡ count_of ahead + ((count_of near + (t.place.count + count_of next)) + count_of after) =
                ap count_of window_parts ∙ count_both ahead (gone ++ after) ∙ ap (λ (n : ℕ). count_of ahead + n) (count_both gone after ∙ ap (λ (n : ℕ). n + count_of after) (count_parts near t.place next)) in
                let none : count_of [] ≡ 0 = refl in
                omega (arith, old, count_both ahead (new ++ after), count_parts [] come.0 (come.1 ∷ after), count_parts [] come.1 after, none, few, full, halved.both_count);
            absent = λ told chain on is. target_found chain on is ∙ (parted told (here chain on).elements (here chain on).on).absent;
            put = λ told chain on is.
                let k = told_parts chain on is in
                let h = are_halves told k.es k.es_on in
                let fs : List Element = with_element stamp row k.es in
                let order = with_in_order columns stamp row k.es k.es_on.bytes.fill.elements element in
                let both = s.told told k.zs k.ys (take (half_of columns) fs) (drop (half_of columns) fs) k.zs_on k.ys_on (order_first columns (half_of columns) fs order).each (order_others columns (half_of columns) fs order).each
                h.first_count h.second_count h.page_is h.others_are in
                let part = part_of told chain is k come w counted1 counted2 at1 at2 both in
                let more1 : length (all_in k.zs) + halves.first.count ≤ come.0.count = omega (arith, both.first_count, length-append (all_in k.zs) (take (half_of columns) fs), h.first_count) in
                let more2 : halves.second.count + length (all_in k.ys) ≤ come.1.count = omega (arith, both.second_count, length-append (drop (half_of columns) fs) (all_in k.ys), h.second_count) in
                let written = window_written tells slot columns stamp row element told come.0.count come.1.count k.xs (k.zs ++ k.es ∷ k.ys) k.us (subst (IsChain columns) k.parts is) k.outside ahead gone new after v w whole k.xs_on k.us_on (omega arith)
                part (left_of chain is k come.0.count more1) (right_of chain is k come.1.count more2)
                (subst (λ (l : List ℕ). IsTrue tells → (n : ℕ) → ¬ Contains l n → ¬ Contains v.free n → w.page n ≡ v.page n) same s.window.others) in
                subst (λ (l : List (List Element)). AreWritten slot columns (with_element stamp row (all_in l)) places (ahead ++ (new ++ after)) v w) (sym k.parts)
                (subst (λ (ps : List Place). AreWritten slot columns (with_element stamp row (all_in (k.xs ++ ((k.zs ++ k.es ∷ k.ys) ++ k.us)))) ps (ahead ++ (new ++ after)) v w) (sym window_parts) written);
          }

      -- they rise
      pub spread_rises : (come : Place × Place) → come.1.at ≡ halves.second.at → come.0.at <ℤ halves.second.at → (g : Place) (more : List Place) → t.front ++ t.place ∷ t.back ≡ ahead ++ g ∷ more → (g.at ≤ℤ come.0.at) ⊎ (ahead ≡ []) → IsRising (ahead ++ come.0 ∷ come.1 ∷ after)
      spread_rises come at low g more parts begins =
          let beyond2 : AreAbove come.1.at after = subst (λ (z : ℤ). AreAbove z after) (sym at) (above_behind halves.second.at next after (subst (AreAbove halves.second.at) back above)) in
          let less : come.0.at <ℤ come.1.at = omega (arith, ints, low, at) in
          let beyond1 : AreAbove come.0.at after = above_than come.0.at come.1.at after (omega (arith, ints, less)) beyond2 in
          let rest : IsRising after = rising_behind next after (subst IsRising back (rising_behind (t.place ∷ []) t.back (rising_behind t.front (t.place ∷ t.back) target_rising))) in
          rising_come ahead g more come.0 (come.1 ∷ after) begins (less, beyond1) (beyond2, rest) (subst IsRising parts target_rising)

    -- a chain has no more pages than its elements are charged for
    pub crowded : ¬ FitsLast (page_room columns) halves.first.count t.front → ¬ FitsFirst (page_room columns) halves.second.count t.back → irregular_charge (page_room columns) (count_of places + 1) ≤ length places
        → IsTrue tells → (chain : List (List Element)) → AreChained slot columns v.page places chain → IsChain columns chain → ⊥
    crowded not1 not2 charge told chain on is =
        let q : ℕ = page_room columns in
        let c = here chain on in
        let h = are_halves told c.elements c.on in
        let p = parted told c.elements c.on in
        let around = target_around chain on is in
        let fs : List Element = with_element stamp row c.elements in
        let one : List Element = take (half_of columns) fs in
        let two : List Element = drop (half_of columns) fs in
        let b : Place = record { at = halves.second.at; page = suc halves.first.page; count = halves.second.count } in
        let after : ℕ → List ℕ = with_page b.page (irregular_page slot columns two) (with_page halves.first.page (irregular_page slot columns one) v.page) in
        let whole : IsChain columns (c.before ++ c.elements ∷ c.behind) = subst (IsChain columns) c.parts is in
        let pages : ArePages columns (c.elements ∷ []) = pages_until columns (c.elements ∷ []) c.behind (pages_from columns c.before (c.elements ∷ c.behind) whole.pages) in
        let k : Cut slot columns v.page [] t.place [] (c.elements ∷ []) = record { before = []; elements = c.elements; behind = []; parts = refl; count = refl; front_on = tt; on = c.on; back_on = tt } in
        let counted1 : IsCounted columns halves.first = record { some = omega (arith, halved.first_count, half_some); room = omega (arith, halved.first_count, some) } in
        let counted2 : IsCounted columns b = record { some = omega (arith, halved.first_count, halved.both_count, some); room = omega (arith, halved.first_count, halved.both_count, half_some) } in
        let part = spread_told slot columns stamp row element v.page [] t.place [] (c.elements ∷ []) pages k (record { earlier = tt; later = tt }) halves.first halves.second page others h full p.longer halves.first.count b.count halves.first b after counted1 counted2 (omega arith) (omega arith)
        h.first_at refl (other_page b.page halves.first.page (irregular_page slot columns two) (with_page halves.first.page (irregular_page slot columns one) v.page) (λ same. absurd (omega (arith, same))) ∙ changed_page halves.first.page (irregular_page slot columns one) v.page)
        (changed_page b.page (irregular_page slot columns two) (with_page halves.first.page (irregular_page slot columns one) v.page) ∙ ap (irregular_page slot columns) (sym (append-nil two))) (omega arith) (omega arith) in
        let made = window_chain slot columns stamp row element halves.first.count b.count c.before (c.elements ∷ []) c.behind whole around (halves.first ∷ b ∷ []) (omega arith) after part
        (meets_before slot columns v.page q halves.first.count t.front c.before c.front_on not1) (meets_behind slot columns v.page q halves.second.count t.back c.behind c.back_on not2) in
        let new : List (List Element) = c.before ++ (part.chain ++ c.behind) in
        let bound = within_charge q new (omega (arith, some)) (sized_pages columns new made.0.pages) made.0.dense in
        let pair : length part.chain ≡ 2 = chained_length slot columns after (halves.first ∷ b ∷ []) part.chain part.on in
        let long_new : length new ≡ length c.before + (2 + length c.behind) = length-append c.before (part.chain ++ c.behind) ∙ ap (λ (n : ℕ). length c.before + n) (length-append part.chain c.behind ∙ ap (λ (n : ℕ). n + length c.behind) pair) in
        let long_old : length places ≡ length c.before + (1 + length c.behind) = sym (chained_length slot columns v.page places chain on) ∙ ap length c.parts ∙ length-append c.before (c.elements ∷ c.behind) ∙ ap (λ (n : ℕ). length c.before + n) (omega arith) in
        let all_old : count_of places ≡ length (all_in c.before) + (length c.elements + length (all_in c.behind)) =
        sym (chained_count slot columns v.page places chain on) ∙ ap (λ (l : List (List Element)). length (all_in l)) c.parts ∙ ap length (all_in-append c.before (c.elements ∷ c.behind)) ∙ length-append (all_in c.before) (c.elements ++ all_in c.behind)
        ∙ ap (λ (n : ℕ). length (all_in c.before) + n) (length-append c.elements (all_in c.behind)) in
        let all_new : length (all_in new) ≡ length (all_in c.before) + (length fs + length (all_in c.behind)) =
        ap length (made.1 ∙ edited_all stamp row c.before c.elements c.behind around) ∙ length-append (all_in c.before) (fs ++ all_in c.behind) ∙ ap (λ (n : ℕ). length (all_in c.before) + n) (length-append fs (all_in c.behind)) in
        let total : length (all_in new) ≡ count_of places + 1 = omega (arith, all_old, all_new, p.longer) in
        let most : length new ≤ irregular_charge q (count_of places + 1) = subst (λ (n : ℕ). length new ≤ irregular_charge q n) total bound in
        omega (arith, most, charge, long_new, long_old)
