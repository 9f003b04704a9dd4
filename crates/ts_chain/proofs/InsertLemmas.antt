-- What an insert leaves: a page that was read and has a row more, a first page, and what was said of pages that were read since.
use Rattle.std.proofs.Common.{◌≡◌, ℕ, suc, ◌+◌, ◌<◌, ◌≤◌, ◌^◌, ℤ, ◌≤ℤ◌, ◌==◌, ◌⊎◌, inl, inr, Bool, true, false, IsTrue, Option, Some, None, IsSome, is_some, Result, Ok, Err, List, [], ◌∷◌, ◌++◌, length, take, drop, get_or, refl, sym, ap, subst, ◌∙◌, arith, append-nil}
use borrow.Rule.Slice.PartMut.{mid_of}
use Rattle.std.specs.Int.{int_min}
use Rattle.std.specs.Prelude.{Contains, IsPermutation}
use Rattle.std.proofs.lemmas.Bool.Decides.{nat_tests}
use Rattle.std.proofs.lemmas.Int.{ints}
use Rattle.std.proofs.lemmas.List.Elements.{All-nil, All-cons}
use Rattle.std.proofs.lemmas.List.Sorted.{IsPermutation-to_front, IsPermutation-sym}
use Rattle.ts_space.specs.declared.place.Place.{Place}
use Rattle.ts_space.specs.declared.moved.Come.TheVariants.{One}
use Rattle.ts_space.specs.declared.moved.Moved.{Moved}
use Rattle.ts_space.specs.Place.{AreAbove, IsRising, pages_of, place_of}
use Rattle.ts_space.specs.Moved.{moved_to}
use Rattle.ts_page.specs.Pages.{Contents, EqualPages, with_page}
use Rattle.ts_row.specs.declared.kind.Column.{Column}
use Rattle.ts_row.specs.Row.{Row, Element}
use Rattle.ts_cells.specs.IrregularPage.{IsElement, page_room, AreInOrder, FillPage, IsIrregularPage, behind_head, irregular_page}
use Rattle.ts_irregular.specs.Edit.{element_at, with_element, search_of}
use Rattle.ts_irregular.specs.OnePage.{IsOn}
use Rattle.ts_irregular.specs.Call.{ArePut, IsOneMore}
use Rattle.ts_irregular.proofs.EditLemmas.{with_in_order}
use Rattle.ts_irregular.proofs.HeadLemmas.{length-page, part_behind}
use Rattle.ts_irregular.proofs.SearchLemmas.{search_ok, search_err}
use Rattle.ts_irregular.proofs.SeeLemmas.{behind_told}
use Rattle.ts_sheets.specs.Stamped.{all_in, AreBefore, IsChain}
use Rattle.ts_sheets.specs.Places.{AreChained, ArePlaces, IsCounted, IsHolder, IsTarget}
use Rattle.ts_chain.specs.Call.{AreWritten, ChangesOnlyPages, IsInserted, IsPutNew, IsThereAlready}
use Rattle.ts_chain.specs.Window.{half_of, ArePartedOf, HavePart}
use Rattle.ts_sheets.proofs.DenseLemmas.{dense_back, dense_left, dense_right}
use Rattle.ts_chain.proofs.PlaceLemmas.{above_than}
use Rattle.ts_chain.proofs.TakenLemmas.{none_moved}
use Rattle.ts_chain.proofs.SplitLemmas.{length-with}
use Rattle.ts_chain.proofs.RemoveLemmas.{count_parts, rising_at}
use Rattle.ts_chain.proofs.ChangeLemmas.{place_first}
use Rattle.ts_chain.proofs.TakeLemmas.{are_counted, moved_middle}
use Rattle.ts_chain.proofs.RestLemmas.{chained_same}
use Rattle.ts_chain.proofs.PutLemmas.{window_moved, window_written, rising_come, rising_behind}
use Rattle.ts_chain.proofs.HalfLemmas.{here, target_are, target_around, target_found, target_rising, first_with, min_first, min_low}
use Rattle.ts_chain.proofs.EndLemmas.{target_get}
use Rattle.ts_chain.proofs.PagesLemmas.{changed_page, other_page}

-- the place that a stamp is put on
pub holder_target : (at : ℤ) (places : List Place) (index : ℕ) → IsHolder at places index → IsTarget at places index
holder_target at places index h = record { front = h.front; place = h.place; back = h.back; parts = h.parts; index_is = h.index_is; begins = inl h.begins; above = h.above }

pub first_target : (at : ℤ) (places : List Place) → 0 < length places → AreAbove at places → IsTarget at places 0
first_target at [] some above = absurd (omega (arith, some))
first_target at (p ∷ places) some above = record { front = []; place = p; back = places; parts = refl; index_is = refl; begins = inr refl; above = above.1 }

none_before : (es : List Element) → AreBefore es []
none_before [] = tt
none_before (e ∷ es) = (tt, none_before es)

some_is : {A : Type 0} (o : Option A) → is_some o ≡ true → IsSome o
some_is (Some a) some = refl
some_is None some = absurd (cc)

-- what a page was taken for that was read
record IsRead (columns : List Column) (had : ℕ) (own : List ℕ) (es : List Element) : Type 0 where
  order : AreInOrder columns es
  count : length es ≡ had
  behind : drop 32 own ≡ behind_head columns es
  part : mid_of 32 4064 own ≡ behind_head columns es

module _ (tells : Bool) (slot : ℕ) (columns : List Column) (stamp : ℤ) (places : List Place) (index : ℕ) (v : Contents) (t : IsTarget stamp places index) (rising : IsRising places) (are : ArePlaces columns v places) (d : Place) (read own : List ℕ) (had : ℕ) (same : IsTrue tells → read ≡ v.page t.place.page)
    (taken : (es : List Element) → IsOn slot columns read (get_or places index d) es → (length es ≡ had) × (own ≡ read)) (found : Result ℕ ℕ) (searched : (es : List Element) → AreInOrder columns es → length es ≡ had → mid_of 32 4064 own ≡ behind_head columns es → found ≡ search_of stamp es) where
  are_read : IsTrue tells → (es : List Element) → IsOn slot columns (v.page t.place.page) t.place es → IsRead columns had own es
  are_read told es on =
      let there : IsOn slot columns read t.place es = subst (λ (b : List ℕ). IsOn slot columns b t.place es) (sym (same told)) on in
      let held : IsOn slot columns read (get_or places index d) es = subst (λ (p : Place). IsOn slot columns read p es) (sym (target_get stamp places index d t)) there in
      let k = taken es held in
      let order = on.bytes.fill.elements in
      let is : IsIrregularPage slot columns es own = subst (λ (b : List ℕ). IsIrregularPage slot columns es b) (sym k.1) there.bytes in
      let behind = behind_told slot columns es own is in
      record { order = order; count = k.0; behind = behind; part = part_behind 4064 own (length-page columns es own order.each on.bytes.fill.room behind) ∙ behind }

  -- one is there
  pub there_already : (i : ℕ) → found ≡ Ok i → IsThereAlready tells slot columns stamp places v v
  there_already i is_found = record {
    there = λ told chain on is.
        let c = here tells slot columns stamp places index v t rising are chain on in
        let r = are_read told c.elements c.on in
        let same : element_at stamp (all_in chain) ≡ element_at stamp c.elements = target_found tells slot columns stamp places index v t rising are chain on is in
        subst IsSome (sym same) (some_is (element_at stamp c.elements) (search_ok stamp c.elements i (sym is_found ∙ searched c.elements r.order r.count r.part)).0);
    same = record { free = refl; pages = λ told n. refl };
    bytes = refl;
  }

  module _ (i : ℕ) (missing : found ≡ Err i) (row : Row) (element : IsElement columns (stamp, row)) where
    err_is : IsTrue tells → (es : List Element) → IsOn slot columns (v.page t.place.page) t.place es → ◌≡◌ {A = Result ℕ ℕ} (Err i) (search_of stamp es)
    err_is told es on = let r = are_read told es on in sym missing ∙ searched es r.order r.count r.part

    longer : IsTrue tells → (es : List Element) → IsOn slot columns (v.page t.place.page) t.place es → length (with_element stamp row es) ≡ length es + 1
    longer told es on = length-with stamp row es i 0 on.bytes.fill.elements.rising (sym (err_is told es on)) (omega arith)

    -- the halves of a full page
    pub parted_of : had ≡ page_room columns → (page others : List ℕ)
        → ((es : List Element) → AreInOrder columns es → length es ≡ page_room columns → ◌≡◌ {A = Result ℕ ℕ} (search_of stamp es) (Err i) → drop 32 own ≡ behind_head columns es → page ≡ irregular_page slot columns (take (half_of columns) (with_element stamp row es)))
        → ((es : List Element) → AreInOrder columns es → length es ≡ page_room columns → ◌≡◌ {A = Result ℕ ℕ} (search_of stamp es) (Err i) → drop 32 own ≡ behind_head columns es → others ≡ irregular_page slot columns (drop (half_of columns) (with_element stamp row es)))
        → ArePartedOf tells slot columns stamp row t.place page others v
    parted_of full page others first second told es on =
        let r = are_read told es on in
        let e = err_is told es on in record {
          absent = (search_err stamp es i e).0;
          longer = longer told es on;
          page_is = first es r.order (r.count ∙ full) (sym e) r.behind;
          others_are = second es r.order (r.count ∙ full) (sym e) r.behind;
        }

    -- a page that has room
    module _ (w : Contents) (one : Place) (bytes : List ℕ) (room : had < page_room columns) (few : had ≤ t.place.count) (free : w.free ≡ v.free) (page : one.page ≡ t.place.page) (count : one.count ≡ had + 1) (low : one.at ≡ int_min t.place.at stamp)
        (made : (es : List Element) → AreInOrder columns es → length es ≡ had → ◌≡◌ {A = Result ℕ ℕ} (search_of stamp es) (Err i) → drop 32 own ≡ behind_head columns es → bytes ≡ irregular_page slot columns (with_element stamp row es))
        (put : IsTrue tells → EqualPages (with_page t.place.page bytes v.page) w.page) where
      others : ChangesOnlyPages tells (t.place ∷ []) v w
      others told n not_own not_free = put told n ∙ other_page t.place.page n bytes v.page (λ is. not_own (0, omega arith, sym is))

      part : IsTrue tells → (es : List Element) → IsOn slot columns (v.page t.place.page) t.place es → HavePart slot columns (with_element stamp row (all_in (es ∷ []))) (length es) (length es) (one ∷ []) w.page
      part told es on =
          let r = are_read told es on in
          let fs : List Element = with_element stamp row es in
          let more : length fs ≡ length es + 1 = longer told es on in
          let order = with_in_order columns stamp row es on.bytes.fill.elements element in
          let is : bytes ≡ irregular_page slot columns fs = made es r.order r.count (sym (err_is told es on)) r.behind in
          let n = r.count in record {
            chain = fs ∷ [];
            are = (record { some = omega (arith, more); room = omega (arith, more, n, room); elements = order }, none_before fs, tt);
            all = append-nil fs ∙ ap (with_element stamp row) (sym (append-nil es));
            on = (
              record {
                bytes = record {
                  number = on.bytes.number;
                  fill = record { some = omega (arith, more); room = omega (arith, more, n, room); elements = order };
                  bytes = ap w.page page ∙ put told t.place.page ∙ changed_page t.place.page bytes v.page ∙ is;
                };
                count = omega (arith, more, n, count);
                first = first_with stamp row t.place.at es on.first ∙ ap Some (sym low);
              },
              tt,
            );
            dense = tt;
            starts = omega (arith, more);
            ends = omega (arith, more);
          }

      pub put_more : IsPutNew tells slot columns stamp row places (moved_to (record { index = index; gone = 1; come = One one }) places) v w
      put_more =
          let whole = target_are tells slot columns stamp places index v t rising are in
          let rises = target_rising tells slot columns stamp places index v t rising are in
          let beyond : AreAbove t.place.at t.back = rising_at t.front t.place t.back rises in
          let below = min_low t.place.at stamp in
          let beyond_one : AreAbove one.at t.back = above_than one.at t.place.at t.back (omega (arith, ints, low, below)) beyond in
          let rest : IsRising t.back = rising_behind (t.place ∷ []) t.back (rising_behind t.front (t.place ∷ t.back) rises) in
          let early : (t.place.at ≤ℤ one.at) ⊎ (t.front ≡ []) = elim t.begins [ inl begins ↦ inl (omega (arith, ints, low, min_first t.place.at stamp begins)) | inr none ↦ inr none ] in
          let counted : IsCounted columns one = record { some = omega (arith, count); room = omega (arith, count, room) } in
          let new : List Place = t.front ++ ((one ∷ []) ++ t.back) in
          subst (λ (ps : List Place). IsPutNew tells slot columns stamp row places ps v w) (sym (moved_middle t.front (t.place ∷ []) (one ∷ []) t.back (record { index = index; gone = 1; come = One one }) places t.parts t.index_is refl refl))
          (subst (λ (ps : List Place). IsPutNew tells slot columns stamp row ps new v w) (sym t.parts) (record {
            places = window_moved columns v w t.front (t.place ∷ []) (one ∷ []) t.back whole
                (subst (λ (n : ℕ). IsPermutation (v.free ++ t.place.page ∷ []) (w.free ++ n ∷ [])) (sym page) (none_moved v.free w.free (t.place.page ∷ []) free))
                (rising_come t.front t.place t.back one t.back early beyond_one rest rises)
                (are_counted columns v (t.front ++ t.place ∷ t.back) whole) (All-cons (IsCounted columns) one [] counted (All-nil (IsCounted columns)));
            count = omega (arith, count_parts t.front t.place t.back, count_parts t.front one t.back, count, few);
            absent = λ told chain on is.
                let whole_on : AreChained slot columns v.page places chain = subst (λ (ps : List Place). AreChained slot columns v.page ps chain) (sym t.parts) on in
                let c = here tells slot columns stamp places index v t rising are chain whole_on in
                target_found tells slot columns stamp places index v t rising are chain whole_on is ∙ (search_err stamp c.elements i (err_is told c.elements c.on)).0;
            put = λ told chain on is.
                let whole_on : AreChained slot columns v.page places chain = subst (λ (ps : List Place). AreChained slot columns v.page ps chain) (sym t.parts) on in
                let c = here tells slot columns stamp places index v t rising are chain whole_on in
                let around = target_around tells slot columns stamp places index v t rising are chain whole_on is in
                let q : ℕ = page_room columns in
                let chain_is : IsChain columns (c.before ++ ((c.elements ∷ []) ++ c.behind)) = subst (IsChain columns) c.parts is in
                subst (λ (l : List (List Element)). AreWritten slot columns (with_element stamp row (all_in l)) (t.front ++ t.place ∷ t.back) new v w) (sym c.parts)
                (window_written tells slot columns stamp row element told (length c.elements) (length c.elements) c.before (c.elements ∷ []) c.behind chain_is around t.front (t.place ∷ []) (one ∷ []) t.back v w whole c.front_on c.back_on (omega arith)
                (part told c.elements c.on) (dense_left q c.before c.elements c.behind chain_is.dense) (dense_right q c.elements c.behind (dense_back q c.before (c.elements ∷ c.behind) chain_is.dense)) others);
          }))

-- a series without places
pub empty_places : (places : List Place) (b : Bool) → b ≡ (length places == 0) → b ≡ true → places ≡ []
empty_places [] b is empty = refl
empty_places (p ∷ places) b is empty = let some : (suc (length places) == 0) ≡ false = grind (arith, nat_tests) in absurd (let e : true ≡ false = sym empty ∙ is ∙ some in cc)

page_in : List Place → ℕ
page_in [] = 0
page_in (p ∷ places) = p.page

page_of : (n : ℕ) (e : Element) (place : Place) → place ∷ [] ≡ place_of n (e ∷ []) → place.page ≡ n
unfolding page_in
page_of n e place is = ap page_in is

-- one element alone
abbrev alone : ℤ → Row → List Element
alone stamp row = (stamp, row) ∷ []

pub put_first : (tells : Bool) (slot : ℕ) (columns : List Column) (stamp : ℤ) (row : Row) (places : List Place) (place : Place) (v w : Contents) → slot < 2 ^ 16 → places ≡ [] → IsOneMore [] place v w → ArePut tells slot columns [] (with_element stamp row []) (place ∷ []) v w
    → IsPutNew tells slot columns stamp row places (moved_to (record { index = 0; gone = 0; come = One place }) places) v w
put_first tells slot columns stamp row places place v w number none more put = subst (λ (ps : List Place). IsPutNew tells slot columns stamp row ps (moved_to (record { index = 0; gone = 0; come = One place }) ps) v w) (sym none) put_empty
  where
    written : IsTrue tells → AreWritten slot columns (alone stamp row) [] (place ∷ []) v w
    written told =
        let kept = put.kept in
        let same : place.page ≡ kept.0 = page_of kept.0 (stamp, row) place kept.2.places in
        let room = put.room in
        let fill : FillPage columns (alone stamp row) = record { some = omega arith; room = room; elements = put.order } in
        record {
          chain = alone stamp row ∷ [];
          is = record { pages = (fill, none_before (alone stamp row), tt); dense = tt };
          all = refl;
          on = (
            record {
              bytes = record { number = number; fill = fill; bytes = ap w.page same ∙ kept.2.pages told kept.0 ∙ changed_page kept.0 (irregular_page slot columns (alone stamp row)) v.page };
              count = sym more.1;
              first = place_first kept.0 (alone stamp row) place (sym kept.2.places);
            },
            tt,
          );
          others = λ n not_own not_free. kept.2.pages told n ∙ other_page kept.0 n (irregular_page slot columns (alone stamp row)) v.page
              (λ is. not_free (subst (λ (l : List ℕ). Contains l n) (sym kept.1) (0, omega arith, sym is)));
        }

    put_empty : IsPutNew tells slot columns stamp row [] (place ∷ []) v w
    put_empty =
        let room = put.room in
        let counted : IsCounted columns place = record { some = omega (arith, more.1); room = omega (arith, more.1, room) } in
        record {
          places = record {
            pages = subst (λ (l : List ℕ). IsPermutation (l ++ []) (w.free ++ place.page ∷ [])) (sym more.0)
                (subst (λ (l : List ℕ). IsPermutation l (w.free ++ place.page ∷ [])) (sym (append-nil (place.page ∷ w.free))) (IsPermutation-sym (w.free ++ place.page ∷ []) (place.page ∷ w.free) (IsPermutation-to_front w.free place.page)));
            rising = (tt, tt);
            counts = All-cons (IsCounted columns) place [] counted (All-nil (IsCounted columns));
          };
          count = omega (arith, more.1, count_parts [] place []);
          absent = λ told chain on is. absent_in chain on;
          put = λ told chain on is. put_in told chain on;
        }
      where
        absent_in : (chain : List (List Element)) → AreChained slot columns v.page [] chain → element_at stamp (all_in chain) ≡ None
        absent_in [] on = refl
        absent_in (fs ∷ chain) on = absurd on

        put_in : IsTrue tells → (chain : List (List Element)) → AreChained slot columns v.page [] chain → AreWritten slot columns (with_element stamp row (all_in chain)) [] (place ∷ []) v w
        put_in told [] on = written told
        put_in told (fs ∷ chain) on = absurd on

-- pages that were read since
pub inserted_since : (tells : Bool) (slot : ℕ) (columns : List Column) (stamp : ℤ) (row : Row) (places : List Place) (v u w : Contents) (o : Option Moved) → u.free ≡ v.free → u.change_bytes ≡ v.change_bytes → (IsTrue tells → EqualPages v.page u.page)
    → IsInserted tells slot columns stamp row places u w o → IsInserted tells slot columns stamp row places v w o
inserted_since tells slot columns stamp row places v u w (Some moved) free bytes same r = record {
  places = record {
    pages = subst (λ (l : List ℕ). IsPermutation (l ++ pages_of places) (w.free ++ pages_of (moved_to moved places))) free r.places.pages;
    rising = r.places.rising;
    counts = r.places.counts;
  };
  count = r.count;
  absent = λ told chain on is. r.absent told chain (chained_same slot columns v.page u.page places chain (same told) on) is;
  put = λ told chain on is.
      let a = r.put told chain (chained_same slot columns v.page u.page places chain (same told) on) is in record {
        chain = a.chain;
        is = a.is;
        all = a.all;
        on = a.on;
        others = λ n not_own not_free. a.others n not_own (subst (λ (l : List ℕ). ¬ Contains l n) (sym free) not_free) ∙ same told n;
      };
}
inserted_since tells slot columns stamp row places v u w None free bytes same r = record {
  there = λ told chain on is. r.there told chain (chained_same slot columns v.page u.page places chain (same told) on) is;
  same = record { free = r.same.free ∙ free; pages = λ told n. r.same.pages told n ∙ same told n };
  bytes = r.bytes ∙ bytes;
}
