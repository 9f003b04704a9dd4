-- A change of a row on one page is so of the whole chain.
use Rattle.std.proofs.Common.{◌≡◌, ℕ, ◌≤◌, ℤ, Bool, true, false, IsTrue, Option, Some, None, IsSome, Result, Ok, Err, IfOk, List, [], ◌∷◌, ◌++◌, length, refl, sym, ap, subst, ◌∙◌, arith, append-nil}
use Rattle.std.specs.Prelude.{Contains}
use Rattle.std.proofs.lemmas.Int.{by_lt_z, ints}
use Rattle.ts_space.specs.declared.place.Place.{Place}
use Rattle.ts_space.specs.Place.{AreAbove}
use Rattle.ts_page.specs.Pages.{Contents, EqualPages, with_page}
use Rattle.ts_row.specs.declared.kind.Column.{Column}
use Rattle.ts_row.specs.Row.{Row, Element}
use Rattle.ts_cells.specs.IrregularPage.{IsElement, page_room, irregular_page, first_stamp}
use Rattle.ts_irregular.specs.Edit.{element_at, with_element}
use Rattle.ts_irregular.specs.OnePage.{place_of}
use Rattle.ts_irregular.specs.Call.{AreKept, ArePut}
use Rattle.ts_irregular.specs.Call as one
use Rattle.ts_irregular.proofs.CallerLemmas.{element_in, count_kept}
use Rattle.ts_sheets.specs.Stamped.{all_in, IsDense, IsChain}
use Rattle.ts_space.specs.Place.{pages_of}
use Rattle.ts_sheets.specs.Places.{AreChained, ArePlaces, IsHolder}
use Rattle.ts_chain.specs.Call.{AreWritten, IsMissing, IsChanged}
use Rattle.ts_chain.proofs.EditLemmas.{at_lower, at_same, with_lower, with_higher, with_same, none_later}
use Rattle.ts_sheets.proofs.DenseLemmas.{dense_front, dense_back, dense_left, dense_right, dense_cons, dense_made, dense_tail, meets_left, meets_right}
use Rattle.ts_chain.proofs.WindowLemmas.{at_page, with_window}
use Rattle.ts_chain.proofs.PlaceLemmas.{Cut, chain_later, chained_both, holder_around}
use Rattle.ts_chain.proofs.PagesLemmas.{changed_page, other_page, page_there, apart_behind, apart_before, chained_other}
use Rattle.ts_chain.proofs.FindLemmas.{cut_told}

-- what a page has at a stamp after a row was put there
at_put : (stamp : ℤ) (row : Row) (es : List Element) → element_at stamp (with_element stamp row es) ≡ Some row
at_put stamp row [] = at_same stamp (stamp, row) [] (omega (arith, ints)) (omega (arith, ints))
at_put stamp row (e ∷ es) = by_lt_z e.0 stamp
    (λ low. ap (element_at stamp) (with_lower stamp row e es low) ∙ at_lower stamp e (with_element stamp row es) low ∙ at_put stamp row es)
    (λ high. by_lt_z stamp e.0
    (λ above. ap (element_at stamp) (with_higher stamp row e es above) ∙ at_same stamp (stamp, row) (e ∷ es) (omega (arith, ints)) (omega (arith, ints)))
    (λ below. ap (element_at stamp) (with_same stamp row e es high below) ∙ at_same stamp (e.0, row) es high below))

-- the place of a page, by its elements
at_of : List Place → Option ℤ
at_of [] = None
at_of (p ∷ places) = Some p.at

count_in : List Place → ℕ
count_in [] = 0
count_in (p ∷ places) = p.count

pub place_first : (n : ℕ) (es : List Element) (place : Place) → place_of n es ≡ place ∷ [] → first_stamp es ≡ Some place.at
unfolding at_of
place_first n [] place is = absurd (cc)
place_first n (e ∷ es) place is = ap at_of is

-- what was kept of a page
kept_page : (tells : Bool) (slot : ℕ) (columns : List Column) (place : Place) (es : List Element) (v w : Contents) → 1 ≤ length es → AreKept tells slot columns (place ∷ []) es (place ∷ []) v w
    → (place_of place.page es ≡ place ∷ []) × (IsTrue tells → EqualPages (with_page place.page (irregular_page slot columns es) v.page) w.page)
kept_page tells slot columns place [] v w some kept = absurd (omega arith)
kept_page tells slot columns place (e ∷ es) v w some kept = (sym kept.1.places, kept.1.pages)

-- a page of the same size among its neighbours
dense_same : (q : ℕ) (front : List (List Element)) (es fs : List Element) (back : List (List Element)) → length es ≡ length fs → IsDense q (front ++ es ∷ back) → IsDense q (front ++ fs ∷ back)
dense_same q front es fs back same dense =
    let rest = dense_back q front (es ∷ back) dense in
    dense_made q front fs back (dense_front q front (es ∷ back) dense)
    (meets_left q front (length es) (length fs) (omega (arith, same)) (dense_left q front es back dense))
    (dense_cons q fs back (meets_right q (length es) (length fs) back (omega (arith, same)) (dense_right q es back rest)) (dense_tail q es back rest))

module _ (tells : Bool) (slot : ℕ) (columns : List Column) (stamp : ℤ) (places : List Place) (index : ℕ) (v w : Contents) (h : IsHolder stamp places index) (are : ArePlaces columns v places) where
  here : (chain : List (List Element)) → AreChained slot columns v.page places chain → Cut slot columns v.page h.front h.place h.back chain
  here chain on = cut_told slot columns stamp places index v.page chain h on

  -- what stands at the stamp on the page stands there in the chain
  found : (chain : List (List Element)) (on : AreChained slot columns v.page places chain) → IsChain columns chain → element_at stamp (all_in chain) ≡ element_at stamp (here chain on).elements
  found chain on is =
      let c = here chain on in
      ap (λ (l : List (List Element)). element_at stamp (all_in l)) c.parts ∙ at_page stamp c.before c.elements c.behind (holder_around slot columns v.page stamp h.front h.place h.back chain is.pages h.begins h.above c)

  put_in : (change : Row → Row) (row : Row) (chain : List (List Element)) (on : AreChained slot columns v.page places chain) → IsChain columns chain → element_at stamp (all_in chain) ≡ Some row → IsTrue tells
      → ArePut tells slot columns (h.place ∷ []) (with_element stamp (change row) (here chain on).elements) (h.place ∷ []) v w
      → AreWritten slot columns (with_element stamp (change row) (all_in chain)) places places v w
  put_in change row chain on is there told put =
      let c = here chain on in
      let es : List Element = with_element stamp (change row) c.elements in
      let own : element_at stamp c.elements ≡ Some row = sym (found chain on is) ∙ there in
      let around = holder_around slot columns v.page stamp h.front h.place h.back chain is.pages h.begins h.above c in
      let size : length es ≡ length c.elements = count_kept stamp (change row) c.elements c.on.bytes.fill.elements.rising (subst IsSome (sym own) refl) in
      let some = c.on.bytes.fill.some in
      let kept = kept_page tells slot columns h.place es v w (omega (arith, size, some)) put.kept in
      let element : IsElement columns (stamp, change row) = element_in columns stamp (change row) es put.order.each (at_put stamp (change row) c.elements) in
      let whole : IsChain columns (c.before ++ c.elements ∷ c.behind) = subst (IsChain columns) c.parts is in
      let made = with_window columns stamp c.before (c.elements ∷ []) (es ∷ []) c.behind whole around (omega (arith, size, some), put.room, tt)
      (dense_same (page_room columns) c.before c.elements es c.behind (sym size) whole.dense) (change row) element
      (append-nil es ∙ ap (with_element stamp (change row)) (sym (append-nil c.elements))) in
      let page : EqualPages (with_page h.place.page (irregular_page slot columns es) v.page) w.page = kept.1 told in
      let pairs = subst (λ (ps : List Place). ArePlaces columns v ps) h.parts are in
      record {
        chain = c.before ++ es ∷ c.behind;
        is = made.0;
        all = made.1 ∙ ap (λ (l : List (List Element)). with_element stamp (change row) (all_in l)) (sym c.parts);
        on = subst (λ (ps : List Place). AreChained slot columns w.page ps (c.before ++ es ∷ c.behind)) (sym h.parts)
            (chained_both slot columns w.page h.front (h.place ∷ h.back) c.before (es ∷ c.behind)
            (chained_other slot columns h.place.page (irregular_page slot columns es) v.page w.page h.front c.before page (apart_before h.front h.place h.back pairs.different) c.front_on) (
              record {
                bytes = record {
                  number = c.on.bytes.number;
                  fill = record { some = omega (arith, size, some); room = put.room; elements = put.order };
                  bytes = page h.place.page ∙ changed_page h.place.page (irregular_page slot columns es) v.page;
                };
                count = size ∙ c.on.count;
                first = place_first h.place.page es h.place kept.0;
              },
              chained_other slot columns h.place.page (irregular_page slot columns es) v.page w.page h.back c.behind page (apart_behind h.front h.place h.back pairs.different) c.back_on,
            ));
        others = λ number not free. page number ∙ other_page h.place.page number (irregular_page slot columns es) v.page
            (λ same. not (subst (Contains (pages_of places)) (sym same) (subst (λ (ps : List Place). Contains (pages_of ps) h.place.page) (sym h.parts) (page_there h.front h.place h.back))));
      }

  pub changed_in : (change : Row → Row) (done : Bool) → one.IsChanged tells slot columns stamp change (h.place ∷ []) v w done → IsChanged tells slot columns stamp change places v w done
  changed_in change true changed = record {
    free = changed.free;
    there = λ told chain on is. subst IsSome (sym (found chain on is)) (changed.there told (here chain on).elements (here chain on).on);
    put = λ told chain on is row there. put_in change row chain on is there told (changed.put told (here chain on).elements (here chain on).on row (sym (found chain on is) ∙ there));
  }
  changed_in change false changed = record {
    absent = λ told chain on is. found chain on is ∙ changed.absent told (here chain on).elements (here chain on).on;
    same = changed.same;
  }

-- where all pages begin later, none is there
pub none_changed : (tells : Bool) (slot : ℕ) (columns : List Column) (stamp : ℤ) (places : List Place) (v : Contents) → AreAbove stamp places → IsMissing tells slot columns stamp places v v
none_changed tells slot columns stamp places v above = record {
  absent = λ told chain on is. none_later stamp (all_in chain) (chain_later slot columns v.page stamp places chain on above);
  same = record { free = refl; pages = λ told n. refl };
}

-- what an answer of one page says, said of the chain
pub if_ok : {T E : Type 0} (P Q : T → Type 0) (result : Result T E) → ((t : T) → P t → Q t) → IfOk result P → IfOk result Q
if_ok P Q (Ok t) give p = give t p
if_ok P Q (Err e) give p = tt

pub changed_answer : {E : Type 0} (tells : Bool) (slot : ℕ) (columns : List Column) (stamp : ℤ) (places all : List Place) (index : ℕ) (place : Place) (v w : Contents) (change : Row → Row) (result : Result Bool E) → (h : IsHolder stamp places index) → place ≡ h.place → places ≡ all
    → ArePlaces columns v all → IfOk result (one.IsChanged tells slot columns stamp change (place ∷ []) v w) → IfOk result (IsChanged tells slot columns stamp change all v w)
changed_answer tells slot columns stamp places all index place v w change result h here same are ok =
    if_ok (one.IsChanged tells slot columns stamp change (place ∷ []) v w) (IsChanged tells slot columns stamp change all v w) result
    (λ done changed. subst (λ (ps : List Place). IsChanged tells slot columns stamp change ps v w done) same
    (changed_in tells slot columns stamp places index v w h (subst (λ (ps : List Place). ArePlaces columns v ps) (sym same) are) change done
    (subst (λ (p : Place). one.IsChanged tells slot columns stamp change (p ∷ []) v w done) here changed))) ok
