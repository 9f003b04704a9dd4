-- What an insert and a replacement leave, put together from what their parts leave.
use Rattle.std.proofs.Common.{◌≡◌, ℕ, ◌+◌, ◌<◌, ◌≤◌, Bool, true, IsTrue, ℤ, Option, Some, None, IsSome, is_some, Result, Ok, Err, List, [], ◌∷◌, ◌++◌, length, take, drop, refl, sym, ap, subst, ◌∙◌, arith}
use borrow.Rule.Slice.PartMut.{mid_of, put_mid}
use Rattle.std.specs.List.{slice_get}
use Rattle.std.specs.Result.{result_ok}
use Rattle.ts_base.specs.Moment.{IsStamp}
use Rattle.ts_space.specs.declared.place.Place.{Place}
use Rattle.ts_page.specs.Pages.{Contents, EqualPages, Got, Put, Taken, IsElementPage}
use Rattle.ts_row.specs.declared.kind.Column.{Column}
use Rattle.ts_row.specs.Row.{Row, fits}
use Rattle.ts_cells.specs.IrregularPage.{Element, IsElement, page_room, AreElements, AreInOrder, IsIrregularPage, behind_head, irregular_page, first_stamp}
use Rattle.ts_irregular.specs.Edit.{element_at, with_element, search_of}
use Rattle.ts_irregular.specs.OnePage.{IsOn, place_of}
use Rattle.ts_irregular.specs.Call.{ArePut, IsTold, IsPutOver, IsMissing, IsIndexOf, IsIndexOn}
use Rattle.ts_irregular.proofs.BytesLemmas.{part, length-replaced}
use Rattle.ts_irregular.proofs.CellLemmas.{element_is}
use Rattle.ts_irregular.proofs.EditLemmas.{with_in_order, first_kept, rank_below_length}
use Rattle.ts_irregular.proofs.FindLemmas.{read_on}
use Rattle.ts_irregular.proofs.HeadLemmas.{part_behind, length-page, cells_put}
use Rattle.ts_irregular.proofs.KeptLemmas.{put_after, kept_put, kept_after, place_is, some_same}
use Rattle.ts_irregular.proofs.PutLemmas.{put_instead}
use Rattle.ts_irregular.proofs.SearchLemmas.{search_ok, search_err, at_rank, found as found_by}
use Rattle.ts_irregular.proofs.SeeLemmas.{behind_told, some_one}

some_is : {A : Type 0} (o : Option A) → is_some o ≡ true → IsSome o
some_is (Some a) some = refl
some_is None some = absurd (cc)

-- a page whose elements are as many and begin at the same stamp keeps its place
place_stays : (place : Place) (es : List Element) → length es ≡ place.count → first_stamp es ≡ Some place.at → place_of place.page es ≡ place ∷ []
place_stays place [] count first = absurd (cc)
place_stays place (e ∷ es) count first = sym (place_is place e es count (some_same first))

-- elements are put on the page that was read
put_told : (tells : Bool) (slot : ℕ) (columns : List Column) (place : Place) (page : List ℕ) (v u w : Contents) → (IsTrue tells → EqualPages v.page u.page) → u.free ≡ v.free → Put tells place.page page (Ok tt) u w
    → (es : List Element) (now : Place) → AreInOrder columns es → 1 ≤ length es → length es ≤ page_room columns → page ≡ irregular_page slot columns es → place_of place.page es ≡ now ∷ []
    → ArePut tells slot columns (place ∷ []) es (now ∷ []) v w
put_told tells slot columns place page v u w pages free put es now order some room made listed = record {
  order = order;
  room = room;
  kept = kept_after tells slot columns place es (now ∷ []) v u w pages free
      (kept_put tells slot columns place es (now ∷ []) u w some put.free
      (record { places = sym listed; pages = λ told. put_after place.page page (irregular_page slot columns es) u.page u.page w.page made (λ n. refl) (put.put told) }));
}

-- the elements that the place of a page tells of, in what it was taken for
pub record AreRead (columns : List Column) (place : Place) (size : ℕ) (bytes : List ℕ) (es : List Element) : Type 0 where
  pub order : AreInOrder columns es
  pub told : length es ≡ place.count
  pub count : length es ≡ size
  pub first : first_stamp es ≡ Some place.at
  pub behind : drop 32 bytes ≡ behind_head columns es
  pub part : mid_of 32 4064 bytes ≡ behind_head columns es

-- the page of a series was read, and taken for one of so many elements
module _ (tells : Bool) (slot : ℕ) (columns : List Column) (stamp : ℤ) (place : Place) (got_bytes : List ℕ) (v u : Contents) (element : IsElementPage place.page) (got : Got tells place.page got_bytes (Ok tt) v u)
    (count : ℕ) (bytes : List ℕ) (taken : (es : List Element) → IsOn slot columns got_bytes place es → (length es ≡ count) × (bytes ≡ got_bytes)) where
  pub are_read : IsTold tells slot columns (place ∷ []) v (AreRead columns place count bytes)
  are_read t es on =
      let read = read_on tells slot columns (place ∷ []) place got_bytes v u refl element got t es on in
      let own = taken es read in
      let order = read.bytes.fill.elements in
      let is : IsIrregularPage slot columns es bytes = subst (λ (b : List ℕ). IsIrregularPage slot columns es b) (sym own.1) read.bytes in
      let behind = behind_told slot columns es bytes is in
      record {
        order = order;
        told = read.count;
        count = own.0;
        first = read.first;
        behind = behind;
        part = part_behind 4064 bytes (length-page columns es bytes order.each read.bytes.fill.room behind) ∙ behind;
      }

  -- and its stamps were searched
  abbrev pub Searched : Result ℕ ℕ → Type 0
  Searched found = (es : List Element) → AreInOrder columns es → length es ≡ count → mid_of 32 4064 bytes ≡ behind_head columns es → found ≡ search_of stamp es

  searched_in : (found : Result ℕ ℕ) → Searched found → IsTold tells slot columns (place ∷ []) v (λ es. found ≡ search_of stamp es)
  searched_in found searched t es on = let r = are_read t es on in searched es r.order r.count r.part

  pub absent_told : (index : ℕ) → Searched (Err index) → IsTold tells slot columns (place ∷ []) v (λ es. element_at stamp es ≡ None)
  absent_told index searched t es on = (search_err stamp es index (searched_in (Err index) searched t es on)).0

  pub is_missing : (index : ℕ) → Searched (Err index) → IsMissing tells slot columns stamp (place ∷ []) v u
  is_missing index searched = record { absent = absent_told index searched; same = record { free = got.free; pages = got.pages } }

  -- so the stamp has an index, or none is there
  pub index_found : (found : Result ℕ ℕ) → Searched found → IsIndexOn tells slot columns stamp place got_bytes v u (result_ok found)
  index_found (Ok index) searched = record {
    on = λ t es on. read_on tells slot columns (place ∷ []) place got_bytes v u refl element got t es on;
    at = searched_in (Ok index) searched;
  }
  index_found (Err index) searched = is_missing index searched

-- the row at a stamp was changed: the page was read, and put with another cell at the index of the stamp
module _ (tells : Bool) (slot : ℕ) (columns : List Column) (stamp : ℤ) (place : Place) (change : Row → Row) (keeps : (row : Row) → IsTrue (fits columns row) → IsTrue (fits columns (change row)))
    (bytes new : List ℕ) (index : ℕ) (v u w : Contents) (pages : IsTrue tells → EqualPages v.page u.page) (free : u.free ≡ v.free) (is : IsIndexOf tells slot columns stamp place bytes index v)
    (put : Put tells place.page (put_mid 32 4064 bytes new) (Ok tt) u w)
    (changed : (es : List Element) (e : Element) → AreElements columns es → slice_get es index ≡ Some e → e.0 ≡ stamp → mid_of 32 4064 bytes ≡ behind_head columns es
    → new ≡ behind_head columns (take index es ++ (stamp, change e.1) ∷ drop (index + 1) es)) where
  -- the element that is there, and the page with its row changed
  record IsThere (es : List Element) : Type 0 where
    row : Row
    there : element_at stamp es ≡ Some row
    put_there : ArePut tells slot columns (place ∷ []) (with_element stamp (change row) es) (place ∷ []) v w

  is_there : IsTold tells slot columns (place ∷ []) v IsThere
  is_there t es told =
      let on = is.on t es told in
      let found = is.at t es told in
      let order = on.bytes.fill.elements in
      let there = search_ok stamp es index found in
      let behind = behind_told slot columns es bytes on.bytes in
      let long = length-page columns es bytes order.each on.bytes.fill.room behind in
      let part_is = part_behind 4064 bytes long ∙ behind in
      let within : index < length es = let below = rank_below_length stamp es order.rising there.0 in omega (arith, below, there.1) in
      let p = part columns index es (mid_of 32 4064 bytes) order.each within part_is in
      let here : p.element.0 ≡ stamp = at_rank columns stamp index es (mid_of 32 4064 bytes) p order.rising there.1 there.0 in
      let with_it = put_instead stamp (change p.element.1) es index order.rising found in
      let size : length (with_element stamp (change p.element.1) es) ≡ length es =
      ap length with_it ∙ length-replaced index (stamp, change p.element.1) es within in
      let made = changed es p.element order.each (element_is columns index es (mid_of 32 4064 bytes) p) here part_is ∙ ap (behind_head columns) (sym with_it) in
      let whole = cells_put slot columns es (with_element stamp (change p.element.1) es) bytes new on.bytes.bytes long (sym size) made in
      let fitting : IsElement columns (stamp, change p.element.1) = record { stamp = subst IsStamp here p.is.stamp; row = keeps p.element.1 p.is.row } in
      let some = on.bytes.fill.some in
      record {
        row = p.element.1;
        there = found_by columns stamp index es (mid_of 32 4064 bytes) p order.rising here;
        put_there = put_told tells slot columns place (put_mid 32 4064 bytes new) v u w pages free put (with_element stamp (change p.element.1) es) place
            (with_in_order columns stamp (change p.element.1) es order fitting) (omega (arith, size, some)) (omega (arith, size, on.bytes.fill.room)) whole
            (place_stays place (with_element stamp (change p.element.1) es) (size ∙ on.count) (first_kept stamp (change p.element.1) es order.rising there.0 ∙ on.first));
      }

  pub put_over : IsPutOver tells slot columns stamp change (place ∷ []) v w
  put_over = record {
    free = put.free ∙ free;
    there = λ t es told. some_is (element_at stamp es) (ap is_some (is_there t es told).there);
    put = λ t es told row at.
        let here = is_there t es told in
        let same : here.row ≡ row = some_one (sym here.there ∙ at) in
        subst (λ (r : Row). ArePut tells slot columns (place ∷ []) (with_element stamp (change r) es) (place ∷ []) v w) same here.put_there;
  }

-- a first element is put on a page that was taken
pub put_alone : (tells : Bool) (slot number : ℕ) (columns : List Column) (e : Element) (now : Place) (page : List ℕ) (v u w : Contents) → Taken tells number v u → IsElement columns e → page ≡ irregular_page slot columns (e ∷ []) → 1 ≤ page_room columns
    → Put tells number page (Ok tt) u w → place_of number (e ∷ []) ≡ now ∷ [] → ArePut tells slot columns [] (e ∷ []) (now ∷ []) v w
put_alone tells slot number columns e now page v u w taken is made room put listed = record {
  order = record { each = (is, tt); rising = tt };
  room = omega (arith, room);
  kept = (
    number,
    taken.listed ∙ ap (λ (l : List ℕ). number ∷ l) (sym put.free),
    record { places = sym listed; pages = λ told. put_after number page (irregular_page slot columns (e ∷ [])) v.page u.page w.page made (taken.pages told) (put.put told) },
  );
}
