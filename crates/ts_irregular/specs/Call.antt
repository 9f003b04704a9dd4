-- What the calls do to pages and places.
pub use Rattle.ts_page.specs.Unchanged.{Reads, Stays, AreLeft}
use Rattle.std.specs.Prelude.{◌≡◌, ℕ, ◌+◌, ◌≤◌, ℤ, Bool, true, false, IsTrue, Option, Some, None, IsSome, Ok, List, []}
use Rattle.std.specs.Prelude.{◌∷◌, length}
use Rattle.ts_space.specs.declared.place.Place.{Place}
use Rattle.ts_page.specs.Pages.{zero_page, Contents, EqualPages, with_page}
use Rattle.ts_row.specs.declared.kind.Column.{Column}
use Rattle.ts_row.specs.Row.{Row, marked, Element}
use Rattle.ts_cells.specs.IrregularPage.{page_room, AreInOrder, irregular_page}
use Rattle.ts_irregular.specs.Edit.{element_at, with_element, last_seen, search_of}
use Rattle.ts_irregular.specs.OnePage.{place_of, IsOn, AreOn}

-- Where the pages are told, this is the row at a stamp among the elements that they have and their places tell of. Of
-- pages that have none such it says nothing.
abbrev pub IsRowThere : Bool → ℕ → List Column → ℤ → List Place → Contents → Option Row → Type 0
IsRowThere tells slot columns stamp places v row = IsTrue tells → (es : List Element)
    → AreOn slot columns v.page places es → row ≡ element_at stamp es

-- Where the pages are told, this is the last one that isn't hidden of the elements that they have and their places tell
-- of. Of pages that have none such it says nothing.
abbrev pub IsLast : Bool → ℕ → List Column → List Place → Contents → Option Element → Type 0
IsLast tells slot columns places v last = IsTrue tells → (es : List Element) → AreOn slot columns v.page places es
    → last ≡ last_seen es

-- a series without elements stays one
pub record StaysEmpty (tells : Bool) (now : List Place) (v w : Contents) : Type 0 where
  pub places : now ≡ []
  pub free : w.free ≡ v.free
  pub pages : IsTrue tells → EqualPages v.page w.page

-- the page of a series has these elements
pub record IsPagePut (tells : Bool) (slot : ℕ) (columns : List Column) (number : ℕ) (es : List Element)
    (now : List Place) (v w : Contents) : Type 0 where
  pub places : now ≡ place_of number es
  pub pages : IsTrue tells → EqualPages (with_page number (irregular_page slot columns es) v.page) w.page

-- the page of a series is free
pub record IsPageFreed (tells : Bool) (number : ℕ) (now : List Place) (v w : Contents) : Type 0 where
  pub places : now ≡ []
  pub free : w.free ≡ number ∷ v.free
  pub pages : IsTrue tells → EqualPages (with_page number zero_page v.page) w.page

-- A series that had these places has these elements and these places: a first page is taken, and one without elements
-- is freed.
abbrev pub AreKept : Bool → ℕ → List Column → List Place → List Element → List Place → Contents → Contents → Type 0
AreKept tells slot columns [] [] now v w = StaysEmpty tells now v w
AreKept tells slot columns [] (e ∷ es) now v w =
    (number : ℕ) × (v.free ≡ number ∷ w.free) × IsPagePut tells slot columns number (e ∷ es) now v w
AreKept tells slot columns (place ∷ others) [] now v w = IsPageFreed tells place.page now v w
AreKept tells slot columns (place ∷ others) (e ∷ es) now v w =
    (w.free ≡ v.free) × IsPagePut tells slot columns place.page (e ∷ es) now v w

-- these elements of a series are put: they are in order, there is room for them, and they are kept
pub record ArePut (tells : Bool) (slot : ℕ) (columns : List Column) (old : List Place) (es : List Element)
    (new : List Place) (v w : Contents) : Type 0 where
  pub order : AreInOrder columns es
  pub room : length es ≤ page_room columns
  pub kept : AreKept tells slot columns old es new v w

-- Where the pages are told, this holds of the elements that they have and their places tell of. Of pages that have none
-- such it says nothing.
abbrev pub IsTold : Bool → ℕ → List Column → List Place → Contents → (List Element → Type 0) → Type 0
IsTold tells slot columns places v P = IsTrue tells → (es : List Element) → AreOn slot columns v.page places es → P es

-- On every volume: a series that had these places has this one, of its page or of one that was taken, with one element
-- more; or with fewer, where its page disagreed with its place.
abbrev pub IsOneMore : List Place → Place → Contents → Contents → Type 0
IsOneMore [] new v w = (v.free ≡ new.page ∷ w.free) × (new.count ≡ 1)
IsOneMore (old ∷ others) new v w = (w.free ≡ v.free) × (new.page ≡ old.page) × (1 ≤ new.count)
    × (new.count ≤ old.count + 1)

-- one of the told elements is at the stamp, and its row is changed; all places stay
pub record IsPutOver (tells : Bool) (slot : ℕ) (columns : List Column) (stamp : ℤ) (change : Row
    → Row) (places : List Place) (v w : Contents) : Type 0 where
  pub free : w.free ≡ v.free
  pub there : IsTold tells slot columns places v (λ es. IsSome (element_at stamp es))
  pub put : IsTold tells slot columns places v
      (λ es. (row : Row) → element_at stamp es ≡ Some row
      → ArePut tells slot columns places (with_element stamp (change row) es) places v w)

-- none of the told elements is at the stamp, and everything stays
pub record IsMissing (tells : Bool) (slot : ℕ) (columns : List Column) (stamp : ℤ) (places : List Place)
    (v w : Contents) : Type 0 where
  pub absent : IsTold tells slot columns places v (λ es. element_at stamp es ≡ None)
  pub same : Stays tells v w

-- the row at a stamp is changed, or none is there
abbrev pub IsChanged : Bool → ℕ → List Column → ℤ → (Row → Row) → List Place → Contents → Contents → Bool → Type 0
IsChanged tells slot columns stamp change places v w true = IsPutOver tells slot columns stamp change places v w
IsChanged tells slot columns stamp change places v w false = IsMissing tells slot columns stamp places v w

-- a row is put in place of one, or none is there
abbrev pub IsReplaced : Bool → ℕ → List Column → ℤ → Row → List Place → Contents → Contents → Bool → Type 0
IsReplaced tells slot columns stamp row places v w done =
    IsChanged tells slot columns stamp (λ old. row) places v w done

-- the element at a stamp is hidden or revealed, with the values that it has, or none is there
abbrev pub IsMarked : Bool → ℕ → List Column → ℤ → Bool → List Place → Contents → Contents → Bool → Type 0
IsMarked tells slot columns stamp hidden places v w done =
    IsChanged tells slot columns stamp (marked hidden) places v w done

-- Where a stamp stands on the page of a series that was read: at this index, the page having these bytes; or nowhere.
pub record IsIndexOf (tells : Bool) (slot : ℕ) (columns : List Column) (stamp : ℤ) (place : Place) (bytes : List ℕ)
    (index : ℕ) (v : Contents) : Type 0 where
  pub on : IsTold tells slot columns (place ∷ []) v (λ es. IsOn slot columns bytes place es)
  pub at : IsTold tells slot columns (place ∷ []) v (λ es. Ok index ≡ search_of stamp es)

abbrev pub IsIndexOn : Bool → ℕ → List Column → ℤ → Place → List ℕ → Contents → Contents → Option ℕ → Type 0
IsIndexOn tells slot columns stamp place bytes v w (Some index) = IsIndexOf tells slot columns stamp place bytes index v
IsIndexOn tells slot columns stamp place bytes v w None = IsMissing tells slot columns stamp (place ∷ []) v w
