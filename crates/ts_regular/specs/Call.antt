-- What the calls do to the pages of a regular series.
pub use Rattle.ts_page.specs.Unchanged.{Reads, Stays, AreLeft}
use Rattle.std.specs.Prelude.{◌≡◌, ◌⊎◌, ℕ, ◌+◌, ◌≤◌, Bool, true, false, IsTrue, Option, Some, None, IsSome, Contains}
use Rattle.std.specs.Prelude.{List, length, pos}
use Rattle.ts_space.specs.declared.place.Place.{Place}
use Rattle.ts_space.specs.declared.moved.Moved.{Moved}
use Rattle.ts_space.specs.Place.{count_of, pages_of, place_at}
use Rattle.ts_space.specs.Moved.{moved_to}
use Rattle.ts_page.specs.Pages.{Contents}
use Rattle.ts_row.specs.declared.kind.Column.{Column}
use Rattle.ts_row.specs.Row.{Row, marked}
use Rattle.ts_regular.specs.RegularPage.{base_of, OffsetElement, element_at, with_element, without_element, last_seen}
use Rattle.ts_regular.specs.Places.{OffsetPage, all_in, AreOn, AreMoved}

-- Where the pages are told, this holds of the cells that they have and their places tell of. Of pages that have none
-- such it says nothing.
abbrev pub IsTold : Bool → ℕ → List Column → List Place → Contents → (List OffsetPage → Type 0) → Type 0
IsTold tells slot columns places v P = IsTrue tells → (ps : List OffsetPage) → AreOn slot columns v.page places ps
    → P ps

-- this is the row at an offset
abbrev pub IsRowIn : Bool → ℕ → List Column → ℕ → List Place → Contents → Option Row → Type 0
IsRowIn tells slot columns offset places v row =
    IsTold tells slot columns places v (λ ps. row ≡ element_at offset (all_in ps))

-- this is the last element that isn't hidden
abbrev pub IsLastIn : Bool → ℕ → List Column → List Place → Contents → Option OffsetElement → Type 0
IsLastIn tells slot columns places v last = IsTold tells slot columns places v (λ ps. last ≡ last_seen (all_in ps))

-- The pages have cells with these elements, of which the new places tell; no page changed but those of the old places
-- and those that `take` could give.
pub record AreWritten (slot : ℕ) (columns : List Column) (es : List OffsetElement) (old new : List Place)
    (v w : Contents) : Type 0 where
  pub cells : List OffsetPage
  pub all : all_in cells ≡ es
  pub on : AreOn slot columns w.page new cells
  pub others : (number : ℕ) → ¬ Contains (pages_of old) number → ¬ Contains v.free number
      → w.page number ≡ v.page number

-- places become others, no more than they were, or one more where no page of them has a cell for an offset
abbrev pub HaveOneMore : List Column → ℕ → List Place → List Place → Type 0
HaveOneMore columns offset old new =
    (length new ≤ length old) ⊎ ((place_at (pos (base_of columns offset)) old ≡ None) × (length new ≤ length old + 1))

-- a row is put at an offset, and the places become these
pub record IsPut (tells : Bool) (slot : ℕ) (columns : List Column) (offset : ℕ) (row : Row) (old new : List Place)
    (v w : Contents) : Type 0 where
  pub places : AreMoved columns old new v w
  pub count : count_of new ≤ count_of old + 1
  pub pages : HaveOneMore columns offset old new
  pub put : IsTold tells slot columns old v
      (λ ps. AreWritten slot columns (with_element offset row (all_in ps)) old new v w)

-- one of the told elements is at the offset, and its row is changed; all places stay
pub record IsPutOver (tells : Bool) (slot : ℕ) (columns : List Column) (offset : ℕ) (change : Row
    → Row) (places : List Place) (v w : Contents) : Type 0 where
  pub free : w.free ≡ v.free
  pub there : IsTold tells slot columns places v (λ ps. IsSome (element_at offset (all_in ps)))
  pub put : IsTold tells slot columns places v
      (λ ps. (row : Row) → element_at offset (all_in ps) ≡ Some row
      → AreWritten slot columns (with_element offset (change row) (all_in ps)) places places v w)

-- none of the told elements is at the offset, and everything stays
pub record IsMissing (tells : Bool) (slot : ℕ) (columns : List Column) (offset : ℕ) (places : List Place)
    (v w : Contents) : Type 0 where
  pub absent : IsTold tells slot columns places v (λ ps. element_at offset (all_in ps) ≡ None)
  pub same : Stays tells v w

-- the element at an offset is hidden or revealed, with the values that it has, or none is there
abbrev pub IsMarked : Bool → ℕ → List Column → ℕ → Bool → List Place → Contents → Contents → Bool → Type 0
IsMarked tells slot columns offset hidden places v w true =
    IsPutOver tells slot columns offset (marked hidden) places v w
IsMarked tells slot columns offset hidden places v w false = IsMissing tells slot columns offset places v w

-- the element at an offset is taken away, and the places become these
pub record IsTakenAway (tells : Bool) (slot : ℕ) (columns : List Column) (offset : ℕ) (old new : List Place)
    (v w : Contents) : Type 0 where
  pub places : AreMoved columns old new v w
  pub count : count_of new ≤ count_of old
  pub there : IsTold tells slot columns old v (λ ps. IsSome (element_at offset (all_in ps)))
  pub left : IsTold tells slot columns old v
      (λ ps. AreWritten slot columns (without_element offset (all_in ps)) old new v w)

-- an element is taken away, or none is there
abbrev pub IsRemoved : Bool → ℕ → List Column → ℕ → List Place → Contents → Contents → Option Moved → Type 0
IsRemoved tells slot columns offset places v w (Some moved) = IsTakenAway tells slot columns offset places
    (moved_to moved places) v w
IsRemoved tells slot columns offset places v w None = IsMissing tells slot columns offset places v w
