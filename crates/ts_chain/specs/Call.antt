-- What the calls do to the pages of a series, whatever their number.
use Rattle.std.specs.Prelude.{◌≡◌, ℕ, ◌+◌, ◌≤◌, ℤ, Bool, true, false, IsTrue, Option, Some, None, IsSome, Contains}
use Rattle.std.specs.Prelude.{List, ◌++◌, IsPermutation}
use Rattle.ts_space.specs.declared.place.Place.{Place}
use Rattle.ts_page.specs.Pages.{zero_page, Contents}
use Rattle.ts_row.specs.declared.kind.Column.{Column}
use Rattle.ts_row.specs.Row.{Row, marked, Element}
use Rattle.ts_irregular.specs.Edit.{element_at, with_element, without_element, last_seen}
use Rattle.ts_irregular.specs.Call.{Stays}
use Rattle.ts_space.specs.Place.{count_of}
use Rattle.ts_space.specs.declared.moved.Moved.{Moved}
use Rattle.ts_sheets.specs.Stamped.{IsChain, all_in, place_for}
use Rattle.ts_space.specs.Place.{pages_of}
use Rattle.ts_space.specs.Moved.{moved_to}
use Rattle.ts_sheets.specs.Places.{AreChained, AreMoved}

-- Where the pages are told, this holds of the chain that they have and their places tell of. Of pages that have none
-- such it says nothing.
abbrev pub IsTold : Bool → ℕ → List Column → List Place → Contents → (List (List Element) → Type 0) → Type 0
IsTold tells slot columns places v P = IsTrue tells → (chain : List (List Element))
    → AreChained slot columns v.page places chain → IsChain columns chain → P chain

-- this is the row at a stamp
abbrev pub IsRowIn : Bool → ℕ → List Column → ℤ → List Place → Contents → Option Row → Type 0
IsRowIn tells slot columns stamp places v row =
    IsTold tells slot columns places v (λ chain. row ≡ element_at stamp (all_in chain))

-- The pages have a chain with these elements, of which the new places tell; no page changed but those of the old places
-- and those that `take` could give.
pub record AreWritten (slot : ℕ) (columns : List Column) (es : List Element) (old new : List Place)
    (v w : Contents) : Type 0 where
  pub chain : List (List Element)
  pub is : IsChain columns chain
  pub all : all_in chain ≡ es
  pub on : AreChained slot columns w.page new chain
  pub others : (number : ℕ) → ¬ Contains (pages_of old) number → ¬ Contains v.free number
      → w.page number ≡ v.page number

-- one of the told elements is at the stamp, and its row is changed; all places stay
pub record IsPutOver (tells : Bool) (slot : ℕ) (columns : List Column) (stamp : ℤ) (change : Row
    → Row) (places : List Place) (v w : Contents) : Type 0 where
  pub free : w.free ≡ v.free
  pub there : IsTold tells slot columns places v (λ chain. IsSome (element_at stamp (all_in chain)))
  pub put : IsTold tells slot columns places v
      (λ chain. (row : Row) → element_at stamp (all_in chain) ≡ Some row
      → AreWritten slot columns (with_element stamp (change row) (all_in chain)) places places v w)

-- none of the told elements is at the stamp, and everything stays
pub record IsMissing (tells : Bool) (slot : ℕ) (columns : List Column) (stamp : ℤ) (places : List Place)
    (v w : Contents) : Type 0 where
  pub absent : IsTold tells slot columns places v (λ chain. element_at stamp (all_in chain) ≡ None)
  pub same : Stays tells v w

-- the row at a stamp is changed, or none is there
abbrev pub IsChanged : Bool → ℕ → List Column → ℤ → (Row → Row) → List Place → Contents → Contents → Bool → Type 0
IsChanged tells slot columns stamp change places v w true = IsPutOver tells slot columns stamp change places v w
IsChanged tells slot columns stamp change places v w false = IsMissing tells slot columns stamp places v w

-- a row is put in place of one, or none is there
abbrev pub IsReplaced : Bool → ℕ → List Column → ℤ → Row → List Place → Contents → Contents → Bool → Type 0
IsReplaced tells slot columns stamp row places v w done =
    IsChanged tells slot columns stamp (λ old. row) places v w done

-- the element at a stamp is hidden or revealed, with the values that it has, or none is there
abbrev pub IsMarked : Bool → ℕ → List Column → ℤ → Bool → List Place → Contents → Contents → Bool → Type 0
IsMarked tells slot columns stamp hidden places v w done =
    IsChanged tells slot columns stamp (marked hidden) places v w done

-- this is the last element that isn't hidden
abbrev pub IsLastIn : Bool → ℕ → List Column → List Place → Contents → Option Element → Type 0
IsLastIn tells slot columns places v last = IsTold tells slot columns places v (λ chain. last
    ≡ last_seen (all_in chain))

-- this is where an element is put at a stamp
abbrev pub IsPlaceIn : Bool → ℕ → List Column → ℤ → List Place → Contents → Option ℤ → Type 0
IsPlaceIn tells slot columns stamp places v put =
    IsTold tells slot columns places v (λ chain. put ≡ place_for stamp (all_in chain))

-- the element at a stamp is taken away, and the places become these
pub record IsTakenAway (tells : Bool) (slot : ℕ) (columns : List Column) (stamp : ℤ) (old new : List Place)
    (v w : Contents) : Type 0 where
  pub places : AreMoved columns old new v w
  pub count : count_of new ≤ count_of old
  pub there : IsTold tells slot columns old v (λ chain. IsSome (element_at stamp (all_in chain)))
  pub left : IsTold tells slot columns old v
      (λ chain. AreWritten slot columns (without_element stamp (all_in chain)) old new v w)

-- an element is taken away, or none is there
abbrev pub IsRemoved : Bool → ℕ → List Column → ℤ → List Place → Contents → Contents → Option Moved → Type 0
IsRemoved tells slot columns stamp places v w (Some moved) = IsTakenAway tells slot columns stamp places
    (moved_to moved places) v w
IsRemoved tells slot columns stamp places v w None = IsMissing tells slot columns stamp places v w

-- A row is put at a stamp at which none of the told elements stands, and the places become these. Where a page
-- disagrees with its place the elements can become fewer, never more than one more.
pub record IsPutNew (tells : Bool) (slot : ℕ) (columns : List Column) (stamp : ℤ) (row : Row) (old new : List Place)
    (v w : Contents) : Type 0 where
  pub places : AreMoved columns old new v w
  pub count : count_of new ≤ count_of old + 1
  pub absent : IsTold tells slot columns old v (λ chain. element_at stamp (all_in chain) ≡ None)
  pub put : IsTold tells slot columns old v
      (λ chain. AreWritten slot columns (with_element stamp row (all_in chain)) old new v w)

-- one of the told elements is at the stamp, and everything stays
pub record IsThereAlready (tells : Bool) (slot : ℕ) (columns : List Column) (stamp : ℤ) (places : List Place)
    (v w : Contents) : Type 0 where
  pub there : IsTold tells slot columns places v (λ chain. IsSome (element_at stamp (all_in chain)))
  pub same : Stays tells v w
  pub bytes : w.change_bytes ≡ v.change_bytes

-- a row is put, and the places become others; or one is there
abbrev pub IsInserted : Bool → ℕ → List Column → ℤ → Row → List Place → Contents → Contents → Option Moved → Type 0
IsInserted tells slot columns stamp row places v w (Some moved) = IsPutNew tells slot columns stamp row places
    (moved_to moved places) v w
IsInserted tells slot columns stamp row places v w None = IsThereAlready tells slot columns stamp places v w

-- the pages of some places are freed, and no other page changes, nor loses its image in the open batch
pub record AreFreed (tells : Bool) (places : List Place) (v w : Contents) : Type 0 where
  pub free : IsPermutation (v.free ++ pages_of places) w.free
  pub zero : IsTrue tells → (number : ℕ) → Contains (pages_of places) number → w.page number ≡ zero_page
  pub others : IsTrue tells → (number : ℕ) → ¬ Contains (pages_of places) number → w.page number ≡ v.page number
  pub images : (number : ℕ) → ¬ Contains (pages_of places) number → IsTrue (v.imaged number) → IsTrue (w.imaged number)

-- where the pages are told, no page changed but those of these places and those that `take` could give
abbrev pub ChangesOnlyPages : Bool → List Place → Contents → Contents → Type 0
ChangesOnlyPages tells old v w = IsTrue tells → (number : ℕ) → ¬ Contains (pages_of old) number
    → ¬ Contains v.free number → w.page number ≡ v.page number
