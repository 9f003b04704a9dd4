-- The places of a series beside its chain.
use Rattle.std.specs.Prelude.{◌≡◌, ◌≢◌, ◌⊎◌, ℕ, ◌≤◌, ℤ, ◌≤ℤ◌, All, AllPairs, List, [], ◌∷◌, ◌++◌, length}
use Rattle.std.specs.Prelude.{◌+◌, IsPermutation}
use Rattle.ts_space.specs.declared.place.Place.{Place}
use Rattle.ts_space.specs.Place.{AreAbove, IsRising, pages_of}
use Rattle.ts_page.specs.Pages.{Contents}
use Rattle.ts_row.specs.declared.kind.Column.{Column}
use Rattle.ts_row.specs.Row.{Element}
use Rattle.ts_cells.specs.IrregularPage.{page_room}
use Rattle.ts_irregular.specs.OnePage.{IsPlace, IsOn}
pub use Rattle.ts_regular.specs.Places.{CanBeRead}
pub use Rattle.ts_regular.specs.Cut.{CanBeFreed}

-- the pages have the elements of a chain, each those that its place tells of
abbrev pub AreChained : ℕ → List Column → (ℕ → List ℕ) → List Place → List (List Element) → Type 0
AreChained slot columns pages [] [] = Unit {0}
AreChained slot columns pages [] (es ∷ chain) = ⊥
AreChained slot columns pages (place ∷ places) [] = ⊥
AreChained slot columns pages (place ∷ places) (es ∷ chain) = IsOn slot columns (pages place.page) place es
    × AreChained slot columns pages places chain

-- each place is that of an element page which `take` can't give, with some elements and no more than there is room for;
-- and no page has two
pub record ArePlaces (columns : List Column) (c : Contents) (places : List Place) : Type 0 where
  pub each : All (IsPlace columns c) places
  pub different : AllPairs (λ a b. a ≢ b) (pages_of places)

-- the place that begins last among those that begin at a stamp or before it
pub record IsHolder (at : ℤ) (places : List Place) (index : ℕ) : Type 0 where
  pub front : List Place
  pub place : Place
  pub back : List Place
  pub parts : places ≡ front ++ place ∷ back
  pub index_is : length front ≡ index
  pub begins : place.at ≤ℤ at
  pub above : AreAbove at back

-- The place whose page a stamp is put on: the one that holds it, or the first where all begin later.
pub record IsTarget (at : ℤ) (places : List Place) (index : ℕ) : Type 0 where
  pub front : List Place
  pub place : Place
  pub back : List Place
  pub parts : places ≡ front ++ place ∷ back
  pub index_is : length front ≡ index
  pub begins : (place.at ≤ℤ at) ⊎ (front ≡ [])
  pub above : AreAbove at back

-- a place has some elements, and no more than there is room for
pub record IsCounted (columns : List Column) (place : Place) : Type 0 where
  pub some : 1 ≤ place.count
  pub room : place.count ≤ page_room columns

-- On every volume: the pages of the places and those that `take` can give are together the same ones before and after,
-- the places rise, and each has some elements and no more than there is room for.
pub record AreMoved (columns : List Column) (old new : List Place) (v w : Contents) : Type 0 where
  pub pages : IsPermutation (v.free ++ pages_of old) (w.free ++ pages_of new)
  pub rising : IsRising new
  pub counts : All (IsCounted columns) new

-- the last of the places and so many elements more fit one page
abbrev pub FitsLast : ℕ → ℕ → List Place → Type 0
FitsLast q n [] = ⊥
FitsLast q n (p ∷ []) = p.count + n ≤ q
FitsLast q n (p ∷ r ∷ places) = FitsLast q n (r ∷ places)

-- so many elements and the first of the places do
abbrev pub FitsFirst : ℕ → ℕ → List Place → Type 0
FitsFirst q n [] = ⊥
FitsFirst q n (p ∷ places) = n + p.count ≤ q

-- Where a page begins that lost an element: not before it did, and below the places behind it; where the stamp that was
-- read there is so, it is that.
pub record IsBeginning (at begins : ℤ) (place : Place) (back : List Place) : Type 0 where
  pub low : place.at ≤ℤ begins
  pub above : AreAbove begins back
  pub told : place.at ≤ℤ at → AreAbove at back → begins ≡ at
