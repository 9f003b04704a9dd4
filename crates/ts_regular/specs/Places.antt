-- The places of a regular series beside its pages.
use Rattle.std.specs.Prelude.{◌≡◌, ◌≢◌, ℕ, ◌<◌, ◌≤◌, pos, All, AllPairs, Contains, IsPermutation, List, [], ◌∷◌, ◌++◌}
use Rattle.ts_space.specs.declared.place.Place.{Place}
use Rattle.ts_space.specs.Place.{IsRising, pages_of}
use Rattle.ts_page.specs.Pages.{Contents, IsElementPage}
use Rattle.ts_row.specs.declared.kind.Column.{Column}
use Rattle.ts_regular.specs.RegularPage.{Cell, regular_room, OffsetElement, elements_from, IsRegularPage, filled_count}

-- a page of a series: the offset of its first cell, and its cells
abbrev pub OffsetPage : Type 0
OffsetPage = ℕ × List Cell

-- the elements of all pages, one page after the other
abbrev pub all_in : List OffsetPage → List OffsetElement
all_in [] = []
all_in (p ∷ ps) = elements_from p.0 p.1 ++ all_in ps

-- a page has these cells of the series in a slot, and they are those that its place tells of
pub record IsOn (slot : ℕ) (columns : List Column) (page : List ℕ) (place : Place) (p : OffsetPage) : Type 0 where
  pub bytes : IsRegularPage slot columns p.0 p.1 page
  pub count : filled_count p.1 ≡ place.count
  pub at : place.at ≡ pos p.0

-- the pages have these cells of the series in a slot where its places tell of them
abbrev pub AreOn : ℕ → List Column → (ℕ → List ℕ) → List Place → List OffsetPage → Type 0
AreOn slot columns pages [] [] = Unit {0}
AreOn slot columns pages [] (p ∷ ps) = ⊥
AreOn slot columns pages (place ∷ places) [] = ⊥
AreOn slot columns pages (place ∷ places) (p ∷ ps) = IsOn slot columns (pages place.page) place p
    × AreOn slot columns pages places ps

-- a place's page can be read: it is an element page
pub record CanBeRead (c : Contents) (place : Place) : Type 0 where
  pub element : IsElementPage place.page
  pub below : place.page < c.count

-- a place has some elements, and no more than a page has cells
pub record IsCounted (columns : List Column) (place : Place) : Type 0 where
  pub some : 1 ≤ place.count
  pub room : place.count ≤ regular_room columns

-- a place is that of an element page which `take` can't give, with some elements and no more than a page has cells
pub record IsPlace (columns : List Column) (c : Contents) (place : Place) : Type 0 where
  pub readable : CanBeRead c place
  pub used : ¬ Contains c.free place.page
  pub counted : IsCounted columns place

-- each place is such a one, and no page has two
pub record ArePlaces (columns : List Column) (c : Contents) (places : List Place) : Type 0 where
  pub each : All (IsPlace columns c) places
  pub different : AllPairs (λ a b. a ≢ b) (pages_of places)

-- On every volume: the pages of the places and those that `take` can give are together the same ones before and after,
-- the places rise, and each has some elements and no more than a page has cells.
pub record AreMoved (columns : List Column) (old new : List Place) (v w : Contents) : Type 0 where
  pub pages : IsPermutation (v.free ++ pages_of old) (w.free ++ pages_of new)
  pub rising : IsRising new
  pub counts : All (IsCounted columns) new
