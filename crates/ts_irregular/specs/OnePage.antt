-- The place of a page of a series, and the elements that it tells of.
use Rattle.std.specs.Prelude.{◌≡◌, ℕ, ◌<◌, ◌≤◌, Option, Some, None, Contains, List, [], ◌∷◌, length}
use Rattle.ts_space.specs.declared.place.Place.{Place}
pub use Rattle.ts_space.specs.Place.{place_of}
use Rattle.ts_page.specs.declared.page.Head.{Head}
use Rattle.ts_page.specs.declared.page.Head.TheVariants.{Free, Regular, Irregular}
use Rattle.ts_page.specs.Pages.{Contents, IsElementPage}
use Rattle.ts_row.specs.declared.kind.Column.{Column}
use Rattle.ts_row.specs.Row.{Element}
use Rattle.ts_cells.specs.IrregularPage.{page_room, IsIrregularPage, first_stamp}

-- a place is that of an element page which `take` can't give, with one element at least, and no more than there is room
-- for
pub record IsPlace (columns : List Column) (c : Contents) (place : Place) : Type 0 where
  pub element : IsElementPage place.page
  pub below : place.page < c.count
  pub used : ¬ Contains c.free place.page
  pub some : 1 ≤ place.count
  pub room : place.count ≤ page_room columns

-- the slot of the series that the head of an irregular page tells, and how many elements
abbrev pub told_in : Option Head → Option (ℕ × ℕ)
told_in None = None
told_in (Some Free) = None
told_in (Some (Regular series count base)) = None
told_in (Some (Irregular series count)) = Some (series, count)

-- a page has these elements of the series in a slot, and they are those that its place tells of
pub record IsOn (slot : ℕ) (columns : List Column) (page : List ℕ) (place : Place) (es : List Element) : Type 0 where
  pub bytes : IsIrregularPage slot columns es page
  pub count : length es ≡ place.count
  pub first : first_stamp es ≡ Some place.at

-- the pages have these elements of the series in a slot where its places tell of them
abbrev pub AreOn : ℕ → List Column → (ℕ → List ℕ) → List Place → List Element → Type 0
AreOn slot columns pages [] es = es ≡ []
AreOn slot columns pages (place ∷ places) es = IsOn slot columns (pages place.page) place es
