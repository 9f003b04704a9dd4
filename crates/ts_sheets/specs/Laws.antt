-- What holds of every series on its pages.
use Rattle.std.specs.Prelude.{◌≡◌, ℕ, ◌<◌, ◌≤◌, ℤ, ◌<ℤ◌, Some, List, length}
use Rattle.ts_space.specs.declared.place.Place.{Place}
use Rattle.ts_space.specs.Place.{IsRising}
use Rattle.ts_space.specs.Charge.{irregular_charge}
use Rattle.ts_row.specs.declared.kind.Column.{Column}
use Rattle.ts_row.specs.Row.{Element}
use Rattle.ts_cells.specs.IrregularPage.{AreInOrder}
use Rattle.ts_calendar.specs.Calendars.{IsLaid}
use Rattle.ts_offset.specs.Grid.{GridPlan, stamp_of}
use Rattle.ts_regular.specs.Places.{OffsetPage, AreOn}
use Rattle.ts_regular.specs.Places as grid
use Rattle.ts_sheets.specs.Stamped.{all_in, ArePages, AreSized, IsDense}
use Rattle.ts_sheets.specs.Charge.{charge_of}

-- the elements of filled pages, each page before the next, are in order together
abbrev pub ChainsAreInOrder : Type 0
ChainsAreInOrder = (columns : List Column) (chain : List (List Element)) → ArePages columns chain
    → AreInOrder columns (all_in chain)

-- pages of which no two neighbours fit one are as many as the charge of their elements, at most
abbrev pub ChainsHaveFewPages : Type 0
ChainsHaveFewPages =
    (room : ℕ) (chain : List (List Element)) → 0 < room → AreSized room chain → IsDense room chain
    → length chain ≤ irregular_charge room (length (all_in chain))

-- a regular series is charged for each of its pages
abbrev pub GridsHaveFewPages : Type 0
GridsHaveFewPages =
    (slot : ℕ) (columns : List Column) (pages : ℕ → List ℕ) (places : List Place) (sheets : List OffsetPage)
    → AreOn slot columns pages places sheets → IsRising places
    → charge_of columns (grid.all_in sheets) ≡ length places

-- on starts rise with their offsets
abbrev pub StartsRise : Type 0
StartsRise =
    (g : GridPlan) (m n : ℕ) (s t : ℤ) → IsLaid g.calendar → m < n → stamp_of g m ≡ Some s → stamp_of g n ≡ Some t
    → s <ℤ t
