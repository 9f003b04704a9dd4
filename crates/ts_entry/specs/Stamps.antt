-- The stamps of elements in cells: each in its cell, or the on starts of a grid.
use Rattle.std.specs.Prelude.{◌≡◌, ℕ, ◌+◌, ◌<◌, ◌^◌, ℤ, Some, List, take, drop}
use Rattle.ts_base.specs.Moment.{IsStamp}
use Rattle.ts_cells.specs.IrregularPage.{stamp_bytes}
use Rattle.ts_calendar.specs.Calendars.{IsLaid}
use Rattle.ts_offset.specs.Grid.{stamp_of}
use Rattle.ts_entry.specs.declared.stamps.Stamps.{Stamps}
use Rattle.ts_entry.specs.declared.stamps.Stamps.TheVariants.{InCells, OnGrid}

-- the element in the cell of a number stands at this stamp
abbrev pub HasStamp : Stamps → ℕ → List ℕ → ℤ → Type 0
HasStamp InCells number cell stamp = IsStamp stamp × (take 8 (drop 1 cell) ≡ stamp_bytes stamp)
HasStamp (OnGrid grid first) number cell stamp = IsLaid grid.now.calendar
    × (stamp_of grid.now (first + number) ≡ Some stamp)

-- an offset of a grid is one that a page may begin with
abbrev pub IsNear : Stamps → Type 0
IsNear InCells = Unit {0}
IsNear (OnGrid grid first) = first < 2 ^ 63
