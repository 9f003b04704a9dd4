-- Entries and cells by their numbers.
use Rattle.std.specs.Prelude.{◌≡◌, ℕ, ◌+◌, ◌<◌, ℤ, false, IsTrue, Option, Some, None, option_and_then, List, [], ◌∷◌}
use Rattle.std.specs.Prelude.{length}
use Rattle.ts_row.specs.Row.{Row}
use Rattle.ts_irregular.specs.Edit.{row_if_seen}
use Rattle.ts_regular.specs.RegularPage.{Cell, OffsetElement, element_at, seen}
use Rattle.ts_regular.specs.OnePage.{cell_at, is_seen}
use Rattle.ts_entry.specs.Entry.{Entry}

-- on starts of which the first has this number, each with the row of its number, or none
abbrev pub numbered : (ℕ → Option Row) → ℕ → List ℤ → List Entry
numbered row_of n [] = []
numbered row_of n (start ∷ starts) = (start, row_of n) ∷ numbered row_of (n + 1) starts

-- the row in a cell, if it isn't hidden
abbrev pub seen_in : Cell → Option Row
seen_in cell = option_and_then row_if_seen cell

-- this is the number of the first cell with an element that isn't hidden, or there is none
abbrev pub IsFirstCell : List Cell → Option ℕ → Type 0
IsFirstCell cells (Some index) =
    IsTrue (is_seen (cell_at cells index)) × ((other : ℕ) → other < index → is_seen (cell_at cells other) ≡ false)
IsFirstCell cells None = (other : ℕ) → other < length cells → is_seen (cell_at cells other) ≡ false

-- the row at an offset, if it isn't hidden
abbrev pub seen_at : List OffsetElement → ℕ → Option Row
seen_at es offset = element_at offset (seen es)
