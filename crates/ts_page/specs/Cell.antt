-- The cells of an element page, which follow its head one after the other.
use Rattle.std.specs.Prelude.{ℕ, ◌+◌, ◌*◌, List, ◌++◌, length, take, drop}
use Rattle.ts_page.specs.Pages.{head_size, bytes_at}

-- where the cell of that number begins
abbrev pub cell_place : ℕ → ℕ → ℕ
cell_place number size = head_size + number * size

-- the bytes of the cell of that number
abbrev pub cell_of : ℕ → ℕ → List ℕ → List ℕ
cell_of number size page = bytes_at (cell_place number size) size page

-- the page with other bytes in the cell of that number
abbrev pub with_cell : ℕ → List ℕ → List ℕ → List ℕ
with_cell number cell page =
    let at = cell_place number (length cell) in take at page ++ cell ++ drop (at + length cell) page
