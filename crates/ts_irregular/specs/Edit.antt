-- The elements of a series in the order of their stamps, and what an edit at one stamp makes of them.
use Rattle.std.specs.Prelude.{ℕ, suc, ℤ, int_lt, not, if◌then◌else◌, Option, Some, None, is_some}
use Rattle.std.specs.Prelude.{Result, Ok, Err, List, [], ◌∷◌, filter}
use Rattle.std.specs.Ordering.{int_cmp, int_eq}
use Rattle.std.specs.FinMap.{put}
use Rattle.ts_row.specs.Row.{Row, Element, seen}
pub use Rattle.ts_row.specs.Row.{element_at, last_of}

-- the row of an element that isn't hidden
abbrev pub row_if_seen : Row → Option Row
row_if_seen row = if row.hidden then None else Some row

-- the last element that isn't hidden, if there is one
abbrev pub last_seen : List Element → Option Element
last_seen es = last_of (seen es)

-- the elements with a row at a stamp: before the first later one, or in place of the one that is there
abbrev pub with_element : ℤ → Row → List Element → List Element
with_element stamp row es = put int_cmp stamp row es

-- all elements but the one at a stamp
abbrev pub without_element : ℤ → List Element → List Element
without_element stamp es = filter (λ e. not (int_eq stamp e.0)) es

-- how many elements at the front are earlier than a stamp
abbrev pub rank_of : ℤ → List Element → ℕ
rank_of stamp [] = 0
rank_of stamp (e ∷ es) = if int_lt e.0 stamp then suc (rank_of stamp es) else 0

-- the index of the element at a stamp; where none is there, that of the first later one
abbrev pub search_of : ℤ → List Element → Result ℕ ℕ
search_of stamp es = if is_some (element_at stamp es) then Ok (rank_of stamp es) else Err (rank_of stamp es)
