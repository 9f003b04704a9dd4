-- The next of two lists of elements, one stamp after the other.
use Rattle.std.specs.Prelude.{◌≡◌, ℕ, ℤ, ◌+◌, Option, Some, None, option_map, List, slice_get}
use Rattle.ts_calendar.specs.Calendars.{IsBefore}
use Rattle.ts_row.specs.declared.row.Elem.{Elem}

-- the stamp of element number k, if there is one
abbrev pub stamp_at : List Elem → ℕ → Option ℤ
stamp_at es k = option_map (λ e. e.stamp) (slice_get es k)

-- element number k stands at a stamp, and is taken by its index; or none is taken, since that one is later or there is
-- none
abbrev pub IsTaken : Option ℤ → ℕ → ℤ → Option ℕ → Type 0
IsTaken at k stamp None = IsBefore stamp at
IsTaken at k stamp (Some n) = (n ≡ k) × (at ≡ Some stamp)

-- the number behind an element, where it is taken
abbrev pub behind : Option ℕ → ℕ → ℕ
behind None k = k
behind (Some n) k = k + 1
