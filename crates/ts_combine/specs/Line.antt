-- Starts of intervals one after the other, and those that an interval of another calendar holds.
use Rattle.std.specs.Prelude.{◌≡◌, ℕ, ℤ, ◌<ℤ◌, ◌≤ℤ◌, Some, IsSome, List, filter_map}
use Rattle.ts_calendar.specs.Calendars.{CalendarPlan, start_at}
use Rattle.ts_offset.specs.Grid.{numbers_from, gap, held_start}

-- the starts of the n intervals of a calendar from number k on, on or off
abbrev pub starts_of_next : CalendarPlan → ℤ → ℕ → List ℤ
starts_of_next line k n = filter_map (start_at line) (numbers_from k n)

-- from one interval up to, not including, another
abbrev pub starts_up_to : CalendarPlan → ℤ → ℤ → List ℤ
starts_up_to line low high = starts_of_next line low (gap low high)

-- the intervals from one up to, not including, another exist
abbrev pub AllExist : CalendarPlan → ℤ → ℤ → Type 0
AllExist line low high = (k : ℤ) → low ≤ℤ k → k <ℤ high → IsSome (start_at line k)

-- of the starts of a line before number `limit`, those from number `low` up to, not including, `high` are held by the
-- on interval of a calendar that starts at a stamp, and no others; those before come before the stamp
pub record AreHeldFrom (c line : CalendarPlan) (limit stamp low high : ℤ) : Type 0 where
  pub held : (k s : ℤ) → k <ℤ limit → low ≤ℤ k → k <ℤ high → start_at line k ≡ Some s → held_start c s ≡ Some stamp
  pub only : (k s : ℤ) → k <ℤ limit → start_at line k ≡ Some s → held_start c s ≡ Some stamp → (low ≤ℤ k) × (k <ℤ high)
  pub early : (k s : ℤ) → k <ℤ low → start_at line k ≡ Some s → s <ℤ stamp
