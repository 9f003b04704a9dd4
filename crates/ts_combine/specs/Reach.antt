-- The starts of a line that an element holds, and the row that a series has there.
use Rattle.std.specs.Prelude.{◌≡◌, ℕ, ◌+◌, ◌<◌, ◌≤◌, ◌⊎◌, ◌&&◌, not, int_lt, if◌then◌else◌, ℤ, ◌<ℤ◌, ◌≤ℤ◌, Option, Some}
use Rattle.std.specs.Prelude.{None, option_and_then, List, length, map, filter_map, slice_get}
use Rattle.std.specs.Borrow.{Bor}
use Rattle.ts_row.specs.declared.row.Elem.{Elem}
use Rattle.ts_row.specs.Row.{Row, Element}
use Rattle.ts_irregular.specs.Edit.{element_at}
use Rattle.ts_calendar.specs.Calendars.{CalendarPlan}
use Rattle.ts_offset.specs.Grid.{IsOnStart, held_start}
use Rattle.ts_offset.specs.declared.shape.Shape.{Shape}
use Rattle.ts_offset.specs.declared.shape.Shape.TheVariants.{Irregular, Regular}
use Rattle.ts_pattern.specs.declared.junction.Junction.{Junction}
use Rattle.ts_combine.specs.Combine.{Side, joined_at}
use Rattle.ts_combine.specs.Line.{AreHeldFrom}
use Rattle.ts_combine.specs.declared.joined.Joined.{Joined}
use Rattle.ts_combine.specs.declared.reach.Reach.{Reach}

-- a series lies on the grid of a calendar
abbrev pub IsOnCalendar : Shape → CalendarPlan → Type 0
IsOnCalendar Irregular calendar = ⊥
IsOnCalendar (Regular grid) calendar = calendar ≡ grid.calendar

-- a series lies on the grid of a calendar, or at any stamps where there is none
abbrev pub LiesOn : Shape → Option (Bor CalendarPlan) → Type 0
LiesOn Irregular None = Unit {0}
LiesOn Irregular (Some calendar) = ⊥
LiesOn (Regular grid) None = ⊥
LiesOn (Regular grid) (Some calendar) = calendar.now ≡ grid.calendar

-- the row that a series on a calendar has at a stamp: that of the element whose interval holds it
abbrev pub row_held : CalendarPlan → List Element → ℤ → Option Row
row_held c es stamp = option_and_then (λ start. element_at start es) (held_start c stamp)

-- the rows that two series have at some stamps
abbrev pub rows_held : Junction → Side → CalendarPlan → Side → CalendarPlan → List ℤ → List Element
rows_held junction a c b d stamps =
    filter_map (λ s. joined_at junction a b s (row_held c a.elements s) (row_held d b.elements s)) stamps

-- one of these elements or the end behind them, and the starts of a line before number `limit` that it holds; none
-- behind the last
pub record IsReach (c line : CalendarPlan) (limit : ℤ) (elems : List Elem) (r : Reach) : Type 0 where
  pub within : r.index ≤ length elems
  pub here : (e : Elem) → slice_get elems r.index ≡ Some e → IsOnStart c e.stamp
      → AreHeldFrom c line limit e.stamp r.low r.high
  pub over : length elems ≤ r.index → (r.low ≡ limit) × (r.high ≡ limit)

-- a reach that is over at a number, and the next one; or the same one, which isn't over or is the last
abbrev pub IsNext : List Elem → ℤ → Reach → Reach → Type 0
IsNext elems at r next =
    ((r.high ≤ℤ at) × (r.index < length elems) × (next.index ≡ r.index + 1))
    ⊎ (((at <ℤ r.high) ⊎ (length elems ≤ r.index)) × (next ≡ r))

-- up to which number the same element holds the starts from one on, or none does
abbrev pub reach_end : Reach → ℤ → ℤ
reach_end r at = if int_lt at r.low then r.low else r.high

-- the element by its index, where it holds a start
abbrev pub index_at : Reach → ℤ → Option ℕ
index_at r at = if not (int_lt at r.low) && int_lt at r.high then Some r.index else None

-- a row at each of some stamps
abbrev pub rows_with : Option ℕ → Option ℕ → List ℤ → List Joined
rows_with first second stamps = map (λ s. record { stamp = s; first = first; second = second }) stamps
