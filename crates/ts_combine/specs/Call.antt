-- What the calls answer: rows that name elements by their indices.
use Rattle.std.specs.Prelude.{◌≡◌, ℕ, ◌<◌, ◌++◌, Option, Some, None, option_map, option_and_then, List, All, length}
use Rattle.std.specs.Prelude.{map, slice_get, Result, Ok, Err, Vec}
use Rattle.ts_base.specs.declared.refusal.Refusal.{Refusal}
use Rattle.ts_base.specs.declared.fault.Trouble.{Trouble}
use Rattle.ts_base.specs.declared.fault.Trouble.TheVariants.{Refused, Memory}
use Rattle.ts_base.specs.declared.refusal.Refusal.TheVariants.{NotRegular}
use Rattle.ts_row.specs.Row.{Row, visible, Element}
use Rattle.ts_calendar.specs.Calendars.{common_grid}
use Rattle.ts_offset.specs.declared.shape.Shape.{Shape}
use Rattle.ts_offset.specs.declared.shape.Shape.TheVariants.{Irregular, Regular}
use Rattle.ts_combine.specs.Combine.{Side, values_or_nulls}
use Rattle.ts_combine.specs.Series.{side_of, IsSeries}
use Rattle.ts_combine.specs.Rows.{Gathers}
use Rattle.ts_combine.specs.declared.joined.Joined.{Joined}
use Rattle.ts_combine.specs.declared.rows.Rows.{Rows}
use Rattle.ts_combine.specs.declared.side.Side as given

-- the row of an element by its index, if there is an index
abbrev pub row_at : List Element → Option ℕ → Option Row
row_at es index = option_and_then (λ i. option_map (λ e. e.1) (slice_get es i)) index

-- the element that a joined row is
abbrev pub joined_row : Side → Side → Joined → Element
joined_row a b j = (
  j.stamp,
  visible (values_or_nulls a.columns (row_at a.elements j.first)
      ++ values_or_nulls b.columns (row_at b.elements j.second)),
)

-- an index is below a length, if there is one
abbrev pub IsIndex : ℕ → Option ℕ → Type 0
IsIndex length None = Unit {0}
IsIndex length (Some i) = i < length

-- the indices of a joined row are those of elements
pub record HasElements (first second : ℕ) (j : Joined) : Type 0 where
  pub first_is : IsIndex first j.first
  pub second_is : IsIndex second j.second

-- rows gather joined rows of two series, which are these elements where the elements of the series are as they should
-- be
pub record GathersJoined (first second : given.Side) (elements : List Element) (rows : Rows Joined) : Type 0 where
  pub all : List Joined
  pub gathers : Gathers rows all
  pub within : All (HasElements (length first.elems.now) (length second.elems.now)) all
  pub are : IsSeries (side_of first) → IsSeries (side_of second) → map (joined_row (side_of first) (side_of second)) all
      ≡ elements

-- a call answers rows that are these elements, or this refusal, or that there is no memory
abbrev pub AnswersRows : {T A : Type 0} → (T → Element) → Result (List Element) Refusal → Result (Vec T A) Trouble
    → Type 0
AnswersRows row answer (Ok rows) = answer ≡ Ok (map row rows.items)
AnswersRows row answer (Err (Refused why)) = answer ≡ Err why
AnswersRows row answer (Err (Memory error)) = Unit {0}

-- two series lie on grids that have none in common
abbrev pub HaveNoGrid : Shape → Shape → Refusal → Type 0
HaveNoGrid (Regular g) (Regular h) why = common_grid g.calendar h.calendar ≡ Err why
HaveNoGrid (Regular g) Irregular why = ⊥
HaveNoGrid Irregular (Regular h) why = ⊥
HaveNoGrid Irregular Irregular why = ⊥

-- a series doesn't lie on a grid
abbrev pub IsNotOnGrid : Shape → Refusal → Type 0
IsNotOnGrid Irregular why = why ≡ NotRegular
IsNotOnGrid (Regular grid) why = ⊥
