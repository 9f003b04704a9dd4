-- What a catalogue keeps, so that statements make it.
use Rattle.std.specs.Prelude.{◌≡◌, ℕ, ℤ, ◌≤◌, ◌≤ℤ◌, IsTrue, Some, List}
use Rattle.std.specs.FinMap.{get, len}
use Rattle.ts_row.specs.Row.{Heading, is_row_type, Row, fits}
use Rattle.ts_pattern.specs.Patterns.{Plan, is_pattern}
use Rattle.ts_calendar.specs.Calendars.{CalendarPlan, IsValid, IsLaid, IsSound}
use Rattle.ts_calendar.specs.declared.text.CalendarText.{CalendarText}
use Rattle.ts_offset.specs.Grid.{IsOnStart}
use Rattle.ts_offset.specs.declared.shape.Shape.{Shape}
use Rattle.ts_offset.specs.declared.shape.Shape.TheVariants as shapes
use Rattle.ts_model.specs.declared.kind.Kind.{Kind}
use Rattle.ts_model.specs.Definitions.{limit}
use Rattle.ts_model.specs.Catalogue.{named, Container, Series, Catalogue, calendar_of, shape_of, columns_of, quotas}
use Rattle.ts_model.specs.Charge.{container_charge}

-- a calendar has the form of a text, and stands for a valid one
pub record HasCalendar (cat : Catalogue) (text : CalendarText) : Type 0 where
  pub sound : IsSound text
  pub plan : CalendarPlan
  pub stands : calendar_of cat text ≡ Some plan
  pub valid : IsValid plan
  pub laid : IsLaid plan

-- a container has a row type
pub record HasRowType (cat : Catalogue) (c : Container) : Type 0 where
  pub heading : Heading
  pub listed : get cat.row_types c.row_type ≡ Some heading

-- the origin of a grid is an on start
abbrev pub HasOrigin : Shape → Type 0
HasOrigin shapes.Irregular = Unit {0}
HasOrigin (shapes.Regular grid) = IsLaid grid.calendar × IsOnStart grid.calendar grid.origin

-- an element can stand at a stamp: at any, or at an on start that isn't before the origin
abbrev pub IsPlace : Shape → ℤ → Type 0
IsPlace shapes.Irregular stamp = Unit {0}
IsPlace (shapes.Regular grid) stamp = IsOnStart grid.calendar stamp × (grid.origin ≤ℤ stamp)

-- a series stands in a container; its elements can stand where they do, and each has a row of its columns
pub record HasPlaces (cat : Catalogue) (s : Series) : Type 0 where
  pub container : Container
  pub listed : get cat.containers s.container ≡ Some container
  pub shape : Shape
  pub lies : shape_of cat s.kind ≡ Some shape
  pub origin : HasOrigin shape
  pub places : (stamp : ℤ) (row : Row) → get s.elements stamp ≡ Some row → IsPlace shape stamp
  pub rows : (stamp : ℤ) (row : Row) → get s.elements stamp ≡ Some row → IsTrue (fits (columns_of cat s) row)

-- Each definition keeps its own rules, and what it refers to is there; there are as many of each kind as may be at
-- most; the quotas fit the pages, and the charges the quotas.
pub record KeepsRules (cat : Catalogue) : Type 0 where
  pub row_types : (name : List ℕ) (h : Heading) → get cat.row_types name ≡ Some h
      → IsTrue (is_row_type h.stamp h.columns)
  pub patterns : (name : List ℕ) (p : Plan) → get cat.patterns name ≡ Some p → IsTrue (is_pattern p.runs)
  pub calendars : (name : List ℕ) (text : CalendarText) → get cat.calendars name ≡ Some text → HasCalendar cat text
  pub containers : (name : List ℕ) (c : Container) → get cat.containers name ≡ Some c → HasRowType cat c
  pub series : (key : List ℕ) (s : Series) → get cat.series key ≡ Some s → HasPlaces cat s
  pub few : (kind : Kind) → len (named kind cat) ≤ limit kind
  pub quotas : quotas cat ≤ cat.pages
  pub charges : (name : List ℕ) (c : Container) → get cat.containers name ≡ Some c → container_charge name cat ≤ c.quota
