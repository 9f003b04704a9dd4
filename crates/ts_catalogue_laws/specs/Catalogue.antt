-- What every catalogue is that a volume means: what holds of its row types, patterns, calendars, containers and series,
-- and of the elements of these.
use Rattle.std.specs.Prelude.{◌≡◌, ℕ, ℤ, ◌≤◌, ◌<ℤ◌, false, IsTrue, IsSome, Option, Some, List, AllPairs}
use Rattle.std.specs.List.{list_all}
use Rattle.std.specs.FinMap.{entries, get, len}
use Rattle.std.specs.declared.cmp.Ordering.TheVariants.{Less}
use Rattle.ts_base.specs.Name.{is_name, is_key}
use Rattle.ts_base.specs.Moment.{IsStamp}
use Rattle.ts_row.specs.declared.kind.Column.{Column}
use Rattle.ts_row.specs.Row.{Heading, is_row_type, has_long_decimal, Row, fits}
use Rattle.ts_page.specs.Pages.{most_element_pages}
use Rattle.ts_pattern.specs.Patterns.{Plan, is_pattern}
use Rattle.ts_calendar.specs.Calendars.{CalendarPlan, IsValid}
use Rattle.ts_calendar.specs.declared.text.CalendarText.{CalendarText}
use Rattle.ts_offset.specs.declared.shape.Shape.{Shape}
use Rattle.ts_offset.specs.declared.shape.Shape.TheVariants as shapes
use Rattle.ts_offset.specs.Grid.{IsOnStart}
use Rattle.ts_model.specs.declared.kind.Kind.{Kind}
use Rattle.ts_model.specs.Catalogue.{Named, name_cmp, Container, Elements, Series, Catalogue, old_format, calendar_of}
use Rattle.ts_model.specs.Catalogue.{shape_of, columns_of, quotas, named}
use Rattle.ts_model.specs.Charge.{container_charge}
use Rattle.ts_model.specs.Definitions.{IsFormat, limit}
use Rattle.ts_answer_laws.specs.ReadingLaws.{CanStand}

-- each name is before the next one, so none stands twice
abbrev pub AreOnce : {X : Type 0} → Named X → Type 0
AreOnce named = AllPairs (λ a b. name_cmp a.0 b.0 ≡ Less) (entries named)

-- a row type under its name: names of words, columns that make one, and in the old format no decimal of over 18 digits
pub record IsRowType (format : ℕ) (name : List ℕ) (h : Heading) : Type 0 where
  pub word : IsTrue (is_name name)
  pub stamp_word : IsTrue (is_name h.stamp)
  pub column_words : IsTrue (list_all (λ c. is_name c.name) h.columns)
  pub rules : IsTrue (is_row_type h.stamp h.columns)
  pub digits : format ≡ old_format → has_long_decimal h.columns ≡ false

-- a pattern under its name: merged runs within the limits
pub record IsPattern (name : List ℕ) (pattern : Plan) : Type 0 where
  pub word : IsTrue (is_name name)
  pub runs : IsTrue (is_pattern pattern.runs)

-- A calendar under its name, by what its text stands for: a calendar, so that the pattern of its name is there, which
-- starts at stamps, has merged runs within the limits, and breaks no rule.
pub record IsCalendar (stands_for : Option CalendarPlan) (name : List ℕ) : Type 0 where
  pub word : IsTrue (is_name name)
  pub plan : CalendarPlan
  pub stands : stands_for ≡ Some plan
  pub start : IsStamp plan.start
  pub patt_start : IsStamp plan.patt_start
  pub runs : IsTrue (is_pattern plan.pattern.runs)
  pub valid : IsValid plan

-- A container under its name, by the row type that has the name of its own, and by what its series are charged: that
-- row type is there, its quota is 1 to 65536 pages, and no less than the charge.
pub record IsContainer (row_type : Option Heading) (charged : ℕ) (name : List ℕ) (c : Container) : Type 0 where
  pub word : IsTrue (is_name name)
  pub row_type_there : IsSome row_type
  pub some : 1 ≤ c.quota
  pub most : c.quota ≤ most_element_pages
  pub charge : charged ≤ c.quota

-- the origin of a grid is an on start of its calendar
abbrev pub HasOrigin : Shape → Type 0
HasOrigin shapes.Irregular = Unit {0}
HasOrigin (shapes.Regular grid) = IsOnStart grid.calendar grid.origin

-- this holds of each element, hidden or not
abbrev pub EachElement : Elements → (ℤ → Row → Type 0) → Type 0
EachElement elements P = (stamp : ℤ) (row : Row) → get elements stamp ≡ Some row → P stamp row

-- A series under its key, by the container that has the name of its own, by where its elements can stand, and by its
-- columns: that container is there, and where it is regular its calendar, of which the origin is an on start. The
-- stamps of its elements are stamps and rise strictly; rows fit the columns; on a grid each element stands at an on
-- start that isn't before the origin; and in the old format none is hidden.
pub record IsSeries (format : ℕ) (container : Option Container) (stands : Option Shape) (columns : List Column)
    (key : List ℕ) (s : Series) : Type 0 where
  pub text : IsTrue (is_key key)
  pub container_there : IsSome container
  pub shape : Shape
  pub shape_there : stands ≡ Some shape
  pub origin : HasOrigin shape
  pub rising : AllPairs (λ a b. a.0 <ℤ b.0) (entries s.elements)
  pub stamps : EachElement s.elements (λ stamp row. IsStamp stamp)
  pub rows : EachElement s.elements (λ stamp row. IsTrue (fits columns row))
  pub starts : EachElement s.elements (λ stamp row. CanStand shape stamp)
  pub visible : format ≡ old_format → EachElement s.elements (λ stamp row. row.hidden ≡ false)

-- A catalogue of a format that there is, with 1 to 65536 element pages: of each kind there are no more than may be, and
-- none stands twice; each row type, pattern, calendar, container and series is one; and all quotas together are no more
-- than the pages.
pub record IsCatalogue (cat : Catalogue) : Type 0 where
  pub format : IsFormat cat.format
  pub some_pages : 1 ≤ cat.pages
  pub most_pages : cat.pages ≤ most_element_pages
  pub few : (kind : Kind) → len (named kind cat) ≤ limit kind
  pub once : (kind : Kind) → AreOnce (named kind cat)
  pub row_types : (name : List ℕ) (h : Heading) → get cat.row_types name ≡ Some h → IsRowType cat.format name h
  pub patterns : (name : List ℕ) (pattern : Plan) → get cat.patterns name ≡ Some pattern → IsPattern name pattern
  pub calendars : (name : List ℕ) (text : CalendarText) → get cat.calendars name ≡ Some text
      → IsCalendar (calendar_of cat text) name
  pub containers : (name : List ℕ) (c : Container) → get cat.containers name ≡ Some c
      → IsContainer (get cat.row_types c.row_type) (container_charge name cat) name c
  pub quotas : quotas cat ≤ cat.pages
  pub series : (key : List ℕ) (s : Series) → get cat.series key ≡ Some s
      → IsSeries cat.format (get cat.containers s.container) (shape_of cat s.kind) (columns_of cat s) key s
