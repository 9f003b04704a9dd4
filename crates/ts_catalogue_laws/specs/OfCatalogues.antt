-- What the laws of answers say of catalogues: that one is a catalogue is all that they ask of it.
use Rattle.std.specs.Prelude.{◌≡◌, ◌↔◌, ℕ, ℤ, pos, ◌-◌, ◌≤ℤ◌, ◌<ℤ◌, Some, Ok, Err, List, length, take, drop}
use Rattle.std.specs.Prelude.{unsigned_abs}
use Rattle.std.specs.FinMap.{get}
use Rattle.ts_base.specs.Moment.{IsStamp}
use Rattle.ts_base.specs.declared.refusal.Refusal.TheVariants as refusals
use Rattle.ts_row.specs.Row.{Heading}
use Rattle.ts_calendar.specs.Calendars.{CalendarPlan, IsOnStamp}
use Rattle.ts_offset.specs.Grid.{GridPlan, IsHeldFrom, IsHeldBefore}
use Rattle.ts_offset.specs.declared.shape.Shape.{Shape}
use Rattle.ts_offset.specs.declared.shape.Shape.TheVariants as shapes
use Rattle.ts_command.specs.declared.command.Command.{Command}
use Rattle.ts_command.specs.declared.command.Command.TheVariants as commands
use Rattle.ts_model.specs.Catalogue.{Container, Irregular, Regular, Series, Catalogue, shape_of, heading_of, columns_of}
use Rattle.ts_model.specs.Catalogue.{quota_of}
use Rattle.ts_answer.specs.Answer.{Answered, answer, outcome, a_calendar, an_address}
use Rattle.ts_answer_laws.specs.Laws.{HasValidCalendar}
use Rattle.ts_answer_laws.specs.ReadingLaws.{ListsEntries, ListsOffset, ListsLagged, ListsPicked, NoneBehind}
use Rattle.ts_answer_laws.specs.ReadingLaws.{NoneBefore}
use Rattle.ts_answer_laws.specs.SeriesLaws.{MakesRegular}
use Rattle.ts_answer_laws.specs.AggregateLaws.{ListsIntervals}
use Rattle.ts_catalogue_laws.specs.Catalogue.{IsCatalogue}

-- what a series refers to is there: its container, with a quota, its row type, and where its elements can stand
pub record HasAll (cat : Catalogue) (s : Series) : Type 0 where
  pub container : Container
  pub container_there : get cat.containers s.container ≡ Some container
  pub quota : quota_of cat s ≡ container.quota
  pub heading : Heading
  pub heading_there : heading_of cat s ≡ Some heading
  pub columns : columns_of cat s ≡ heading.columns
  pub shape : Shape
  pub shape_there : shape_of cat s.kind ≡ Some shape

-- so it is of each series
abbrev pub ReferencesAreThere : Type 0
ReferencesAreThere = (cat : Catalogue) (key : List ℕ) (s : Series) → IsCatalogue cat → get cat.series key ≡ Some s
    → HasAll cat s

-- a series lies so, and this holds of it
pub record Lies (cat : Catalogue) (s : Series) (P : Shape → Type 0) : Type 0 where
  pub shape : Shape
  pub is : shape_of cat s.kind ≡ Some shape
  pub so : P shape

-- it lies on a grid, and this holds of it
pub record LiesOnGrid (cat : Catalogue) (s : Series) (P : GridPlan → Type 0) : Type 0 where
  pub grid : GridPlan
  pub is : shape_of cat s.kind ≡ Some (shapes.Regular grid)
  pub so : P grid

-- a calendar has a name, and this holds of it
pub record IsNamed (cat : Catalogue) (calendar : List ℕ) (P : CalendarPlan → Type 0) : Type 0 where
  pub plan : CalendarPlan
  pub is : a_calendar calendar cat ≡ Ok plan
  pub so : P plan

-- Clip lists the entries between two stamps
abbrev pub ClipsOfCatalogues : Type 0
ClipsOfCatalogues =
    (cat : Catalogue) (answered : Answered) (key : List ℕ) (from to : ℤ) (s : Series) → IsCatalogue cat
    → get cat.series key ≡ Some s → outcome (Ok (commands.Clip key from to)) cat ≡ Ok answered
    → Lies cat s (λ shape. ListsEntries s shape from to cat answered)

-- GetNthElem speaks of an offset in a regular series
abbrev pub NumbersOfCatalogues : Type 0
NumbersOfCatalogues =
    (cat : Catalogue) (answered : Answered) (key calendar : List ℕ) (n : ℕ) (origin : ℤ) (s : Series)
    → IsCatalogue cat → get cat.series key ≡ Some s → s.kind ≡ Regular calendar origin
    → outcome (Ok (commands.GetNthElem key (pos n))) cat ≡ Ok answered
    → LiesOnGrid cat s (λ grid. ListsOffset grid n s cat answered)

-- Lag speaks of offsets, and of regular series alone
abbrev pub LagsOfCatalogues : Type 0
LagsOfCatalogues =
    (cat : Catalogue) (answered : Answered) (key : List ℕ) (by : ℤ) (s : Series) → IsCatalogue cat
    → get cat.series key ≡ Some s → outcome (Ok (commands.Lag key by)) cat ≡ Ok answered
    → LiesOnGrid cat s (λ grid. ListsLagged grid by s cat answered)

-- ClipCount lists the first, or the last, of what Clip lists from a stamp on, or up to it
pub record CountedClipsOfCatalogues : Type 0 where
  pub first : (cat : Catalogue) (whole : Answered) (key : List ℕ) (stamp last n : ℤ) (s : Series) → IsCatalogue cat
      → get cat.series key ≡ Some s → pos 0 ≤ℤ n → NoneBehind s last
      → outcome (Ok (commands.Clip key stamp last)) cat ≡ Ok whole
      → (part : Answered) × (outcome (Ok (commands.ClipCount key stamp n)) cat ≡ Ok part)
      × ListsPicked (take (unsigned_abs n)) cat whole part
  pub last : (cat : Catalogue) (whole : Answered) (key : List ℕ) (first stamp n : ℤ) (s : Series) → IsCatalogue cat
      → get cat.series key ≡ Some s → n <ℤ pos 0
      → ((shape : Shape) → shape_of cat s.kind ≡ Some shape → NoneBefore s shape first)
      → outcome (Ok (commands.Clip key first stamp)) cat ≡ Ok whole
      → (part : Answered) × (outcome (Ok (commands.ClipCount key stamp n)) cat ≡ Ok part)
      × ListsPicked (λ rows. drop (length rows - unsigned_abs n) rows) cat whole part

-- AggregateBy lists the intervals of a calendar
abbrev pub IntervalsOfCatalogues : Type 0
IntervalsOfCatalogues =
    (cat : Catalogue) (answered : Answered) (text calendar key : List ℕ) (from to : ℤ) (s : Series) → IsCatalogue cat
    → get cat.series key ≡ Some s
    → outcome (Ok (commands.AggregateBy text calendar key from to)) cat ≡ Ok answered
    → IsNamed cat calendar (λ plan. ListsIntervals text key plan from to s cat answered)

-- where a stamp leads in a regular series: to the start of the on interval that holds it, or to one of two refusals
pub record LeadsToIntervals (cat : Catalogue) (s : Series) (grid : GridPlan) : Type 0 where
  pub there : (stamp at : ℤ) → IsStamp stamp → an_address s stamp cat ≡ Ok at
      ↔ (IsHeldFrom grid.calendar stamp at × (grid.origin ≤ℤ at))
  pub before : (stamp : ℤ) → IsStamp stamp → an_address s stamp cat ≡ Err refusals.BeforeOrigin
      ↔ IsHeldBefore grid stamp
  pub off : (stamp : ℤ) → IsStamp stamp → an_address s stamp cat ≡ Err refusals.OffStamp
      ↔ (IsOnStamp grid.calendar stamp → ⊥)

-- a stamp addresses itself in an irregular series, and an interval in a regular one
pub record AddressesOfCatalogues : Type 0 where
  pub any : (cat : Catalogue) (s : Series) (stamp : ℤ) → s.kind ≡ Irregular → an_address s stamp cat ≡ Ok stamp
  pub grid : (cat : Catalogue) (key calendar : List ℕ) (origin : ℤ) (s : Series) → IsCatalogue cat
      → get cat.series key ≡ Some s → s.kind ≡ Regular calendar origin → LiesOnGrid cat s (LeadsToIntervals cat s)

-- the origin that TSCreate gives a series is an on start
abbrev pub OriginsOfCatalogues : Type 0
OriginsOfCatalogues =
    (cat : Catalogue) (answered : Answered) (key calendar container : List ℕ) (given : ℤ) → IsCatalogue cat
    → IsStamp given → outcome (Ok (commands.TSCreate key calendar given container)) cat ≡ Ok answered
    → IsNamed cat calendar (λ plan. MakesRegular key calendar container given plan cat answered)

-- what AndOp and OrOp make of two calendars is one that breaks no rule
pub record JoinsOfCatalogues : Type 0 where
  pub both : (cat : Catalogue) (answered : Answered) (name first second : List ℕ) → IsCatalogue cat
      → outcome (Ok (commands.AndCalendars name first second)) cat ≡ Ok answered → HasValidCalendar name answered.1
  pub either : (cat : Catalogue) (answered : Answered) (name first second : List ℕ) → IsCatalogue cat
      → outcome (Ok (commands.OrCalendars name first second)) cat ≡ Ok answered → HasValidCalendar name answered.1

-- a series that stays lies as before, whatever is asked
abbrev pub ShapesOfCatalogues : Type 0
ShapesOfCatalogues =
    (cat : Catalogue) (command : Command) (key : List ℕ) (s after : Series) → IsCatalogue cat
    → get cat.series key ≡ Some s → get (answer cat (Ok command)).1.series key ≡ Some after
    → Lies cat s (λ shape. (after.kind ≡ s.kind) × (shape_of (answer cat (Ok command)).1 after.kind ≡ Some shape))
