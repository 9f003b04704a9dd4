-- What the laws of answers say of series, their elements and where these can stand.
use Rattle.std.specs.Prelude.{◌≡◌, ◌↔◌, ◌&&◌, Err, List, ℕ, ℤ, ◌≤ℤ◌, ◌<ℤ◌, Ok, Some, false, int_lt, not}
use Rattle.std.specs.FinMap.{empty, get}
use Rattle.std.specs.Ordering.{int_eq}
use Rattle.ts_base.specs.Moment.{IsStamp}
use Rattle.ts_base.specs.declared.refusal.Refusal.{Refusal}
use Rattle.ts_base.specs.declared.refusal.Refusal.TheVariants as refusals
use Rattle.ts_row.specs.declared.value.Literal.{Literal}
use Rattle.ts_calendar.specs.Calendars.{CalendarPlan, IsLaid, IsOnStamp}
use Rattle.ts_calendar.specs.declared.text.CalendarText.{CalendarText}
use Rattle.ts_command.specs.declared.command.Command.{Command}
use Rattle.ts_command.specs.declared.command.Command.TheVariants as commands
use Rattle.ts_offset.specs.Grid.{IsOnStart, GridPlan, IsHeldBefore, IsHeldFrom}
use Rattle.ts_offset.specs.declared.shape.Shape.{Shape}
use Rattle.ts_offset.specs.declared.shape.Shape.TheVariants as shapes
use Rattle.ts_model.specs.declared.kind.Kind.TheVariants as kinds
use Rattle.ts_model.specs.Catalogue.{Catalogue, Irregular, Regular, Series, shape_of, with_named}
use Rattle.ts_answer.specs.Answer.{Answered, answer, outcome, a_calendar, an_address}
use Rattle.ts_answer.specs.Reply.{stamp_line}
use Rattle.ts_answer_laws.specs.Edited.{Adds, Puts, TakesAway}

-- an element that PutElem puts comes to those of an irregular series
abbrev pub PutsAdd : Type 0
PutsAdd =
    (cat : Catalogue) (answered : Answered) (key : List ℕ) (stamp : ℤ) (literals : List Literal) (s : Series)
    → get cat.series key ≡ Some s
    → s.kind ≡ Irregular → outcome (Ok (commands.PutElem key stamp literals)) cat ≡ Ok answered
    → Adds key s cat answered

-- an element that PutElem puts into a regular series stands at what its stamp addresses
abbrev pub PutsStandAtAddresses : Type 0
PutsStandAtAddresses =
    (cat : Catalogue) (answered : Answered) (key : List ℕ) (stamp at : ℤ) (literals : List Literal) (s : Series)
    (calendar : List ℕ) (origin : ℤ)
    → get cat.series key ≡ Some s → s.kind ≡ Regular calendar origin → an_address s stamp cat ≡ Ok at
    → outcome (Ok (commands.PutElem key stamp literals)) cat ≡ Ok answered → Puts at key s cat answered

-- DelElem takes away what its stamp addresses, and nothing where that addresses none; DelClip what stands from one
-- stamp to another
pub record DeletionsTakeAway : Type 0 where
  pub element : (cat : Catalogue) (answered : Answered) (key : List ℕ) (stamp at : ℤ) (s : Series) → get cat.series key
      ≡ Some s
      → an_address s stamp cat ≡ Ok at → outcome (Ok (commands.DelElem key stamp)) cat ≡ Ok answered
      → TakesAway (λ other. int_eq other at) key s cat answered
  pub none : (cat : Catalogue) (answered : Answered) (key : List ℕ) (stamp : ℤ) (why : Refusal) (s : Series)
      → get cat.series key ≡ Some s
      → an_address s stamp cat ≡ Err why → outcome (Ok (commands.DelElem key stamp)) cat ≡ Ok answered
      → TakesAway (λ other. false) key s cat answered
  pub range : (cat : Catalogue) (answered : Answered) (key : List ℕ) (from to : ℤ) (s : Series) → get cat.series key
      ≡ Some s
      → outcome (Ok (commands.DelClip key from to)) cat ≡ Ok answered
      → TakesAway (λ at. not (int_lt at from) && not (int_lt to at)) key s cat answered

-- A stamp addresses itself in an irregular series. On a grid it addresses the start of the on interval that holds it,
-- where that isn't before the origin; BeforeOrigin comes exactly where it is, and OffStamp exactly where no on interval
-- holds the stamp.
pub record StampsAddressIntervals : Type 0 where
  pub any : (cat : Catalogue) (s : Series) (stamp : ℤ) → shape_of cat s.kind ≡ Some shapes.Irregular
      → an_address s stamp cat ≡ Ok stamp
  pub there : (cat : Catalogue) (s : Series) (grid : GridPlan) (stamp at : ℤ) → shape_of cat s.kind
      ≡ Some (shapes.Regular grid)
      → IsLaid grid.calendar → IsStamp stamp → an_address s stamp cat ≡ Ok at
      ↔ (IsHeldFrom grid.calendar stamp at × (grid.origin ≤ℤ at))
  pub before : (cat : Catalogue) (s : Series) (grid : GridPlan) (stamp : ℤ) → shape_of cat s.kind
      ≡ Some (shapes.Regular grid)
      → IsLaid grid.calendar → IsStamp stamp → an_address s stamp cat ≡ Err refusals.BeforeOrigin
      ↔ IsHeldBefore grid stamp
  pub off : (cat : Catalogue) (s : Series) (grid : GridPlan) (stamp : ℤ) → shape_of cat s.kind
      ≡ Some (shapes.Regular grid)
      → IsLaid grid.calendar → IsStamp stamp → an_address s stamp cat ≡ Err refusals.OffStamp
      ↔ (IsOnStamp grid.calendar stamp → ⊥)

-- An origin is moved to an on start: to that of the on interval that holds it, else to the next one.
pub record IsMovedTo (plan : CalendarPlan) (given origin : ℤ) : Type 0 where
  pub on : IsOnStart plan origin
  pub held : (start : ℤ) → IsHeldFrom plan given start → origin ≡ start
  pub later : (IsOnStamp plan given → ⊥) → given <ℤ origin
  pub next : (IsOnStamp plan given → ⊥) → (start : ℤ) → IsOnStart plan start → given <ℤ start → origin ≤ℤ start

-- a regular series without elements comes, from an origin on that was moved so, and this is said
pub record MakesRegular (key calendar container : List ℕ) (given : ℤ) (plan : CalendarPlan) (cat : Catalogue)
    (answered : Answered) : Type 0 where
  pub origin : ℤ
  pub moved : IsMovedTo plan given origin
  pub line : answered.0 ≡ stamp_line origin
  pub comes : answered.1
      ≡ with_named kinds.Series key (record {
        container = container;
        kind = Regular calendar origin;
        elements =
            empty;
      }) cat

-- it is what TSCreate makes
abbrev pub OriginsAreOnStarts : Type 0
OriginsAreOnStarts =
    (cat : Catalogue) (answered : Answered) (key calendar container : List ℕ) (given : ℤ) (plan : CalendarPlan)
    → a_calendar calendar cat ≡ Ok plan
    → IsLaid plan → IsStamp given → outcome (Ok (commands.TSCreate key calendar given container)) cat ≡ Ok answered
    → MakesRegular key calendar container given plan cat answered

-- a regular series has the calendar
pub record HasSeriesOn (calendar : List ℕ) (cat : Catalogue) : Type 0 where
  pub key : List ℕ
  pub series : Series
  pub listed : get cat.series key ≡ Some series
  pub origin : ℤ
  pub kind : series.kind ≡ Regular calendar origin

-- DropCalendar is refused exactly where one has it
abbrev pub UsedCalendarsStay : Type 0
UsedCalendarsStay =
    (cat : Catalogue) (name : List ℕ) (text : CalendarText) → get cat.calendars name ≡ Some text
    → outcome (Ok (commands.DropCalendar name)) cat ≡ Err refusals.InUse ↔ HasSeriesOn name cat

-- no command changes where the elements of a series that stays can stand: so none is ever at another stamp than where
-- it was put
abbrev pub SeriesKeepTheirShapes : Type 0
SeriesKeepTheirShapes =
    (cat : Catalogue) (command : Command) (key : List ℕ) (s after : Series) (shape : Shape) → get cat.series key
    ≡ Some s
    → get (answer cat (Ok command)).1.series key ≡ Some after → shape_of cat s.kind ≡ Some shape
    → (after.kind ≡ s.kind) × (shape_of (answer cat (Ok command)).1 after.kind ≡ Some shape)
