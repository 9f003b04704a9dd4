-- What Union and Intersect list of two series of a catalogue: at which stamps, and with which values.
use Rattle.std.specs.Prelude.{◌≡◌, ℕ, ℤ, ◌≤ℤ◌, ◌<ℤ◌, true, Option, Some, None, Ok, List, ◌++◌, length, AllPairs}
use Rattle.std.specs.Prelude.{Contains}
use Rattle.std.specs.FinMap.{get}
use Rattle.ts_base.specs.declared.unit.Unit as unit
use Rattle.ts_row.specs.Row.{Row, visible, Element}
use Rattle.ts_pattern.specs.declared.junction.Junction.{Junction}
use Rattle.ts_pattern.specs.declared.junction.Junction.TheVariants.{And, Or}
use Rattle.ts_pattern.specs.Patterns.{smaller_unit}
use Rattle.ts_calendar.specs.Calendars.{CalendarPlan, start_in}
use Rattle.ts_offset.specs.Grid.{GridPlan, IsHeldFrom}
use Rattle.ts_offset.specs.declared.shape.Shape.TheVariants as shapes
use Rattle.ts_combine.specs.Combine.{values_or_nulls, is_kept}
use Rattle.ts_command.specs.declared.command.Command.TheVariants as commands
use Rattle.ts_model.specs.Catalogue.{Series, Catalogue, columns_of, shape_of}
use Rattle.ts_answer.specs.Answer.{Answered, outcome}
use Rattle.ts_answer.specs.Reply.{elements_text}
use Rattle.ts_answer_laws.specs.ReadingLaws.{IsSeenAt, HasSeen, OneIsIrregular}
use Rattle.ts_catalogue_laws.specs.Catalogue.{IsCatalogue}

-- the element of a series that is seen at a stamp, or none
abbrev pub SeenAt : Series → ℤ → Option Row → Type 0
SeenAt s stamp None = ¬ HasSeen s stamp
SeenAt s stamp (Some row) = IsSeenAt s stamp row

-- the element that is seen at the start of the on interval that holds a stamp, or none
abbrev pub SeenAround : CalendarPlan → Series → ℤ → Option Row → Type 0
SeenAround plan s stamp None = (start : ℤ) → IsHeldFrom plan stamp start → ¬ HasSeen s start
SeenAround plan s stamp (Some row) = (start : ℤ) × IsHeldFrom plan stamp start × IsSeenAt s start row

-- the visible row with the values of both, of the one before those of the other, NULL in each column where one has none
abbrev pub row_of_both : Catalogue → Series → Series → Option Row → Option Row → Row
row_of_both cat a b x y =
    visible (values_or_nulls (length (columns_of cat a)) x ++ values_or_nulls (length (columns_of cat b)) y)

-- what two series have at a stamp, one of them at least or both
pub record AreBoth (junction : Junction) (First Second : Option Row → Type 0) (cat : Catalogue) (a b : Series)
    (row : Row) : Type 0 where
  pub first : Option Row
  pub second : Option Row
  pub first_is : First first
  pub second_is : Second second
  pub kept : is_kept junction first second ≡ true
  pub row_is : row ≡ row_of_both cat a b first second

-- A reply lists the rows of two series at such stamps between two, in the order of their stamps, and no others: where
-- one of them has an element, or both have, each row with the values of both.
pub record ListsBoth (junction : Junction) (At : ℤ → Type 0) (First Second : ℤ → Option Row → Type 0) (from to : ℤ)
    (a b : Series) (cat : Catalogue) (answered : Answered) : Type 0 where
  pub rows : List Element
  pub rising : AllPairs (λ x y. x.0 <ℤ y.0) rows
  pub within : (stamp : ℤ) (row : Row) → Contains rows (stamp, row) → At stamp × (from ≤ℤ stamp) × (stamp ≤ℤ to)
  pub theirs : (stamp : ℤ) (row : Row) → Contains rows (stamp, row)
      → AreBoth junction (First stamp) (Second stamp) cat a b row
  pub each : (stamp : ℤ) (x y : Option Row) → At stamp → from ≤ℤ stamp → stamp ≤ℤ to → First stamp x
      → Second stamp y
      → is_kept junction x y ≡ true → Contains rows (stamp, row_of_both cat a b x y)
  pub lines : answered ≡ (elements_text (columns_of cat a ++ columns_of cat b) rows, cat)

-- A start of the grid that two calendars have in common: that of the smaller unit through the pattern start of either,
-- from the later start of the two on.
pub record IsCommonStart (a b : CalendarPlan) (stamp : ℤ) : Type 0 where
  pub unit : unit.Unit
  pub smaller : smaller_unit a.pattern.unit b.pattern.unit ≡ Some unit
  pub steps : ℤ
  pub aligned : start_in unit a.patt_start steps ≡ Some b.patt_start
  pub number : ℤ
  pub start : start_in unit a.patt_start number ≡ Some stamp
  pub after_first : a.start ≤ℤ stamp
  pub after_second : b.start ≤ℤ stamp

-- where one of two series at least is irregular: at the stamps of their elements
abbrev pub ListsByStamps : Junction → ℤ → ℤ → Series → Series → Catalogue → Answered → Type 0
ListsByStamps junction from to a b cat answered =
    ListsBoth junction (λ stamp. Unit {0}) (SeenAt a) (SeenAt b) from to a b cat answered

-- where both lie on grids: at the starts that they have in common, where each has the element whose interval holds the
-- start
abbrev pub ListsByStarts : Junction → GridPlan → GridPlan → ℤ → ℤ → Series → Series → Catalogue → Answered → Type 0
ListsByStarts junction g h from to a b cat answered =
    ListsBoth junction (IsCommonStart g.calendar h.calendar) (SeenAround g.calendar a) (SeenAround h.calendar b) from to
    a b cat answered

-- an element of a series stands at each common start within its interval, whatever the other series has there
abbrev pub SpreadsFirst : GridPlan → GridPlan → ℤ → ℤ → Series → Series → Catalogue → List Element → Type 0
SpreadsFirst g h from to a b cat rows =
    (stamp start : ℤ) (row : Row) → IsCommonStart g.calendar h.calendar stamp → from ≤ℤ stamp → stamp ≤ℤ to
    → IsHeldFrom g.calendar stamp start → IsSeenAt a start row
    → (other : Option Row) × Contains rows (stamp, row_of_both cat a b (Some row) other)

abbrev pub SpreadsSecond : GridPlan → GridPlan → ℤ → ℤ → Series → Series → Catalogue → List Element → Type 0
SpreadsSecond g h from to a b cat rows =
    (stamp start : ℤ) (row : Row) → IsCommonStart g.calendar h.calendar stamp → from ≤ℤ stamp → stamp ≤ℤ to
    → IsHeldFrom h.calendar stamp start → IsSeenAt b start row
    → (other : Option Row) × Contains rows (stamp, row_of_both cat a b other (Some row))

-- what Union lists of two regular series
pub record UnitesGrids (g h : GridPlan) (from to : ℤ) (a b : Series) (cat : Catalogue) (answered : Answered) : Type 0
  where
    pub lists : ListsByStarts Or g h from to a b cat answered
    pub first_spreads : SpreadsFirst g h from to a b cat lists.rows
    pub second_spreads : SpreadsSecond g h from to a b cat lists.rows

-- two series lie on grids
pub record LieOnGrids (cat : Catalogue) (a b : Series) (P : GridPlan → GridPlan → Type 0) : Type 0 where
  pub first : GridPlan
  pub second : GridPlan
  pub first_is : shape_of cat a.kind ≡ Some (shapes.Regular first)
  pub second_is : shape_of cat b.kind ≡ Some (shapes.Regular second)
  pub so : P first second

-- neither of two series is irregular
abbrev pub BothAreRegular : Series → Series → Type 0
BothAreRegular a b = OneIsIrregular a b → ⊥

-- Union lists the rows of one series at least, Intersect those of both
pub record JoinsListBoth : Type 0 where
  pub union : (cat : Catalogue) (answered : Answered) (first second : List ℕ) (from to : ℤ) (a b : Series)
      → get cat.series first ≡ Some a → get cat.series second ≡ Some b → OneIsIrregular a b
      → outcome (Ok (commands.Union first second from to)) cat ≡ Ok answered
      → ListsByStamps Or from to a b cat answered
  pub intersection : (cat : Catalogue) (answered : Answered) (first second : List ℕ) (from to : ℤ) (a b : Series)
      → get cat.series first ≡ Some a → get cat.series second ≡ Some b → OneIsIrregular a b
      → outcome (Ok (commands.Intersect first second from to)) cat ≡ Ok answered
      → ListsByStamps And from to a b cat answered
  pub union_of_grids : (cat : Catalogue) (answered : Answered) (first second : List ℕ) (from to : ℤ) (a b : Series)
      → IsCatalogue cat → get cat.series first ≡ Some a → get cat.series second ≡ Some b → BothAreRegular a b
      → outcome (Ok (commands.Union first second from to)) cat ≡ Ok answered
      → LieOnGrids cat a b (λ g h. UnitesGrids g h from to a b cat answered)
  pub intersection_of_grids : (cat : Catalogue) (answered : Answered) (first second : List ℕ) (from to : ℤ)
      (a b : Series)
      → IsCatalogue cat → get cat.series first ≡ Some a → get cat.series second ≡ Some b → BothAreRegular a b
      → outcome (Ok (commands.Intersect first second from to)) cat ≡ Ok answered
      → LieOnGrids cat a b (λ g h. ListsByStarts And g h from to a b cat answered)
