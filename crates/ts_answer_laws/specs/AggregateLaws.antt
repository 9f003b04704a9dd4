-- What the laws of answers say of aggregates: of a series from one stamp to another, of each series of a container, and
-- of each on interval of a calendar.
use Rattle.std.specs.Prelude.{◌≡◌, ℕ, ℤ, pos, ◌≤ℤ◌, ◌<ℤ◌, false, Some, Ok, List, [], ◌∷◌, map, AllPairs, Contains, ◌↔◌}
use Rattle.std.specs.FinMap.{get}
use Rattle.std.specs.declared.cmp.Ordering.TheVariants.{Less}
use Rattle.ts_base.specs.Moment.{IsStamp}
use Rattle.ts_row.specs.declared.kind.Column.{Column}
use Rattle.ts_row.specs.declared.value.Value.TheVariants.{Number}
use Rattle.ts_row.specs.Row.{Values, Row, visible, Element}
use Rattle.ts_calendar.specs.Calendars.{CalendarPlan, IsLaid}
use Rattle.ts_offset.specs.Grid.{IsOnStart, IsHeldFrom}
use Rattle.ts_expr.specs.declared.function.Function.TheVariants.{Count}
use Rattle.ts_expr.specs.declared.item.Item.{Item}
use Rattle.ts_expr.specs.declared.item.BoundItem.{BoundItem}
use Rattle.ts_expr.specs.Aggregates.{read_list, Binding, binding, is_null, value_at, folded}
use Rattle.ts_command.specs.declared.command.Command.TheVariants as commands
use Rattle.ts_model.specs.Catalogue.{Irregular, Elements, Series, Catalogue, name_cmp, columns_of}
use Rattle.ts_answer.specs.Answer.{Answered, outcome, a_calendar, scales_of, with_elements}
use Rattle.ts_answer.specs.Reply.{count_line, folded_text, series_folded_text}
use Rattle.ts_answer_laws.specs.ReadingLaws.{IsSeenAt}

-- elements are all that are seen of a series at some stamps, their stamps strictly rising
pub record AreSeenAt (Within : ℤ → Type 0) (s : Series) (es : List Element) : Type 0 where
  pub rising : AllPairs (λ a b. a.0 <ℤ b.0) es
  pub theirs : (stamp : ℤ) (row : Row) → Contains es (stamp, row) → Within stamp × IsSeenAt s stamp row
  pub each : (stamp : ℤ) (row : Row) → Within stamp → IsSeenAt s stamp row → Contains es (stamp, row)

-- values are what the items of a list make of their rows
pub record AreFolded (Within : ℤ → Type 0) (items : List BoundItem) (s : Series) (values : Values) : Type 0 where
  pub elements : List Element
  pub are : AreSeenAt Within s elements
  pub made : values ≡ folded items (map (λ e. e.1) elements)

-- a text is a list, which is bound to columns
pub record IsBound (text : List ℕ) (columns : List Column) (b : Binding) : Type 0 where
  pub items : List Item
  pub read : read_list text ≡ Ok items
  pub bound : binding columns items ≡ Ok b

-- a stamp isn't before one, nor after another
abbrev pub IsFromTo : ℤ → ℤ → ℤ → Type 0
IsFromTo from to stamp = (from ≤ℤ stamp) × (stamp ≤ℤ to)

-- a reply is one row, with the first of two stamps, of what is seen between them
pub record ListsRange (text : List ℕ) (from to : ℤ) (s : Series) (cat : Catalogue) (answered : Answered) : Type 0 where
  pub b : Binding
  pub bound : IsBound text (columns_of cat s) b
  pub row : Row
  pub folded : AreFolded (IsFromTo from to) b.items s row.values
  pub line : answered ≡ (folded_text (scales_of b) ((from, row) ∷ []), cat)

-- AggregateRange says it
abbrev pub RangesAreFolded : Type 0
RangesAreFolded =
    (cat : Catalogue) (answered : Answered) (text key : List ℕ) (from to : ℤ) (s : Series) → get cat.series key ≡ Some s
    → outcome (Ok (commands.AggregateRange text key from to)) cat ≡ Ok answered → ListsRange text from to s cat answered

-- of two series the same elements are seen from one stamp to another
abbrev pub SeeSame : ℤ → ℤ → Series → Series → Type 0
SeeSame from to a b = (stamp : ℤ) (row : Row) → IsFromTo from to stamp → IsSeenAt a stamp row ↔ IsSeenAt b stamp row

-- whatever else a series has, hidden or at other stamps, AggregateRange says the same
abbrev pub OthersPlayNoPart : Type 0
OthersPlayNoPart =
    (cat : Catalogue) (answered : Answered) (text key : List ℕ) (from to : ℤ) (s : Series) (elements : Elements)
    → get cat.series key ≡ Some s
    → SeeSame from to s (record s { elements = elements }) → outcome (Ok (commands.AggregateRange text key from to)) cat
    ≡ Ok answered
    → outcome (Ok (commands.AggregateRange text key from to)) (with_elements key s elements cat)
    ≡ Ok (answered.0, with_elements key s elements cat)

-- a series stands in a container
pub record StandsIn (cat : Catalogue) (container key : List ℕ) : Type 0 where
  pub series : Series
  pub there : get cat.series key ≡ Some series
  pub inside : series.container ≡ container

-- A reply lists the series of a container, and no other, in the order of their keys, each with the values that
-- AggregateRange says of it for the same list and stamps.
pub record ListsContainer (text container : List ℕ) (from to : ℤ) (cat : Catalogue) (answered : Answered) : Type 0 where
  pub scales : List ℕ
  pub rows : List (List ℕ × Row)
  pub rising : AllPairs (λ a b. name_cmp a.0 b.0 ≡ Less) rows
  pub inside : (key : List ℕ) (row : Row) → Contains rows (key, row) → StandsIn cat container key
  pub ranges : (key : List ℕ) (row : Row) → Contains rows (key, row)
      → outcome (Ok (commands.AggregateRange text key from to)) cat ≡ Ok (folded_text scales ((from, row) ∷ []), cat)
  pub each : (key : List ℕ) → StandsIn cat container key → (row : Row) × Contains rows (key, row)
  pub lines : answered ≡ (series_folded_text scales rows, cat)

-- AggregateAll lists them
abbrev pub ContainersAreListed : Type 0
ContainersAreListed =
    (cat : Catalogue) (answered : Answered) (text container : List ℕ) (from to : ℤ)
    → outcome (Ok (commands.AggregateAll text container from to)) cat ≡ Ok answered
    → ListsContainer text container from to cat answered

-- an on interval that starts there holds an element that is seen
pub record HoldsSeen (plan : CalendarPlan) (s : Series) (start : ℤ) : Type 0 where
  pub stamp : ℤ
  pub row : Row
  pub at : IsSeenAt s stamp row
  pub held : IsHeldFrom plan stamp start

-- the stamps that the on interval holds which starts there are those from its start to this last one
abbrev pub IsLastOf : CalendarPlan → ℤ → ℤ → Type 0
IsLastOf plan start last = (stamp : ℤ) → IsStamp stamp → IsHeldFrom plan stamp start ↔ IsFromTo start last stamp

-- AggregateRange says this row from the start of an interval to its last stamp
pub record SaysAsRange (text key : List ℕ) (plan : CalendarPlan) (scales : List ℕ) (start : ℤ) (row : Row)
    (cat : Catalogue) : Type 0 where
  pub last : ℤ
  pub is : IsLastOf plan start last
  pub says : outcome (Ok (commands.AggregateRange text key start last)) cat
      ≡ Ok (folded_text scales ((start, row) ∷ []), cat)

-- A reply has a row for each on interval that starts from one stamp to another and holds an element that is seen, and
-- no other, their starts strictly rising. A row has the values that AggregateRange says from the interval's start to
-- its last stamp.
pub record ListsIntervals (text key : List ℕ) (plan : CalendarPlan) (from to : ℤ) (s : Series) (cat : Catalogue)
    (answered : Answered) : Type 0 where
  pub b : Binding
  pub bound : IsBound text (columns_of cat s) b
  pub rows : List Element
  pub rising : AllPairs (λ a c. a.0 <ℤ c.0) rows
  pub starts : (start : ℤ) (row : Row) → Contains rows (start, row) → IsOnStart plan start × IsFromTo from to start
      × HoldsSeen plan s start
  pub folded : (start : ℤ) (row : Row) → Contains rows (start, row)
      → AreFolded (λ stamp. IsHeldFrom plan stamp start) b.items s row.values
  pub ranges : (start : ℤ) (row : Row) → Contains rows (start, row)
      → SaysAsRange text key plan (scales_of b) start row cat
  pub each : (start : ℤ) → IsOnStart plan start → IsFromTo from to start → HoldsSeen plan s start → (row : Row)
      × Contains rows (start, row)
  pub lines : answered ≡ (folded_text (scales_of b) rows, cat)

-- the elements that are seen stand at stamps
abbrev pub HasStamps : Series → Type 0
HasStamps s = (stamp : ℤ) (row : Row) → IsSeenAt s stamp row → IsStamp stamp

-- AggregateBy lists them
abbrev pub IntervalsAreListed : Type 0
IntervalsAreListed =
    (cat : Catalogue) (answered : Answered) (text calendar key : List ℕ) (from to : ℤ) (s : Series)
    (plan : CalendarPlan)
    → get cat.series key ≡ Some s → HasStamps s → a_calendar calendar cat ≡ Ok plan → IsLaid plan
    → outcome (Ok (commands.AggregateBy text calendar key from to)) cat ≡ Ok answered
    → ListsIntervals text key plan from to s cat answered

-- each element of a series that is seen from one stamp to another has a value in a column
abbrev pub HaveValues : ℕ → ℤ → ℤ → Series → Type 0
HaveValues column from to s = (stamp : ℤ) (row : Row) → IsFromTo from to stamp → IsSeenAt s stamp row
    → is_null (value_at column row.values) ≡ false

-- a number is what ClipGetCount says, and the one value that AggregateRange says
pub record AreAsMany (text key : List ℕ) (from to : ℤ) (scales : List ℕ) (cat : Catalogue) : Type 0 where
  pub count : ℕ
  pub listed : outcome (Ok (commands.ClipGetCount key from to)) cat ≡ Ok (count_line count, cat)
  pub counted : outcome (Ok (commands.AggregateRange text key from to)) cat
      ≡ Ok (folded_text scales ((from, visible (Number (pos count) ∷ [])) ∷ []), cat)

-- so is the count of a column of an irregular series whose elements have values there
abbrev pub CountsAreOfElements : Type 0
CountsAreOfElements =
    (cat : Catalogue) (text key : List ℕ) (from to : ℤ) (s : Series) (b : Binding) (item : BoundItem)
    → get cat.series key ≡ Some s → s.kind ≡ Irregular
    → IsBound text (columns_of cat s) b → b.items ≡ item ∷ [] → item.function ≡ Count → HaveValues item.column from to s
    → AreAsMany text key from to (scales_of b) cat
