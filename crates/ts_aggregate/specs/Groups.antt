-- Elements in the order of their stamps, grouped by the on intervals of a calendar that hold them: one group is open,
-- those before it are closed.
use Rattle.std.specs.Prelude.{◌≡◌, ℕ, ◌+◌, ◌<◌, ◌≤◌, ◌^◌, ℤ, ◌<ℤ◌, ◌≤ℤ◌, int_lt, Bool, true, false, not, ◌&&◌}
use Rattle.std.specs.Prelude.{if◌then◌else◌, IfSome, Option, Some, None, List, [], ◌∷◌, ◌++◌, length, map, filter}
use Rattle.std.specs.Prelude.{slice_index, take, drop, pos, ◌+ℤ◌}
use Rattle.std.specs.Int.{w64, from_be_bytes, cast_signed}
use Rattle.ts_base.specs.Moment.{IsStamp, stamp_if_any}
use Rattle.ts_row.specs.Row.{Row, Element, seen}
use Rattle.ts_row.specs.declared.kind.Column.{Column}
use Rattle.ts_calendar.specs.Calendars.{CalendarPlan, IsBefore, IsLaid, start_at}
use Rattle.ts_sheets.specs.Stamped.{AreEarlier, AreLater}
use Rattle.ts_offset.specs.Grid.{IsOnStart, held_start}
use Rattle.ts_entry.specs.declared.stamps.Stamps.{Stamps}
use Rattle.ts_entry.specs.Stamps.{HasStamp}
use Rattle.ts_entry.specs.Entry.{Group, grouped, held_from}
use Rattle.ts_base.specs.Answer.{most_rows}
use Rattle.ts_expr.specs.declared.item.BoundItem.{BoundItem}
use Rattle.ts_expr.specs.Aggregates.{folded_row}
use Rattle.ts_aggregate.specs.declared.span.Reached.{Reached}
use Rattle.ts_aggregate.specs.declared.span.Span.{Span}
use Rattle.ts_aggregate.specs.Fold.{Fold, HasTaken, Takes}

-- what contracts see of the wanted intervals: a calendar, and from which start to which one they are asked for, both
-- included
pub record WantedPlan : Type 0 where
  pub calendar : CalendarPlan
  pub from : ℤ
  pub to : ℤ

-- a start is among them
abbrev pub is_asked : WantedPlan → ℤ → Bool
is_asked wanted s = not (int_lt s wanted.from) && not (int_lt wanted.to s)

-- a start, if it is there and among them
abbrev pub asked_start : WantedPlan → Option ℤ → Option ℤ
asked_start wanted None = None
asked_start wanted (Some s) = if is_asked wanted s then Some s else None

-- the start of the group that elements at a stamp belong to, if there is one
abbrev pub group_start : WantedPlan → ℤ → Option ℤ
group_start wanted t = asked_start wanted (held_start wanted.calendar t)

-- an on interval that holds a stamp before an end starts before one that holds a stamp behind it
abbrev pub IsBound : CalendarPlan → Option ℤ → Type 0
IsBound calendar end =
    (t u s v : ℤ) → IsBefore t end → (IsBefore u end → ⊥) → held_start calendar t ≡ Some s → held_start calendar u
    ≡ Some v → s <ℤ v

-- the stamps from one on up to an end belong to one group, or to none
pub record IsSpan (wanted : WantedPlan) (at : ℤ) (span : Span) : Type 0 where
  pub laid : IsLaid wanted.calendar
  pub here : IsBefore at span.end
  pub inside : (t : ℤ) → IsStamp t → at ≤ℤ t → IsBefore t span.end → group_start wanted t ≡ span.start
  pub bound : IsBound wanted.calendar span.end

-- each interval of a calendar ends so long after its start, unless that is beyond all stamps
pub record Lasts (calendar : CalendarPlan) (length : ℤ) : Type 0 where
  pub low : pos 0 ≤ℤ length
  pub high : length ≤ℤ pos 100_000_000_000_000_000
  pub next : (k s : ℤ) → start_at calendar k ≡ Some s → start_at calendar (k +ℤ pos 1) ≡ stamp_if_any (s +ℤ length)

-- the interval behind stamps that were reached, if it is known, starts at their end
abbrev pub IsBehind : CalendarPlan → Reached → Type 0
IsBehind calendar reached = IfSome reached.next (λ k. start_at calendar k ≡ reached.span.end)

-- each of the elements stands before an end
abbrev pub AreWithin : Option ℤ → List Element → Type 0
AreWithin None es = Unit {0}
AreWithin (Some end) es = AreEarlier end es

-- of the elements that were given, none stands behind a span; what comes behind them, up to its end, belongs to its
-- group
pub record IsGoingOn (wanted : WantedPlan) (span : Span) (given : List Element) : Type 0 where
  pub laid : IsLaid wanted.calendar
  pub within : AreWithin span.end given
  pub inside : (t : ℤ) → IsStamp t → AreEarlier t given → IsBefore t span.end → group_start wanted t ≡ span.start
  pub bound : IsBound wanted.calendar span.end

-- no on interval that holds one of the elements starts behind this
abbrev pub AreHeldBy : CalendarPlan → ℤ → List Element → Type 0
AreHeldBy calendar s [] = Unit {0}
AreHeldBy calendar s (e ∷ es) = ((z : ℤ) → held_start calendar e.0 ≡ Some z → z ≤ℤ s) × AreHeldBy calendar s es

-- a group that is asked for starts there, and none of the elements belongs to a later one
pub record IsOpen (wanted : WantedPlan) (s : ℤ) (given : List Element) : Type 0 where
  pub laid : IsLaid wanted.calendar
  pub on : IsOnStart wanted.calendar s
  pub asked : is_asked wanted s ≡ true
  pub last : AreHeldBy wanted.calendar s given

-- the same of the group that is open, if one is
abbrev pub MayBeOpen : WantedPlan → Option ℤ → List Element → Type 0
MayBeOpen wanted None given = Unit {0}
MayBeOpen wanted (Some s) given = IsOpen wanted s given

-- the elements of the open group
abbrev pub open_group : WantedPlan → Option ℤ → List Element → List Element
open_group wanted None given = []
open_group wanted (Some s) given = held_from wanted.calendar given s

-- the open group has some
abbrev pub IsFilled : WantedPlan → Option ℤ → List Element → Type 0
IsFilled wanted None given = Unit {0}
IsFilled wanted (Some s) given = 1 ≤ length (held_from wanted.calendar given s)

-- how many groups are open
abbrev pub open_count : Option ℤ → ℕ
open_count None = 0
open_count (Some s) = 1

-- the groups that are closed: those that start before the open one, or all
abbrev pub closed : WantedPlan → Option ℤ → List Element → List Group
closed wanted None given = grouped wanted.calendar wanted.from wanted.to given
closed wanted (Some s) given = filter (λ g. int_lt g.0 s) (grouped wanted.calendar wanted.from wanted.to given)

-- the rows of elements
abbrev pub rows_of : List Element → List Row
rows_of es = map (λ e. e.1) es

-- groups as what items make of them, each at its start
abbrev pub made_of : List BoundItem → List Group → List Element
made_of items groups = map (λ g. (g.0, folded_row items (rows_of g.1))) groups

-- each is a stamp, and later than those before it
abbrev pub AreOrdered : List Element → Type 0
AreOrdered [] = Unit {0}
AreOrdered (e ∷ es) = IsStamp e.0 × AreLater e.0 es × AreOrdered es

-- elements as a series may have them, fewer than 2^32
pub record AreGiven (es : List Element) : Type 0 where
  pub ordered : AreOrdered es
  pub few : length es < 2 ^ 32

-- one that groups elements: what is asked for, the span of the last one, the fold of its group, and how many groups are
-- closed
pub record Grouping : Type 0 where
  pub wanted : WantedPlan
  pub span : Span
  pub fold : Fold
  pub count : ℕ

abbrev pub grouping : WantedPlan → Span → Fold → ℕ → Grouping
grouping wanted span fold count = record { wanted = wanted; span = span; fold = fold; count = count }

-- the element of the first cell, if there is one, stands before an end
abbrev pub IsFirstBefore : Option ℤ → List (Option Element) → Type 0
IsFirstBefore end [] = Unit {0}
IsFirstBefore end (found ∷ others) = IfSome found (λ e. IsBefore e.0 end)

-- cells begin with one whose element, if its stamp stands there, stands before a limit
pub record HasBefore (limit : ℤ) (cells : List ℕ) : Type 0 where
  pub there : slice_index cells 0 ≡ 1
  pub before : cast_signed w64 (from_be_bytes w64 (take 8 (drop 1 cells))) <ℤ limit

-- a stamp, if it is known, is that of a cell of a number
abbrev pub IsAhead : Stamps → ℕ → Option ℤ → Type 0
IsAhead stamps number next = IfSome next (λ s. (cell : List ℕ) (t : ℤ) → HasStamp stamps number cell t → t ≡ s)

-- a cell has an element that isn't hidden
abbrev pub is_seen : Option Row → Bool
is_seen None = false
is_seen (Some row) = not row.hidden

-- rows are folded, where a group is open
abbrev pub MayTake : Option ℤ → List Column → Fold → List Row → Fold → Type 0
MayTake None columns v rows w = w ≡ v
MayTake (Some s) columns v rows w = Takes columns v rows w

-- each of the elements stands before an end, if there is one
abbrev pub AreBefore : Option ℤ → List Element → Type 0
AreBefore end [] = Unit {0}
AreBefore end (e ∷ es) = IsBefore e.0 end × AreBefore end es

-- it has these elements: those of the open group are folded, and the others counted
pub record Stands (v : Grouping) (given : List Element) : Type 0 where
  pub going : IsGoingOn v.wanted v.span given
  pub group : MayBeOpen v.wanted v.span.start given
  pub filled : IsFilled v.wanted v.span.start given
  pub folded : HasTaken v.fold (rows_of (open_group v.wanted v.span.start given))
  pub number : v.count ≡ length (closed v.wanted v.span.start given)
  pub few : v.count + open_count v.span.start ≤ length given

-- The same before an element at a stamp behind them: its group is open, and may have none yet.
pub record Waits (v : Grouping) (at : ℤ) (given : List Element) : Type 0 where
  pub within : AreWithin v.span.end given
  pub span : IsSpan v.wanted at v.span
  pub group : MayBeOpen v.wanted v.span.start given
  pub folded : HasTaken v.fold (rows_of (open_group v.wanted v.span.start given))
  pub number : v.count ≡ length (closed v.wanted v.span.start given)
  pub few : v.count ≤ length given

-- no group is open
pub record Rests (v : Grouping) (given : List Element) : Type 0 where
  pub folded : HasTaken v.fold []
  pub number : v.count ≡ length (closed v.wanted None given)
  pub few : v.count ≤ length given

-- between two such states the rows of these groups were handed on, behind those of others, unless they are too many by
-- now
pub record AreMade {V : Type 0} (took : V → List Element → V → Type 0) (items : List BoundItem)
    (before after : List Group)
    (count : ℕ) (x y : V) : Type 0 where
  pub rows : List Element
  pub behind : made_of items after ≡ made_of items before ++ rows
  pub taken : count ≤ most_rows → took x rows y

-- what stays from one state to another
pub record GoesOn (v w : Grouping) : Type 0 where
  pub wanted : w.wanted ≡ v.wanted
  pub binding : w.fold.binding ≡ v.fold.binding
  pub more : v.count ≤ w.count

-- From one state to another these elements were taken, of which those that are hidden belong to no group.
pub record AreGrouped {V : Type 0} (took : V → List Element → V → Type 0) (columns : List Column) (v : Grouping) (x : V)
    (es : List Element)
    (w : Grouping) (y : V) : Type 0 where
  pub same : GoesOn v w
  pub taken : columns ≡ v.fold.binding.columns → (given : List Element) → AreGiven (given ++ es) → Stands v (seen given)
      → Stands w (seen (given ++ es))
      × AreMade took v.fold.binding.items (closed v.wanted v.span.start (seen given))
      (closed v.wanted w.span.start (seen (given ++ es)))
      w.count x y

-- From one state to another the open group was closed.
pub record IsClosed {V : Type 0} (took : V → List Element → V → Type 0) (v : Grouping) (x : V) (w : Grouping)
    (y : V) : Type 0 where
  pub same : GoesOn v w
  pub taken : (given : List Element) → AreGiven given → Stands v given
      → Rests w given × AreMade took v.fold.binding.items (closed v.wanted v.span.start given)
      (closed v.wanted None given) w.count x y

-- From one state to another an element at a stamp became awaited.
pub record IsReady {V : Type 0} (took : V → List Element → V → Type 0) (v : Grouping) (x : V) (at : ℤ) (w : Grouping)
    (y : V) : Type 0 where
  pub same : GoesOn v w
  pub taken : (given : List Element) → AreGiven given → AreEarlier at given → Stands v given → Waits w at given
      × AreMade took v.fold.binding.items (closed v.wanted v.span.start given)
      (closed v.wanted w.span.start given) w.count x y
