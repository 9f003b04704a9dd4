-- Calendars: their intervals, which are valid, AND and OR of them, and their text.
use Rattle.std.specs.Prelude.{ℤ, List, [], ◌∷◌, ◌++◌, length, take, pos, neg_ℤ, ◌-ℤ◌, ◌+ℤ◌, ◌*ℤ◌, ◌≡◌, ◌*◌, ◌≤◌, Bool}
use Rattle.std.specs.Prelude.{true, false, ◌&&◌, not, nat_lt, if◌then◌else◌, int_lt, ◌≤ℤ◌, ◌<ℤ◌, Option, Some, None}
use Rattle.std.specs.Prelude.{Result, Ok, Err, IsTrue, codes, IsSome, ℕ, ◌==◌, zero, suc, drop, reverse}
use Rattle.std.specs.Str.{bytes_eq}
use Rattle.std.specs.List.{prefix_len}
use Rattle.std.specs.Int.{int_max}
use Rattle.jiff_core.specs.Calendar.{IsBetween}
use Rattle.ts_base.specs.Name.{is_name}
use Rattle.ts_base.specs.Moment.{read_stamp, stamp_text, IsStamp, stamp_if_any, months_after, day_of_month}
use Rattle.ts_base.specs.declared.unit.Unit as unit
use Rattle.ts_base.specs.declared.refusal.Refusal.{Refusal}
use Rattle.ts_base.specs.declared.refusal.Refusal.TheVariants.{BadCalendar, AllOff, UnitMismatch, NotAligned, PastEnd}
use Rattle.ts_text.specs.Phrase.{unblanked, Read, Phrase, ◌>>=◌, give, token, name_as, a_sign, behind, in_brackets}
use Rattle.ts_text.specs.Phrase.{made, ended, outcome, plain_front, a_word}
use Rattle.ts_text.specs.declared.token.TokenKind.{TokenKind}
use Rattle.ts_text.specs.declared.token.TokenKind.TheVariants.{Word}
use Rattle.ts_pattern.specs.declared.junction.Junction.{Junction}
use Rattle.ts_pattern.specs.Patterns.{flag, has_on, total, is_pattern, pattern_in, plan_of_written, printed_plan}
use Rattle.ts_pattern.specs.Patterns.{is_monthly, smaller_unit, size, joined_plan, joined_flag, joined_length, Plan}
use Rattle.ts_calendar.specs.declared.text.PatternPart.{PatternPart}
use Rattle.ts_calendar.specs.declared.text.PatternPart.TheVariants.{Named, Own}
use Rattle.ts_calendar.specs.declared.text.CalendarText.{CalendarText}
use Rattle.ts_calendar.specs.declared.grid.CommonGrid.{CommonGrid}

-- What contracts see of a calendar.

-- its start, its pattern start, and the unit and the runs of its pattern
pub record CalendarPlan : Type 0 where
  pub start : ℤ
  pub patt_start : ℤ
  pub pattern : Plan

-- The intervals of a calendar: where they start, which one holds a stamp, and which are on.

-- a day that each month has, where the unit is made of months
abbrev pub IsEarly : unit.Unit → ℤ → Type 0
IsEarly u first = IsTrue (is_monthly u) → day_of_month first ≤ 28

-- the start of interval k of a unit, where interval 0 starts at `first`, if it lies in the years 1 to 9999
abbrev pub start_in : unit.Unit → ℤ → ℤ → Option ℤ
start_in u first k =
    if is_monthly u then months_after first (k *ℤ pos (size u))
    else stamp_if_any (first +ℤ k *ℤ pos (size u * 100_000))

-- the start of interval k of a calendar, if the interval exists
abbrev pub start_at : CalendarPlan → ℤ → Option ℤ
start_at c k = start_in c.pattern.unit c.patt_start k

-- the pattern starts with a stamp, on a day that each month has; each calendar does so
pub record IsLaid (c : CalendarPlan) : Type 0 where
  pub stamp : IsStamp c.patt_start
  pub early : IsEarly c.pattern.unit c.patt_start

-- of the intervals that exist, those up to k start at a stamp or before it, and the others after it; interval k exists
-- where an earlier one does, and the next one where a later one does
pub record IsAround (c : CalendarPlan) (s k : ℤ) : Type 0 where
  pub early : (j from : ℤ) → j ≤ℤ k → start_at c j ≡ Some from → from ≤ℤ s
  pub late : (j from : ℤ) → k <ℤ j → start_at c j ≡ Some from → s <ℤ from
  pub here : (j : ℤ) → j ≤ℤ k → IsSome (start_at c j) → IsSome (start_at c k)
  pub next : (j : ℤ) → k <ℤ j → IsSome (start_at c j) → IsSome (start_at c (k +ℤ pos 1))

-- the end of an interval comes after the stamp, or is beyond all stamps
abbrev pub IsBefore : ℤ → Option ℤ → Type 0
IsBefore s None = Unit {0}
IsBefore s (Some end) = s <ℤ end

-- interval k exists and holds the stamp
pub record HoldsIn (u : unit.Unit) (first k s : ℤ) : Type 0 where
  pub from : ℤ
  pub exists_from : start_in u first k ≡ Some from
  pub after : from ≤ℤ s
  pub before : IsBefore s (start_in u first (k +ℤ pos 1))

-- the same of a calendar
abbrev pub Holds : CalendarPlan → ℤ → ℤ → Type 0
Holds c k s = HoldsIn c.pattern.unit c.patt_start k s

-- a start that exists and is not before the calendar's
abbrev pub starts_from : ℤ → Option ℤ → Bool
starts_from start None = false
starts_from start (Some from) = not (int_lt from start)

-- interval k is on: it exists, starts at the calendar's start or later, and its flag is on
abbrev pub is_on : CalendarPlan → ℤ → Bool
is_on c k = starts_from c.start (start_at c k) && flag c.pattern.runs k

-- an on interval holds the stamp
pub record IsOnStamp (c : CalendarPlan) (s : ℤ) : Type 0 where
  pub interval : ℤ
  pub on : is_on c interval ≡ true
  pub held : Holds c interval s

-- The whole numbers near 0. Interval 0 starts at a stamp, so each interval that exists has one of these numbers, and so
-- have its neighbours.

-- how far they go to either side
abbrev pub reach : ℕ
reach = 400_000_000_000

-- how many they are
abbrev pub near_count : ℕ
near_count = 800_000_000_001

-- one of these numbers
abbrev pub IsNear : ℤ → Type 0
IsNear k = IsBetween (neg_ℤ (pos reach)) (pos reach) k

-- the first of the next numbers from k on that passes
unfoldable pub first_from : (ℤ → Bool) → ℤ → ℕ → Option ℤ
first_from test k zero = None
first_from test k (suc more) = if test k then Some k else first_from test (k +ℤ pos 1) more

-- the first number near 0 that passes
abbrev pub first_interval : (ℤ → Bool) → Option ℤ
first_interval test = first_from test (neg_ℤ (pos reach)) near_count

-- Calendars: which are valid, and their AND and OR.

-- a day of the month that some month doesn't have
abbrev pub is_late : unit.Unit → ℤ → Bool
is_late u first = is_monthly u && nat_lt 28 (day_of_month first)

-- the pattern start comes before the start, or a whole round of the pattern fits between the two
abbrev pub is_apart : CalendarPlan → Bool
is_apart c =
    if int_lt c.patt_start c.start then true
    else starts_from c.start (start_in c.pattern.unit c.patt_start (neg_ℤ (pos (total c.pattern.runs))))

-- the calendar, or the first rule that it breaks
abbrev pub valid_calendar : CalendarPlan → Result CalendarPlan Refusal
valid_calendar c =
    if is_late c.pattern.unit c.patt_start then Err (BadCalendar 0)
    else (if is_apart c then Err (BadCalendar 0)
    else (if has_on c.pattern.runs then Ok c else Err AllOff))

-- no rule is broken; each calendar that there is keeps them
abbrev pub IsValid : CalendarPlan → Type 0
IsValid c = valid_calendar c ≡ Ok c

-- whether an interval starts at this stamp
abbrev pub starts_at : ℤ → Option ℤ → Bool
starts_at s None = false
starts_at s (Some from) = not (int_lt from s) && not (int_lt s from)

-- how many intervals of a unit lead from one stamp to another, if a whole number does
abbrev pub steps_between : unit.Unit → ℤ → ℤ → Option ℤ
steps_between u from to = first_interval (λ k. starts_at to (start_in u from k))

-- the first interval from `from` on that isn't before a stamp, if it exists
abbrev pub first_step : unit.Unit → ℤ → ℤ → Option ℤ
first_step u from start = first_interval (λ k. starts_from start (start_in u from k))

-- interval k from `from` on starts at a stamp or after it, and each earlier one before it
pub record IsFirstStep (u : unit.Unit) (from start k : ℤ) : Type 0 where
  pub at : ℤ
  pub exists_at : start_in u from k ≡ Some at
  pub after : start ≤ℤ at
  pub earlier : (j s : ℤ) → j <ℤ k → start_in u from j ≡ Some s → s <ℤ start

-- goes on with what is there, or else refuses
abbrev pub found_or : {A B : Type 0} → Refusal → Option A → (A → Result B Refusal) → Result B Refusal
found_or why None next = Err why
found_or why (Some a) next = next a

-- the grid of two calendars: their smaller unit, and how many of it lead from the first pattern start to the second
abbrev pub common_grid : CalendarPlan → CalendarPlan → Result CommonGrid Refusal
common_grid a b =
    found_or UnitMismatch (smaller_unit a.pattern.unit b.pattern.unit) (λ u.
    found_or NotAligned (steps_between u a.patt_start b.patt_start) (λ steps.
    Ok (record { unit = u; steps = steps })))

-- a calendar whose pattern has an on run
abbrev pub with_pattern : ℤ → ℤ → Result Plan Refusal → Result CalendarPlan Refusal
with_pattern start patt_start (Err why) = Err why
with_pattern start patt_start (Ok p) =
    if has_on p.runs then Ok (record { start = start; patt_start = patt_start; pattern = p }) else Err AllOff

-- the AND or the OR of two calendars: from the later start on, its pattern from the first start of their grid that
-- isn't before it
abbrev pub joined_calendar : Junction → CalendarPlan → CalendarPlan → Result CalendarPlan Refusal
joined_calendar junction a b =
    found_or UnitMismatch (smaller_unit a.pattern.unit b.pattern.unit) (λ u.
    found_or NotAligned (steps_between u a.patt_start b.patt_start) (λ between.
    found_or PastEnd (first_step u a.patt_start (int_max a.start b.start)) (λ shift.
    found_or PastEnd (start_in u a.patt_start shift) (λ patt_start.
    with_pattern (int_max a.start b.start) patt_start
    (joined_plan junction a.pattern shift b.pattern (shift -ℤ between))))))

-- c has the later start and the smaller unit; its pattern starts so many steps after either one's, and has at each
-- interval their flags joined, in as many intervals as both repeat in
pub record IsJoin (junction : Junction) (a b c : CalendarPlan) : Type 0 where
  pub units : smaller_unit a.pattern.unit b.pattern.unit ≡ Some c.pattern.unit
  pub from : c.start ≡ int_max a.start b.start
  pub steps : ℤ
  pub steps_lead : start_in c.pattern.unit a.patt_start steps ≡ Some c.patt_start
  pub other_steps : ℤ
  pub other_steps_lead : start_in c.pattern.unit b.patt_start other_steps ≡ Some c.patt_start
  pub flags : (k : ℤ) → flag c.pattern.runs k
      ≡ joined_flag junction c.pattern.unit a.pattern steps b.pattern other_steps k
  pub length : total c.pattern.runs ≡ joined_length c.pattern.unit a.pattern b.pattern

-- The text of a calendar, as in `startdate(S), pattstart(S), pattname(N)`: its grammar, what it reads as, and how it
-- is printed.

-- a calendar of these parts
abbrev pub calendar_text : ℤ → ℤ → PatternPart → CalendarText
calendar_text start patt_start part = record { start = start; patt_start = patt_start; part = part }

-- how many bytes stand before the next closing bracket, or before the end
abbrev pub inside_len : List ℕ → ℕ
inside_len = prefix_len (λ b. not (b == 41))

-- the text without the blanks at its end
abbrev pub trimmed : List ℕ → List ℕ
trimmed text = reverse (unblanked (reverse text))

-- the bytes before the next closing bracket, without the blanks at their end
abbrev pub inside : List ℕ → List ℕ
inside text = trimmed (take (inside_len text) text)

-- what the bytes before the bracket are, and the text from the bracket on
abbrev pub stamp_or_not : Option ℤ → List ℕ → Read ℤ
stamp_or_not None text = Err (length text)
stamp_or_not (Some s) text = Ok (s, drop (inside_len text) text)

-- a stamp before a closing bracket
abbrev pub stamp_in : Phrase ℤ
stamp_in = λ text. stamp_or_not (read_stamp (inside (unblanked text))) (unblanked text)

-- a certain word, and a stamp in brackets
unfoldable pub date_in : List ℕ → Phrase ℤ
date_in word = do
  name ← a_word word
  in_brackets stamp_in

-- the name of a pattern
unfoldable pub name_in : Phrase (List ℕ)
name_in = token plain_front name_as

-- the name of a pattern, in brackets
unfoldable pub name_part_in : Phrase PatternPart
name_part_in = made (in_brackets name_in) Named

-- a pattern as it is written, in brackets
unfoldable pub pattern_part_in : Phrase PatternPart
pattern_part_in = made (in_brackets pattern_in) Own

-- whether a name follows, or a pattern
abbrev pub part_as : TokenKind → List ℕ → Option Bool
part_as Word word = if bytes_eq word (codes "pattname") then Some true
    else (if bytes_eq word (codes "pattern") then Some false else None)
part_as kind token = None

-- the word before a name or a pattern
unfoldable pub part_word_in : Phrase Bool
part_word_in = token plain_front part_as

-- what stands behind that word
abbrev pub part_behind : Bool → Phrase PatternPart
part_behind true = name_part_in
part_behind false = pattern_part_in

-- which pattern: behind the word `pattname` its name, behind `pattern` a pattern
unfoldable pub part_in : Phrase PatternPart
part_in = do
  is_named ← part_word_in
  part_behind is_named

-- the two dates, each with a comma behind it
unfoldable pub dates_in : Phrase (ℤ × ℤ)
dates_in = do
  start ← date_in (codes "startdate")
  patt_start ← behind 44 (date_in (codes "pattstart"))
  comma ← a_sign 44
  give (start, patt_start)

-- a calendar, with a pattern as it is written
unfoldable pub calendar_in : Phrase CalendarText
calendar_in = do
  dates ← dates_in
  part ← part_in
  give (calendar_text dates.0 dates.1 part)

-- a text that is a calendar's, or the place of what can't stand there
abbrev pub written_calendar : List ℕ → Result CalendarText ℕ
written_calendar text = outcome (length text) (ended [] calendar_in text)

-- the pattern with its runs merged
abbrev pub own_part : Result Plan Refusal → Result PatternPart Refusal
own_part (Ok p) = Ok (Own p)
own_part (Err why) = Err why

-- the part with the runs of its pattern merged
abbrev pub part_of_written : PatternPart → Result PatternPart Refusal
part_of_written (Named name) = Ok (Named name)
part_of_written (Own p) = own_part (plan_of_written p)

-- the same dates with this part
abbrev pub with_part : CalendarText → Result PatternPart Refusal → Result CalendarText Refusal
with_part c (Ok part) = Ok (calendar_text c.start c.patt_start part)
with_part c (Err why) = Err why

-- the calendar of a text as it is written
abbrev pub calendar_of_written : CalendarText → Result CalendarText Refusal
calendar_of_written c = with_part c (part_of_written c.part)

-- what a text reads as
abbrev pub calendar_or_place : Result CalendarText ℕ → Result CalendarText Refusal
calendar_or_place (Ok written) = calendar_of_written written
calendar_or_place (Err place) = Err (BadCalendar place)

-- the calendar that a text reads as, or why there is none
abbrev pub read_calendar : List ℕ → Result CalendarText Refusal
read_calendar text = calendar_or_place (written_calendar text)

-- how the pattern is printed
abbrev pub printed_part : PatternPart → List ℕ
printed_part (Named name) = codes "pattname(" ++ name ++ 41 ∷ []
printed_part (Own p) = codes "pattern(" ++ printed_plan p ++ 41 ∷ []

-- how a calendar is printed
abbrev pub printed_calendar : CalendarText → List ℕ
printed_calendar c =
    codes "startdate(" ++ stamp_text c.start ++ codes "), pattstart(" ++ stamp_text c.patt_start ++ codes "), "
    ++ printed_part c.part

-- a name, or a pattern, as each value of the type has it
abbrev pub IsSoundPart : PatternPart → Type 0
IsSoundPart (Named name) = IsTrue (is_name name)
IsSoundPart (Own p) = IsTrue (is_pattern p.runs)

-- two stamps and such a part
pub record IsSound (c : CalendarText) : Type 0 where
  pub start_is : IsStamp c.start
  pub patt_start_is : IsStamp c.patt_start
  pub part_is : IsSoundPart c.part
