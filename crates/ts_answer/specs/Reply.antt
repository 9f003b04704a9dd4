-- What is said to a command: the lines of replies, and tests of which the first that fails is said.
use Rattle.std.specs.Prelude.{ℕ, ◌==◌, ◌&&◌, ℤ, Bool, nat_lt, nat_le, if◌then◌else◌, int_lt, true, false, Option, Some}
use Rattle.std.specs.Prelude.{None, List, [], ◌∷◌, ◌++◌, length, codes, decimal, flat_map, Result, Ok, Err, is_some}
use Rattle.std.specs.FinMap.{entries, get, len}
use Rattle.std.specs.List.{join_with_byte}
use Rattle.ts_base.specs.Moment.{stamp_text}
use Rattle.ts_base.specs.declared.refusal.Refusal.{Refusal}
use Rattle.ts_base.specs.declared.refusal.Refusal.TheVariants as refusals
use Rattle.ts_base.specs.Refusal.{refusal_code, refusal_name}
use Rattle.ts_row.specs.declared.kind.Column.{Column}
use Rattle.ts_row.specs.declared.value.Literal.{Literal}
use Rattle.ts_row.specs.Row.{Element, Values, Row, row_of, row_text, value_text, quoted, number_text}
use Rattle.ts_pattern.specs.Patterns.{Plan, printed_plan}
use Rattle.ts_calendar.specs.Calendars.{CalendarPlan, printed_calendar}
use Rattle.ts_calendar.specs.declared.text.PatternPart.{PatternPart}
use Rattle.ts_calendar.specs.declared.text.CalendarText.{CalendarText}
use Rattle.ts_offset.specs.Grid.{GridPlan, held_start}
use Rattle.ts_offset.specs.declared.shape.Shape.{Shape}
use Rattle.ts_offset.specs.declared.shape.Shape.TheVariants as shapes
use Rattle.ts_sheets.specs.Stamped.{place_for}
pub use Rattle.ts_sheets.specs.Stamped.{placed}
use Rattle.ts_model.specs.declared.kind.Kind.{Kind}
use Rattle.ts_model.specs.Definitions.{limit}
use Rattle.ts_model.specs.Catalogue.{Named, Elements, SeriesKind, Irregular, Regular, Series, Catalogue, pattern_of}
use Rattle.ts_model.specs.Catalogue.{calendar_of, shape_of, old_format, named}
use Rattle.ts_entry.specs.Entry.{Entry}

-- The texts of replies: lines, each ended by a line feed, of which the last begins with `ok` or `error`.

-- `ok`, and the same before a count, two counts, a number with its sign or a stamp
unfoldable pub ok_line : List ℕ
ok_line = codes "ok\n"

unfoldable pub count_line : ℕ → List ℕ
count_line n = codes "ok " ++ decimal n ++ codes "\n"

unfoldable pub counts_line : ℕ → ℕ → List ℕ
counts_line n m = codes "ok " ++ decimal n ++ codes " " ++ decimal m ++ codes "\n"

unfoldable pub number_line : ℤ → List ℕ
number_line n = codes "ok " ++ number_text 0 n ++ codes "\n"

unfoldable pub stamp_line : ℤ → List ℕ
stamp_line stamp = codes "ok " ++ stamp_text stamp ++ codes "\n"

-- `error`, the number of a refusal and its name
unfoldable pub refusal_line : Refusal → List ℕ
refusal_line refusal = codes "error " ++ decimal (refusal_code refusal) ++ codes " " ++ refusal_name refusal
    ++ codes "\n"

-- an element: its stamp and its values
unfoldable pub element_line : List Column → Element → List ℕ
element_line columns e = stamp_text e.0 ++ codes " " ++ row_text columns e.1 ++ codes "\n"

-- a pattern in a line, and `ok`; a calendar so
unfoldable pub pattern_lines : Plan → List ℕ
pattern_lines pattern = printed_plan pattern ++ codes "\n" ++ ok_line

unfoldable pub calendar_lines : CalendarText → List ℕ
calendar_lines text = printed_calendar text ++ codes "\n" ++ ok_line

-- a stamp in a line
abbrev pub stamp_row : ℤ → List ℕ
stamp_row stamp = stamp_text stamp ++ codes "\n"

-- stamps, one a line, and how many they are
unfoldable pub stamps_text : List ℤ → List ℕ
stamps_text stamps = flat_map stamp_row stamps ++ count_line (length stamps)

-- elements, one a line, and how many they are
unfoldable pub elements_text : List Column → List Element → List ℕ
elements_text columns es = flat_map (element_line columns) es ++ count_line (length es)

-- the values of a row, or that there is none
abbrev pub row_or_none : List Column → Option Row → List ℕ
row_or_none columns None = codes "none"
row_or_none columns (Some row) = row_text columns row

-- an entry: its stamp, and the values of the element there or that there is none
unfoldable pub entry_line : List Column → Entry → List ℕ
entry_line columns e = stamp_text e.0 ++ codes " " ++ row_or_none columns e.1 ++ codes "\n"

-- entries, one a line, and how many they are
unfoldable pub entries_text : List Column → List Entry → List ℕ
entries_text columns es = flat_map (entry_line columns) es ++ count_line (length es)

-- what a series is called by how its elements lie
abbrev pub shape_word : Bool → List ℕ
shape_word true = codes "regular"
shape_word false = codes "irregular"

-- a series in a list: its key in quotes, a quote in it twice, whether it is regular, and how many elements it has
unfoldable pub series_line : List ℕ × Bool × ℕ → List ℕ
series_line s = codes "'" ++ flat_map quoted s.0 ++ codes "' " ++ shape_word s.1 ++ codes " " ++ decimal s.2
    ++ codes "\n"

-- series with the numbers of their elements, one a line, and how many they are
unfoldable pub series_text : List (List ℕ × Bool × ℕ) → List ℕ
series_text ss = flat_map series_line ss ++ count_line (length ss)

-- values, each number with as many digits after the point as its scale says
abbrev pub scaled_texts : List ℕ → Values → List (List ℕ)
scaled_texts (scale ∷ scales) (value ∷ values) = value_text scale value ∷ scaled_texts scales values
scaled_texts _ _ = []

-- with commas between them
abbrev pub scaled_text : List ℕ → Values → List ℕ
scaled_text scales values = join_with_byte 44 (scaled_texts scales values)

-- what a list makes of elements: a stamp and its values
unfoldable pub folded_line : List ℕ → Element → List ℕ
folded_line scales e = stamp_text e.0 ++ codes " " ++ scaled_text scales e.1.values ++ codes "\n"

-- such rows, one a line, and how many they are
unfoldable pub folded_text : List ℕ → List Element → List ℕ
folded_text scales es = flat_map (folded_line scales) es ++ count_line (length es)

-- what a list makes of a series: its key in quotes, a quote in it twice, and its values
unfoldable pub series_folded_line : List ℕ → List ℕ × Row → List ℕ
series_folded_line scales s = codes "'" ++ flat_map quoted s.0 ++ codes "' " ++ scaled_text scales s.1.values
    ++ codes "\n"

-- series so, one a line, and how many they are
unfoldable pub series_folded_text : List ℕ → List (List ℕ × Row) → List ℕ
series_folded_text scales ss = flat_map (series_folded_line scales) ss ++ count_line (length ss)

-- What is tried in a catalogue, one test after another: each comes to a value, or to its refusal, and the first refusal
-- stands.

-- a value, or the refusal that came first
abbrev pub Tried : Type 0 → Type 0
Tried A = Result A Refusal

-- a value, and what is tried with it
infixl 10 ◌>>=◌
unfoldable pub ◌>>=◌ : {A B : Type 0} → Tried A → (A → Tried B) → Tried B
(Ok a) >>= f = f a
(Err refusal) >>= f = Err refusal

-- a reply, and the catalogue after it
abbrev pub Answered : Type 0
Answered = List ℕ × Catalogue

-- it is refused where a test holds
unfoldable pub refused_if : Bool → Refusal → Tried (Unit {0})
refused_if test refusal = if test then Err refusal else Ok tt

-- what a name stands for, if it stands for anything; else the name is unknown
abbrev pub known : {X : Type 0} → Option X → Tried X
known (Some x) = Ok x
known None = Err refusals.UnknownName

-- what has this name; an unknown name is refused
unfoldable pub wanted : {X : Type 0} → List ℕ → Named X → Tried X
wanted name named = known (get named name)

-- a name that is taken is refused
unfoldable pub unused : {X : Type 0} → List ℕ → Named X → Tried (Unit {0})
unused name named = refused_if (is_some (get named name)) refusals.NameTaken

-- one more than there may be is refused
unfoldable pub within_limit : {X : Type 0} → ℕ → Named X → Tried (Unit {0})
within_limit most named = refused_if (nat_le most (len named)) refusals.TooMany

-- a name of a kind that isn't taken, where there may be one more
unfoldable pub a_new_name : Kind → List ℕ → Catalogue → Tried (Unit {0})
a_new_name kind name cat = do
  free ← unused name (named kind cat)
  within_limit (limit kind) (named kind cat)

-- a bad column is refused by its number
abbrev pub no_bad_column : Option ℕ → Tried (Unit {0})
no_bad_column (Some column) = Err (refusals.BadRowType column)
no_bad_column None = Ok tt

-- What format 1 hasn't, long decimals and hidden elements, is refused on a volume of it.
unfoldable pub beyond_old_format : Bool → ℕ → Tried (Unit {0})
beyond_old_format beyond format = refused_if (beyond && format == old_format) refusals.OldFormat

-- a row, or the number of the column for which there is none
abbrev pub row_or_mismatch : Result Row ℕ → Tried Row
row_or_mismatch (Ok row) = Ok row
row_or_mismatch (Err column) = Err (refusals.RowMismatch column)

-- the visible row of literals; the first column that misfits, is missing or is too many is refused
unfoldable pub a_row : List Column → List Literal → Tried Row
a_row columns literals = row_or_mismatch (row_of columns literals)

-- the row of an element, if there is one; else it is missing
abbrev pub present : Option Row → Tried Row
present (Some row) = Ok row
present None = Err refusals.Missing

-- the row of the element at a stamp, hidden or not
unfoldable pub row_at : ℤ → Elements → Tried Row
row_at stamp elements = present (get elements stamp)

-- The stamp at which an element is put. In an irregular series it is the given one where no element stands at it,
-- hidden or not, else the one behind the last element of its second; in a regular one it is the given one.
unfoldable pub a_place : SeriesKind → ℤ → Elements → Tried ℤ
a_place Irregular stamp elements = placed (place_for stamp (entries elements))
a_place (Regular calendar origin) stamp elements = Ok stamp

-- on a grid, the start of an on interval that isn't before the origin; none where no on interval holds a stamp
abbrev pub on_grid : GridPlan → Option ℤ → Tried ℤ
on_grid grid None = Err refusals.OffStamp
on_grid grid (Some start) = if int_lt start grid.origin then Err refusals.BeforeOrigin else Ok start

-- where the element stands that a stamp addresses: at that stamp, or on a grid at the start of the on interval that
-- holds it
abbrev pub addressed : Shape → ℤ → Tried ℤ
addressed shapes.Irregular stamp = Ok stamp
addressed (shapes.Regular grid) stamp = on_grid grid (held_start grid.calendar stamp)

-- the same in a series of a catalogue; no catalogue that a volume means lacks a series' calendar
unfoldable pub an_address : Series → ℤ → Catalogue → Tried ℤ
an_address series stamp cat = do
  shape ← known (shape_of cat series.kind)
  addressed shape stamp

-- a value that was reached, if one was
abbrev pub reached : {A : Type 0} → Tried A → Option A
reached (Ok a) = Some a
reached (Err refusal) = None

-- charges beyond a quota are refused
unfoldable pub within_quota : ℕ → ℕ → Tried (Unit {0})
within_quota charge quota = refused_if (nat_lt quota charge) (refusals.ContainerFull charge quota)

-- quotas beyond the element pages are refused
unfoldable pub within_pages : ℕ → ℕ → Tried (Unit {0})
within_pages sum pages = refused_if (nat_lt pages sum) (refusals.VolumeFull sum pages)

-- the pattern that a text gives: the one of a name, or its own
abbrev pub given : PatternPart → Catalogue → Tried Plan
given part cat = known (pattern_of cat part)

-- the calendar of a name
unfoldable pub a_calendar : List ℕ → Catalogue → Tried CalendarPlan
a_calendar name cat = do
  text ← wanted name cat.calendars
  known (calendar_of cat text)

-- the stamp that is sought, if it exists
abbrev pub in_time : Option ℤ → Tried ℤ
in_time (Some stamp) = Ok stamp
in_time None = Err refusals.PastEnd
