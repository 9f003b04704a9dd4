-- The bytes of definitions in their slots. What isn't named is zero, and an empty slot is zeros.
use Rattle.std.specs.Prelude.{ℕ, ℤ, ◌+◌, ◌-◌, ◌*◌, ◌/◌, ◌%◌, ◌^◌, ◌==◌, nat_lt, min, if◌then◌else◌, Option, Some, None}
use Rattle.std.specs.Prelude.{List, [], ◌∷◌, ◌++◌, length, replicate, codes}
use Rattle.std.specs.List.{flat_map}
use Rattle.std.specs.Int.{w16, w32, to_be_bytes}
use Rattle.ts_base.specs.declared.unit.Unit.{Unit}
use Rattle.ts_base.specs.declared.unit.Unit.TheVariants as units
use Rattle.ts_row.specs.declared.kind.ColumnKind.{ColumnKind}
use Rattle.ts_row.specs.declared.kind.ColumnKind.TheVariants.{SmallInt, Integer, BigInt, Decimal, VarChar}
use Rattle.ts_row.specs.declared.kind.Column.{Column}
use Rattle.ts_row.specs.Row.{Heading}
use Rattle.ts_pattern.specs.declared.run.Run.{Run}
use Rattle.ts_pattern.specs.Patterns.{Plan}
use Rattle.ts_calendar.specs.Calendars.{CalendarPlan}
use Rattle.ts_cells.specs.IrregularPage.{stamp_bytes}
use Rattle.ts_page.specs.Pages.{page_size, zero_page}
use Rattle.ts_model.specs.Definitions.{container_slots, series_slots}
use Rattle.ts_layout.specs.declared.place.Slots.{Slots}
use Rattle.ts_model.specs.declared.kind.Kind.{Kind}
use Rattle.ts_model.specs.declared.kind.Kind.TheVariants as kinds
use Rattle.ts_model.specs.declared.def.Def.{Def}
use Rattle.ts_model.specs.declared.def.Def.TheVariants as defs

-- bytes and zeros, so many in all
unfoldable pub padded : ℕ → List ℕ → List ℕ
padded size bytes = bytes ++ replicate (size - length bytes) 0

-- a name in 33 bytes: its length, its bytes, zeros
abbrev pub name_bytes : List ℕ → List ℕ
name_bytes name = length name ∷ padded 32 name

-- the type of a column in 3 bytes: its code, the digits of a decimal or the most bytes of a text, the scale
abbrev pub kind_bytes : ColumnKind → List ℕ
kind_bytes SmallInt = 1 ∷ 0 ∷ 0 ∷ []
kind_bytes Integer = 2 ∷ 0 ∷ 0 ∷ []
kind_bytes BigInt = 3 ∷ 0 ∷ 0 ∷ []
kind_bytes (Decimal digits scale) = 4 ∷ digits ∷ scale ∷ []
kind_bytes (VarChar most) = 5 ∷ most ∷ 0 ∷ []

-- a column in 36 bytes: its type and its name
abbrev pub column_bytes : Column → List ℕ
column_bytes c = kind_bytes c.kind ++ name_bytes c.name

-- all of them, one after the other
abbrev pub columns_bytes : List Column → List ℕ
columns_bytes columns = flat_map column_bytes columns

-- a row type in the 4096 bytes of its page: 1, its name, the name of the stamp, the number of value columns, these
unfoldable pub row_type_bytes : List ℕ → Heading → List ℕ
row_type_bytes name heading =
    1 ∷ (name_bytes name
    ++ (name_bytes heading.stamp ++ (length heading.columns ∷ padded 4028 (columns_bytes heading.columns))))

-- the number of a unit
abbrev pub unit_code : Unit → ℕ
unit_code units.Second = 0
unit_code units.Minute = 1
unit_code units.Hour = 2
unit_code units.Day = 3
unit_code units.Week = 4
unit_code units.Month = 5
unit_code units.Year = 6

-- a run as a number: its count, and the highest of 32 bits where it is on
abbrev pub run_number : Run → ℕ
run_number r = if r.on then 2 ^ 31 + r.count else r.count

-- a run in 4 bytes
abbrev pub run_bytes : Run → List ℕ
run_bytes r = to_be_bytes w32 (run_number r)

-- a pattern without its name: the number of its unit, how many runs it has, these
abbrev pub plan_bytes : Plan → List ℕ
plan_bytes p = unit_code p.unit ∷ (to_be_bytes w16 (length p.runs) ++ flat_map run_bytes p.runs)

-- a pattern in the 4096 bytes of its page: 1, its name, what it is
unfoldable pub pattern_bytes : List ℕ → Plan → List ℕ
pattern_bytes name p = 1 ∷ (name_bytes name ++ padded 4062 (plan_bytes p))

-- which pattern a calendar has: 0 and the slot of the one by whose name it was made, or 1, 0 and a pattern of its own
abbrev pub part_bytes : Plan → Option ℕ → List ℕ
part_bytes p (Some slot) = 0 ∷ slot ∷ []
part_bytes p None = 1 ∷ 0 ∷ plan_bytes p

-- a calendar in the 4096 bytes of its page: 1, its name, its two starts, which pattern it has
unfoldable pub calendar_bytes : List ℕ → CalendarPlan → Option ℕ → List ℕ
calendar_bytes name c by = 1
    ∷ (name_bytes name ++ (stamp_bytes c.start ++ (stamp_bytes c.patt_start ++ padded 4046 (part_bytes c.pattern by))))

-- a container in 60 bytes: 1, its name, the slot of its row type, its quota
unfoldable pub container_bytes : List ℕ → ℕ → ℕ → List ℕ
container_bytes name row_type quota = 1 ∷ (name_bytes name ++ (row_type ∷ padded 25 (to_be_bytes w32 quota)))

-- the first byte of a series: 1 where it is regular, else 2
abbrev pub series_code : Option (ℕ × ℤ) → ℕ
series_code None = 2
series_code (Some regular) = 1

-- the slot of the calendar and the origin of a regular series
abbrev pub regular_bytes : Option (ℕ × ℤ) → List ℕ
regular_bytes None = []
regular_bytes (Some regular) = regular.0 ∷ stamp_bytes regular.1

-- a series in 94 bytes: whether it is regular, the length of its key, its key, the slot of its container, what a
-- regular one has besides
unfoldable pub series_bytes : List ℕ → ℕ → Option (ℕ × ℤ) → List ℕ
series_bytes key container regular =
    series_code regular ∷ (length key ∷ (padded 64 key ++ (container ∷ padded 27 (regular_bytes regular))))

-- a definition in its slot
abbrev pub def_bytes : Def → List ℕ
def_bytes (defs.RowType name kind) = row_type_bytes name kind
def_bytes (defs.Pattern name pattern) = pattern_bytes name pattern
def_bytes (defs.Calendar name calendar by) = calendar_bytes name calendar by
def_bytes (defs.Container name row_type quota) = container_bytes name row_type quota
def_bytes (defs.Series key container regular) = series_bytes key container regular

-- The definition pages: those of row types, of patterns and of calendars, one each; one of all containers; those of
-- series, so many in each.
abbrev pub first_definition_page : ℕ
first_definition_page = 257

abbrev pub first_pattern_page : ℕ
first_pattern_page = 321

abbrev pub first_calendar_page : ℕ
first_calendar_page = 577

abbrev pub container_page : ℕ
container_page = 833

abbrev pub first_series_page : ℕ
first_series_page = 834

abbrev pub series_in_page : ℕ
series_in_page = 43

-- the bytes of a container, and of a series
abbrev pub container_size : ℕ
container_size = 60

abbrev pub series_size : ℕ
series_size = 94

-- the bytes of a slot of a kind
abbrev pub slot_size : Kind → ℕ
slot_size kinds.RowType = page_size
slot_size kinds.Pattern = page_size
slot_size kinds.Calendar = page_size
slot_size kinds.Container = container_size
slot_size kinds.Series = series_size

-- a slot of a kind: empty, or with a definition
abbrev pub slot_bytes : Kind → Option Def → List ℕ
slot_bytes kinds.RowType None = zero_page
slot_bytes kinds.Pattern None = zero_page
slot_bytes kinds.Calendar None = zero_page
slot_bytes kinds.Container None = replicate container_size 0
slot_bytes kinds.Series None = replicate series_size 0
slot_bytes kind (Some def) = def_bytes def

-- the page of a slot: row types have one each from page 257 on, patterns from 321 on and calendars from 577 on,
-- containers share page 833, and of series 43 stand in each page from 834 on
abbrev pub page_of_slot : Kind → ℕ → ℕ
page_of_slot kinds.RowType slot = first_definition_page + slot
page_of_slot kinds.Pattern slot = first_pattern_page + slot
page_of_slot kinds.Calendar slot = first_calendar_page + slot
page_of_slot kinds.Container slot = container_page
page_of_slot kinds.Series slot = first_series_page + slot / series_in_page

-- the first byte of a slot in its page
abbrev pub byte_of_slot : Kind → ℕ → ℕ
byte_of_slot kinds.RowType slot = 0
byte_of_slot kinds.Pattern slot = 0
byte_of_slot kinds.Calendar slot = 0
byte_of_slot kinds.Container slot = container_size * slot
byte_of_slot kinds.Series slot = series_size * (slot % series_in_page)

-- the slots that stand in a definition page, from its first byte on
abbrev pub slots_in_page : ℕ → Slots
slots_in_page number =
    if nat_lt number first_pattern_page then record {
      kind = kinds.RowType;
      first = number - first_definition_page;
      count = 1;
    }
    else (if nat_lt number first_calendar_page then record {
      kind = kinds.Pattern;
      first = number - first_pattern_page;
      count = 1;
    }
    else (if nat_lt number container_page then record {
      kind = kinds.Calendar;
      first = number - first_calendar_page;
      count = 1;
    }
    else (if number == container_page then record { kind = kinds.Container; first = 0; count = container_slots }
    else record {
      kind = kinds.Series;
      first = series_in_page * (number - first_series_page);
      count =
          min series_in_page (series_slots - series_in_page * (number - first_series_page));
    })))

-- how many bytes of a definition page are slots
abbrev pub bytes_of_slots : Slots → ℕ
bytes_of_slots on = slot_size on.kind * on.count

-- the header of a volume: the word `TSVOLUME`, the format, the number of element pages
unfoldable pub header_bytes : ℕ → ℕ → List ℕ
header_bytes format pages = padded page_size (codes "TSVOLUME" ++ (format ∷ to_be_bytes w32 pages))
