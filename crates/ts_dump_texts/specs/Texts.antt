-- The texts of the statements that a catalogue is made by.
use Rattle.std.specs.Prelude.{ℕ, ℤ, Ok, Err, List, [], ◌∷◌, ◌++◌, codes}
use Rattle.std.specs.List.{flat_map}
use Rattle.std.specs.Fmt.{decimal}
use Rattle.ts_base.specs.Moment.{stamp_text}
use Rattle.ts_row.specs.declared.kind.ColumnKind.{ColumnKind}
use Rattle.ts_row.specs.declared.kind.ColumnKind.TheVariants.{SmallInt, Integer, BigInt, Decimal, VarChar}
use Rattle.ts_row.specs.declared.kind.Column.{Column}
use Rattle.ts_row.specs.declared.value.Literal.{Literal}
use Rattle.ts_row.specs.Row.{Heading, Row, quoted, row_text}
use Rattle.ts_pattern.specs.Patterns.{Plan, printed_plan}
use Rattle.ts_calendar.specs.declared.text.CalendarText.{CalendarText}
use Rattle.ts_calendar.specs.Calendars.{printed_calendar}
use Rattle.ts_text.specs.Phrase.{Read, repeated}
use Rattle.ts_arguments.specs.Arguments.{a_literal}

-- what ends each statement but those of transactions
abbrev pub end_of_call : List ℕ
end_of_call = codes ");"

-- a text in quotes, a quote in it twice, before further bytes
abbrev pub quoted_before : List ℕ → List ℕ → List ℕ
quoted_before text rest = 39 ∷ (flat_map quoted text ++ 39 ∷ rest)

-- a comma and a blank, before further bytes
abbrev pub comma_before : List ℕ → List ℕ
comma_before rest = 44 ∷ 32 ∷ rest

-- the type of a value column, before further bytes
abbrev pub kind_before : ColumnKind → List ℕ → List ℕ
kind_before SmallInt rest = codes "smallint" ++ rest
kind_before Integer rest = codes "integer" ++ rest
kind_before BigInt rest = codes "bigint" ++ rest
kind_before (Decimal digits scale) rest = codes "decimal(" ++ (decimal digits ++ 44 ∷ (decimal scale ++ 41 ∷ rest))
kind_before (VarChar most) rest = codes "varchar(" ++ (decimal most ++ 41 ∷ rest)

-- value columns, a comma before each, before further bytes
abbrev pub columns_before : List Column → List ℕ → List ℕ
columns_before [] rest = rest
columns_before (c ∷ columns) rest = comma_before (c.name ++ 32 ∷ kind_before c.kind (columns_before columns rest))

-- `CreateRowType(reading, t datetime, kwh decimal(12,3));`
abbrev pub row_type_text : List ℕ → Heading → List ℕ
row_type_text name h =
    codes "CreateRowType("
    ++ (name ++ comma_before (h.stamp ++ (codes " datetime" ++ columns_before h.columns end_of_call)))

-- `CreatePattern(workday, '{1 off,5 on,1 off},day');`
abbrev pub pattern_text : List ℕ → Plan → List ℕ
pattern_text name p = codes "CreatePattern(" ++ (name ++ comma_before (quoted_before (printed_plan p) end_of_call))

-- `CreateCalendar(workdays, 'startdate(..), pattstart(..), pattname(workday)');`
abbrev pub calendar_text : List ℕ → CalendarText → List ℕ
calendar_text name c =
    codes "CreateCalendar(" ++ (name ++ comma_before (quoted_before (printed_calendar c) end_of_call))

-- `TSContainerCreate(north, reading, 40);`
abbrev pub container_text : List ℕ → List ℕ → ℕ → List ℕ
container_text name row_type quota =
    codes "TSContainerCreate(" ++ (name ++ comma_before (row_type ++ comma_before (decimal quota ++ end_of_call)))

-- `TSCreateIrr('m1', north);`
abbrev pub irregular_text : List ℕ → List ℕ → List ℕ
irregular_text key container = codes "TSCreateIrr(" ++ quoted_before key (comma_before (container ++ end_of_call))

-- `TSCreate('m1', workdays, '2011-01-03 00:00:00.00000', north);`
abbrev pub regular_text : List ℕ → List ℕ → ℤ → List ℕ → List ℕ
regular_text key calendar origin container =
    codes "TSCreate("
    ++ quoted_before key (comma_before (calendar
    ++ comma_before (quoted_before (stamp_text origin) (comma_before (container ++ end_of_call)))))

-- `InsElem('m1', '2011-01-03 00:00:00.00000',1.500,null);`
abbrev pub element_text : List ℕ → ℤ → List Column → Row → List ℕ
element_text key stamp columns row =
    codes "InsElem("
    ++ quoted_before key (comma_before (quoted_before (stamp_text stamp) (44 ∷ (row_text columns row ++ end_of_call))))

-- `HideElem('m1', '2011-01-03 00:00:00.00000');`
abbrev pub hiding_text : List ℕ → ℤ → List ℕ
hiding_text key stamp =
    codes "HideElem(" ++ quoted_before key (comma_before (quoted_before (stamp_text stamp) end_of_call))

-- what a list was read as; nothing where it can't be read
abbrev pub or_nothing : {A : Type 0} → Read (List A) → List A
or_nothing (Ok found) = found.0
or_nothing (Err left) = []

-- the literals that the values of a row are read as, at the end of a statement
abbrev pub literals_read : List Column → Row → List Literal
literals_read columns row = or_nothing (repeated a_literal (44 ∷ (row_text columns row ++ end_of_call)))
