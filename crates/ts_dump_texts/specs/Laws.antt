-- What the texts of statements are read as.
use Rattle.std.specs.Prelude.{◌≡◌, ℕ, ℤ, ◌≤◌, false, pos, IsTrue, Ok, List, length}
use Rattle.std.specs.List.{list_all}
use Rattle.ts_base.specs.Name.{is_name, is_key}
use Rattle.ts_base.specs.Moment.{IsStamp}
use Rattle.ts_row.specs.declared.kind.Column.{Column}
use Rattle.ts_row.specs.Row.{Heading, is_kind, is_row_type, Row, fits, marked, row_of}
use Rattle.ts_pattern.specs.Patterns.{Plan, is_pattern, printed_plan}
use Rattle.ts_calendar.specs.declared.text.CalendarText.{CalendarText}
use Rattle.ts_calendar.specs.Calendars.{IsSound, printed_calendar}
use Rattle.ts_command.specs.declared.command.Command.TheVariants as commands
use Rattle.ts_command.specs.Grammar.{command_of}
use Rattle.ts_dump_texts.specs.Texts.{row_type_text, pattern_text, calendar_text, container_text, irregular_text}
use Rattle.ts_dump_texts.specs.Texts.{regular_text, element_text, hiding_text, literals_read}
use Rattle.ts_dump_texts.specs.Script.{IsLine}

-- A text is read as the statement that it is of, where its parts are those of a catalogue.
pub record TextsAreReadAgain : Type 0 where
  pub row_type : (name : List ℕ) (h : Heading) → IsTrue (is_name name) → IsTrue (is_name h.stamp)
      → IsTrue (list_all (λ c. is_name c.name) h.columns) → IsTrue (is_row_type h.stamp h.columns)
      → command_of (row_type_text name h) ≡ Ok (commands.CreateRowType name h.stamp h.columns)
  pub pattern : (name : List ℕ) (p : Plan) → IsTrue (is_name name) → IsTrue (is_pattern p.runs)
      → command_of (pattern_text name p) ≡ Ok (commands.CreatePattern name (printed_plan p))
  pub calendar : (name : List ℕ) (c : CalendarText) → IsTrue (is_name name) → IsSound c
      → command_of (calendar_text name c) ≡ Ok (commands.CreateCalendar name (printed_calendar c))
  pub container : (name row_type : List ℕ) (quota : ℕ) → IsTrue (is_name name) → IsTrue (is_name row_type) → 1 ≤ quota
      → quota ≤ 65536
      → command_of (container_text name row_type quota) ≡ Ok (commands.TSContainerCreate name row_type (pos quota))
  pub irregular : (key container : List ℕ) → IsTrue (is_key key) → IsTrue (is_name container)
      → command_of (irregular_text key container) ≡ Ok (commands.TSCreateIrr key container)
  pub regular : (key calendar : List ℕ) (origin : ℤ) (container : List ℕ) → IsTrue (is_key key)
      → IsTrue (is_name calendar) → IsStamp origin → IsTrue (is_name container)
      → command_of (regular_text key calendar origin container) ≡ Ok (commands.TSCreate key calendar origin container)
  pub element : (key : List ℕ) (stamp : ℤ) (columns : List Column) (row : Row) → IsTrue (is_key key) → IsStamp stamp
      → 1 ≤ length columns → IsTrue (list_all (λ c. is_kind c.kind) columns) → IsTrue (fits columns row)
      → command_of (element_text key stamp columns row) ≡ Ok (commands.InsElem key stamp (literals_read columns row))
  pub hiding : (key : List ℕ) (stamp : ℤ) → IsTrue (is_key key) → IsStamp stamp
      → command_of (hiding_text key stamp) ≡ Ok (commands.HideElem key stamp)

-- The literals that a row's text is read as give the row, which is visible then.
abbrev pub LiteralsGiveRows : Type 0
LiteralsGiveRows = (columns : List Column) (row : Row) → 1 ≤ length columns
    → IsTrue (list_all (λ c. is_kind c.kind) columns) → IsTrue (fits columns row)
    → row_of columns (literals_read columns row) ≡ Ok (marked false row)

-- Each text is one line of a script, where its parts are those of a catalogue.
pub record TextsAreLines : Type 0 where
  pub row_type : (name : List ℕ) (h : Heading) → IsTrue (is_name name) → IsTrue (is_name h.stamp)
      → IsTrue (list_all (λ c. is_name c.name) h.columns) → IsTrue (is_row_type h.stamp h.columns)
      → IsLine (row_type_text name h)
  pub pattern : (name : List ℕ) (p : Plan) → IsTrue (is_name name) → IsTrue (is_pattern p.runs)
      → IsLine (pattern_text name p)
  pub calendar : (name : List ℕ) (c : CalendarText) → IsTrue (is_name name) → IsSound c
      → IsLine (calendar_text name c)
  pub container : (name row_type : List ℕ) (quota : ℕ) → IsTrue (is_name name) → IsTrue (is_name row_type)
      → quota ≤ 65536 → IsLine (container_text name row_type quota)
  pub irregular : (key container : List ℕ) → IsTrue (is_key key) → IsTrue (is_name container)
      → IsLine (irregular_text key container)
  pub regular : (key calendar : List ℕ) (origin : ℤ) (container : List ℕ) → IsTrue (is_key key)
      → IsTrue (is_name calendar) → IsTrue (is_name container) → IsLine (regular_text key calendar origin container)
  pub element : (key : List ℕ) (stamp : ℤ) (columns : List Column) (row : Row) → IsTrue (is_key key)
      → length columns ≤ 32 → IsTrue (list_all (λ c. is_kind c.kind) columns) → IsTrue (fits columns row)
      → IsLine (element_text key stamp columns row)
  pub hiding : (key : List ℕ) (stamp : ℤ) → IsTrue (is_key key) → IsLine (hiding_text key stamp)
