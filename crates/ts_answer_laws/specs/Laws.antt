-- What the laws of answers say.
use Rattle.std.specs.Prelude.{◌≡◌, ◌↔◌, ◌+◌, ◌≤◌, [], ◌∷◌, Err, List, ℕ, neg_ℤ, pos, Ok, Some, false, true}
use Rattle.std.specs.Prelude.{length, None}
use Rattle.std.specs.Prelude.{codes}
use Rattle.std.specs.FinMap.{get}
use Rattle.ts_base.specs.declared.refusal.Refusal.{Refusal}
use Rattle.ts_base.specs.declared.refusal.Refusal.TheVariants as refusals
use Rattle.ts_base.specs.declared.unit.Unit.TheVariants.{Day}
use Rattle.ts_page.specs.Pages.{Contents}
use Rattle.ts_pattern.specs.Patterns.{Plan, run}
use Rattle.ts_calendar.specs.Calendars.{CalendarPlan, IsValid, IsLaid, calendar_text}
use Rattle.ts_calendar.specs.declared.text.PatternPart.TheVariants.{Named as ByName}
use Rattle.ts_calendar.specs.declared.text.CalendarText.{CalendarText}
use Rattle.ts_command.specs.declared.command.Command.{Command}
use Rattle.ts_command.specs.declared.command.Command.TheVariants as commands
use Rattle.ts_command.specs.Grammar.{Request}
use Rattle.ts_model.specs.Catalogue.{Catalogue, calendar_of}
use Rattle.ts_answer.specs.Answer.{Answered, answer, outcome, a_calendar}
use Rattle.ts_answer.specs.CarriedOut.{Grows}
use Rattle.ts_command.specs.Boundary.{is_writing}
use Rattle.ts_answer.specs.Reply.{refusal_line, count_line, counts_line, number_line, pattern_lines, calendar_lines}
use Rattle.ts_answer.specs.Reply.{stamps_text, series_text}
use Rattle.ts_multi.specs.Touched.{objects}
use Rattle.ts_answer_laws.specs.Objects.{StaysBut, set_of}

-- a request that is refused is answered by the line of its refusal, and changes nothing
abbrev pub RefusalsChangeNothing : Type 0
RefusalsChangeNothing =
    (cat : Catalogue) (request : Request) (refusal : Refusal) → outcome request cat ≡ Err refusal
    → answer cat request ≡ (refusal_line refusal, cat)

-- a command that only reads changes nothing, whatever it is answered
abbrev pub ReadingsChangeNothing : Type 0
ReadingsChangeNothing = (cat : Catalogue) (command : Command) → is_writing command ≡ false → (answer cat (Ok command)).1
    ≡ cat

-- What a command doesn't write stands in the catalogue as before. One of a rolling set writes series that the catalogue
-- tells, and not the command alone.
abbrev pub OthersStay : Type 0
OthersStay =
    (cat : Catalogue) (command : Command) → set_of command ≡ None
    → StaysBut (objects command).wrote cat (answer cat (Ok command)).1

-- the text that a catalogue has under this name stands for a calendar that keeps the rules
pub record HasValidCalendar (name : List ℕ) (cat : Catalogue) : Type 0 where
  pub text : CalendarText
  pub listed : get cat.calendars name ≡ Some text
  pub plan : CalendarPlan
  pub stands : calendar_of cat text ≡ Some plan
  pub valid : IsValid plan

-- what CreateCalendar makes is such a calendar, and so is what AndOp and OrOp make of calendars that are laid out on
-- stamps
pub record MadeCalendarsAreValid : Type 0 where
  pub created : (cat : Catalogue) (answered : Answered) (name text : List ℕ)
      → outcome (Ok (commands.CreateCalendar name text)) cat ≡ Ok answered → HasValidCalendar name answered.1
  pub both : (cat : Catalogue) (answered : Answered) (name first second : List ℕ) (a : CalendarPlan)
      → a_calendar first cat ≡ Ok a → IsLaid a
      → outcome (Ok (commands.AndCalendars name first second)) cat ≡ Ok answered → HasValidCalendar name answered.1
  pub either : (cat : Catalogue) (answered : Answered) (name first second : List ℕ) (a : CalendarPlan)
      → a_calendar first cat ≡ Ok a → IsLaid a
      → outcome (Ok (commands.OrCalendars name first second)) cat ≡ Ok answered → HasValidCalendar name answered.1

-- a calendar was made by the pattern's name
pub record HasCalendarBy (pattern : List ℕ) (cat : Catalogue) : Type 0 where
  pub key : List ℕ
  pub text : CalendarText
  pub listed : get cat.calendars key ≡ Some text
  pub part : text.part ≡ ByName pattern

-- DropPattern is refused exactly where one was
abbrev pub UsedPatternsStay : Type 0
UsedPatternsStay =
    (cat : Catalogue) (name : List ℕ) (pattern : Plan) → get cat.patterns name ≡ Some pattern
    → outcome (Ok (commands.DropPattern name)) cat ≡ Err refusals.InUse ↔ HasCalendarBy name cat

-- commands after one another grow a record by no more than each of them, and 32 of them fit one
pub record CommandsFitOneRecord : Type 0 where
  pub more : (m n : ℕ) (u v w : Contents) → Grows m u v → Grows n v w → Grows (m + n) u w
  pub fit : (v w : Contents) → Grows 32 v w → v.change_bytes ≡ 0 → length w.free ≤ 65536 → w.change_bytes ≤ 853248

-- lines of each kind, as they are printed
pub record LinesArePrintedSo : Type 0 where
  pub syntax : refusal_line (refusals.Syntax 0) ≡ codes "error 1 Syntax\n"
  pub unended : refusal_line refusals.Unended ≡ codes "error 3 Unended\n"
  pub unknown : refusal_line refusals.UnknownName ≡ codes "error 10 UnknownName\n"
  pub full : refusal_line (refusals.ContainerFull 3 1) ≡ codes "error 30 ContainerFull\n"
  pub count : count_line 2 ≡ codes "ok 2\n"
  pub usage : counts_line 1 1 ≡ codes "ok 1 1\n"
  pub before : number_line (neg_ℤ (pos 5)) ≡ codes "ok -5\n"
  pub after : number_line (pos 5) ≡ codes "ok 5\n"
  pub pattern : pattern_lines (record { unit = Day; runs = run false 1 ∷ run true 5 ∷ run false 1 ∷ [] })
      ≡ codes "{1 off,5 on,1 off},day\nok\n"
  pub calendar : calendar_lines (calendar_text (pos 129_392_640_000_000) (pos 129_392_640_000_000)
      (ByName (codes "ww")))
      ≡ codes "startdate(2011-01-02 00:00:00.00000), pattstart(2011-01-02 00:00:00.00000), pattname(ww)\nok\n"
  pub stamps : stamps_text (pos 129_392_640_000_000 ∷ []) ≡ codes "2011-01-02 00:00:00.00000\nok 1\n"
  pub series : series_text ((codes "it's", false, 10) ∷ []) ≡ codes "'it''s' irregular 10\nok 1\n"
  pub regular : series_text ((codes "a", true, 2) ∷ []) ≡ codes "'a' regular 2\nok 1\n"
