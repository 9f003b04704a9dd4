-- A statement and its routines, and what a script asks for.
use Rattle.std.specs.Prelude.{ℕ, List, map, [], ◌∷◌, length, Option, None, Result, Ok, Err, ℤ, pos, neg_ℤ}
use Rattle.ts_base.specs.declared.refusal.Refusal.{Refusal}
use Rattle.ts_base.specs.declared.refusal.Refusal.TheVariants as refusals
use Rattle.ts_row.specs.declared.value.Literal.{Literal}
use Rattle.ts_text.specs.Phrase.{Phrase, ◌>>=◌, give, token, a_sign, made, ended, outcome}
use Rattle.ts_text.specs.declared.token.TokenKind.{TokenKind}
use Rattle.ts_text.specs.declared.token.TokenKind.TheVariants.{Word}
use Rattle.ts_items.specs.Items.{Item, Statement, TooLong, Unended, items, last}
use Rattle.ts_tokens.specs.Tokens.{front}
use Rattle.ts_arguments.specs.declared.word.Joined.{Joined}
use Rattle.ts_arguments.specs.declared.word.Joined.TheVariants.{Patterns, Calendars}
use Rattle.ts_arguments.specs.Arguments.{name_before, key_before, two_names, joined_names, name_and_text}
use Rattle.ts_arguments.specs.Arguments.{two_names_and_whole, key_and_name, key_and_whole, key_and_stamp, name_range}
use Rattle.ts_arguments.specs.Arguments.{key_range, two_keys_range, text_key_range, text_name_range}
use Rattle.ts_arguments.specs.Arguments.{text_name_key_range, text_key_whole_range, key_name_stamp_and_name}
use Rattle.ts_arguments.specs.Arguments.{name_stamp_and_whole, key_stamp_and_whole, key_stamp_and_values}
use Rattle.ts_arguments.specs.Arguments.{name_and_columns, set_before, set_range, set_stamp_and_values}
use Rattle.ts_arguments.specs.Arguments.{set_name_stamp_name_and_whole}
use Rattle.ts_command.specs.declared.routine.Routine.{Routine}
use Rattle.ts_command.specs.declared.routine.Routine.TheVariants as calls
use Rattle.ts_command.specs.declared.routine.NameRoutine.{NameRoutine}
use Rattle.ts_command.specs.declared.routine.NameRoutine.TheVariants as by_name
use Rattle.ts_command.specs.declared.routine.KeyRoutine.{KeyRoutine}
use Rattle.ts_command.specs.declared.routine.KeyRoutine.TheVariants as by_key
use Rattle.ts_command.specs.declared.routine.StampRoutine.{StampRoutine}
use Rattle.ts_command.specs.declared.routine.StampRoutine.TheVariants as at_stamp
use Rattle.ts_command.specs.declared.routine.RowRoutine.{RowRoutine}
use Rattle.ts_command.specs.declared.routine.RowRoutine.TheVariants as with_row
use Rattle.ts_command.specs.declared.routine.TextRoutine.{TextRoutine}
use Rattle.ts_command.specs.declared.routine.TextRoutine.TheVariants as with_text
use Rattle.ts_command.specs.declared.routine.JoinRoutine.{JoinRoutine}
use Rattle.ts_command.specs.declared.routine.JoinRoutine.TheVariants as joining
use Rattle.ts_command.specs.declared.routine.RangeRoutine.{RangeRoutine}
use Rattle.ts_command.specs.declared.routine.RangeRoutine.TheVariants as in_range
use Rattle.ts_command.specs.declared.routine.ClipRoutine.{ClipRoutine}
use Rattle.ts_command.specs.declared.routine.ClipRoutine.TheVariants as clipping
use Rattle.ts_command.specs.declared.routine.NumberRoutine.{NumberRoutine}
use Rattle.ts_command.specs.declared.routine.NumberRoutine.TheVariants as by_number
use Rattle.ts_command.specs.declared.routine.PairRoutine.{PairRoutine}
use Rattle.ts_command.specs.declared.routine.PairRoutine.TheVariants as of_pair
use Rattle.ts_command.specs.declared.routine.SeriesRoutine.{SeriesRoutine}
use Rattle.ts_command.specs.declared.routine.SeriesRoutine.TheVariants as in_series
use Rattle.ts_command.specs.declared.routine.RunningRoutine.{RunningRoutine}
use Rattle.ts_command.specs.declared.routine.RunningRoutine.TheVariants as running
use Rattle.ts_command.specs.declared.routine.LoneRoutine.{LoneRoutine}
use Rattle.ts_command.specs.declared.routine.LoneRoutine.TheVariants as alone
use Rattle.ts_command.specs.Routines.{routine_of, least_number, most_number}
use Rattle.ts_command.specs.declared.command.Command.{Command}
use Rattle.ts_command.specs.declared.command.Command.TheVariants as commands

-- The grammar of statements.

-- the name of a routine
abbrev pub routine_in : TokenKind → List ℕ → Option Routine
routine_in Word word = routine_of word
routine_in kind token = None

-- the routine that is called
unfoldable pub a_routine : Phrase Routine
a_routine = token front routine_in

-- the commands of routines that are called with the same arguments
abbrev pub of_name : NameRoutine → List ℕ → Command
of_name by_name.DropRowType name = commands.DropRowType name
of_name by_name.ShowPattern name = commands.ShowPattern name
of_name by_name.DropPattern name = commands.DropPattern name
of_name by_name.ShowCalendar name = commands.ShowCalendar name
of_name by_name.DropCalendar name = commands.DropCalendar name
of_name by_name.TSContainerDestroy name = commands.TSContainerDestroy name
of_name by_name.TSContainerUsage name = commands.TSContainerUsage name
of_name by_name.ListSeries container = commands.ListSeries container

abbrev pub of_key : KeyRoutine → List ℕ → Command
of_key by_key.DropSeries key = commands.DropSeries key
of_key by_key.GetFirstElem key = commands.GetFirstElem key
of_key by_key.GetLastElem key = commands.GetLastElem key
of_key by_key.GetNelems key = commands.GetNelems key

abbrev pub of_stamp : StampRoutine → List ℕ → ℤ → Command
of_stamp at_stamp.DelElem key stamp = commands.DelElem key stamp
of_stamp at_stamp.HideElem key stamp = commands.HideElem key stamp
of_stamp at_stamp.RevealElem key stamp = commands.RevealElem key stamp
of_stamp at_stamp.GetElem key stamp = commands.GetElem key stamp

abbrev pub of_row : RowRoutine → List ℕ → ℤ → List Literal → Command
of_row with_row.PutElem key stamp values = commands.PutElem key stamp values
of_row with_row.PutElemNoDups key stamp values = commands.PutElemNoDups key stamp values
of_row with_row.InsElem key stamp values = commands.InsElem key stamp values
of_row with_row.UpdElem key stamp values = commands.UpdElem key stamp values

abbrev pub of_text : TextRoutine → List ℕ → List ℕ → Command
of_text with_text.CreatePattern name text = commands.CreatePattern name text
of_text with_text.CreateCalendar name text = commands.CreateCalendar name text

abbrev pub of_join : JoinRoutine → Joined → (List ℕ × (List ℕ × List ℕ)) → Command
of_join joining.AndOp Patterns names = commands.AndPatterns names.0 names.1.0 names.1.1
of_join joining.AndOp Calendars names = commands.AndCalendars names.0 names.1.0 names.1.1
of_join joining.OrOp Patterns names = commands.OrPatterns names.0 names.1.0 names.1.1
of_join joining.OrOp Calendars names = commands.OrCalendars names.0 names.1.0 names.1.1

abbrev pub of_range : RangeRoutine → List ℕ → ℤ → ℤ → Command
of_range in_range.CalIndex calendar from to = commands.CalIndex calendar from to
of_range in_range.CalRange calendar from to = commands.CalRange calendar from to

abbrev pub of_clip : ClipRoutine → List ℕ → ℤ → ℤ → Command
of_clip clipping.Clip key from to = commands.Clip key from to
of_clip clipping.ClipGetCount key from to = commands.ClipGetCount key from to
of_clip clipping.DelClip key from to = commands.DelClip key from to

abbrev pub of_number : NumberRoutine → List ℕ → ℤ → Command
of_number by_number.GetNthElem key index = commands.GetNthElem key index
of_number by_number.Lag key by = commands.Lag key by

abbrev pub of_keys : PairRoutine → List ℕ → List ℕ → ℤ → ℤ → Command
of_keys of_pair.Union first second from to = commands.Union first second from to
of_keys of_pair.Intersect first second from to = commands.Intersect first second from to

abbrev pub of_series : SeriesRoutine → List ℕ → List ℕ → ℤ → ℤ → Command
of_series in_series.AggregateRange text key from to = commands.AggregateRange text key from to
of_series in_series.Apply text key from to = commands.Apply text key from to

abbrev pub of_running : RunningRoutine → List ℕ → List ℕ → ℤ → ℤ → ℤ → Command
of_running running.TSRunningSum text key span from to = commands.TSRunningSum text key span from to
of_running running.TSRunningAvg text key span from to = commands.TSRunningAvg text key span from to

-- the commands of routines that stand alone
abbrev pub of_lone : LoneRoutine → Command
of_lone alone.Begin = commands.Begin
of_lone alone.Commit = commands.Commit
of_lone alone.Rollback = commands.Rollback

-- the bracket that opens what a routine is called with, but where it stands alone
unfoldable pub opening : Routine → Phrase (Unit {0})
opening (calls.Alone routine) = give tt
opening routine = a_sign 40

-- what each routine is called with, up to the bracket that closes the call, as its command; one that stands alone is
-- called with nothing
unfoldable pub arguments : Routine → Phrase Command
arguments calls.CreateRowType = made name_and_columns (λ a. commands.CreateRowType a.0 a.1.0 a.1.1)
arguments calls.TSContainerCreate = made (two_names_and_whole (pos 1) (pos 65536))
    (λ a. commands.TSContainerCreate a.0 a.1.0 a.1.1)
arguments calls.TSCreate = made key_name_stamp_and_name (λ a. commands.TSCreate a.0 a.1.0 a.1.1.0 a.1.1.1)
arguments calls.TSCreateIrr = made key_and_name (λ a. commands.TSCreateIrr a.0 a.1)
arguments calls.NotOp = made two_names (λ a. commands.NotOp a.0 a.1)
arguments calls.CalStamp = made (name_stamp_and_whole (pos 1) (pos 4294967295)) (λ a. commands.CalStamp a.0 a.1.0 a.1.1)
arguments calls.ClipCount = made (key_stamp_and_whole (neg_ℤ (pos 1000000)) (pos 1000000))
    (λ a. commands.ClipCount a.0 a.1.0 a.1.1)
arguments calls.AggregateBy = made text_name_key_range (λ a. commands.AggregateBy a.0 a.1.0 a.1.1.0 a.1.1.1.0 a.1.1.1.1)
arguments calls.AggregateAll = made text_name_range (λ a. commands.AggregateAll a.0 a.1.0 a.1.1.0 a.1.1.1)
arguments calls.RollingCreate = made (set_name_stamp_name_and_whole (pos 1) (pos 1000))
    (λ a. commands.RollingCreate a.0 a.1.0 a.1.1.0 a.1.1.1.0 a.1.1.1.1)
arguments calls.RollingPut = made set_stamp_and_values (λ a. commands.RollingPut a.0 a.1.0 a.1.1)
arguments calls.RollingClip = made set_range (λ a. commands.RollingClip a.0 a.1.0 a.1.1)
arguments calls.RollingDrop = made (set_before 41) commands.RollingDrop
arguments (calls.ByName routine) = made (name_before 41) (of_name routine)
arguments (calls.ByKey routine) = made (key_before 41) (of_key routine)
arguments (calls.AtStamp routine) = made key_and_stamp (λ a. of_stamp routine a.0 a.1)
arguments (calls.WithRow routine) = made key_stamp_and_values (λ a. of_row routine a.0 a.1.0 a.1.1)
arguments (calls.WithText routine) = made name_and_text (λ a. of_text routine a.0 a.1)
arguments (calls.Joining routine) = made joined_names (λ a. of_join routine a.0 a.1)
arguments (calls.InRange routine) = made name_range (λ a. of_range routine a.0 a.1.0 a.1.1)
arguments (calls.Clipping routine) = made key_range (λ a. of_clip routine a.0 a.1.0 a.1.1)
arguments (calls.ByNumber routine) = made (key_and_whole (least_number routine) (most_number routine))
    (λ a. of_number routine a.0 a.1)
arguments (calls.OfPair routine) = made two_keys_range (λ a. of_keys routine a.0 a.1.0 a.1.1.0 a.1.1.1)
arguments (calls.OfSeries routine) = made text_key_range (λ a. of_series routine a.0 a.1.0 a.1.1.0 a.1.1.1)
arguments (calls.Running routine) =
    made (text_key_whole_range (pos 1) (pos 65536)) (λ a. of_running routine a.0 a.1.0 a.1.1.0 a.1.1.1.0 a.1.1.1.1)
arguments (calls.Alone routine) = give (of_lone routine)

-- so up to the end of the statement
unfoldable pub arguments_to_end : Routine → Phrase Command
arguments_to_end routine = ended (59 ∷ []) (arguments routine)

-- a routine, and in brackets what it is called with; or one that stands alone
unfoldable pub a_call : Phrase Command
a_call = do
  routine ← a_routine
  opened ← opening routine
  arguments routine

-- a statement: a call and the `;` that ends it
unfoldable pub a_command : Phrase Command
a_command = ended (59 ∷ []) a_call

-- the command that a statement is, or the place of its refusal
abbrev pub command_of : List ℕ → Result Command ℕ
command_of text = outcome (length text) (a_command text)

-- What a script asks for: its items, each a command or a refusal.

-- a command, or why there is none
abbrev pub Request : Type 0
Request = Result Command Refusal

-- a command, or a refusal at its place
abbrev pub or_syntax : Result Command ℕ → Request
or_syntax (Ok command) = Ok command
or_syntax (Err place) = Err (refusals.Syntax place)

-- what an item asks for
abbrev pub request_of : Item → Request
request_of (Statement text) = or_syntax (command_of text)
request_of TooLong = Err refusals.TooLong
request_of Unended = Err refusals.Unended

-- what the items ask for that end within the first bytes of a script
abbrev pub requests : List ℕ → List Request
requests bytes = map request_of (items bytes)

-- what the end of a script asks for, if it cuts a statement off
abbrev pub last_request : List ℕ → List Request
last_request bytes = map request_of (last bytes)
