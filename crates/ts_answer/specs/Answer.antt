-- What each command answers, and a run of commands with its transactions.
use Rattle.std.specs.Prelude.{ℕ, ◌+◌, Bool, ◌&&◌, nat_le, true, false, ℤ, pos, unsigned_abs, List, [], ◌∷◌}
use Rattle.std.specs.Prelude.{if◌then◌else◌, Option, Some, None, map, Ok, Err}
use Rattle.std.specs.FinMap.{len}
use Rattle.ts_base.specs.declared.refusal.Refusal.TheVariants as refusals
use Rattle.ts_row.specs.declared.kind.Column.{Column}
use Rattle.ts_row.specs.Row.{bad_column, has_long_decimal}
use Rattle.ts_pattern.specs.declared.junction.Junction.{Junction}
use Rattle.ts_pattern.specs.declared.junction.Junction.TheVariants.{And, Or}
use Rattle.ts_pattern.specs.Patterns.{turned, read_plan, joined_plan}
use Rattle.ts_calendar.specs.Calendars.{valid_calendar, joined_calendar, read_calendar, calendar_text}
use Rattle.ts_calendar.specs.declared.text.PatternPart.TheVariants.{Own}
use Rattle.ts_offset.specs.Grid.{cal_index, cal_stamp, cal_range}
use Rattle.ts_expr.specs.declared.function.Function.TheVariants as functions
use Rattle.ts_model.specs.declared.kind.Kind.{Kind}
use Rattle.ts_model.specs.declared.kind.Kind.TheVariants as kinds
use Rattle.ts_model.specs.Catalogue.{is_regular, Catalogue, with_plan, series_in, quotas, named, with_named, without}
use Rattle.ts_model.specs.Catalogue.{is_used}
use Rattle.ts_model.specs.Charge.{container_charge}
use Rattle.ts_command.specs.declared.command.Command.{Command}
use Rattle.ts_command.specs.declared.boundary.Boundary.{Boundary}
use Rattle.ts_command.specs.declared.boundary.Boundary.TheVariants.{Opens, Commits, RollsBack, Alone}
use Rattle.ts_command.specs.Boundary.{boundary_of, is_writing}
use Rattle.ts_command.specs.declared.command.Command.TheVariants as commands
use Rattle.ts_command.specs.Grammar.{Request}
use Rattle.ts_replies.specs.Acknowledged.{memory_line}
use Rattle.ts_answer.specs.Reply.{ok_line, counts_line, number_line, stamp_line, refusal_line, pattern_lines}
use Rattle.ts_answer.specs.Reply.{calendar_lines, series_text, stamps_text}
pub use Rattle.ts_answer.specs.Reply.{Tried, Answered, known, no_bad_column, row_or_mismatch, present, on_grid}
pub use Rattle.ts_answer.specs.Reply.{addressed, reached, given, in_time, placed}
unfoldable pub use Rattle.ts_answer.specs.Reply.{◌>>=◌, refused_if, wanted, unused, within_limit, a_new_name}
unfoldable pub use Rattle.ts_answer.specs.Reply.{beyond_old_format, a_row, row_at, a_place, an_address, within_quota}
unfoldable pub use Rattle.ts_answer.specs.Reply.{within_pages, a_calendar}
pub use Rattle.ts_answer.specs.Elements.{with_elements, with_element, seen_elements, last_element, element_at}
pub use Rattle.ts_answer.specs.Elements.{count_if_any, count_at, without_one}
unfoldable pub use Rattle.ts_answer.specs.Elements.{put_element, put_no_dups, insert_element, update_element}
unfoldable pub use Rattle.ts_answer.specs.Elements.{delete_element, delete_range, mark_element, get_element}
unfoldable pub use Rattle.ts_answer.specs.Elements.{get_last_element, count_elements, get_first_element}
unfoldable pub use Rattle.ts_answer.specs.Elements.{get_nth_element, clip_series, count_clip, clip_counted, join_series}
unfoldable pub use Rattle.ts_answer.specs.Elements.{lag_series, a_reading, running_values, apply_exprs}
unfoldable pub use Rattle.ts_answer.specs.Elements.{create_irregular, create_regular, roll_create, roll_put, roll_clip}
unfoldable pub use Rattle.ts_answer.specs.Elements.{roll_drop}
pub use Rattle.ts_answer.specs.Aggregates.{scales_of, folded_range, columns_in}
unfoldable pub use Rattle.ts_answer.specs.Aggregates.{aggregate_by, aggregate_range, aggregate_all}

-- What a catalogue answers to a request of a script: a reply, and the catalogue after it. Each routine tries its
-- refusals in order; the first that holds is said, and the catalogue stays.

unfoldable pub create_row_type : List ℕ → List ℕ → List Column → Catalogue → Tried Answered
create_row_type name stamp columns cat = do
  good ← no_bad_column (bad_column stamp columns)
  has ← beyond_old_format (has_long_decimal columns) cat.format
  new ← a_new_name kinds.RowType name cat
  Ok (ok_line, with_named kinds.RowType name (record { stamp = stamp; columns = columns }) cat)

-- a definition to which nothing refers goes
unfoldable pub drop_definition : Kind → List ℕ → Catalogue → Tried Answered
drop_definition kind name cat = do
  there ← wanted name (named kind cat)
  idle ← refused_if (is_used kind name cat) refusals.InUse
  Ok (ok_line, without kind name cat)

unfoldable pub create_pattern : List ℕ → List ℕ → Catalogue → Tried Answered
create_pattern name text cat = do
  pattern ← read_plan text
  new ← a_new_name kinds.Pattern name cat
  Ok (ok_line, with_named kinds.Pattern name pattern cat)

-- a pattern with each flag turned
unfoldable pub turn_pattern : List ℕ → List ℕ → Catalogue → Tried Answered
turn_pattern name pattern cat = do
  old ← wanted pattern cat.patterns
  new ← a_new_name kinds.Pattern name cat
  Ok (ok_line, with_named kinds.Pattern name (record { unit = old.unit; runs = map turned old.runs }) cat)

-- two patterns joined, their first intervals together
unfoldable pub join_patterns : Junction → List ℕ → List ℕ → List ℕ → Catalogue → Tried Answered
join_patterns junction name first second cat = do
  a ← wanted first cat.patterns
  b ← wanted second cat.patterns
  new ← a_new_name kinds.Pattern name cat
  pattern ← joined_plan junction a (pos 0) b (pos 0)
  Ok (ok_line, with_named kinds.Pattern name pattern cat)

unfoldable pub show_pattern : List ℕ → Catalogue → Tried Answered
show_pattern name cat = do
  pattern ← wanted name cat.patterns
  Ok (pattern_lines pattern, cat)

unfoldable pub create_calendar : List ℕ → List ℕ → Catalogue → Tried Answered
create_calendar name text cat = do
  read ← read_calendar text
  pattern ← given read.part cat
  new ← a_new_name kinds.Calendar name cat
  valid ← valid_calendar (with_plan read pattern)
  Ok (ok_line, with_named kinds.Calendar name read cat)

-- two calendars joined: what comes has a pattern of its own
unfoldable pub join_calendars : Junction → List ℕ → List ℕ → List ℕ → Catalogue → Tried Answered
join_calendars junction name first second cat = do
  a ← a_calendar first cat
  b ← a_calendar second cat
  new ← a_new_name kinds.Calendar name cat
  joined ← joined_calendar junction a b
  Ok (ok_line, with_named kinds.Calendar name (calendar_text joined.start joined.patt_start (Own joined.pattern)) cat)

unfoldable pub show_calendar : List ℕ → Catalogue → Tried Answered
show_calendar name cat = do
  text ← wanted name cat.calendars
  Ok (calendar_lines text, cat)

-- how many on starts lie between two stamps
unfoldable pub count_starts : List ℕ → ℤ → ℤ → Catalogue → Tried Answered
count_starts calendar from to cat = do
  plan ← a_calendar calendar cat
  Ok (number_line (cal_index plan from to), cat)

-- the on start of a number after a stamp
unfoldable pub find_start : List ℕ → ℤ → ℕ → Catalogue → Tried Answered
find_start calendar after count cat = do
  plan ← a_calendar calendar cat
  stamp ← in_time (cal_stamp plan after count)
  Ok (stamp_line stamp, cat)

-- the on starts from one stamp to another
unfoldable pub list_starts : List ℕ → ℤ → ℤ → Catalogue → Tried Answered
list_starts calendar from to cat = do
  plan ← a_calendar calendar cat
  starts ← cal_range plan from to
  Ok (stamps_text starts, cat)

unfoldable pub create_container : List ℕ → List ℕ → ℕ → Catalogue → Tried Answered
create_container name row_type quota cat = do
  heading ← wanted row_type cat.row_types
  new ← a_new_name kinds.Container name cat
  fits ← within_pages (quotas cat + quota) cat.pages
  Ok (ok_line, with_named kinds.Container name (record { row_type = row_type; quota = quota }) cat)

unfoldable pub container_usage : List ℕ → Catalogue → Tried Answered
container_usage name cat = do
  container ← wanted name cat.containers
  Ok (counts_line (container_charge name cat) container.quota, cat)

unfoldable pub drop_series : List ℕ → Catalogue → Tried Answered
drop_series key cat = do
  series ← wanted key cat.series
  Ok (ok_line, without kinds.Series key cat)

unfoldable pub list_series : List ℕ → Catalogue → Tried Answered
list_series container cat = do
  there ← wanted container cat.containers
  Ok (series_text (map (λ e. (e.0, is_regular e.1.kind, len e.1.elements)) (series_in container cat)), cat)

-- what a command comes to
unfoldable pub carried_out : Command → Catalogue → Tried Answered
carried_out (commands.CreateRowType name stamp columns) cat = create_row_type name stamp columns cat
carried_out (commands.DropRowType name) cat = drop_definition kinds.RowType name cat
carried_out (commands.CreatePattern name text) cat = create_pattern name text cat
carried_out (commands.NotOp name pattern) cat = turn_pattern name pattern cat
carried_out (commands.AndPatterns name first second) cat = join_patterns And name first second cat
carried_out (commands.OrPatterns name first second) cat = join_patterns Or name first second cat
carried_out (commands.AndCalendars name first second) cat = join_calendars And name first second cat
carried_out (commands.OrCalendars name first second) cat = join_calendars Or name first second cat
carried_out (commands.ShowPattern name) cat = show_pattern name cat
carried_out (commands.DropPattern name) cat = drop_definition kinds.Pattern name cat
carried_out (commands.CreateCalendar name text) cat = create_calendar name text cat
carried_out (commands.ShowCalendar name) cat = show_calendar name cat
carried_out (commands.DropCalendar name) cat = drop_definition kinds.Calendar name cat
carried_out (commands.CalIndex calendar from to) cat = count_starts calendar from to cat
carried_out (commands.CalStamp calendar after count) cat = find_start calendar after (unsigned_abs count) cat
carried_out (commands.CalRange calendar from to) cat = list_starts calendar from to cat
carried_out (commands.TSContainerCreate name row_type quota) cat =
    create_container name row_type (unsigned_abs quota) cat
carried_out (commands.TSContainerDestroy name) cat = drop_definition kinds.Container name cat
carried_out (commands.TSContainerUsage name) cat = container_usage name cat
carried_out (commands.TSCreate key calendar origin container) cat = create_regular key calendar origin container cat
carried_out (commands.TSCreateIrr key container) cat = create_irregular key container cat
carried_out (commands.DropSeries key) cat = drop_series key cat
carried_out (commands.ListSeries container) cat = list_series container cat
carried_out (commands.PutElem key stamp literals) cat = put_element key stamp literals cat
carried_out (commands.PutElemNoDups key stamp literals) cat = put_no_dups key stamp literals cat
carried_out (commands.InsElem key stamp literals) cat = insert_element key stamp literals cat
carried_out (commands.UpdElem key stamp literals) cat = update_element key stamp literals cat
carried_out (commands.DelElem key stamp) cat = delete_element key stamp cat
carried_out (commands.DelClip key from to) cat = delete_range key from to cat
carried_out (commands.HideElem key stamp) cat = mark_element true key stamp cat
carried_out (commands.RevealElem key stamp) cat = mark_element false key stamp cat
carried_out (commands.GetElem key stamp) cat = get_element key stamp cat
carried_out (commands.GetLastElem key) cat = get_last_element key cat
carried_out (commands.GetNelems key) cat = count_elements key cat
carried_out (commands.GetFirstElem key) cat = get_first_element key cat
carried_out (commands.GetNthElem key index) cat = get_nth_element key (unsigned_abs index) cat
carried_out (commands.Clip key from to) cat = clip_series key from to cat
carried_out (commands.ClipCount key stamp count) cat = clip_counted key stamp count cat
carried_out (commands.ClipGetCount key from to) cat = count_clip key from to cat
carried_out (commands.Union first second from to) cat = join_series Or first second from to cat
carried_out (commands.Intersect first second from to) cat = join_series And first second from to cat
carried_out (commands.Lag key by) cat = lag_series key by cat
carried_out (commands.AggregateBy text calendar key from to) cat = aggregate_by text calendar key from to cat
carried_out (commands.AggregateRange text key from to) cat = aggregate_range text key from to cat
carried_out (commands.AggregateAll text container from to) cat = aggregate_all text container from to cat
carried_out (commands.TSRunningSum text key span from to) cat =
    running_values functions.Sum text key (unsigned_abs span) from to cat
carried_out (commands.TSRunningAvg text key span from to) cat =
    running_values functions.Avg text key (unsigned_abs span) from to cat
carried_out (commands.Apply text key from to) cat = apply_exprs text key from to cat
carried_out (commands.RollingCreate set calendar origin container kept) cat =
    roll_create set calendar origin container (unsigned_abs kept) cat
carried_out (commands.RollingPut set stamp literals) cat = roll_put set stamp literals cat
carried_out (commands.RollingClip set from to) cat = roll_clip set from to cat
carried_out (commands.RollingDrop set) cat = roll_drop set cat
-- where no transaction is open: one is begun, and none can be ended
carried_out commands.Begin cat = Ok (ok_line, cat)
carried_out commands.Commit cat = Err refusals.NotOpen
carried_out commands.Rollback cat = Err refusals.NotOpen

-- what a request comes to
unfoldable pub outcome : Request → Catalogue → Tried Answered
outcome (Ok command) cat = carried_out command cat
outcome (Err refusal) cat = Err refusal

-- the reply and what stands behind it, or the line of the refusal and what stood there before
abbrev pub settled : {A : Type 0} → A → Tried (List ℕ × A) → List ℕ × A
settled before (Ok answered) = answered
settled before (Err refusal) = (refusal_line refusal, before)

-- the answer to a request
unfoldable pub answer : Catalogue → Request → Answered
answer cat request = settled cat (outcome request cat)

-- whether the line that there is no memory may stand in the place of the reply: not in that of a statement that is too
-- long or cut off, which takes none
abbrev pub may_lack_memory : Request → Bool
may_lack_memory (Ok command) = true
may_lack_memory (Err refusals.TooLong) = false
may_lack_memory (Err refusals.Unended) = false
may_lack_memory (Err refusal) = true

-- The state that a run of a script goes through: what answers its requests, and what it leaves on the volume. All that
-- speaks of runs, moments and steps cites these.

-- an open transaction: the catalogue after its commands, and how many of them that write were accepted
pub record Transaction : Type 0 where
  pub work : Catalogue
  pub accepted : ℕ

-- What a run is at between two requests: the catalogue that its volume means, and the transaction that is open, if one
-- is.
pub record State : Type 0 where
  pub base : Catalogue
  pub transaction : Option Transaction

-- no transaction is open; so a run begins on a volume that means a catalogue
abbrev pub resting : Catalogue → State
resting cat = record { base = cat; transaction = None }

-- one is open, with this work and so many accepted commands that write
abbrev pub opened : Catalogue → Catalogue → ℕ → State
opened base work accepted = record { base = base; transaction = Some (record { work = work; accepted = accepted }) }

-- the catalogue that the volume means there
abbrev pub committed : State → Catalogue
committed state = state.base

-- the catalogue that commands are answered by
abbrev pub newest_of : Catalogue → Option Transaction → Catalogue
newest_of base None = base
newest_of base (Some transaction) = transaction.work

abbrev pub newest : State → Catalogue
newest state = newest_of state.base state.transaction

-- how many accepted commands that write a transaction may have
abbrev pub most_accepted : ℕ
most_accepted = 32

-- the count with an accepted command
abbrev pub counted : Command → ℕ → ℕ
counted command accepted = accepted + (if is_writing command then 1 else 0)

-- a transaction that has all that it may have takes no more commands that write
unfoldable pub within_transaction : Command → ℕ → Tried (Unit {0})
within_transaction command accepted =
    refused_if (is_writing command && nat_le most_accepted accepted) refusals.TransactionFull

-- the transaction that a command opens at a catalogue
abbrev pub begun : Option Boundary → Catalogue → Option Transaction
begun (Some Opens) cat = Some (record { work = cat; accepted = 0 })
begun (Some Commits) cat = None
begun (Some RollsBack) cat = None
begun (Some Alone) cat = None
begun None cat = None

-- what a command comes to where no transaction is open: its answer is that of the catalogue, and so is the catalogue
-- after it
unfoldable pub outside : Command → Catalogue → Tried (List ℕ × State)
outside command base = do
  answered ← outcome (Ok command) base
  Ok (answered.0, record { base = answered.1; transaction = begun (boundary_of command) answered.1 })

-- What it comes to where one is open. Only its end moves the base, and what stands in no transaction is refused before
-- all else.
unfoldable pub inside : Option Boundary → Command → Catalogue → Catalogue → ℕ → Tried (List ℕ × State)
inside (Some Opens) command base work accepted = Err refusals.AlreadyOpen
inside (Some Commits) command base work accepted = Ok (number_line (pos accepted), resting work)
inside (Some RollsBack) command base work accepted = Ok (ok_line, resting base)
inside (Some Alone) command base work accepted = Err refusals.AlreadyOpen
inside None command base work accepted = do
  room ← within_transaction command accepted
  answered ← outcome (Ok command) work
  Ok (answered.0, opened base answered.1 (counted command accepted))

-- what a command comes to at a base, and with the transaction that is open
abbrev pub carried_out_in : Command → Catalogue → Option Transaction → Tried (List ℕ × State)
carried_out_in command base None = outside command base
carried_out_in command base (Some transaction) =
    inside (boundary_of command) command base transaction.work transaction.accepted

-- what a request comes to
unfoldable pub run_outcome : Request → State → Tried (List ℕ × State)
run_outcome (Ok command) state = carried_out_in command state.base state.transaction
run_outcome (Err refusal) state = Err refusal

-- the reply to a request, and the state after it
unfoldable pub run_answer : State → Request → List ℕ × State
run_answer state request = settled state (run_outcome request state)

-- the line that may stand in the place of the reply for want of memory
abbrev pub stand_in : Request → Option (List ℕ)
stand_in request = if may_lack_memory request then Some memory_line else None

-- the state after commands, one behind the other
abbrev pub after : State → List Command → State
after state [] = state
after state (command ∷ commands) = after (run_answer state (Ok command)).1 commands

-- the replies to them
abbrev pub replies : State → List Command → List (List ℕ)
replies state [] = []
replies state (command ∷ commands) =
    (run_answer state (Ok command)).0 ∷ replies (run_answer state (Ok command)).1 commands
