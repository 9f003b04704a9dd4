-- What a command touches. Every command has its case.
use Rattle.std.specs.Prelude.{ℕ, List, [], ◌∷◌, Result, Ok, Err}
use Rattle.ts_base.specs.declared.refusal.Refusal.{Refusal}
use Rattle.ts_calendar.specs.declared.text.PatternPart.{PatternPart}
use Rattle.ts_calendar.specs.declared.text.PatternPart.TheVariants.{Named as ByName, Own}
use Rattle.ts_calendar.specs.declared.text.CalendarText.{CalendarText}
use Rattle.ts_calendar.specs.Calendars.{read_calendar}
use Rattle.ts_command.specs.declared.command.Command.{Command}
use Rattle.ts_command.specs.declared.command.Command.TheVariants as commands
use Rattle.ts_model.specs.declared.kind.Kind.{Kind}
use Rattle.ts_model.specs.declared.kind.Kind.TheVariants as kinds
use Rattle.ts_multi.specs.declared.object.Object.{Object}
use Rattle.ts_multi.specs.declared.object.Touched.{Touched}

abbrev pub object : Kind → List ℕ → Object
object kind name = record { kind = kind; name = name }

-- nothing is touched
abbrev pub nothing : Touched
nothing = record { wrote = []; named = [] }

-- an object is written, and others are named
abbrev pub writes : Kind → List ℕ → List Object → Touched
writes kind name others = record { wrote = object kind name ∷ []; named = others }

-- objects are named, and none is written
abbrev pub reads : List Object → Touched
reads others = record { wrote = []; named = others }

-- one object, and two
abbrev pub one : Kind → List ℕ → List Object
one kind name = object kind name ∷ []

abbrev pub two : Kind → List ℕ → Kind → List ℕ → List Object
two kind name other_kind other = object kind name ∷ object other_kind other ∷ []

-- the pattern that a calendar's text names, as a list of one or none
abbrev pub named_part : PatternPart → List Object
named_part (ByName name) = one kinds.Pattern name
named_part (Own pattern) = []

-- the same of a text that is read
abbrev pub pattern_named : Result CalendarText Refusal → List Object
pattern_named (Ok text) = named_part text.part
pattern_named (Err refusal) = []

-- The object that a command makes, drops or edits, and every other object among its arguments; an element edit names
-- nothing. A rolling set is told by its key, which stands for all its series.
abbrev pub objects : Command → Touched
objects (commands.CreateRowType name stamp columns) = writes kinds.RowType name []
objects (commands.DropRowType name) = writes kinds.RowType name []
objects (commands.CreatePattern name text) = writes kinds.Pattern name []
objects (commands.NotOp name pattern) = writes kinds.Pattern name (one kinds.Pattern pattern)
objects (commands.AndPatterns name first second) =
    writes kinds.Pattern name (two kinds.Pattern first kinds.Pattern second)
objects (commands.OrPatterns name first second) =
    writes kinds.Pattern name (two kinds.Pattern first kinds.Pattern second)
objects (commands.AndCalendars name first second) =
    writes kinds.Calendar name (two kinds.Calendar first kinds.Calendar second)
objects (commands.OrCalendars name first second) =
    writes kinds.Calendar name (two kinds.Calendar first kinds.Calendar second)
objects (commands.ShowPattern name) = reads (one kinds.Pattern name)
objects (commands.DropPattern name) = writes kinds.Pattern name []
objects (commands.CreateCalendar name text) = writes kinds.Calendar name (pattern_named (read_calendar text))
objects (commands.ShowCalendar name) = reads (one kinds.Calendar name)
objects (commands.DropCalendar name) = writes kinds.Calendar name []
objects (commands.CalIndex calendar from to) = reads (one kinds.Calendar calendar)
objects (commands.CalStamp calendar after count) = reads (one kinds.Calendar calendar)
objects (commands.CalRange calendar from to) = reads (one kinds.Calendar calendar)
objects (commands.TSContainerCreate name row_type quota) = writes kinds.Container name (one kinds.RowType row_type)
objects (commands.TSContainerDestroy name) = writes kinds.Container name []
objects (commands.TSContainerUsage name) = reads (one kinds.Container name)
objects (commands.TSCreate key calendar origin container) =
    writes kinds.Series key (two kinds.Calendar calendar kinds.Container container)
objects (commands.TSCreateIrr key container) = writes kinds.Series key (one kinds.Container container)
objects (commands.DropSeries key) = writes kinds.Series key []
objects (commands.ListSeries container) = reads (one kinds.Container container)
objects (commands.PutElem key stamp literals) = writes kinds.Series key []
objects (commands.PutElemNoDups key stamp literals) = writes kinds.Series key []
objects (commands.InsElem key stamp literals) = writes kinds.Series key []
objects (commands.UpdElem key stamp literals) = writes kinds.Series key []
objects (commands.DelElem key stamp) = writes kinds.Series key []
objects (commands.DelClip key from to) = writes kinds.Series key []
objects (commands.HideElem key stamp) = writes kinds.Series key []
objects (commands.RevealElem key stamp) = writes kinds.Series key []
objects (commands.GetElem key stamp) = reads (one kinds.Series key)
objects (commands.GetLastElem key) = reads (one kinds.Series key)
objects (commands.GetNelems key) = reads (one kinds.Series key)
objects (commands.GetFirstElem key) = reads (one kinds.Series key)
objects (commands.GetNthElem key index) = reads (one kinds.Series key)
objects (commands.Clip key from to) = reads (one kinds.Series key)
objects (commands.ClipCount key stamp count) = reads (one kinds.Series key)
objects (commands.ClipGetCount key from to) = reads (one kinds.Series key)
objects (commands.Union first second from to) = reads (two kinds.Series first kinds.Series second)
objects (commands.Intersect first second from to) = reads (two kinds.Series first kinds.Series second)
objects (commands.Lag key by) = reads (one kinds.Series key)
objects (commands.AggregateBy text calendar key from to) = reads (two kinds.Calendar calendar kinds.Series key)
objects (commands.AggregateRange text key from to) = reads (one kinds.Series key)
objects (commands.AggregateAll text container from to) = reads (one kinds.Container container)
objects (commands.TSRunningSum text key span from to) = reads (one kinds.Series key)
objects (commands.TSRunningAvg text key span from to) = reads (one kinds.Series key)
objects (commands.Apply text key from to) = reads (one kinds.Series key)
objects (commands.RollingCreate set calendar origin container kept) =
    writes kinds.Series set (two kinds.Calendar calendar kinds.Container container)
objects (commands.RollingPut set stamp literals) = writes kinds.Series set []
objects (commands.RollingClip set from to) = reads (one kinds.Series set)
objects (commands.RollingDrop set) = writes kinds.Series set []
objects commands.Begin = nothing
objects commands.Commit = nothing
objects commands.Rollback = nothing
