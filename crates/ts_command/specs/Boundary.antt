-- Which commands write, and which begin or end a transaction.
use Rattle.std.specs.Prelude.{Bool, true, false, ◌&&◌, not, Option, Some, None}
use Rattle.ts_command.specs.declared.command.Command.{Command}
use Rattle.ts_command.specs.declared.command.Command.TheVariants as commands
use Rattle.ts_command.specs.declared.boundary.Boundary.{Boundary}
use Rattle.ts_command.specs.declared.boundary.Boundary.TheVariants.{Opens, Commits, RollsBack, Alone}

-- What a command does: whether it writes, and what it does to a transaction. Every command has its case.

-- a command that writes, or only reads, inside of a transaction or outside
abbrev pub writes : Bool × Option Boundary
writes = (true, None)

abbrev pub reads : Bool × Option Boundary
reads = (false, None)

-- whether the routine writes, else it only reads; and whether the command opens a transaction or ends one, and how, or
-- stands in none
abbrev pub doing_of : Command → Bool × Option Boundary
doing_of (commands.CreateRowType name stamp columns) = writes
doing_of (commands.DropRowType name) = writes
doing_of (commands.CreatePattern name text) = writes
doing_of (commands.NotOp name pattern) = writes
doing_of (commands.AndPatterns name first second) = writes
doing_of (commands.OrPatterns name first second) = writes
doing_of (commands.AndCalendars name first second) = writes
doing_of (commands.OrCalendars name first second) = writes
doing_of (commands.ShowPattern name) = reads
doing_of (commands.DropPattern name) = writes
doing_of (commands.CreateCalendar name text) = writes
doing_of (commands.ShowCalendar name) = reads
doing_of (commands.DropCalendar name) = writes
doing_of (commands.CalIndex calendar from to) = reads
doing_of (commands.CalStamp calendar after count) = reads
doing_of (commands.CalRange calendar from to) = reads
doing_of (commands.TSContainerCreate name row_type quota) = writes
doing_of (commands.TSContainerDestroy name) = writes
doing_of (commands.TSContainerUsage name) = reads
doing_of (commands.TSCreate key calendar origin container) = writes
doing_of (commands.TSCreateIrr key container) = writes
doing_of (commands.DropSeries key) = writes
doing_of (commands.ListSeries container) = reads
doing_of (commands.PutElem key stamp literals) = writes
doing_of (commands.PutElemNoDups key stamp literals) = writes
doing_of (commands.InsElem key stamp literals) = writes
doing_of (commands.UpdElem key stamp literals) = writes
doing_of (commands.DelElem key stamp) = writes
doing_of (commands.DelClip key from to) = writes
doing_of (commands.HideElem key stamp) = writes
doing_of (commands.RevealElem key stamp) = writes
doing_of (commands.GetElem key stamp) = reads
doing_of (commands.GetLastElem key) = reads
doing_of (commands.GetNelems key) = reads
doing_of (commands.GetFirstElem key) = reads
doing_of (commands.GetNthElem key index) = reads
doing_of (commands.Clip key from to) = reads
doing_of (commands.ClipCount key stamp count) = reads
doing_of (commands.ClipGetCount key from to) = reads
doing_of (commands.Union first second from to) = reads
doing_of (commands.Intersect first second from to) = reads
doing_of (commands.Lag key by) = reads
doing_of (commands.AggregateBy text calendar key from to) = reads
doing_of (commands.AggregateRange text key from to) = reads
doing_of (commands.AggregateAll text container from to) = reads
doing_of (commands.TSRunningSum text key span from to) = reads
doing_of (commands.TSRunningAvg text key span from to) = reads
doing_of (commands.Apply text key from to) = reads
doing_of (commands.RollingCreate set calendar origin container kept) = (true, Some Alone)
doing_of (commands.RollingPut set stamp literals) = (true, Some Alone)
doing_of (commands.RollingClip set from to) = (false, Some Alone)
doing_of (commands.RollingDrop set) = (true, Some Alone)
doing_of commands.Begin = (false, Some Opens)
doing_of commands.Commit = (false, Some Commits)
doing_of commands.Rollback = (false, Some RollsBack)

-- whether the routine writes; else it only reads
abbrev pub is_writing : Command → Bool
is_writing command = (doing_of command).0

-- What a command does to a transaction.

-- whether the command opens a transaction or ends one, and how, or stands in none
abbrev pub boundary_of : Command → Option Boundary
boundary_of command = (doing_of command).1

-- it neither opens nor ends one
abbrev pub is_between : Option Boundary → Bool
is_between None = true
is_between (Some Opens) = false
is_between (Some Commits) = false
is_between (Some RollsBack) = false
is_between (Some Alone) = true

-- the command neither writes nor opens or ends a transaction: it only reads
abbrev pub is_reading : Command → Bool
is_reading command = not (is_writing command) && is_between (boundary_of command)
