-- The form of commands: what holds of the names, keys, whole numbers and texts of every command that a statement is
-- read as.
use Rattle.std.specs.Prelude.{◌<◌, ◌^◌, IsTrue, ⊤, length, pos, neg_ℤ, ◌≤ℤ◌}
use Rattle.std.specs.List.{AllByRecursion}
use Rattle.ts_base.specs.Name.{is_name, is_key}
use Rattle.ts_row.specs.declared.kind.Column.{Column}
use Rattle.ts_rolling.specs.Sets.{is_set}
use Rattle.ts_command.specs.declared.command.Command.{Command}
use Rattle.ts_command.specs.declared.command.Command.TheVariants as commands

abbrev pub IsColumn : Column → Type 0
IsColumn column = IsTrue (is_name column.name)

-- the names, keys and whole numbers of a command have their forms and ranges, and a text has fewer than 2 ^ 32 bytes
abbrev pub HasForm : Command → Type 0
HasForm (commands.CreateRowType name stamp columns) = IsTrue (is_name name) × IsTrue (is_name stamp)
    × (0 < length columns) × AllByRecursion IsColumn columns
HasForm (commands.DropRowType name) = IsTrue (is_name name)
HasForm (commands.CreatePattern name text) = IsTrue (is_name name) × (length text < 2 ^ 32)
HasForm (commands.NotOp name pattern) = IsTrue (is_name name) × IsTrue (is_name pattern)
HasForm (commands.AndPatterns name first second) = IsTrue (is_name name) × IsTrue (is_name first)
    × IsTrue (is_name second)
HasForm (commands.OrPatterns name first second) = IsTrue (is_name name) × IsTrue (is_name first)
    × IsTrue (is_name second)
HasForm (commands.AndCalendars name first second) = IsTrue (is_name name) × IsTrue (is_name first)
    × IsTrue (is_name second)
HasForm (commands.OrCalendars name first second) = IsTrue (is_name name) × IsTrue (is_name first)
    × IsTrue (is_name second)
HasForm (commands.ShowPattern name) = IsTrue (is_name name)
HasForm (commands.DropPattern name) = IsTrue (is_name name)
HasForm (commands.CreateCalendar name text) = IsTrue (is_name name) × (length text < 2 ^ 32)
HasForm (commands.ShowCalendar name) = IsTrue (is_name name)
HasForm (commands.DropCalendar name) = IsTrue (is_name name)
HasForm (commands.TSContainerCreate name row_type quota) = IsTrue (is_name name) × IsTrue (is_name row_type)
    × (pos 1 ≤ℤ quota) × (quota ≤ℤ pos 65536)
HasForm (commands.TSContainerDestroy name) = IsTrue (is_name name)
HasForm (commands.TSContainerUsage name) = IsTrue (is_name name)
HasForm (commands.TSCreate key calendar origin container) = IsTrue (is_key key) × IsTrue (is_name calendar)
    × IsTrue (is_name container)
HasForm (commands.TSCreateIrr key container) = IsTrue (is_key key) × IsTrue (is_name container)
HasForm (commands.DropSeries key) = IsTrue (is_key key)
HasForm (commands.ListSeries container) = IsTrue (is_name container)
HasForm (commands.PutElem key stamp values) = IsTrue (is_key key)
HasForm (commands.PutElemNoDups key stamp values) = IsTrue (is_key key)
HasForm (commands.InsElem key stamp values) = IsTrue (is_key key)
HasForm (commands.UpdElem key stamp values) = IsTrue (is_key key)
HasForm (commands.DelElem key stamp) = IsTrue (is_key key)
HasForm (commands.DelClip key from to) = IsTrue (is_key key)
HasForm (commands.CalIndex calendar from to) = IsTrue (is_name calendar)
HasForm (commands.CalStamp calendar after count) = IsTrue (is_name calendar) × (pos 1 ≤ℤ count)
    × (count ≤ℤ pos 4294967295)
HasForm (commands.CalRange calendar from to) = IsTrue (is_name calendar)
HasForm (commands.HideElem key stamp) = IsTrue (is_key key)
HasForm (commands.RevealElem key stamp) = IsTrue (is_key key)
HasForm (commands.GetElem key stamp) = IsTrue (is_key key)
HasForm (commands.GetLastElem key) = IsTrue (is_key key)
HasForm (commands.GetNelems key) = IsTrue (is_key key)
HasForm (commands.GetFirstElem key) = IsTrue (is_key key)
HasForm (commands.GetNthElem key index) = IsTrue (is_key key) × (pos 0 ≤ℤ index) × (index ≤ℤ pos 4294967295)
HasForm (commands.Clip key from to) = IsTrue (is_key key)
HasForm (commands.ClipCount key stamp count) = IsTrue (is_key key) × (neg_ℤ (pos 1000000) ≤ℤ count)
    × (count ≤ℤ pos 1000000)
HasForm (commands.ClipGetCount key from to) = IsTrue (is_key key)
HasForm (commands.Union first second from to) = IsTrue (is_key first) × IsTrue (is_key second)
HasForm (commands.Intersect first second from to) = IsTrue (is_key first) × IsTrue (is_key second)
HasForm (commands.AggregateBy text calendar key from to) = (length text < 2 ^ 32) × IsTrue (is_name calendar)
    × IsTrue (is_key key)
HasForm (commands.AggregateRange text key from to) = (length text < 2 ^ 32) × IsTrue (is_key key)
HasForm (commands.AggregateAll text container from to) = (length text < 2 ^ 32) × IsTrue (is_name container)
HasForm (commands.Lag key by) = IsTrue (is_key key) × (neg_ℤ (pos 2147483647) ≤ℤ by) × (by ≤ℤ pos 2147483647)
HasForm (commands.TSRunningSum text key span from to) = (length text < 2 ^ 32) × IsTrue (is_key key) × (pos 1 ≤ℤ span)
    × (span ≤ℤ pos 65536)
HasForm (commands.TSRunningAvg text key span from to) = (length text < 2 ^ 32) × IsTrue (is_key key) × (pos 1 ≤ℤ span)
    × (span ≤ℤ pos 65536)
HasForm (commands.Apply text key from to) = (length text < 2 ^ 32) × IsTrue (is_key key)
HasForm (commands.RollingCreate set calendar origin container kept) = IsTrue (is_set set) × IsTrue (is_name calendar)
    × IsTrue (is_name container) × (pos 1 ≤ℤ kept) × (kept ≤ℤ pos 1000)
HasForm (commands.RollingPut set stamp values) = IsTrue (is_set set)
HasForm (commands.RollingClip set from to) = IsTrue (is_set set)
HasForm (commands.RollingDrop set) = IsTrue (is_set set)
HasForm commands.Begin = ⊤
HasForm commands.Commit = ⊤
HasForm commands.Rollback = ⊤
