-- The routines, by their names.
use Rattle.std.specs.Prelude.{ℕ, List, [], ◌∷◌, codes, find, Option, ℤ, pos, neg_ℤ}
use Rattle.std.specs.Str.{bytes_eq}
use Rattle.ts_command.specs.declared.routine.Routine.{Routine}
use Rattle.ts_command.specs.declared.routine.Routine.TheVariants as calls
use Rattle.ts_command.specs.declared.routine.NameRoutine.{NameRoutine}
use Rattle.ts_command.specs.declared.routine.NameRoutine.TheVariants as by_name
use Rattle.ts_command.specs.declared.routine.KeyRoutine.{KeyRoutine}
use Rattle.ts_command.specs.declared.routine.KeyRoutine.TheVariants as by_key
use Rattle.ts_command.specs.declared.routine.StampRoutine.{StampRoutine}
use Rattle.ts_command.specs.declared.routine.StampRoutine.TheVariants as at_stamp
use Rattle.ts_command.specs.declared.routine.RowRoutine.{RowRoutine}
use Rattle.ts_command.specs.declared.routine.RowRoutine.TheVariants as with_row
use Rattle.ts_command.specs.declared.routine.TextRoutine.{TextRoutine}
use Rattle.ts_command.specs.declared.routine.TextRoutine.TheVariants as with_text
use Rattle.ts_command.specs.declared.routine.JoinRoutine.{JoinRoutine}
use Rattle.ts_command.specs.declared.routine.JoinRoutine.TheVariants as joining
use Rattle.ts_command.specs.declared.routine.RangeRoutine.{RangeRoutine}
use Rattle.ts_command.specs.declared.routine.RangeRoutine.TheVariants as in_range
use Rattle.ts_command.specs.declared.routine.ClipRoutine.{ClipRoutine}
use Rattle.ts_command.specs.declared.routine.ClipRoutine.TheVariants as clipping
use Rattle.ts_command.specs.declared.routine.NumberRoutine.{NumberRoutine}
use Rattle.ts_command.specs.declared.routine.NumberRoutine.TheVariants as by_number
use Rattle.ts_command.specs.declared.routine.PairRoutine.{PairRoutine}
use Rattle.ts_command.specs.declared.routine.PairRoutine.TheVariants as of_pair
use Rattle.ts_command.specs.declared.routine.SeriesRoutine.{SeriesRoutine}
use Rattle.ts_command.specs.declared.routine.SeriesRoutine.TheVariants as in_series
use Rattle.ts_command.specs.declared.routine.RunningRoutine.{RunningRoutine}
use Rattle.ts_command.specs.declared.routine.RunningRoutine.TheVariants as running
use Rattle.ts_command.specs.declared.routine.LoneRoutine.{LoneRoutine}
use Rattle.ts_command.specs.declared.routine.LoneRoutine.TheVariants as alone

-- the names of the routines that are called with a name
abbrev pub name_spelling : NameRoutine → List ℕ
name_spelling by_name.DropRowType = codes "DropRowType"
name_spelling by_name.ShowPattern = codes "ShowPattern"
name_spelling by_name.DropPattern = codes "DropPattern"
name_spelling by_name.ShowCalendar = codes "ShowCalendar"
name_spelling by_name.DropCalendar = codes "DropCalendar"
name_spelling by_name.TSContainerDestroy = codes "TSContainerDestroy"
name_spelling by_name.TSContainerUsage = codes "TSContainerUsage"
name_spelling by_name.ListSeries = codes "ListSeries"

-- with a key
abbrev pub key_spelling : KeyRoutine → List ℕ
key_spelling by_key.DropSeries = codes "DropSeries"
key_spelling by_key.GetFirstElem = codes "GetFirstElem"
key_spelling by_key.GetLastElem = codes "GetLastElem"
key_spelling by_key.GetNelems = codes "GetNelems"

-- with a key and a stamp
abbrev pub stamp_spelling : StampRoutine → List ℕ
stamp_spelling at_stamp.DelElem = codes "DelElem"
stamp_spelling at_stamp.HideElem = codes "HideElem"
stamp_spelling at_stamp.RevealElem = codes "RevealElem"
stamp_spelling at_stamp.GetElem = codes "GetElem"

-- with a key, a stamp and the values of a row
abbrev pub row_spelling : RowRoutine → List ℕ
row_spelling with_row.PutElem = codes "PutElem"
row_spelling with_row.PutElemNoDups = codes "PutElemNoDups"
row_spelling with_row.InsElem = codes "InsElem"
row_spelling with_row.UpdElem = codes "UpdElem"

-- with a name and a text
abbrev pub text_spelling : TextRoutine → List ℕ
text_spelling with_text.CreatePattern = codes "CreatePattern"
text_spelling with_text.CreateCalendar = codes "CreateCalendar"

-- with what they join and three names
abbrev pub join_spelling : JoinRoutine → List ℕ
join_spelling joining.AndOp = codes "AndOp"
join_spelling joining.OrOp = codes "OrOp"

-- with a name and two stamps
abbrev pub range_spelling : RangeRoutine → List ℕ
range_spelling in_range.CalIndex = codes "CalIndex"
range_spelling in_range.CalRange = codes "CalRange"

-- with a key and two stamps
abbrev pub clip_spelling : ClipRoutine → List ℕ
clip_spelling clipping.Clip = codes "Clip"
clip_spelling clipping.ClipGetCount = codes "ClipGetCount"
clip_spelling clipping.DelClip = codes "DelClip"

-- with a key and a whole number
abbrev pub number_spelling : NumberRoutine → List ℕ
number_spelling by_number.GetNthElem = codes "GetNthElem"
number_spelling by_number.Lag = codes "Lag"

-- the least and the greatest number that it may be
abbrev pub least_number : NumberRoutine → ℤ
least_number by_number.GetNthElem = pos 0
least_number by_number.Lag = neg_ℤ (pos 2147483647)

abbrev pub most_number : NumberRoutine → ℤ
most_number by_number.GetNthElem = pos 4294967295
most_number by_number.Lag = pos 2147483647

-- with two keys and two stamps
abbrev pub pair_spelling : PairRoutine → List ℕ
pair_spelling of_pair.Union = codes "Union"
pair_spelling of_pair.Intersect = codes "Intersect"

-- with a text, a key and two stamps
abbrev pub series_spelling : SeriesRoutine → List ℕ
series_spelling in_series.AggregateRange = codes "AggregateRange"
series_spelling in_series.Apply = codes "Apply"

-- with a text, a key, a whole number and two stamps
abbrev pub running_spelling : RunningRoutine → List ℕ
running_spelling running.TSRunningSum = codes "TSRunningSum"
running_spelling running.TSRunningAvg = codes "TSRunningAvg"

-- with nothing, not even brackets
abbrev pub lone_spelling : LoneRoutine → List ℕ
lone_spelling alone.Begin = codes "Begin"
lone_spelling alone.Commit = codes "Commit"
lone_spelling alone.Rollback = codes "Rollback"

-- the name of each routine
abbrev pub spelling : Routine → List ℕ
spelling calls.CreateRowType = codes "CreateRowType"
spelling calls.TSContainerCreate = codes "TSContainerCreate"
spelling calls.TSCreate = codes "TSCreate"
spelling calls.TSCreateIrr = codes "TSCreateIrr"
spelling calls.NotOp = codes "NotOp"
spelling calls.CalStamp = codes "CalStamp"
spelling calls.ClipCount = codes "ClipCount"
spelling calls.AggregateBy = codes "AggregateBy"
spelling calls.AggregateAll = codes "AggregateAll"
spelling calls.RollingCreate = codes "RollingCreate"
spelling calls.RollingPut = codes "RollingPut"
spelling calls.RollingClip = codes "RollingClip"
spelling calls.RollingDrop = codes "RollingDrop"
spelling (calls.ByName routine) = name_spelling routine
spelling (calls.ByKey routine) = key_spelling routine
spelling (calls.AtStamp routine) = stamp_spelling routine
spelling (calls.WithRow routine) = row_spelling routine
spelling (calls.WithText routine) = text_spelling routine
spelling (calls.Joining routine) = join_spelling routine
spelling (calls.InRange routine) = range_spelling routine
spelling (calls.Clipping routine) = clip_spelling routine
spelling (calls.ByNumber routine) = number_spelling routine
spelling (calls.OfPair routine) = pair_spelling routine
spelling (calls.OfSeries routine) = series_spelling routine
spelling (calls.Running routine) = running_spelling routine
spelling (calls.Alone routine) = lone_spelling routine

-- all of them
abbrev pub routines : List Routine
routines =
    calls.WithRow with_row.PutElem ∷
    calls.WithRow with_row.InsElem ∷
    calls.WithRow with_row.UpdElem ∷
    calls.WithRow with_row.PutElemNoDups ∷
    calls.AtStamp at_stamp.GetElem ∷
    calls.AtStamp at_stamp.DelElem ∷
    calls.AtStamp at_stamp.HideElem ∷
    calls.AtStamp at_stamp.RevealElem ∷
    calls.Clipping clipping.Clip ∷
    calls.Clipping clipping.ClipGetCount ∷
    calls.Clipping clipping.DelClip ∷
    calls.ClipCount ∷
    calls.ByNumber by_number.GetNthElem ∷
    calls.ByNumber by_number.Lag ∷
    calls.OfPair of_pair.Union ∷
    calls.OfPair of_pair.Intersect ∷
    calls.AggregateBy ∷
    calls.OfSeries in_series.AggregateRange ∷
    calls.AggregateAll ∷
    calls.Running running.TSRunningSum ∷
    calls.Running running.TSRunningAvg ∷
    calls.OfSeries in_series.Apply ∷
    calls.ByKey by_key.GetFirstElem ∷
    calls.ByKey by_key.GetLastElem ∷
    calls.ByKey by_key.GetNelems ∷
    calls.InRange in_range.CalIndex ∷
    calls.CalStamp ∷
    calls.InRange in_range.CalRange ∷
    calls.ByKey by_key.DropSeries ∷
    calls.TSCreate ∷
    calls.TSCreateIrr ∷
    calls.CreateRowType ∷
    calls.TSContainerCreate ∷
    calls.ByName by_name.DropRowType ∷
    calls.ByName by_name.TSContainerDestroy ∷
    calls.ByName by_name.TSContainerUsage ∷
    calls.ByName by_name.ListSeries ∷
    calls.WithText with_text.CreatePattern ∷
    calls.WithText with_text.CreateCalendar ∷
    calls.NotOp ∷
    calls.Joining joining.AndOp ∷
    calls.Joining joining.OrOp ∷
    calls.ByName by_name.ShowPattern ∷
    calls.ByName by_name.DropPattern ∷
    calls.ByName by_name.ShowCalendar ∷
    calls.ByName by_name.DropCalendar ∷
    calls.RollingPut ∷
    calls.RollingClip ∷
    calls.RollingCreate ∷
    calls.RollingDrop ∷
    calls.Alone alone.Begin ∷
    calls.Alone alone.Commit ∷
    calls.Alone alone.Rollback ∷
    []

-- the routine of this name, if there is one
unfoldable pub routine_of : List ℕ → Option Routine
routine_of word = find (λ routine. bytes_eq (spelling routine) word) routines
