-- How a dump ends, and its status.
use Rattle.std.specs.Prelude.{ℕ, Result, Ok, Err}
use Rattle.ts_container.specs.declared.fault.SurveyFault.{SurveyFault}
use Rattle.ts_container.specs.declared.fault.SurveyFault.TheVariants as survey
use Rattle.ts_dump.specs.declared.ended.Ended.{Ended}
use Rattle.ts_dump.specs.declared.ended.Ended.TheVariants.{Whole, NoSeries, Bad, OutputFailed, VolumeFailed, NoMemory}
use Rattle.ts_dump.specs.declared.ended.Fault.{Fault}
use Rattle.ts_dump.specs.declared.ended.Fault.TheVariants as faults

-- the status of each
abbrev pub status_of : Ended → ℕ
status_of Whole = 0
status_of NoSeries = 1
status_of (Bad page) = 6
status_of OutputFailed = 4
status_of VolumeFailed = 5
status_of NoMemory = 7

-- how a dump ends whose script was said, or not
abbrev pub ended_of : Result Unit Fault → Ended
ended_of (Ok done) = Whole
ended_of (Err faults.Output) = OutputFailed
ended_of (Err faults.Volume) = VolumeFailed
ended_of (Err faults.Memory) = NoMemory

-- how one ends whose volume wasn't found to be a store
abbrev pub read_as : SurveyFault → Ended
read_as (survey.NotAStore page) = Bad page
read_as survey.Failed = VolumeFailed
read_as (survey.Memory error) = NoMemory
