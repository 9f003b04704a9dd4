-- What a command works on. Every command has its case.
use Rattle.std.specs.Prelude.{◌≡◌, Bool, true, List, ℕ, ◌+◌, [], Option, Result, IfOk}
use Rattle.ts_base.specs.declared.fault.Trouble.{Trouble}
use Rattle.ts_command.specs.declared.command.Command.{Command}
use Rattle.ts_command.specs.declared.command.Command.TheVariants as commands
use Rattle.ts_model.specs.declared.kind.Kind.{Kind}
use Rattle.ts_model.specs.declared.kind.Kind.TheVariants as kinds
use Rattle.ts_container.specs.KeptCharges.{AreCharges}
use Rattle.ts_model.specs.declared.def.Def.{Def}
use Rattle.ts_model.specs.Definitions.{Definitions}
use Rattle.ts_page.specs.Pages.{first_element_page}
use Rattle.ts_command.specs.Boundary.{is_writing}
use Rattle.ts_answer.specs.Decided.{IsDecision, FitsSlot}
use Rattle.ts_answer.specs.View.{View, IsSeen}

pub data Work : Type 0 where
  -- it makes or drops a definition of a kind
  Defines : Kind → Work
  -- it changes the elements of series
  Elements : Work
  -- it reads a series
  Readings : Work
  -- it combines the elements of two series, or of one with itself
  Combinations : Work
  -- it folds the elements of series by an aggregate list
  Aggregates : Work
  -- it reads what is in memory
  Memory : Work
  -- it begins or ends a transaction
  Boundaries : Work

abbrev pub work_of : Command → Work
work_of (commands.CreateRowType name stamp columns) = Defines kinds.RowType
work_of (commands.DropRowType name) = Defines kinds.RowType
work_of (commands.CreatePattern name text) = Defines kinds.Pattern
work_of (commands.NotOp name pattern) = Defines kinds.Pattern
work_of (commands.AndPatterns name first second) = Defines kinds.Pattern
work_of (commands.OrPatterns name first second) = Defines kinds.Pattern
work_of (commands.DropPattern name) = Defines kinds.Pattern
work_of (commands.CreateCalendar name text) = Defines kinds.Calendar
work_of (commands.AndCalendars name first second) = Defines kinds.Calendar
work_of (commands.OrCalendars name first second) = Defines kinds.Calendar
work_of (commands.DropCalendar name) = Defines kinds.Calendar
work_of (commands.ShowPattern name) = Memory
work_of (commands.ShowCalendar name) = Memory
work_of (commands.CalIndex calendar from to) = Memory
work_of (commands.CalStamp calendar after count) = Memory
work_of (commands.CalRange calendar from to) = Memory
work_of (commands.TSContainerCreate name row_type quota) = Defines kinds.Container
work_of (commands.TSContainerDestroy name) = Defines kinds.Container
work_of (commands.TSContainerUsage name) = Memory
work_of (commands.TSCreate key calendar origin container) = Defines kinds.Series
work_of (commands.TSCreateIrr key container) = Defines kinds.Series
work_of (commands.DropSeries key) = Elements
work_of (commands.ListSeries container) = Memory
work_of (commands.PutElem key stamp literals) = Elements
work_of (commands.PutElemNoDups key stamp literals) = Elements
work_of (commands.InsElem key stamp literals) = Elements
work_of (commands.UpdElem key stamp literals) = Elements
work_of (commands.DelElem key stamp) = Elements
work_of (commands.DelClip key from to) = Elements
work_of (commands.HideElem key stamp) = Elements
work_of (commands.RevealElem key stamp) = Elements
work_of (commands.GetElem key stamp) = Readings
work_of (commands.GetLastElem key) = Readings
work_of (commands.GetNelems key) = Memory
work_of (commands.GetFirstElem key) = Readings
work_of (commands.GetNthElem key index) = Readings
work_of (commands.Clip key from to) = Readings
work_of (commands.ClipCount key stamp count) = Readings
work_of (commands.ClipGetCount key from to) = Readings
work_of (commands.Union first second from to) = Combinations
work_of (commands.Intersect first second from to) = Combinations
work_of (commands.Lag key by) = Combinations
work_of (commands.AggregateBy text calendar key from to) = Aggregates
work_of (commands.AggregateRange text key from to) = Aggregates
work_of (commands.AggregateAll text container from to) = Aggregates
work_of (commands.TSRunningSum text key span from to) = Aggregates
work_of (commands.TSRunningAvg text key span from to) = Aggregates
work_of (commands.Apply text key from to) = Aggregates
work_of (commands.RollingCreate set calendar origin container kept) = Defines kinds.Series
work_of (commands.RollingPut set stamp literals) = Elements
work_of (commands.RollingClip set from to) = Readings
work_of (commands.RollingDrop set) = Elements
work_of commands.Begin = Boundaries
work_of commands.Commit = Boundaries
work_of commands.Rollback = Boundaries

-- What a command is given: a view of a volume, what containers are charged by it, and no reply yet.
pub record IsGiven (tells : Bool) (x : View) (charges out : List ℕ) : Type 0 where
  pub seen : IsSeen tells x
  pub charged : AreCharges charges x.definitions x.space
  pub empty : out ≡ []

-- What is decided on a command that makes or drops a definition of a kind, where there are so many element pages: it
-- fits a slot, and it is what the catalogue of each layout with these definitions answers.
pub record IsDecided (kind : Kind) (command : Command) (decided : Result (ℕ × Option Def) Trouble) (d : Definitions)
    (pages : ℕ) : Type 0 where
  pub writes : is_writing command ≡ true
  pub fits : IfOk decided (λ change. FitsSlot kind change.0 change.1 d)
  pub decision : (count : ℕ) → count ≡ first_element_page + pages → IsDecision kind command decided d count
