-- Requests whose commands are such as statements are read as.
use Rattle.std.specs.Prelude.{Ok, Err}
use Rattle.ts_base.specs.Moment.{IsStamp}
use Rattle.ts_command.specs.declared.command.Command.{Command}
use Rattle.ts_command.specs.declared.command.Command.TheVariants as commands
use Rattle.ts_command.specs.Form.{HasForm}
use Rattle.ts_command.specs.Grammar.{Request}

-- each stamp that a command names is one
abbrev pub NamesStamps : Command → Type 0
NamesStamps (commands.CalIndex calendar from to) = IsStamp from × IsStamp to
NamesStamps (commands.CalStamp calendar after count) = IsStamp after
NamesStamps (commands.CalRange calendar from to) = IsStamp from × IsStamp to
NamesStamps (commands.TSCreate key calendar origin container) = IsStamp origin
NamesStamps (commands.PutElem key stamp values) = IsStamp stamp
NamesStamps (commands.PutElemNoDups key stamp values) = IsStamp stamp
NamesStamps (commands.InsElem key stamp values) = IsStamp stamp
NamesStamps (commands.UpdElem key stamp values) = IsStamp stamp
NamesStamps (commands.DelElem key stamp) = IsStamp stamp
NamesStamps (commands.DelClip key from to) = IsStamp from × IsStamp to
NamesStamps (commands.HideElem key stamp) = IsStamp stamp
NamesStamps (commands.RevealElem key stamp) = IsStamp stamp
NamesStamps (commands.GetElem key stamp) = IsStamp stamp
NamesStamps (commands.Clip key from to) = IsStamp from × IsStamp to
NamesStamps (commands.ClipCount key stamp count) = IsStamp stamp
NamesStamps (commands.ClipGetCount key from to) = IsStamp from × IsStamp to
NamesStamps (commands.Union first second from to) = IsStamp from × IsStamp to
NamesStamps (commands.Intersect first second from to) = IsStamp from × IsStamp to
NamesStamps (commands.AggregateBy text calendar key from to) = IsStamp from × IsStamp to
NamesStamps (commands.AggregateRange text key from to) = IsStamp from × IsStamp to
NamesStamps (commands.AggregateAll text container from to) = IsStamp from × IsStamp to
NamesStamps (commands.TSRunningSum text key span from to) = IsStamp from × IsStamp to
NamesStamps (commands.TSRunningAvg text key span from to) = IsStamp from × IsStamp to
NamesStamps (commands.Apply text key from to) = IsStamp from × IsStamp to
NamesStamps (commands.RollingCreate set calendar origin container kept) = IsStamp origin
NamesStamps (commands.RollingPut set stamp values) = IsStamp stamp
NamesStamps (commands.RollingClip set from to) = IsStamp from × IsStamp to
NamesStamps command = Unit {0}

-- the command of a request has its form and names stamps, as each does that a statement is read as
abbrev pub IsFormed : Request → Type 0
IsFormed (Ok command) = HasForm command × NamesStamps command
IsFormed (Err refusal) = Unit {0}
