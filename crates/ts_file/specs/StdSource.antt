-- What standard input shows: its counts, and whether it ended.
use Rattle.std.specs.Prelude.{[]}
use Rattle.ts_disk.specs.Device.{Input}
use Rattle.ts_file.specs.declared.std_source.StdSource.{StdSource}

-- no byte is told
abbrev pub std_input : StdSource → Input
std_input s = record { left = []; pulls = s.pulls; pull_faults = s.pull_faults; ended = s.ended; past_end = s.past_end }
