-- What an output in memory shows.
use Rattle.ts_syntax.specs.Output.{Heard}
use Rattle.ts_syntax.specs.declared.output.MemoryOutput.{MemoryOutput}

-- the bytes that it keeps, and its failures
abbrev pub heard_by : MemoryOutput → Heard
heard_by output = record { said = output.said; say_faults = output.faults }
