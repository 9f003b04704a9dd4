-- Standard output, which tells no bytes.
use Rattle.std.specs.Prelude.{[]}
use Rattle.ts_syntax.specs.Output.{Heard}
use Rattle.ts_syntax_main.specs.declared.std_output.StdOutput.{StdOutput}

-- its failures
abbrev pub std_heard : StdOutput → Heard
std_heard output = record { said = []; say_faults = output.faults }
