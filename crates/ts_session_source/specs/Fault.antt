-- What keeps the text of a source from being taken.
use Rattle.std.specs.Prelude.{ℕ}
use Rattle.ts_session_source.specs.declared.fault.TextFault.{TextFault}
use Rattle.ts_session_source.specs.declared.fault.TextFault.TheVariants.{Pull, TooLong, Memory}

-- its status
abbrev pub status_of_text : TextFault → ℕ
status_of_text Pull = 3
status_of_text TooLong = 8
status_of_text (Memory error) = 7
