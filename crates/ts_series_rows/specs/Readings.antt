-- Which entries of a reading are chosen, and the command that says them.
use Rattle.std.specs.Prelude.{ℕ, unsigned_abs, Result, Ok, List}
use Rattle.ts_base.specs.declared.refusal.Refusal.{Refusal}
use Rattle.ts_entry.specs.Entry.{Entry, clipped, counted, entry_number}
use Rattle.ts_base.specs.Answer.{within_rows}
use Rattle.ts_command.specs.declared.command.Command.{Command}
use Rattle.ts_command.specs.declared.command.Command.TheVariants.{GetNthElem, Clip, ClipCount}
use Rattle.ts_series_rows.specs.declared.reading.Choice.{Choice}
use Rattle.ts_series_rows.specs.declared.reading.Choice.TheVariants.{Number, Range, Count}

-- of the entries of a reading those that are chosen, or why they are too many
abbrev pub chosen : Choice → List Entry → Result (List Entry) Refusal
chosen (Number index) entries = Ok (entry_number (unsigned_abs index) entries)
chosen (Range from to) entries = within_rows (clipped from to entries)
chosen (Count stamp count) entries = Ok (counted stamp count entries)

-- the command that says the chosen entries
abbrev pub reading_of : Choice → List ℕ → Command
reading_of (Number index) key = GetNthElem key index
reading_of (Range from to) key = Clip key from to
reading_of (Count stamp count) key = ClipCount key stamp count
