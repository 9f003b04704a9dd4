-- What is kept of a machine to find conflicts: no catalogue, and what each command touched in the place of the command.
use Rattle.std.specs.Prelude.{Bool, Option, option_map, List, map}
use Rattle.ts_multi.specs.Touched.{objects}
use Rattle.ts_multi.specs.Log.{Pending, Log}
use Rattle.ts_sessions.specs.Machine.{Snapshot, Machine, wrote_by}

abbrev pub pending_of : Snapshot → Pending
pending_of s = record { begun = s.begun; noted = map objects s.commands }

-- the log of a machine, with room for a step more or without
abbrev pub log_of : Bool → Machine → Log
log_of room m = record { commits = wrote_by m.commits; sessions = map (option_map pending_of) m.sessions; room = room }
