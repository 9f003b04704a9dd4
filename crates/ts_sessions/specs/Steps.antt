-- One turn: what a session's request is answered, and what becomes of the machine.
use Rattle.std.specs.Prelude.{ℕ, ◌-◌, if◌then◌else◌, pos, Option, Some, None, List, [], ◌∷◌, ◌++◌, length, map}
use Rattle.std.specs.Prelude.{slice_set, Ok, Err, codes, decimal}
use Rattle.ts_base.specs.declared.refusal.Refusal.TheVariants as refusals
use Rattle.ts_command.specs.declared.command.Command.{Command}
use Rattle.ts_command.specs.declared.boundary.Boundary.{Boundary}
use Rattle.ts_command.specs.declared.boundary.Boundary.TheVariants.{Opens, Commits, RollsBack, Alone}
use Rattle.ts_command.specs.Boundary.{boundary_of, is_writing}
use Rattle.ts_command.specs.Grammar.{Request}
use Rattle.ts_model.specs.Catalogue.{Catalogue}
use Rattle.ts_multi.specs.declared.object.Object.{Object}
use Rattle.ts_multi.specs.Objects.{written}
use Rattle.ts_multi.specs.Touched.{objects}
use Rattle.ts_answer.specs.Reply.{Tried, number_line, refusal_line}
use Rattle.ts_answer.specs.Answer.{State, run_outcome}
use Rattle.ts_sessions.specs.Machine.{Commit, Snapshot, Machine, latest, snapshot_at, replayed, conflict, state_of}

-- a reply, and the machine behind it
abbrev pub Stepped : Type 0
Stepped = List ℕ × Machine

-- the transaction of a session is another one, or none
abbrev pub with_snapshot : ℕ → Option Snapshot → Machine → Machine
with_snapshot who pending m = record m { sessions = slice_set m.sessions who pending }

-- one commit more
abbrev pub with_commit : Catalogue → List Object → Machine → Machine
with_commit cat wrote m = record m { commits = m.commits ++ record { catalogue = cat; wrote = wrote } ∷ [] }

-- a transaction that begins now
abbrev pub fresh : Machine → Snapshot
fresh m = record { begun = length m.commits; commands = [] }

-- one accepted command more
abbrev pub with_command : Command → Snapshot → Snapshot
with_command command s = record s { commands = s.commands ++ command ∷ [] }

-- the number of the commit that stands in the way, and the refusal
unfoldable pub conflict_lines : ℕ → List ℕ
conflict_lines number = codes "commit " ++ decimal number ++ codes "\n" ++ refusal_line (refusals.Conflict number)

-- The Commit of a transaction that is in conflict with no commit, where its commands come to this on what was committed
-- last: it is one commit, or its first refusal is said. The transaction ends.
abbrev pub replied : ℕ → Snapshot → Machine → Tried Catalogue → Stepped
replied who s m (Ok cat) = (
  number_line (pos (length s.commands)),
  with_commit cat (written (map objects s.commands))
      (with_snapshot who None m),
)
replied who s m (Err refusal) = (refusal_line refusal, with_snapshot who None m)

-- a transaction that is in conflict with a commit ends with that commit's number
abbrev pub unless_conflict : ℕ → Snapshot → Machine → Option ℕ → Stepped
unless_conflict who s m (Some number) = (conflict_lines number, with_snapshot who None m)
unless_conflict who s m None = replied who s m (replayed (latest m) s.commands)

-- an accepted command that writes is noted in the transaction, or is a commit of its own, which this catalogue stands
-- behind
abbrev pub noted : ℕ → Command → Option Snapshot → Catalogue → Machine → Machine
noted who command (Some s) base m = with_snapshot who (Some (with_command command s)) m
noted who command None base m = with_commit base (objects command).wrote m

-- what becomes of the machine by an accepted command that commits no transaction
abbrev pub moved : ℕ → Command → Option Boundary → Option Snapshot → Catalogue → Machine → Machine
moved who command (Some Opens) pending base m = with_snapshot who (Some (fresh m)) m
moved who command (Some Commits) pending base m = m
moved who command (Some RollsBack) pending base m = with_snapshot who None m
moved who command (Some Alone) pending base m = m
moved who command None pending base m = if is_writing command then noted who command pending base m else m

abbrev pub accepted_or : ℕ → Command → Option Boundary → Option Snapshot → Machine → Tried (List ℕ × State) → Stepped
accepted_or who command boundary pending m (Ok stepped) =
    (stepped.0, moved who command boundary pending stepped.1.base m)
accepted_or who command boundary pending m (Err refusal) = (refusal_line refusal, m)

-- all but the Commit of an open transaction is answered as in a run that is alone
abbrev pub as_alone : ℕ → Command → Option Boundary → Option Snapshot → Machine → Stepped
as_alone who command boundary pending m = accepted_or who command boundary pending m
    (run_outcome (Ok command) (state_of m pending))

abbrev pub committed : ℕ → Command → Option Snapshot → Machine → Stepped
committed who command (Some s) m = unless_conflict who s m (conflict m s)
committed who command None m = as_alone who command (Some Commits) None m

-- a rolling routine is no command of sessions
abbrev pub in_session : ℕ → Command → Option Boundary → Option Snapshot → Machine → Stepped
in_session who command (Some Commits) pending m = committed who command pending m
in_session who command (Some Opens) pending m = as_alone who command (Some Opens) pending m
in_session who command (Some RollsBack) pending m = as_alone who command (Some RollsBack) pending m
in_session who command (Some Alone) pending m = (refusal_line (refusals.Syntax 0), m)
in_session who command None pending m = as_alone who command None pending m

-- of a session, counted from 0
abbrev pub step_of : ℕ → Request → Machine → Stepped
step_of who (Ok command) m = in_session who command (boundary_of command) (snapshot_at who m) m
step_of who (Err refusal) m = (refusal_line refusal, m)

-- a session, counted from 1, and its request
abbrev pub Turn : Type 0
Turn = ℕ × Request

abbrev pub machine_step : Machine → Turn → Stepped
machine_step m turn = step_of (turn.0 - 1) turn.1 m

-- the line before each reply
unfoldable pub session_line : ℕ → List ℕ
session_line number = codes "session " ++ decimal number ++ codes "\n"

-- the whole reply, and the machine behind it
abbrev pub machine_answer : Machine → Turn → List ℕ × Machine
machine_answer m turn = (session_line turn.0 ++ (machine_step m turn).0, (machine_step m turn).1)
