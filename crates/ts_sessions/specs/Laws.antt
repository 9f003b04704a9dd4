-- What the laws of sessions say, in the words of one who has them.
use Rattle.std.specs.Prelude.{◌≡◌, ◌≢◌, ◌⊎◌, ℕ, ◌+◌, ◌-◌, ◌<◌, ◌≤◌, Bool, true, false, Option, Some, None, option_map}
use Rattle.std.specs.Prelude.{List, [], ◌∷◌, ◌++◌, length, map, flat_map, All, Contains, Ok, Err}
use Rattle.std.specs.List.{concat}
use Rattle.ts_command.specs.declared.command.Command.{Command}
use Rattle.ts_command.specs.declared.command.Command.TheVariants as commands
use Rattle.ts_command.specs.declared.boundary.Boundary.TheVariants.{Commits}
use Rattle.ts_command.specs.Boundary.{boundary_of, is_writing}
use Rattle.ts_command.specs.Grammar.{Request}
use Rattle.ts_model.specs.Catalogue.{Catalogue}
use Rattle.ts_multi.specs.declared.object.Object.{Object}
use Rattle.ts_multi.specs.Objects.{written, touched_by}
use Rattle.ts_multi.specs.Touched.{objects}
use Rattle.ts_multi.specs.Schedule.{items_of}
use Rattle.ts_multi.specs.Log.{commit_at, pending_at, conflict_of, after_begin, after_end, after_note, after_commit}
use Rattle.ts_multi.specs.Log.{with_commit as with_commit_in_log}
use Rattle.ts_replies.specs.Acknowledged.{Protocol, AllAnswered}
use Rattle.ts_answer.specs.Answer.{State, resting, run_answer}
use Rattle.ts_sessions.specs.Machine.{Commit, Snapshot, Machine, start, latest, snapshot_at, replayed, begun_at, seen}
use Rattle.ts_sessions.specs.Machine.{wrote_by, conflict}
use Rattle.ts_sessions.specs.Steps.{Turn, with_snapshot, with_commit, fresh, with_command, session_line, machine_step}
use Rattle.ts_sessions.specs.Steps.{machine_answer}
use Rattle.ts_sessions.specs.Turns.{replies_by, behind_all, replies_to, sessions_by}
use Rattle.ts_sessions.specs.LogOf.{pending_of, log_of}

-- the commit of this number, counted from 1, wrote an object that a command of the transaction writes or names
pub record StandsInWay (m : Machine) (s : Snapshot) (number : ℕ) : Type 0 where
  pub object : Object
  pub wrote : Contains (commit_at number (wrote_by m.commits)) object
  pub touched : Contains (flat_map (λ command. touched_by (objects command)) s.commands) object

-- it does, and no commit does that stands between the Begin and it
pub record IsFirstInWay (m : Machine) (s : Snapshot) (number : ℕ) : Type 0 where
  pub later : s.begun < number
  pub within : number ≤ length m.commits
  pub stands : StandsInWay m s number
  pub first : (earlier : ℕ) → s.begun < earlier → earlier < number → ¬ StandsInWay m s earlier

-- A conflict names the first commit behind the Begin that stands in the way; where there is no conflict, none does.
pub record ConflictsAreFirst : Type 0 where
  pub some : (m : Machine) (s : Snapshot) (number : ℕ) → conflict m s ≡ Some number → IsFirstInWay m s number
  pub none : (m : Machine) (s : Snapshot) → conflict m s ≡ None → (number : ℕ) → s.begun < number
      → number ≤ length m.commits → ¬ StandsInWay m s number

-- a command that writes and may stand in a transaction
abbrev pub CanBeNoted : Command → Type 0
CanBeNoted command = (is_writing command ≡ true) × (boundary_of command ≡ None)

-- What may be a commit: one accepted command that writes and stands in no transaction, or what was accepted in a whole
-- transaction that has no conflict, at its Commit.
abbrev pub MayCommit : Machine → Option Snapshot → Request → List Command → Type 0
MayCommit m None request block = (command : Command) × (request ≡ Ok command) × CanBeNoted command
    × (block ≡ command ∷ [])
MayCommit m (Some s) request block =
    (command : Command) × (request ≡ Ok command) × (boundary_of command ≡ Some Commits) × (block ≡ s.commands)
    × (conflict m s ≡ None)

-- one commit comes behind those that are there: these commands, each accepted, on what was committed last
pub record Appends (m : Machine) (turn : Turn) (after : Machine) : Type 0 where
  pub block : List Command
  pub may : MayCommit m (snapshot_at (turn.0 - 1) m) turn.1 block
  pub next : Catalogue
  pub made : replayed (latest m) block ≡ Ok next
  pub appended : after.commits ≡ m.commits ++ record { catalogue = next; wrote = written (map objects block) } ∷ []

-- A turn appends such a commit, or leaves the commits as they are; a Commit leaves no transaction open, whatever it is
-- answered.
pub record OnlyCommitsAppend (m : Machine) (turn : Turn) : Type 0 where
  pub first : (machine_step m turn).1.first ≡ m.first
  pub commits : ((machine_step m turn).1.commits ≡ m.commits) ⊎ Appends m turn (machine_step m turn).1
  pub ends : turn.1 ≡ Ok commands.Commit → snapshot_at (turn.0 - 1) (machine_step m turn).1 ≡ None

-- turns of other sessions; sessions are counted from 1
abbrev pub AreOthers : ℕ → List Turn → Type 0
AreOthers who turns = All (λ turn. (0 < turn.0) × (turn.0 ≢ who)) turns

-- whatever other sessions do, a transaction stays, and so does what it sees
pub record IsLeft (who : ℕ) (s : Snapshot) (m after : Machine) : Type 0 where
  pub open_still : snapshot_at (who - 1) after ≡ Some s
  pub same : seen after s ≡ seen m s

abbrev pub OthersLeaveASnapshot : Type 0
OthersLeaveASnapshot =
    (m : Machine) (who : ℕ) (s : Snapshot) (turns : List Turn) → 0 < who → AreOthers who turns → snapshot_at (who - 1) m
    ≡ Some s
    → s.begun ≤ length m.commits → IsLeft who s m (behind_all machine_answer m turns)

-- these are the commands of each commit: each is accepted on what was committed before
abbrev pub AreMade : Catalogue → List Commit → List (List Command) → Type 0
AreMade cat [] [] = Unit {0}
AreMade cat [] (block ∷ blocks) = ⊥
AreMade cat (commit ∷ commits) [] = ⊥
AreMade cat (commit ∷ commits) (block ∷ blocks) =
    (replayed cat block ≡ Ok commit.catalogue) × (commit.wrote ≡ written (map objects block))
    × AreMade commit.catalogue commits blocks

-- a transaction of these commands
abbrev pub in_transaction : List Command → List Request
in_transaction block = Ok commands.Begin ∷ map Ok block ++ Ok commands.Commit ∷ []

-- The commits are one list: a single session that carries the committed commands out, one transaction behind the other
-- in this order, comes to the same catalogue.
pub record CommitsAreOneList (cat : Catalogue) (m : Machine) : Type 0 where
  pub blocks : List (List Command)
  pub made : AreMade cat m.commits blocks
  pub alone : behind_all run_answer (resting cat) (flat_map in_transaction blocks) ≡ resting (latest m)

-- a transaction began behind commits that there are, and has at most 32 commands, all of which write and were accepted
pub record IsSoundAt (m : Machine) (s : Snapshot) : Type 0 where
  pub begun : s.begun ≤ length m.commits
  pub few : length s.commands ≤ 32
  pub writing : All CanBeNoted s.commands
  pub accepted : replayed (begun_at m s) s.commands ≡ Ok (seen m s)

abbrev pub IsSound : Machine → Type 0
IsSound m = (who : ℕ) (s : Snapshot) → snapshot_at who m ≡ Some s → IsSoundAt m s

-- So it is at the beginning, and every turn keeps it, whatever is asked; no session comes or goes.
pub record MachinesStaySound : Type 0 where
  pub start : (count : ℕ) (cat : Catalogue) → IsSound (start count cat)
  pub turn : (m : Machine) (turn : Turn) → IsSound m → IsSound (machine_step m turn).1
  pub count : (m : Machine) (turn : Turn) → length (machine_step m turn).1.sessions ≡ length m.sessions

-- what is said doesn't depend on what images mean
abbrev pub spoken : Protocol Machine Turn
spoken = sessions_by (λ image cat. Unit {0})

-- the replies to turns, one behind the other, are heard as the replies to these, and the machine behind them is the one
-- that is heard
abbrev pub RepliesAreHeard : Type 0
RepliesAreHeard =
    (m : Machine) (turns : List Turn) → AllAnswered spoken m turns (concat (replies_by machine_answer m turns))
    (behind_all machine_answer m turns)

-- What is kept of a machine to find conflicts goes through its steps with it, and finds them.
pub record LogsFollow (who : ℕ) (m : Machine) (room : Bool) : Type 0 where
  pub pending : pending_at who (log_of room m) ≡ option_map pending_of (snapshot_at who m)
  pub conflict : (s : Snapshot) → snapshot_at who m ≡ Some s
      → conflict_of (pending_at who (log_of room m)) (log_of room m).commits ≡ conflict m s
  pub begins : log_of room (with_snapshot who (Some (fresh m)) m) ≡ after_begin who (log_of room m)
  pub ends : log_of room (with_snapshot who None m) ≡ after_end who (log_of room m)
  pub notes : (s : Snapshot) (command : Command) → snapshot_at who m ≡ Some s
      → log_of false (with_snapshot who (Some (with_command command s)) m)
      ≡ after_note who (objects command) (log_of room m)
  pub commits : (s : Snapshot) (cat : Catalogue) → snapshot_at who m ≡ Some s
      → log_of false (with_commit cat (written (map objects s.commands)) (with_snapshot who None m))
      ≡ after_commit who (log_of room m)
  pub alone : (command : Command) (cat : Catalogue)
      → log_of false (with_commit cat (objects command).wrote m) ≡ with_commit_in_log (objects command).wrote
      (log_of room m)
