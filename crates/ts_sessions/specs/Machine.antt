-- What sessions go through: one list of commits, and the transaction of each session, where one is open.
use Rattle.std.specs.Prelude.{ℕ, Option, Some, None, List, [], ◌∷◌, length, map, take, slice_index_or, replicate, Ok}
use Rattle.ts_command.specs.declared.command.Command.{Command}
use Rattle.ts_model.specs.Catalogue.{Catalogue}
use Rattle.ts_multi.specs.declared.object.Object.{Object}
use Rattle.ts_multi.specs.Touched.{objects}
use Rattle.ts_multi.specs.Log.{conflict_after}
use Rattle.ts_answer.specs.Reply.{Tried}
unfoldable use Rattle.ts_answer.specs.Reply.{◌>>=◌}
use Rattle.ts_answer.specs.Answer.{outcome, answer, State, resting, opened}

-- a commit: the catalogue behind it, and the objects that it wrote
pub record Commit : Type 0 where
  pub catalogue : Catalogue
  pub wrote : List Object

-- an open transaction: how many commits there were at its Begin, and its accepted commands that write, the first of
-- them first
pub record Snapshot : Type 0 where
  pub begun : ℕ
  pub commands : List Command

-- the catalogue before all commits; the commits, the first of them first; the transaction of each session, where one is
-- open
pub record Machine : Type 0 where
  pub first : Catalogue
  pub commits : List Commit
  pub sessions : List (Option Snapshot)

-- no commits, and so many sessions without a transaction
abbrev pub start : ℕ → Catalogue → Machine
start count cat = record { first = cat; commits = []; sessions = replicate count None }

-- the catalogue behind commits
abbrev pub behind_commits : Catalogue → List Commit → Catalogue
behind_commits cat [] = cat
behind_commits cat (commit ∷ commits) = behind_commits commit.catalogue commits

-- The catalogue behind all commits. It answers a command outside a transaction, and the volume means it.
abbrev pub latest : Machine → Catalogue
latest m = behind_commits m.first m.commits

-- the transaction of a session, counted from 0
abbrev pub snapshot_at : ℕ → Machine → Option Snapshot
snapshot_at who m = slice_index_or m.sessions who None

-- the catalogue behind commands, each by its answer
abbrev pub carried : Catalogue → List Command → Catalogue
carried cat [] = cat
carried cat (command ∷ commands) = carried (answer cat (Ok command)).1 commands

-- the same where each is accepted; else the refusal of the first that isn't
abbrev pub replayed : Catalogue → List Command → Tried Catalogue
replayed cat [] = Ok cat
replayed cat (command ∷ commands) = outcome (Ok command) cat >>= λ answered. replayed answered.1 commands

-- the catalogue that there was at a transaction's Begin
abbrev pub begun_at : Machine → Snapshot → Catalogue
begun_at m s = behind_commits m.first (take s.begun m.commits)

-- what it sees: that catalogue, with its own commands carried out
abbrev pub seen : Machine → Snapshot → Catalogue
seen m s = carried (begun_at m s) s.commands

-- the objects that each commit wrote
abbrev pub wrote_by : List Commit → List (List Object)
wrote_by commits = map (λ commit. commit.wrote) commits

-- the first commit behind its Begin that wrote what one of its commands writes or names
abbrev pub conflict : Machine → Snapshot → Option ℕ
conflict m s = conflict_after s.begun (map objects s.commands) (wrote_by m.commits)

-- where a session stands, in the words of a run that is alone
abbrev pub state_of : Machine → Option Snapshot → State
state_of m None = resting (latest m)
state_of m (Some s) = opened (latest m) (seen m s) (length s.commands)
