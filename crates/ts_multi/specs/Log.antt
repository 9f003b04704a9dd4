-- The commits of a run of sessions, and the transactions that are open: which commit stands in whose way.
use Rattle.std.specs.Prelude.{◌≡◌, ℕ, ◌+◌, ◌-◌, ◌<◌, ◌≤◌, Bool, true, false, Option, Some, None, option_map, List, []}
use Rattle.std.specs.Prelude.{◌∷◌, ◌++◌, length, drop, position, slice_set, slice_index_or, replicate}
use Rattle.ts_multi.specs.declared.object.Object.{Object}
use Rattle.ts_multi.specs.declared.object.Touched.{Touched}
use Rattle.ts_multi.specs.Objects.{written, meets}

-- an open transaction: how many commits there were at its Begin, and what its accepted commands touched, the first of
-- them first
pub record Pending : Type 0 where
  pub begun : ℕ
  pub noted : List Touched

-- what each commit wrote, the first of them first; the transaction of each session, where one is open; whether there is
-- room for one step more
pub record Log : Type 0 where
  pub commits : List (List Object)
  pub sessions : List (Option Pending)
  pub room : Bool

-- the number of the first commit behind so many that wrote an object which one of these commands wrote or named;
-- commits are counted from 1
abbrev pub conflict_after : ℕ → List Touched → List (List Object) → Option ℕ
conflict_after begun noted commits =
    option_map (λ place. begun + 1 + place) (position (λ wrote. meets wrote noted) (drop begun commits))

-- what a commit of this number wrote
abbrev pub commit_at : ℕ → List (List Object) → List Object
commit_at number commits = slice_index_or commits (number - 1) []

-- a commit behind so many wrote an object which one of these commands wrote or named, and it is the first that did
pub record IsFirstConflict (begun : ℕ) (noted : List Touched) (commits : List (List Object)) (number : ℕ) : Type 0 where
  pub later : begun < number
  pub within : number ≤ length commits
  pub met : meets (commit_at number commits) noted ≡ true
  pub first : (earlier : ℕ) → begun < earlier → earlier < number → meets (commit_at earlier commits) noted ≡ false

-- a transaction is in conflict with the first commit behind its Begin that wrote what it writes or names
abbrev pub conflict_of : Option Pending → List (List Object) → Option ℕ
conflict_of None commits = None
conflict_of (Some p) commits = conflict_after p.begun p.noted commits

-- no commits, and so many sessions without a transaction
abbrev pub start : ℕ → Log
start count = record { commits = []; sessions = replicate count None; room = false }

-- the transaction of a session, counted from 0
abbrev pub pending_at : ℕ → Log → Option Pending
pending_at session log = slice_index_or log.sessions session None

abbrev pub with_pending : ℕ → Option Pending → Log → Log
with_pending session pending log = record log { sessions = slice_set log.sessions session pending }

-- a transaction begins
abbrev pub after_begin : ℕ → Log → Log
after_begin session log = with_pending session (Some (record { begun = length log.commits; noted = [] })) log

-- it ends
abbrev pub after_end : ℕ → Log → Log
after_end session log = with_pending session None log

-- a transaction with a command more
abbrev pub with_noted : Touched → Option Pending → Option Pending
with_noted touched None = None
with_noted touched (Some p) = Some (record p { noted = p.noted ++ touched ∷ [] })

-- the room is used
abbrev pub used : Log → Log
used log = record log { room = false }

-- an accepted command of a transaction is noted
abbrev pub after_note : ℕ → Touched → Log → Log
after_note session touched log = used (with_pending session (with_noted touched (pending_at session log)) log)

-- a commit that wrote these
abbrev pub with_commit : List Object → Log → Log
with_commit wrote log = used (record log { commits = log.commits ++ wrote ∷ [] })

-- what the commands of a transaction wrote
abbrev pub wrote_of : Option Pending → List Object
wrote_of None = []
wrote_of (Some p) = written p.noted

-- a transaction is committed, and ends
abbrev pub after_commit : ℕ → Log → Log
after_commit session log = after_end session (with_commit (wrote_of (pending_at session log)) log)
