-- What a run of sessions does.
use Rattle.std.specs.Prelude.{◌≡◌, ◌≢◌, ◌⊎◌, ℕ, ◌≤◌, Bool, IsTrue, List}
use Rattle.ts_disk.specs.Device.{Device, Rose, LeavesOnly}
use Rattle.ts_journal.specs.Moment.{OnlyReads}
use Rattle.ts_model.specs.Catalogue.{Catalogue}
use Rattle.ts_answer.specs.Answer.{resting}
use Rattle.ts_sessions.specs.Machine.{start}
use Rattle.ts_sessions.specs.Steps.{Turn}
use Rattle.ts_replies.specs.Said.{SaysFairly, AllDone}
use Rattle.ts_replies.specs.Acknowledged.{IsGoodMoment}
use Rattle.ts_session_turns.specs.Engine.{Kept, IsAt}
use Rattle.ts_session_runs.specs.Carrier.{sessions}

-- Sessions, so many, are carried out over an engine without a transaction; these are their turns. The status: 0 where
-- every turn is answered, 4 where a reply couldn't be said whole, 5 where a call of the volume failed, and 7 where there
-- was no memory to begin.
pub record SessionsOver (tells : Bool) (e : Kept) (status count : ℕ) (asked : List Turn) (v w : Device) : Type 0 where
  -- what was said is the replies of the machine to the turns in their order, the last of them perhaps in part
  pub fair : IsTrue tells → (cat : Catalogue) → IsAt tells e (resting cat) v → SaysFairly sessions (start count cat) asked v w
  -- at each moment the volume means what is committed after exactly the turns that are answered, or these and the next
  pub moments : IsTrue tells → (cat : Catalogue) → IsAt tells e (resting cat) v
      → LeavesOnly v w (IsGoodMoment sessions (start count cat) asked v.said)
  -- at 0 every turn is answered, and the volume, with nothing pending, means what is committed after them
  pub all : status ≡ 0 → IsTrue tells → (cat : Catalogue) → IsAt tells e (resting cat) v
      → AllDone sessions (start count cat) asked v w
  pub output : status ≡ 4 → Rose v.say_faults w.say_faults
  pub disk : status ≡ 5 → Rose v.faults w.faults
  -- at 7 nothing was said or written
  pub quiet : status ≡ 7 → OnlyReads tells v w
  pub statuses : (status ≡ 0) ⊎ ((status ≡ 4) ⊎ ((status ≡ 5) ⊎ (status ≡ 7)))
  -- no count rises but the one that the status names
  pub no_fault : status ≢ 5 → w.faults ≡ v.faults
  pub no_say_fault : status ≢ 4 → w.say_faults ≡ v.say_faults
  -- the length stays, and no fault and no sync is forgotten
  pub size : w.size ≡ v.size
  pub faults : v.faults ≤ w.faults
  pub say_faults : v.say_faults ≤ w.say_faults
  pub syncs : IsTrue tells → v.syncs ≤ w.syncs
