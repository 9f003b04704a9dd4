-- What the commit of a view does: its commands, in their order, on the newest catalogue, as one commit.
use Rattle.std.specs.Prelude.{◌≡◌, ℕ, ◌≤◌, Bool, true, false, IsTrue, pos, None, Some, Option, Result, Ok, Err, IfOk}
use Rattle.std.specs.Prelude.{OnOk, OnErr}
use Rattle.std.specs.Prelude.{IsErr, List, [], All, length}
use Rattle.ts_command.specs.declared.command.Command.{Command}
use Rattle.ts_command.specs.Form.{HasForm}
use Rattle.ts_command.specs.Boundary.{boundary_of, is_writing}
use Rattle.ts_disk.specs.Device.{Device}
use Rattle.ts_journal.specs.Moment.{OnlyReads}
use Rattle.ts_model.specs.Catalogue.{Catalogue}
use Rattle.ts_answer.specs.Reply.{Tried, number_line, refusal_line}
use Rattle.ts_answer.specs.Answer.{State, resting, committed, most_accepted}
use Rattle.ts_sessions.specs.Machine.{replayed}
use Rattle.ts_views.specs.declared.view.View.{View}
use Rattle.ts_views.specs.View.{view_of, Turns}
use Rattle.ts_engine.specs.declared.fault.StepFault.{StepFault}
use Rattle.ts_engine.specs.Engine.{Kept, IsAt}
use Rattle.ts_session_engine.specs.Proceeds.{Proceeds}
use Rattle.ts_session_engine.specs.Beside.{newest, GoesOn, Stays, AllStay, OthersStay}

-- commands that a transaction may have: few, each of which writes, and in their form
pub record AreCommands (commands : List Command) : Type 0 where
  pub few : length commands ≤ most_accepted
  pub writing : All (λ command. is_writing command ≡ true) commands
  pub between : All (λ command. boundary_of command ≡ None) commands
  pub form : All HasForm commands

-- the catalogue that was come to, or else this one
abbrev pub come_to : Catalogue → Tried Catalogue → Catalogue
come_to cat (Ok next) = next
come_to cat (Err refusal) = cat

-- the state once these commands are committed as one, where all are accepted; else the state stays
abbrev pub state_behind : List Command → State → State
state_behind commands state = resting (come_to (committed state) (replayed (committed state) commands))

-- the reply to a commit of so many commands that comes to this, and whether it was made
abbrev pub IsCommitReply : ℕ → Tried Catalogue → Bool → List ℕ → Type 0
IsCommitReply count (Ok next) done out = (done ≡ true) × (out ≡ number_line (pos count))
IsCommitReply count (Err refusal) done out = (done ≡ false) × (out ≡ refusal_line refusal)

-- a result without its value
abbrev pub without_value : {T : Type 0} → Result T StepFault → Result Unit StepFault
without_value (Ok value) = Ok tt
without_value (Err fault) = Err fault

-- the commands of a session's view; none where it is closed
abbrev pub listed : Option View → List Command
listed None = []
listed (Some v) = v.commands.items

abbrev pub commands_of : ℕ → List (Option View) → List Command
commands_of who views = listed (view_of who views)

-- What a commit of these commands does, by an engine that no call of the disk's failed before. Every view stays.
pub record CommitsBeside (tells : Bool) (commands : List Command) (result : Result Bool StepFault) (out : List ℕ)
    (e f : Kept) (old new : List (Option View)) (v w : Device) : Type 0 where
  pub proceeds : Proceeds tells (state_behind commands) (without_value result) e f v w
  pub rests : GoesOn result (f.saved ≡ None)
  -- nothing is written where it isn't committed
  pub quiet : GoesOn result ((result ≡ Ok true → ⊥) → OnlyReads tells v w)
  pub views : GoesOn result (AllStay tells (newest e v) (newest f w) old new)
  pub answered : IfOk result (λ done. IsTrue tells → (cat : Catalogue) → IsAt tells e (resting cat) v
      → IsCommitReply (length commands) (replayed cat commands) done out)

-- The same of a session's: its view is closed, also where one of its commands is refused; for want of memory it stays.
pub record CommitsView (tells : Bool) (who : ℕ) (commands : List Command) (result : Result Bool StepFault)
    (out : List ℕ) (e f : Kept) (old new : List (Option View)) (v w : Device) : Type 0 where
  pub proceeds : Proceeds tells (state_behind commands) (without_value result) e f v w
  pub rests : GoesOn result (f.saved ≡ None)
  -- nothing is written where it isn't committed
  pub quiet : GoesOn result ((result ≡ Ok true → ⊥) → OnlyReads tells v w)
  pub others : GoesOn result (OthersStay tells who (newest e v) (newest f w) old new)
  pub closed : OnOk result (view_of who new ≡ None)
  pub kept : GoesOn result (OnErr result (Turns (Stays tells (newest e v) (newest f w)) (view_of who old)
      (view_of who new)))
  pub answered : IfOk result (λ done. IsTrue tells → (cat : Catalogue) → IsAt tells e (resting cat) v
      → IsCommitReply (length commands) (replayed cat commands) done out)
  pub empty : IsErr result → out ≡ []
