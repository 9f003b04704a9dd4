-- What carrying out the commands of a view in a transaction of the engine does, before it is committed or given up.
use Rattle.std.specs.Prelude.{◌≡◌, ℕ, ◌+◌, Bool, true, false, IsTrue, pos, None, Some, Option, option_map, Result, Ok, Err}
use Rattle.std.specs.Prelude.{IfOk, OnOk}
use Rattle.std.specs.Prelude.{OnErr}
use Rattle.std.specs.Prelude.{List, length}
use Rattle.ts_command.specs.declared.command.Command.{Command}
use Rattle.ts_base.specs.declared.refusal.Refusal.{Refusal}
use Rattle.ts_disk.specs.Device.{Device, Rose, LeavesOnly}
use Rattle.ts_model.specs.Catalogue.{Catalogue}
use Rattle.ts_journal.specs.Moment.{Keeps, OnlyReads}
use Rattle.ts_answer.specs.Reply.{Tried, number_line, refusal_line}
use Rattle.ts_answer.specs.Answer.{State, resting, opened}
use Rattle.ts_sessions.specs.Machine.{replayed}
use Rattle.ts_views.specs.declared.view.View.{View}
use Rattle.ts_engine.specs.declared.fault.StepFault.{StepFault}
use Rattle.ts_engine.specs.declared.fault.StepFault.TheVariants.{Disk, Closed}
use Rattle.ts_engine.specs.declared.transaction.Saved.{Saved}
use Rattle.ts_engine.specs.Engine.{Kept, IsReady, IsAt}
use Rattle.ts_engine.specs.Moves.{BeforeOrAfter}
use Rattle.ts_session_engine.specs.Committed.{state_behind}
use Rattle.ts_session_engine.specs.Beside.{GoesOn, newest as newest_of, SamePages, AllStay}

-- an engine has a transaction open with so many accepted commands
abbrev pub IsOpenWith : ℕ → Kept → Type 0
IsOpenWith accepted e = option_map (λ (saved : Saved). saved.accepted) e.saved ≡ Some accepted

-- Commands come to this in a transaction with this base, in which so many were accepted before: all are accepted, and
-- the engine stands behind them, or the reply is the first refusal, and the base stays.
abbrev pub ComesTo : Bool → Tried Catalogue → Catalogue → ℕ → ℕ → Bool → List ℕ → Kept → Device → Type 0
ComesTo tells (Ok work) base accepted count done out f w = (done ≡ true)
    × IsAt tells f (opened base work (accepted + count)) w
ComesTo tells (Err refusal) base accepted count done out f w = (done ≡ false) × (out ≡ refusal_line refusal)

-- What carrying them out does, by an engine in a transaction with so many accepted commands. Nothing is written, and
-- the transaction stays open, with the same base.
pub record Replays (tells : Bool) (accepted : ℕ) (commands : List Command) (result : Result Bool StepFault)
    (out : List ℕ) (e f : Kept) (v w : Device) : Type 0 where
  pub ready : GoesOn result (IsReady tells f w)
  pub reads : OnlyReads tells v w
  pub no_fault : GoesOn result (w.faults ≡ v.faults)
  pub newest : GoesOn result (SamePages (newest_of e v) (newest_of f w))
  pub transaction : GoesOn result ((count : ℕ) × IsOpenWith count f)
  pub all : IfOk result (λ done. done ≡ true → IsOpenWith (accepted + length commands) f)
  pub base : GoesOn result (IsTrue tells → (base work : Catalogue) → IsAt tells e (opened base work accepted) v
      → (next : Catalogue) × (count : ℕ) × IsAt tells f (opened base next count) w)
  pub comes : IfOk result (λ done. IsTrue tells → (base work : Catalogue) → IsAt tells e (opened base work accepted) v
      → ComesTo tells (replayed work commands) base accepted (length commands) done out f w)
  pub disk : result ≡ Err Disk → Rose v.faults w.faults × (f.spent ≡ Some w.faults)
  pub closed : (faults : ℕ) → result ≡ Err (Closed faults) → ⊥

-- what became of a transaction with this base in which these commands were replayed: it was committed, or it is open
-- still
abbrev pub EndsAt : Bool → List Command → Result Bool StepFault → List ℕ → Catalogue → Kept → Device → Type 0
EndsAt tells commands (Ok true) out cat f w = (next : Catalogue) × (replayed cat commands ≡ Ok next)
    × (out ≡ number_line (pos (length commands))) × IsAt tells f (resting next) w
EndsAt tells commands (Ok false) out cat f w = (refusal : Refusal) × (work : Catalogue) × (count : ℕ)
    × (replayed cat commands ≡ Err refusal) × (out ≡ refusal_line refusal) × IsAt tells f (opened cat work count) w
EndsAt tells commands (Err fault) out cat f w = (work : Catalogue) × (count : ℕ)
    × IsAt tells f (opened cat work count) w

-- What replaying these commands does, and the commit behind it, where all are accepted, by an engine in a transaction
-- without any.
pub record Ends (tells : Bool) (commands : List Command) (result : Result Bool StepFault) (out : List ℕ) (e f : Kept)
    (old new : List (Option View)) (v w : Device) : Type 0 where
  pub ready : GoesOn result (IsReady tells f w)
  pub rests : result ≡ Ok true → f.saved ≡ None
  pub ends : GoesOn result (IsTrue tells → (cat : Catalogue) → IsAt tells e (opened cat cat 0) v
      → EndsAt tells commands result out cat f w)
  pub disk : result ≡ Err Disk → Rose v.faults w.faults × (f.spent ≡ Some w.faults)
  pub closed : (faults : ℕ) → result ≡ Err (Closed faults) → ⊥
  pub moments : IsTrue tells → (cat : Catalogue) → IsAt tells e (opened cat cat 0) v
      → LeavesOnly v w (BeforeOrAfter (resting cat) (state_behind commands (resting cat)) v)
  -- nothing is written where it isn't committed
  pub quiet : GoesOn result ((result ≡ Ok true → ⊥) → OnlyReads tells v w)
  pub others : Keeps tells v w
  pub no_fault : GoesOn result (w.faults ≡ v.faults)
  pub views : GoesOn result (AllStay tells (newest_of e v) (newest_of f w) old new)

-- What the commit of an open transaction does, by an engine that no call of the disk's failed before: it is committed,
-- and every view stays; or for want of memory it is open still.
pub record CommitsKept (tells : Bool) (result : Result Unit StepFault) (out : List ℕ) (e f : Kept)
    (old new : List (Option View)) (v w : Device) : Type 0 where
  pub ready : GoesOn result (IsReady tells f w)
  pub rests : OnOk result (f.saved ≡ None)
  pub ends : OnOk result (IsTrue tells → (base work : Catalogue) (count : ℕ) → IsAt tells e (opened base work count) v
      → (out ≡ number_line (pos count)) × IsAt tells f (resting work) w)
  pub stays : GoesOn result (OnErr result (IsTrue tells → (state : State) → IsAt tells e state v
      → IsAt tells f state w))
  pub disk : result ≡ Err Disk → Rose v.faults w.faults × (f.spent ≡ Some w.faults)
  pub closed : (faults : ℕ) → result ≡ Err (Closed faults) → ⊥
  pub moments : IsTrue tells → (base work : Catalogue) (count : ℕ) → IsAt tells e (opened base work count) v
      → LeavesOnly v w (BeforeOrAfter (resting base) (resting work) v)
  pub quiet : GoesOn result (OnErr result (OnlyReads tells v w))
  pub others : Keeps tells v w
  pub no_fault : GoesOn result (w.faults ≡ v.faults)
  pub views : GoesOn result (AllStay tells (newest_of e v) (newest_of f w) old new)
