-- Whether a session has a transaction: in the log, among the views and in the machine.
use Rattle.std.proofs.Common.{◌≡◌, ℕ, ◌<◌, Bool, true, false, Option, Some, None, is_some, length, refl, ap, sym, ◌∙◌, arith}
use Rattle.std.specs.Option.{option_map}
use Rattle.std.proofs.lemmas.List.{length-map}
use Rattle.ts_disk.specs.Device.{Device}
use Rattle.ts_multi.specs.Log.{Log, pending_at, conflict_of}
use Rattle.ts_sessions.specs.Machine.{Snapshot, Machine, snapshot_at, conflict}
use Rattle.ts_sessions.specs.LogOf.{pending_of}
use Rattle.ts_session_turns.specs.Hand.{Hand, IsAtMachine}
use Rattle.ts_session_turns.proofs.LogLemmas.{follows}

-- what isn't there is none
pub gone : {A : Type 0} (o : Option A) → is_some o ≡ false → o ≡ None
gone None is = refl
gone (Some x) is = absurd (cc)

-- the transaction of the machine, by that of the log
some_there : (o : Option Snapshot) → is_some (option_map pending_of o) ≡ true → (s : Snapshot) × (o ≡ Some s)
some_there None is = absurd (cc)
some_there (Some s) is = (s, refl)

none_there : (o : Option Snapshot) → is_some (option_map pending_of o) ≡ false → o ≡ None
none_there None is = refl
none_there (Some s) is = absurd (cc)

module _ (tells : Bool) (h : Hand) (m : Machine) (v : Device) (at : IsAtMachine tells h m v) (who : ℕ) where
  pending_in : pending_at who h.log ≡ option_map pending_of (snapshot_at who m)
  pending_in = ap (pending_at who) at.log.1 ∙ (follows who m at.log.0).pending

  pub open_there : is_some (pending_at who h.log) ≡ true → (s : Snapshot) × (snapshot_at who m ≡ Some s)
  open_there is = some_there (snapshot_at who m) (sym (ap is_some pending_in) ∙ is)

  pub closed_there : is_some (pending_at who h.log) ≡ false → snapshot_at who m ≡ None
  closed_there is = none_there (snapshot_at who m) (sym (ap is_some pending_in) ∙ is)

  pub within_there : length h.log.sessions ≡ length h.views → who < length h.views → who < length m.sessions
  within_there count within = omega (arith, count, within, ap (λ (l : Log). length l.sessions) at.log.1, length-map m.sessions (option_map pending_of))

  -- a conflict of the log is one of the machine
  pub conflict_there : (s : Snapshot) → snapshot_at who m ≡ Some s → conflict_of (pending_at who h.log) h.log.commits ≡ conflict m s
  conflict_there s there = ap (λ (l : Log). conflict_of (pending_at who l) l.commits) at.log.1 ∙ (follows who m at.log.0).conflict s there
