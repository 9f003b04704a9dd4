-- What answering a command of a session does to what is in hand.
use Rattle.std.specs.Prelude.{◌≡◌, ◌⊎◌, ℕ, ◌+◌, ◌≤◌, Bool, IsTrue, Result, Err, OnOk, OnErr, List, length}
use Rattle.ts_disk.specs.Device.{Device, Rose, LeavesOnly}
use Rattle.ts_journal.specs.Moment.{Keeps}
use Rattle.ts_command.specs.Grammar.{Request}
use Rattle.ts_sessions.specs.Machine.{Machine, latest}
use Rattle.ts_sessions.specs.Steps.{step_of}
use Rattle.ts_volume.specs.Volume.{MeansCatalogue}
use Rattle.ts_session_engine.specs.Engine.{StepFault}
use Rattle.ts_session_engine.specs.Faults.{Disk, Closed}
use Rattle.ts_session_engine.specs.Beside.{GoesOn}
use Rattle.ts_session_turns.specs.Hand.{Hand, IsHandReady, IsAtMachine}

-- an image that means what was committed last before a turn, or behind it, and nothing said
abbrev pub BeforeOrBehind : Machine → Machine → Device → List ℕ → List ℕ → Type 0
BeforeOrBehind m next v image said =
    (MeansCatalogue image (latest m) ⊎ MeansCatalogue image (latest next)) × (said ≡ v.said)

-- What a request of a session, counted from 0, does, by an engine that no call of the disk's failed before: it is
-- answered as the machine does, or for want of memory nothing is done. At each moment the volume means what was
-- committed last before it, or behind it.
pub record Turned (tells : Bool) (who : ℕ) (request : Request) (result : Result Unit StepFault) (out : List ℕ)
    (h k : Hand) (v w : Device) : Type 0 where
  -- on every volume requests can be answered again, of as many sessions, and there is one commit more at most
  pub ready : GoesOn result (IsHandReady tells k w)
  pub count : GoesOn result (length k.views ≡ length h.views)
  pub few : length k.log.commits ≤ length h.log.commits + 1
  pub answered : OnOk result (IsTrue tells → (m : Machine) → IsAtMachine tells h m v
      → (out ≡ (step_of who request m).0) × IsAtMachine tells k (step_of who request m).1 w)
  -- for want of memory it stands where it stood
  pub stays : GoesOn result (OnErr result (IsTrue tells → (m : Machine) → IsAtMachine tells h m v
      → IsAtMachine tells k m w))
  pub disk : result ≡ Err Disk → Rose v.faults w.faults
  pub closed : (faults : ℕ) → result ≡ Err (Closed faults) → ⊥
  pub moments : IsTrue tells → (m : Machine) → IsAtMachine tells h m v
      → LeavesOnly v w (BeforeOrBehind m (step_of who request m).1 v)
  pub others : Keeps tells v w
  -- only a failed call of the disk raises the count
  pub no_fault : GoesOn result (w.faults ≡ v.faults)
