-- How an engine goes from one state to another, or stays where it is for want of memory.
use Rattle.std.specs.Prelude.{◌≡◌, Bool, IsTrue, Some, Result, OnOk, IfErr}
use Rattle.ts_disk.specs.Device.{Device, Rose, LeavesOnly}
use Rattle.ts_journal.specs.Moment.{Keeps}
use Rattle.ts_answer.specs.Answer.{State}
use Rattle.ts_engine.specs.declared.fault.StepFault.{StepFault}
use Rattle.ts_engine.specs.declared.fault.StepFault.TheVariants.{Disk, Memory, Closed}
use Rattle.ts_engine.specs.Engine.{Kept, IsReady, IsAt}
use Rattle.ts_engine.specs.Moves.{BeforeOrAfter}

-- Why it doesn't go on: the disk failed, or there is no memory, and then it stands where it stood. An engine that no
-- call of the disk's failed before isn't closed.
abbrev pub IsHeldUp : Bool → StepFault → Kept → Kept → Device → Device → Type 0
IsHeldUp tells Disk e f v w = Rose v.faults w.faults × (f.spent ≡ Some w.faults)
IsHeldUp tells (Memory error) e f v w = IsReady tells f w
    × (IsTrue tells → (state : State) → IsAt tells e state v → IsAt tells f state w) × (w.faults ≡ v.faults)
IsHeldUp tells (Closed faults) e f v w = ⊥

-- what an engine does that no call of the disk's failed before, where it goes from a state to the one after it
pub record Proceeds (tells : Bool) (after : State → State) (result : Result Unit StepFault) (e f : Kept)
    (v w : Device) : Type 0 where
  pub ready : OnOk result (IsReady tells f w)
  pub at : OnOk result (IsTrue tells → (state : State) → IsAt tells e state v → IsAt tells f (after state) w)
  pub fault : IfErr result (λ fault. IsHeldUp tells fault e f v w)
  pub moments : IsTrue tells → (state : State) → IsAt tells e state v
      → LeavesOnly v w (BeforeOrAfter state (after state) v)
  pub others : Keeps tells v w
  -- only a failed call of the disk raises the count
  pub no_fault : OnOk result (w.faults ≡ v.faults)
