-- How an engine goes from the state that it stands at to another one, whole or not at all at each moment.
use Rattle.std.specs.Prelude.{◌≡◌, ◌⊎◌, Bool, IsTrue, Some, Result, OnOk, IfErr, List, ℕ}
use Rattle.ts_disk.specs.Device.{Device, Rose, LeavesOnly}
use Rattle.ts_journal.specs.Moment.{Keeps, OnlyReads}
use Rattle.ts_answer.specs.Answer.{State, committed}
use Rattle.ts_engine.specs.declared.fault.StepFault.{StepFault}
use Rattle.ts_engine.specs.declared.fault.StepFault.TheVariants.{Disk, Memory, Closed}
use Rattle.ts_volume.specs.Volume.{MeansCatalogue}
use Rattle.ts_engine.specs.Engine.{Kept, IsReady, IsAt, IsSame}

-- an image that means the state before or the one after, and nothing said
abbrev pub BeforeOrAfter : State → State → Device → List ℕ → List ℕ → Type 0
BeforeOrAfter state after v image said = (MeansCatalogue image (committed state)
    ⊎ MeansCatalogue image (committed after)) × (said ≡ v.said)

-- nothing was written, and the engine keeps what it kept
pub record IsUntouched (tells : Bool) (e f : Kept) (v w : Device) : Type 0 where
  pub disk : OnlyReads tells v w
  pub kept : IsSame e f

-- why the engine doesn't go on, and what holds then; an engine that no call of the disk's failed before isn't closed
abbrev pub StepFaulted : Bool → StepFault → Kept → Kept → Device → Device → Type 0
StepFaulted tells Disk e f v w = Rose v.faults w.faults × (f.spent ≡ Some w.faults)
StepFaulted tells (Memory error) e f v w = IsUntouched tells e f v w × IsReady tells f w × (w.faults ≡ v.faults)
StepFaulted tells (Closed faults) e f v w = ⊥

-- what an engine does that no call of the disk's failed before, where it goes from a state to the one after it
pub record Moves (tells : Bool) (after : State → State) (result : Result Unit StepFault) (e f : Kept)
    (v w : Device) : Type 0 where
  pub ready : OnOk result (IsReady tells f w)
  pub at : OnOk result (IsTrue tells → (state : State) → IsAt tells e state v → IsAt tells f (after state) w)
  pub fault : IfErr result (λ fault. StepFaulted tells fault e f v w)
  pub moments : IsTrue tells → (state : State) → IsAt tells e state v
      → LeavesOnly v w (BeforeOrAfter state (after state) v)
  pub others : Keeps tells v w
  -- only a failed call of the disk raises the count
  pub no_fault : OnOk result (w.faults ≡ v.faults)
