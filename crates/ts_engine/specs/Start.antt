-- What the opening of a volume does.
use Rattle.std.specs.Prelude.{◌≡◌, ◌<◌, Bool, IsTrue, None, Result, IfOk, OnOk, IfErr, List, ℕ}
use Rattle.ts_disk.specs.Device.{Device, Rose, FirstSync, LeavesOnly, Within, LeavesAsItWas}
use Rattle.ts_journal.specs.Moment.{Keeps, OnlyReads}
use Rattle.ts_recover.specs.declared.replay.RecoverFault.{RecoverFault}
use Rattle.ts_recover.specs.declared.replay.RecoverFault.TheVariants as journal
use Rattle.ts_model.specs.Catalogue.{Catalogue}
use Rattle.ts_answer.specs.Answer.{resting}
use Rattle.ts_container.specs.declared.fault.SurveyFault.{SurveyFault}
use Rattle.ts_container.specs.declared.fault.SurveyFault.TheVariants.{NotAStore, Failed, Memory}
use Rattle.ts_engine.specs.declared.engine.Engine.{Engine}
use Rattle.ts_volume.specs.Volume.{MeansCatalogue, MeansNothing}
use Rattle.ts_volume.specs.FirstBad.{IsFirstBadOf}
use Rattle.ts_engine.specs.Engine.{IsReady, IsAt, NothingIsPending}

-- an image that means the catalogue, and nothing said
abbrev pub StillMeans : Catalogue → Device → List ℕ → List ℕ → Type 0
StillMeans cat v image said = MeansCatalogue image cat × (said ≡ v.said)

-- The disk failed only where its count rose. The volume is no store exactly where it means no catalogue, and the page
-- that is told is its first bad one; then, and for want of memory, nothing was written.
abbrev pub StartFault : Bool → SurveyFault → Device → Device → Type 0
StartFault tells Failed v w = Rose v.faults w.faults
StartFault tells (NotAStore page) v w = (IsTrue tells → IsFirstBadOf v.held page) × (w.held ≡ v.held)
    × Within v.images w.images × (w.faults ≡ v.faults)
StartFault tells (Memory error) v w = (w.held ≡ v.held) × Within v.images w.images × (w.faults ≡ v.faults)

-- what a call that only read was refused for
abbrev pub ReadFault : Bool → SurveyFault → Device → Device → Type 0
ReadFault tells Failed v w = Rose v.faults w.faults
ReadFault tells (NotAStore page) v w = (IsTrue tells → IsFirstBadOf v.held page) × (w.faults ≡ v.faults)
ReadFault tells (Memory error) v w = w.faults ≡ v.faults

-- what a fault of the journal's reading is to an opening
abbrev pub read_as : RecoverFault → SurveyFault
read_as journal.Failed = Failed
read_as (journal.NotAStore page) = NotAStore page
read_as (journal.Memory error) = Memory error

-- a volume of which nothing is pending is opened, or not
pub record Opened (tells : Bool) (result : Result Engine SurveyFault) (v w : Device) : Type 0 where
  pub ready : IfOk result (λ e. IsReady tells e w)
  pub rests : IfOk result (λ e. e.saved ≡ None)
  pub means : IfOk result (λ e. IsTrue tells → (cat : Catalogue) × MeansCatalogue v.held cat)
  pub at : IfOk result (λ e. IsTrue tells → (cat : Catalogue) → MeansCatalogue v.held cat
      → IsAt tells e (resting cat) w)
  pub fault : IfErr result (λ fault. StartFault tells fault v w)
  pub others : Keeps tells v w
  pub moments : IsTrue tells → (cat : Catalogue) → MeansCatalogue v.held cat → LeavesOnly v w (StillMeans cat v)
  pub nothing : IsTrue tells → MeansNothing v.held → OnlyReads tells v w
  pub no_fault : OnOk result (w.faults ≡ v.faults)

-- A volume is opened, or not.
pub record Started (tells : Bool) (result : Result Engine SurveyFault) (v w : Device) : Type 0 where
  pub ready : IfOk result (λ e. IsReady tells e w)
  -- no transaction is open
  pub rests : IfOk result (λ e. e.saved ≡ None)
  -- it means some catalogue
  pub means : IfOk result (λ e. IsTrue tells → (cat : Catalogue) × MeansCatalogue v.held cat)
  -- and the engine stands there, at each that it means, with no transaction
  pub at : IfOk result (λ e. IsTrue tells → (cat : Catalogue) → MeansCatalogue v.held cat
      → IsAt tells e (resting cat) w)
  pub fault : IfErr result (λ fault. StartFault tells fault v w)
  pub others : Keeps tells v w
  -- an opened volume was synced
  pub synced : OnOk result (IsTrue tells → v.syncs < w.syncs)
  -- From the end of its first sync on each moment means what the volume meant; before it each is an image of the entry.
  pub moments : IsTrue tells → (cat : Catalogue) → MeansCatalogue v.held cat → FirstSync v w (StillMeans cat v)
  -- where nothing is pending at the entry, each moment means that
  pub at_rest : IsTrue tells → NothingIsPending v → (cat : Catalogue) → MeansCatalogue v.held cat
      → LeavesOnly v w (StillMeans cat v)
  -- where it means no catalogue, it is left as it was
  pub nothing : IsTrue tells → MeansNothing v.held → LeavesAsItWas v w
  -- only a failed call of the disk raises the count
  pub no_fault : OnOk result (w.faults ≡ v.faults)
