-- What is found of a volume.
use Rattle.std.specs.Prelude.{◌≡◌, ℕ, Bool, IsTrue, List, length, Result, IfOk, IfErr, IsErrOf}
use Rattle.ts_disk.specs.Device.{Device, Rose}
use Rattle.ts_journal.specs.Journal.{page_count, pages}
use Rattle.ts_journal.specs.Moment.{OnlyReads}
use Rattle.ts_recover.specs.declared.replay.RecoverFault.{RecoverFault}
use Rattle.ts_recover.specs.declared.replay.RecoverFault.TheVariants as journal
use Rattle.ts_space.specs.Directory.{Directory}
use Rattle.ts_model.specs.Definitions.{Definitions}
use Rattle.ts_layout.specs.Meaning.{Layout, IsLaidOut, catalogue_of}
use Rattle.ts_layout.specs.Placed.{AreKept}
use Rattle.ts_container.specs.declared.fault.SurveyFault.{SurveyFault}
use Rattle.ts_container.specs.declared.fault.SurveyFault.TheVariants.{NotAStore, Failed, Memory}
use Rattle.ts_container.specs.declared.surveyed.Surveyed.{Surveyed}
use Rattle.ts_container.specs.Survey.{IfRefused, IsSurveyOf}
use Rattle.ts_volume.specs.Volume.{MeansCatalogue}
use Rattle.ts_volume.specs.FirstBad.{IsFirstBadOf}

-- what is kept of a volume keeps its rules, with some pages
abbrev pub IsKept : Definitions → Directory → List ℕ → Type 0
IsKept d space free = (count : ℕ) × AreKept d space free count

-- the pages that these bytes have by their journal are laid out as what was found
pub record IsLaidIn (bytes : List ℕ) (d : Definitions) (space : Directory) (free : List ℕ) : Type 0 where
  pub layout : Layout
  pub found : IsSurveyOf d space free layout
  pub laid : IsLaidOut (page_count (length bytes)) (pages bytes) layout
  pub means : MeansCatalogue bytes (catalogue_of layout)

-- a volume is read, with what its journal puts over the pages, and judged
pub record VolumeSurveyed (tells : Bool) (result : Result Surveyed SurveyFault) (v w : Device) : Type 0 where
  pub kept : IfOk result (λ s. IsKept s.defs.definitions s.space s.free.items)
  pub laid : IfOk result (λ s. IsTrue tells → IsLaidIn v.held s.defs.definitions s.space s.free.items)
  pub refused : IfErr result (λ e. IfRefused e (λ page. IsTrue tells → IsFirstBadOf v.held page))
  pub cause : IsErrOf result Failed → Rose v.faults w.faults
  -- any other answer leaves the count
  pub no_fault : ¬ IsErrOf result Failed → w.faults ≡ v.faults
  pub others : OnlyReads tells v w

-- what a fault of the journal's reading is to a survey
abbrev pub read_as : RecoverFault → SurveyFault
read_as journal.Failed = Failed
read_as (journal.NotAStore page) = NotAStore page
read_as (journal.Memory error) = Memory error
