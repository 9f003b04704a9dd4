-- What `check` does: it says the report on a volume, or its first bad page, and changes nothing.
use Rattle.std.specs.Prelude.{◌≡◌, ◌≢◌, ◌⊎◌, ℕ, ◌≤◌, Bool, IsTrue, List, ◌++◌}
use Rattle.ts_disk.specs.Device.{Device, Within, Rose, Saying}
use Rattle.ts_volume.specs.Volume.{MeansCatalogue, MeansNothing}
use Rattle.ts_volume.specs.FirstBad.{IsFirstBadOf}
use Rattle.ts_model.specs.Catalogue.{Catalogue}
use Rattle.ts_check.specs.declared.verdict.Verdict.{Verdict}
use Rattle.ts_check.specs.declared.verdict.Verdict.TheVariants.{Good, Bad}
use Rattle.ts_check.specs.Report.{IsReport, IsGoodReport, bad_line}

-- the status of what was found
abbrev pub status_of_verdict : Verdict → ℕ
status_of_verdict Good = 0
status_of_verdict (Bad page) = 6

-- the whole report on a volume that means a catalogue was said
pub record SaidReport (v w : Device) : Type 0 where
  pub text : List ℕ
  pub is : IsGoodReport v.held text
  pub said : w.said ≡ v.said ++ text

-- which page is the first bad one was said
pub record SaidBad (v w : Device) : Type 0 where
  pub page : ℕ
  pub is : IsFirstBadOf v.held page
  pub said : w.said ≡ v.said ++ bad_line page

-- a front of one or the other was said
pub record SaidPart (v w : Device) : Type 0 where
  pub verdict : Verdict
  pub text : List ℕ
  pub is : IsReport v.held verdict text
  pub said : Saying v.said text w.said

-- What `check` does.
pub record CheckRan (tells : Bool) (status : ℕ) (v w : Device) : Type 0 where
  pub report : status ≡ 0 → IsTrue tells → SaidReport v w
  -- 6 comes exactly where the volume means no catalogue, but for a fault or want of memory that came first
  pub bad : status ≡ 6 → IsTrue tells → SaidBad v w
  pub no_store : status ≡ 6 → IsTrue tells → MeansNothing v.held
  pub not_a_store : IsTrue tells → MeansNothing v.held → status ≢ 0
  -- at 4 a front of the report was said, and at 5 and 7 nothing
  pub part : status ≡ 4 → IsTrue tells → SaidPart v w
  pub quiet : (status ≡ 5) ⊎ (status ≡ 7) → w.said ≡ v.said
  -- at every status the bytes held stay, and so does all that a stop may leave
  pub held : w.held ≡ v.held
  pub size : w.size ≡ v.size
  pub no_more : Within v.images w.images
  pub no_fewer : Within w.images v.images
  -- the output failed at 4 and a call of the volume at 5, and at no other status
  pub output : status ≡ 4 → Rose v.say_faults w.say_faults
  pub disk : status ≡ 5 → Rose v.faults w.faults
  pub no_say_fault : status ≢ 4 → w.say_faults ≡ v.say_faults
  pub no_fault : status ≢ 5 → w.faults ≡ v.faults
  pub say_faults : v.say_faults ≤ w.say_faults
  pub faults : v.faults ≤ w.faults
  -- unless a call fails the report is said whole, or there is no memory for it
  pub complete : ¬ Rose v.faults w.faults → ¬ Rose v.say_faults w.say_faults → (status ≡ 0)
      ⊎ ((status ≡ 6) ⊎ (status ≡ 7))
  pub statuses : (status ≡ 0) ⊎ ((status ≡ 4) ⊎ ((status ≡ 5) ⊎ ((status ≡ 6) ⊎ (status ≡ 7))))
