-- A volume being opened, and what was taken of a source.
use Rattle.std.specs.Prelude.{◌≡◌, ◌≢◌, ◌⊎◌, ℕ, ◌<◌, ◌≤◌, Bool, IsTrue, List, [], ◌++◌, length}
use Rattle.ts_disk.specs.Device.{Device, FirstSync, Only, Within, Rose, LeavesAsItWas, Input}
use Rattle.ts_container.specs.declared.fault.SurveyFault.{SurveyFault}
use Rattle.ts_container.specs.declared.fault.SurveyFault.TheVariants.{NotAStore, Failed, Memory}
use Rattle.ts_volume.specs.Volume.{MeansNothing}
use Rattle.ts_replies.specs.Acknowledged.{Protocol, IsGoodMoment}
use Rattle.ts_replies.specs.Said.{SaysFairly}

-- How the opening of a volume shows in a status.

-- the status of a volume that is not opened
abbrev pub status_of_opening : SurveyFault → ℕ
status_of_opening Failed = 5
status_of_opening (NotAStore page) = 6
status_of_opening (Memory error) = 7

-- What each job shows that opens a volume.
pub record OpensStore (tells : Bool) (status : ℕ) (v w : Device) : Type 0 where
  -- 6 comes exactly where the volume means no catalogue, but for a fault or want of memory that came first
  pub no_store : status ≡ 6 → IsTrue tells → MeansNothing v.held
  pub not_a_store : IsTrue tells → MeansNothing v.held → (status ≡ 5) ⊎ ((status ≡ 6) ⊎ (status ≡ 7))
  -- and then it is left as it was
  pub left : IsTrue tells → MeansNothing v.held → LeavesAsItWas v w
  pub unwritten : status ≡ 6 → (w.held ≡ v.held) × Within v.images w.images
  -- a call of the volume failed at 5, and at no other status
  pub disk : status ≡ 5 → Rose v.faults w.faults
  pub no_fault : status ≢ 5 → w.faults ≡ v.faults
  -- the length stays, and no fault is forgotten
  pub size : w.size ≡ v.size
  pub faults : v.faults ≤ w.faults

-- What is taken of a source, and a run of what its bytes ask for.

-- a pull of the source has answered its end
abbrev pub HasEnded : Input → Type 0
HasEnded j = IsTrue j.ended

-- The bytes that were taken from a source, and whether it answered its end: then nothing is left, the limit was kept,
-- and with these bytes the status may be that of an end.
pub record Took (limit : ℕ) (IsEnd : List ℕ → ℕ → Type 0) (status : ℕ) (i j : Input) : Type 0 where
  pub taken : List ℕ
  pub ended : Bool
  pub cut : i.left ≡ taken ++ j.left
  pub end : IsTrue ended → HasEnded j × (j.left ≡ []) × (length taken ≤ limit) × IsEnd taken status

-- the bytes that were taken are more than the limit
pub record TookTooMuch (limit : ℕ) (i j : Input) : Type 0 where
  pub taken : List ℕ
  pub cut : i.left ≡ taken ++ j.left
  pub long : limit < length taken

-- the bytes that were taken keep the limit
pub record TookEnough (limit : ℕ) (i j : Input) : Type 0 where
  pub taken : List ℕ
  pub cut : i.left ≡ taken ++ j.left
  pub short : length taken ≤ limit

-- What was said and what a stop leaves, over a volume that is opened first. `asked` tells the items of what was taken,
-- and `from` the state before the first of them.
pub record RanFrom {C I : Type 0} (p : Protocol C I) (limit : ℕ) (IsEnd : List ℕ → ℕ → Type 0)
    (asked : Bool → List ℕ → List I) (from : List ℕ → C) (status : ℕ) (v w : Device) (i j : Input) : Type 0 where
  pub took : Took limit IsEnd status i j
  pub fair : SaysFairly p (from took.taken) (asked took.ended took.taken) v w
  -- From the end of the first sync on each moment is good; before it, and in the whole call where no sync answered Ok,
  -- each is an image of the entry with nothing said.
  pub moments : FirstSync v w (IsGoodMoment p (from took.taken) (asked took.ended took.taken) v.said)
  -- where nothing was pending at the entry, each moment of the call is good
  pub at_rest : Only v.held v.images → (image said : List ℕ) → w.since v.clock image said
      → IsGoodMoment p (from took.taken) (asked took.ended took.taken) v.said image said
