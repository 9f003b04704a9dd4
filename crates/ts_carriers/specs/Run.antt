-- A run of items over what carries them out: what is said, and what a stop within it leaves.
use Rattle.std.specs.Prelude.{◌≡◌, ◌≤◌, ℕ, Bool, IsTrue, List, ◌++◌, Result, Ok, Err}
use Rattle.std.specs.Prelude.{OnOk, OnErr, IsOk, IsErr, IsErrOf}
use Rattle.ts_disk.specs.Device.{Device, Elapses, LeavesOnly, Rose, Within}
use Rattle.ts_replies.specs.Acknowledged.{Protocol, IsFront, AllAnswered, IsGoodMoment}
use Rattle.ts_replies.specs.Said.{SaysFairly}
use Rattle.ts_carriers.specs.declared.fault.RunFault.{RunFault}
use Rattle.ts_carriers.specs.declared.fault.RunFault.TheVariants.{Disk, Output}

-- What carries items out: whether its device tells what it holds, when it can go on, and when it stands at a state. A
-- run is said in these words, whatever its items and its states are.
pub record Carrier (E C : Type 0) : Type 1 where
  pub tells : Bool
  -- on every device, between two items
  pub ready : E → Device → Type 0
  pub stands : E → C → Device → Type 0

-- a front of a reply was said behind these bytes
abbrev pub SaysFront : List ℕ → List ℕ → List ℕ → Type 0
SaysFront before reply said = (front : List ℕ) × (said ≡ before ++ front) × IsFront front reply

-- A reply is said, in one call or in more, whole or not.
pub record SaysReply {E : Type 0} (tells : Bool) (reply : List ℕ) (result : Result Unit E) (v w : Device) : Type 0 where
  pub time : IsTrue tells → Elapses v w (λ image said. w.images image × SaysFront v.said reply said)
  pub said : OnOk result (IsTrue tells → w.said ≡ v.said ++ reply)
  pub part : OnErr result (IsTrue tells → SaysFront v.said reply w.said)
  pub say_faults : v.say_faults ≤ w.say_faults
  pub cause : IsErr result → Rose v.say_faults w.say_faults
  pub no_fault : IsOk result → w.say_faults ≡ v.say_faults
  pub syncs : w.syncs ≡ v.syncs
  pub faults : w.faults ≡ v.faults
  pub size : w.size ≡ v.size
  pub held : w.held ≡ v.held
  pub crash : Within v.images w.images
  pub no_fewer : Within w.images v.images

-- every item has its whole reply, and what carries them out stands at the state after them
pub record Answered {E C I : Type 0} (c : Carrier E C) (p : Protocol C I)
    (state : C) (asked : List I) (f : E) (v w : Device) : Type 0 where
  pub gained : List ℕ
  pub last : C
  pub said : w.said ≡ v.said ++ gained
  pub all : AllAnswered p state asked gained last
  pub at : c.stands f last w

-- what carrying out items in their order does, by one that is `e` before and `f` behind
pub record Ran {E C I T : Type 0} (c : Carrier E C) (p : Protocol C I)
    (asked : List I) (result : Result T RunFault) (e f : E) (v w : Device) : Type 0 where
  pub ready : OnOk result (c.ready f w)
  pub answered : OnOk result (IsTrue c.tells → (state : C) → c.stands e state v → Answered c p state asked f v w)
  pub fair : IsTrue c.tells → (state : C) → c.stands e state v → SaysFairly p state asked v w
  pub moments : IsTrue c.tells → (state : C) → c.stands e state v → LeavesOnly v w (IsGoodMoment p state asked v.said)
  pub disk : result ≡ Err Disk → Rose v.faults w.faults
  pub output : result ≡ Err Output → Rose v.say_faults w.say_faults
  -- only a failed call raises its count
  pub no_fault : ¬ IsErrOf result Disk → w.faults ≡ v.faults
  pub no_say_fault : ¬ IsErrOf result Output → w.say_faults ≡ v.say_faults
  -- the length stays, and no fault and no sync is forgotten
  pub size : w.size ≡ v.size
  pub faults : v.faults ≤ w.faults
  pub say_faults : v.say_faults ≤ w.say_faults
  pub syncs : IsTrue c.tells → v.syncs ≤ w.syncs

-- the status of what ended a run
abbrev pub status_of : RunFault → ℕ
status_of Disk = 5
status_of Output = 4

-- the status of a run all of whose items were carried out, or of what ended it
abbrev pub status_of_end : Result Unit RunFault → ℕ
status_of_end (Ok done) = 0
status_of_end (Err fault) = status_of fault
