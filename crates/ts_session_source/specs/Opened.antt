-- What sessions do over an engine that was opened.
use Rattle.std.specs.Prelude.{◌≡◌, ◌⊎◌, ℕ, ◌<◌, ◌≤◌, Bool, List, length, Ok, Err}
use Rattle.ts_disk.specs.Device.{Device, Input}
use Rattle.ts_journal.specs.Moment.{OnlyReads}
use Rattle.ts_multi.specs.Sections.{sections}
use Rattle.ts_opening.specs.Engine.{Kept}
use Rattle.ts_session_runs.specs.Ran.{SessionsOver}
use Rattle.ts_session_source.specs.declared.fault.TextFault.{TextFault}
use Rattle.ts_session_source.specs.Fault.{status_of_text}
use Rattle.ts_session_source.specs.Text.{TakesText}
use Rattle.ts_session_source.specs.Sessions.{turns_of}

-- nothing was written or said, and no call failed
pub record Rests (tells : Bool) (v w : Device) : Type 0 where
  pub reads : OnlyReads tells v w
  pub faults : w.faults ≡ v.faults

-- there was no memory for the sections of a text, or there are too many of them
pub record RanNone (tells : Bool) (text : List ℕ) (status : ℕ) (v w : Device) : Type 0 where
  pub why : (status ≡ 7) ⊎ ((16 < length (sections text)) × (status ≡ 9))
  pub rests : Rests tells v w

-- they were carried out
pub record RanAll (tells : Bool) (seed : ℕ) (text : List ℕ) (e : Kept) (status : ℕ) (v w : Device) : Type 0 where
  pub few : length (sections text) ≤ 16
  pub over : SessionsOver tells e status (length (sections text)) (turns_of seed text) v w

-- the one or the other
abbrev pub TextRan : Bool → ℕ → List ℕ → Kept → ℕ → Device → Device → Type 0
TextRan tells seed text e status v w = RanNone tells text status v w ⊎ RanAll tells seed text e status v w

-- the text of a source wasn't taken
pub record Untaken (tells told : Bool) (status : ℕ) (v w : Device) (i j : Input) : Type 0 where
  pub fault : TextFault
  pub takes : TakesText told (Err fault) i j
  pub is : status ≡ status_of_text fault
  pub rests : Rests tells v w

-- it was, and then its sections were carried out, or not
pub record Taken (tells told : Bool) (seed : ℕ) (e : Kept) (status : ℕ) (v w : Device) (i j : Input) : Type 0 where
  pub text : List ℕ
  pub takes : TakesText told (Ok text) i j
  pub ran : TextRan tells seed text e status v w

-- the one or the other
abbrev pub OpenedSessions : Bool → Bool → ℕ → Kept → ℕ → Device → Device → Input → Input → Type 0
OpenedSessions tells told seed e status v w i j =
    Untaken tells told status v w i j ⊎ Taken tells told seed e status v w i j
