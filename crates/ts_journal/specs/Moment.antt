-- What the calls of a journal do to a volume, and what a stop within them leaves.
use Rattle.std.specs.Prelude.{◌≡◌, ◌≢◌, ◌⊎◌, ℕ, ◌<◌, ◌≤◌, Bool, IsTrue, List, [], length, Result, Ok, Err, OnOk, IsOk}
use Rattle.std.specs.Prelude.{IsErr}
use Rattle.ts_disk.specs.Device.{Device, Only, Torn, Follows, LeavesOnly, Rose, overwritten}
use Rattle.ts_journal.specs.Journal.{Entry, AreAllowed, put_pages, IsVolumeSize, page_count, pages, IsAtEnd, StandsOver}
use Rattle.ts_journal.specs.Journal.{ReadsAs, ReadsButFreed}
use Rattle.ts_journal.specs.declared.journal.CommitFault.{CommitFault}
use Rattle.ts_journal.specs.declared.journal.CommitFault.TheVariants.{Failed, NoRoom}

-- what stays, whatever is written: the length and what was said
pub record Keeps (tells : Bool) (v w : Device) : Type 0 where
  pub size : w.size ≡ v.size
  pub said : w.said ≡ v.said
  pub say_faults : w.say_faults ≡ v.say_faults
  pub faults : v.faults ≤ w.faults
  pub syncs : IsTrue tells → v.syncs ≤ w.syncs

-- the pages of before the commit or those after it, and nothing said
abbrev pub BeforeOrAfter : Device → List Entry → List ℕ → List ℕ → Type 0
BeforeOrAfter v es image said =
    (ReadsAs v.size (pages v.held) image ⊎ ReadsAs v.size (put_pages es (pages v.held)) image) × (said ≡ v.said)

-- the same pages, but for the bytes after the heads of the pages that the overlay frees, and nothing said
abbrev pub SamePages : Device → List Entry → List ℕ → List ℕ → Type 0
SamePages v overlay image said = ReadsButFreed v.size overlay (pages v.held) image × (said ≡ v.said)

-- The journal of this volume stands here, and this overlay is what its records put over the pages; nothing is pending.
pub record IsJournalOf (tells : Bool) (position : ℕ) (overlay : List Entry) (v : Device) : Type 0 where
  pub size : IsVolumeSize v.size
  pub settled : Only v.held v.images
  pub stands : IsTrue tells → StandsOver position overlay v.held
  pub allowed : AreAllowed (page_count v.size) overlay

-- These changes can go behind the records of this volume, the last of which ends here; nothing is pending.
pub record CanCommit (tells : Bool) (position : ℕ) (es : List Entry) (v : Device) : Type 0 where
  pub size : IsVolumeSize v.size
  pub settled : Only v.held v.images
  pub stands : IsTrue tells → IsAtEnd position v.held
  pub changes : es ≢ []
  pub allowed : AreAllowed (page_count v.size) es

-- What each call does that makes pages last: after an Ok the bytes held are such ones, and a stop leaves these alone; a
-- stop within the call leaves such a moment; and the count of the disk's faults rises exactly where the disk failed.
pub record MakesLast {E : Type 0} (tells : Bool) (after : List ℕ → Type 0) (moment : List ℕ → List ℕ → Type 0)
    (failed : Type 0) (result : Result Unit E) (v w : Device) : Type 0 where
  pub ok : OnOk result (IsTrue tells → after w.held)
  pub durable : OnOk result (Only w.held w.images)
  pub cause : failed → Rose v.faults w.faults
  pub no_fault : ¬ failed → w.faults ≡ v.faults
  pub others : Keeps tells v w
  pub moments : IsTrue tells → LeavesOnly v w moment

-- when each answer of a commit comes, where it needs so many bytes and there is this room
abbrev pub CommitCause : ℕ → ℕ → Result Unit CommitFault → Type 0 → Type 0
CommitCause needs room (Ok done) rose = needs ≤ room
CommitCause needs room (Err Failed) rose = (needs ≤ room) × rose
CommitCause needs room (Err (NoRoom n r)) rose = (room < needs) × (n ≡ needs) × (r ≡ room)

-- nothing was written or said: a stop leaves what it could leave before
pub record OnlyReads (tells : Bool) (v w : Device) : Type 0 where
  pub keeps : Keeps tells v w
  pub held : w.held ≡ v.held
  pub images : (image : List ℕ) → w.images image → v.images image
  pub no_fewer : (image : List ℕ) → v.images image → w.images image
  pub moments : LeavesOnly v w (λ image said. v.images image × (said ≡ v.said))

-- an image of that time with torn bytes in this range, and nothing said since
abbrev pub TornFrom : ℕ → ℕ → Device → List ℕ → List ℕ → Type 0
TornFrom at n v image said = (earlier : List ℕ) × v.images earlier × Torn at n earlier image × (said ≡ v.said)

-- writes within a range of n bytes
pub record WritesWithin (tells : Bool) (at n : ℕ) (v w : Device) : Type 0 where
  pub keeps : Keeps tells v w
  pub crash : Follows (Torn at n) v.images w.images
  pub moments : LeavesOnly v w (TornFrom at n v)

-- writes of these bytes, one piece behind the other
pub record Writes {E : Type 0} (tells : Bool) (at : ℕ) (bytes : List ℕ) (result : Result Unit E)
    (v w : Device) : Type 0 where
  pub within : WritesWithin tells at (length bytes) v w
  pub written : OnOk result (IsTrue tells → w.held ≡ overwritten at bytes v.held)
  pub cause : IsErr result → Rose v.faults w.faults
  pub no_fault : IsOk result → w.faults ≡ v.faults
