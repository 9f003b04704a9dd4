-- The steps of a commit and of a checkpoint, and what a stop within them leaves.
use Rattle.std.specs.Prelude.{◌≡◌, ◌⊎◌, ℕ, ◌+◌, ◌*◌, Bool, IsTrue, None, List, [], ◌∷◌, length, replicate, Result, OnOk}
use Rattle.std.specs.Prelude.{IsOk, IsErr}
use Rattle.ts_disk.specs.Device.{Device, Only, Torn, Follows, LeavesOnly, Rose, overwritten}
use Rattle.ts_page.specs.Pages.{page_size, head_size, region_start, bytes_at, HasFreeHead}
use Rattle.ts_journal.specs.declared.batch.Change.{Change}
use Rattle.ts_journal.specs.declared.batch.Change.TheVariants.{Image, Free}
use Rattle.ts_journal.specs.Journal.{open_gate, Entry, change_of, body_bytes, region}
use Rattle.ts_journal.specs.Moment.{Keeps}

-- the bytes with a record at this place behind a gate that is as it was
abbrev pub staged : ℕ → List Entry → List ℕ → List ℕ
staged at es held = overwritten (at + 8) (body_bytes es) held

-- torn bytes behind the gate, or the record whole behind a torn gate; and nothing said
abbrev pub Appending : ℕ → List Entry → Device → List ℕ → List ℕ → Type 0
Appending at es v image said =
    (Torn (at + 8) (length (body_bytes es)) v.held image ⊎ Torn at 8 (staged at es v.held) image) × (said ≡ v.said)

-- a record goes to the disk, and then its gate is opened
pub record Appends {E : Type 0} (tells : Bool) (at : ℕ) (es : List Entry) (result : Result Unit E)
    (v w : Device) : Type 0 where
  pub keeps : Keeps tells v w
  pub written : OnOk result (IsTrue tells → w.held ≡ overwritten at open_gate (staged at es v.held))
  pub durable : OnOk result (Only w.held w.images)
  pub cause : IsErr result → Rose v.faults w.faults
  pub no_fault : IsOk result → w.faults ≡ v.faults
  pub moments : IsTrue tells → LeavesOnly v w (Appending at es v)

-- any bytes in the pages that the entries name, and the same elsewhere
pub record Beside (es : List Entry) (old new : List ℕ) : Type 0 where
  pub len : length new ≡ length old
  pub region : region new ≡ region old
  pub others : (number : ℕ) → change_of number es ≡ None → bytes_at (page_size * number) page_size new
      ≡ bytes_at (page_size * number) page_size old

-- what is written to the place of the page; of a freed page the head alone
abbrev pub home_bytes : Change → List ℕ
home_bytes (Image image) = image.bytes
home_bytes Free = replicate head_size 0

-- the page is what the change makes of it; of a freed page the head alone is told
abbrev pub IsHome : Change → List ℕ → Type 0
IsHome (Image image) page = page ≡ image.bytes
IsHome Free page = HasFreeHead page

-- each entry's page stands in its place
abbrev pub AreHome : List Entry → List ℕ → Type 0
AreHome [] image = Unit {0}
AreHome (e ∷ es) image = IsHome e.1 (bytes_at (page_size * e.0) page_size image) × AreHome es image

-- an image of that time with any bytes in these pages, and nothing said since
abbrev pub BesideFrom : List Entry → Device → List ℕ → List ℕ → Type 0
BesideFrom es v image said = (earlier : List ℕ) × v.images earlier × Beside es earlier image × (said ≡ v.said)

-- the pages of these entries go to their places
pub record WritesHome {E : Type 0} (tells : Bool) (es : List Entry) (result : Result Unit E)
    (v w : Device) : Type 0 where
  pub keeps : Keeps tells v w
  pub home : OnOk result (IsTrue tells → AreHome es w.held)
  pub cause : IsErr result → Rose v.faults w.faults
  pub no_fault : IsOk result → w.faults ≡ v.faults
  pub crash : Follows (Beside es) v.images w.images
  pub moments : LeavesOnly v w (BesideFrom es v)

-- the bytes with each entry's page in its place
abbrev pub BroughtHome : List Entry → List ℕ → List ℕ → Type 0
BroughtHome es old new = Beside es old new × AreHome es new

-- any bytes in these pages; or all pages in their places, and a torn first gate; and nothing said
abbrev pub Emptying : List Entry → Device → List ℕ → List ℕ → Type 0
Emptying es v image said =
    (Beside es v.held image ⊎ ((settled : List ℕ) × BroughtHome es v.held settled × Torn region_start 8 settled image))
    × (said ≡ v.said)

-- the pages go to their places, and then the first gate is closed
pub record Empties {E : Type 0} (tells : Bool) (es : List Entry) (result : Result Unit E) (v w : Device) : Type 0 where
  pub keeps : Keeps tells v w
  pub emptied : OnOk result (IsTrue tells → (settled : List ℕ) × BroughtHome es v.held settled
      × (w.held ≡ overwritten region_start (replicate 8 0) settled))
  pub durable : OnOk result (Only w.held w.images)
  pub cause : IsErr result → Rose v.faults w.faults
  pub no_fault : IsOk result → w.faults ≡ v.faults
  pub moments : IsTrue tells → LeavesOnly v w (Emptying es v)
