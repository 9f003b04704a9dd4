-- What a real file shows: its length and its counts.
use Rattle.std.specs.Prelude.{◌≡◌, ℕ, Bool, []}
use Rattle.ts_disk.specs.Device.{Device}
use Rattle.ts_file.specs.declared.file_site.FileSite.{FileSite}

-- the file's length
abbrev pub size_of : FileSite → ℕ
size_of f = f.size

-- the most bytes that the system lets a file have
abbrev pub limit_of : FileSite → ℕ
limit_of f = f.limit

-- how many calls of the volume failed
abbrev pub faults_of : FileSite → ℕ
faults_of f = f.faults

-- how many pieces were not said whole
abbrev pub say_faults_of : FileSite → ℕ
say_faults_of f = f.say_faults

-- a sync failed
abbrev pub is_lost_of : FileSite → Bool
is_lost_of f = f.is_lost

-- the length and the counts stay
pub record SameCounts (old new : FileSite) : Type 0 where
  pub size : new.size ≡ old.size
  pub faults : new.faults ≡ old.faults
  pub say_faults : new.say_faults ≡ old.say_faults

-- no image is told, and no moment
abbrev pub file_device : FileSite → Device
file_device f = record {
  size = f.size;
  held = [];
  images = λ image. ⊥;
  clock = 0;
  syncs = 0;
  since = λ t image said. ⊥;
  faults = f.faults;
  said = [];
  say_faults = f.say_faults;
}
