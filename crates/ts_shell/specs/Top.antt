-- What the top call does, by its words: where they are none of its forms, and for `init`.
use Rattle.std.specs.Prelude.{◌≡◌, ◌⊎◌, ℕ, ◌+◌, ◌*◌, ◌<◌, Bool, IsTrue, ◌≢◌}
use Rattle.ts_disk.specs.Device.{Device, Within, Rose}
use Rattle.ts_page.specs.Pages.{page_size, first_element_page}
use Rattle.ts_model.specs.Catalogue.{empty_catalogue, newest_format}
use Rattle.ts_volume.specs.Volume.{MeansCatalogue}
use Rattle.ts_opening.specs.Engine.{NothingIsPending}
use Rattle.ts_shell.specs.Making.{EmptyFrom}

-- no call was made that does anything
pub record Untouched (v w : Device) : Type 0 where
  pub size : w.size ≡ v.size
  pub held : w.held ≡ v.held
  pub no_more : Within v.images w.images
  pub no_fewer : Within w.images v.images
  pub clock : w.clock ≡ v.clock
  pub syncs : w.syncs ≡ v.syncs
  pub faults : w.faults ≡ v.faults
  pub said : w.said ≡ v.said
  pub say_faults : w.say_faults ≡ v.say_faults

-- What `init` with a number of pages does.
pub record Made (tells : Bool) (pages status : ℕ) (v w : Device) : Type 0 where
  -- at 0 the only image has that length and means the empty catalogue in the newest format
  pub done : status ≡ 0 → (w.size ≡ page_size * (first_element_page + pages)) × NothingIsPending w
      × (IsTrue tells → MeansCatalogue w.held (empty_catalogue newest_format pages))
  -- from the end of its first sync that answers Ok on, the second call that does, each image means the empty catalogue
  -- of either format or none
  pub moments : IsTrue tells → v.syncs < w.syncs → EmptyFrom pages (v.clock + 2) v w
  -- 10 comes exactly where the volume isn't empty, and then nothing is done
  pub there : status ≡ 10 → 0 < v.size
  pub refused : 0 < v.size → status ≡ 10
  pub kept : status ≡ 10 → Untouched v w
  pub disk : status ≡ 5 → Rose v.faults w.faults
  -- no count rose but at 5 that of the volume
  pub no_fault : status ≢ 5 → w.faults ≡ v.faults
  pub say_faults : w.say_faults ≡ v.say_faults
  -- an empty volume becomes a store, unless a call of it fails
  pub complete : v.size ≡ 0 → ¬ Rose v.faults w.faults → status ≡ 0
  -- nothing is said
  pub said : w.said ≡ v.said
  pub statuses : (status ≡ 0) ⊎ ((status ≡ 5) ⊎ (status ≡ 10))
