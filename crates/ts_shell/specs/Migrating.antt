-- What `migrate` does: it brings a store to the newest format, and leaves all else that the store means.
use Rattle.std.specs.Prelude.{◌≡◌, ◌⊎◌, ℕ, Bool, IsTrue, List}
use Rattle.ts_disk.specs.Device.{Device, Rose, FirstSync}
use Rattle.ts_model.specs.Catalogue.{Catalogue, in_newest_format}
use Rattle.ts_volume.specs.Volume.{MeansCatalogue}
use Rattle.ts_opening.specs.Engine.{NothingIsPending}
use Rattle.ts_opening.specs.Engine.{StillMeans}
use Rattle.ts_opening.specs.Opening.{OpensStore}

-- an image that means the catalogue in its own format or in the newest, and nothing said
abbrev pub InEitherFormat : Catalogue → Device → List ℕ → List ℕ → Type 0
InEitherFormat cat v image said = (MeansCatalogue image cat ⊎ MeansCatalogue image (in_newest_format cat))
    × (said ≡ v.said)

-- What `migrate` does over a volume that means this catalogue at the entry.
pub record MigratedFrom (cat : Catalogue) (status : ℕ) (v w : Device) : Type 0 where
  -- at 0 the only image means it in the newest format
  pub done : status ≡ 0 → MeansCatalogue w.held (in_newest_format cat)
  -- at 7 the volume means it in its own format, and so does each moment from the end of the first sync on
  pub kept : status ≡ 7 → MeansCatalogue w.held cat × FirstSync v w (StillMeans cat v)
  -- From the end of the first sync on each moment means it in its own format or in the newest; before it, and in the
  -- whole call where no sync answered Ok, each is an image of the entry; nothing is said.
  pub moments : FirstSync v w (InEitherFormat cat v)
  -- where nothing was pending at the entry, each moment of the call means it so
  pub at_rest : NothingIsPending v → (image said : List ℕ) → w.since v.clock image said
      → InEitherFormat cat v image said
  -- unless a call of the volume fails the work is done, or there is no memory for it
  pub complete : ¬ Rose v.faults w.faults → (status ≡ 0) ⊎ (status ≡ 7)

-- What `migrate` does.
pub record MigrateRan (tells : Bool) (status : ℕ) (v w : Device) : Type 0 where
  pub store : OpensStore tells status v w
  pub from : IsTrue tells → (cat : Catalogue) → MeansCatalogue v.held cat → MigratedFrom cat status v w
  -- at 0 nothing is pending
  pub settled : status ≡ 0 → NothingIsPending w
  -- nothing is said
  pub said : w.said ≡ v.said
  pub say_faults : w.say_faults ≡ v.say_faults
  pub statuses : (status ≡ 0) ⊎ ((status ≡ 5) ⊎ ((status ≡ 6) ⊎ (status ≡ 7)))
