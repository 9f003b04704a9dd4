-- What a stop leaves while a store is made.
use Rattle.std.specs.Prelude.{◌≡◌, ◌⊎◌, ℕ, ◌≤◌, List}
use Rattle.ts_disk.specs.Device.{Device}
use Rattle.ts_model.specs.Catalogue.{Catalogue, empty_catalogue, old_format, newest_format}
use Rattle.ts_volume.specs.Volume.{MeansCatalogue}

-- an image that means the empty catalogue of either format with so many element pages, or means none
abbrev pub IsEmptyOrNone : ℕ → List ℕ → Type 0
IsEmptyOrNone pages image =
    (cat : Catalogue) → MeansCatalogue image cat → (cat ≡ empty_catalogue old_format pages)
    ⊎ (cat ≡ empty_catalogue newest_format pages)

-- from that time on each image means such a catalogue or none, and nothing is said
pub record EmptyFrom (pages time : ℕ) (v w : Device) : Type 0 where
  pub later : time ≤ w.clock
  pub each : (image said : List ℕ) → w.since time image said → IsEmptyOrNone pages image × (said ≡ v.said)
