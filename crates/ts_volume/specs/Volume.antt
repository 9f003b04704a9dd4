-- What the bytes of a volume mean.
use Rattle.std.specs.Prelude.{◌≡◌, ℕ, List, length, Some}
use Rattle.ts_journal.specs.Journal.{Entry, IsVolumeSize, page_count, records, pages}
use Rattle.ts_layout.specs.Meaning.{Means}
use Rattle.ts_model.specs.Catalogue.{Catalogue}

-- They are as many as a volume has, no record of the journal is malformed, and the pages that the volume has by its
-- journal are laid out as this catalogue.
pub record MeansCatalogue (bytes : List ℕ) (cat : Catalogue) : Type 0 where
  pub size : IsVolumeSize (length bytes)
  pub sound : (rs : List (List Entry)) × (records bytes ≡ Some rs)
  pub pages : Means (page_count (length bytes)) (pages bytes) cat

-- they mean no catalogue
abbrev pub MeansNothing : List ℕ → Type 0
MeansNothing bytes = (cat : Catalogue) → MeansCatalogue bytes cat → ⊥
