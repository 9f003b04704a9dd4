-- What holds of the first bad page.
use Rattle.std.specs.Prelude.{◌≡◌, ℕ, ◌<◌, ◌≤◌, List, length}
use Rattle.ts_page.specs.Pages.{first_element_page}
use Rattle.ts_journal.specs.Journal.{IsVolumeSize, page_count}
use Rattle.ts_model.specs.Catalogue.{Catalogue}
use Rattle.ts_layout.specs.Meaning.{Means}
use Rattle.ts_volume.specs.Volume.{MeansNothing}
use Rattle.ts_volume.specs.FirstBad.{IsFirstBad, IsFirstBadOf}

-- there is one at most
pub record ThereIsOneFirstBadPage : Type 0 where
  pub pages : (count : ℕ) (pages : ℕ → List ℕ) (a b : ℕ) → IsFirstBad count pages a → IsFirstBad count pages b → a ≡ b
  pub bytes : (bytes : List ℕ) (a b : ℕ) → IsFirstBadOf bytes a → IsFirstBadOf bytes b → a ≡ b

-- it is one of the pages
pub record FirstBadPagesAreWithin : Type 0 where
  pub pages : (count : ℕ) (pages : ℕ → List ℕ) (page : ℕ) → first_element_page ≤ count → IsFirstBad count pages page
      → page < count
  pub bytes : (bytes : List ℕ) (page : ℕ) → IsVolumeSize (length bytes) → IsFirstBadOf bytes page
      → page < page_count (length bytes)

-- where there is one, nothing is meant
pub record BadPagesMeanNothing : Type 0 where
  pub pages : (count : ℕ) (pages : ℕ → List ℕ) (page : ℕ) → IsFirstBad count pages page → (cat : Catalogue)
      → Means count pages cat → ⊥
  pub bytes : (bytes : List ℕ) (page : ℕ) → IsFirstBadOf bytes page → MeansNothing bytes
