-- What holds of what the bytes of a volume mean.
use Rattle.std.specs.Prelude.{◌≡◌, ℕ, Option, Some, None, List, length}
use Rattle.ts_page.specs.Pages.{SameButFreed}
use Rattle.ts_journal.specs.Journal.{Entry, IsVolumeSize, page_count, records, pages}
use Rattle.ts_model.specs.Catalogue.{Catalogue}
use Rattle.ts_layout.specs.Meaning.{Layout, IsLaidOut, catalogue_of}
use Rattle.ts_volume.specs.Volume.{MeansCatalogue, MeansNothing}

-- no record of the journal is malformed
abbrev pub HasWholeRecords : List ℕ → Type 0
HasWholeRecords bytes = (rs : List (List Entry)) × (records bytes ≡ Some rs)

-- bytes mean one catalogue at most
abbrev pub BytesMeanOneCatalogue : Type 0
BytesMeanOneCatalogue = (bytes : List ℕ) (a b : Catalogue) → MeansCatalogue bytes a → MeansCatalogue bytes b → a ≡ b

-- Bytes whose pages are laid out so, whatever stands behind the heads of the free ones, mean the catalogue of that
-- layout.
abbrev pub LayoutsAreMeant : Type 0
LayoutsAreMeant =
    (bytes : List ℕ) (wanted : ℕ → List ℕ) (l : Layout) → IsVolumeSize (length bytes) → HasWholeRecords bytes
    → SameButFreed wanted (pages bytes) → IsLaidOut (page_count (length bytes)) wanted l
    → MeansCatalogue bytes (catalogue_of l)

-- bytes with the same pages mean the same, however the journal has them
abbrev pub SamePagesMeanTheSame : Type 0
SamePagesMeanTheSame =
    (held image : List ℕ) (cat : Catalogue) → length image ≡ length held → HasWholeRecords image
    → SameButFreed (pages held) (pages image) → MeansCatalogue held cat → MeansCatalogue image cat

-- bytes that are no volume's in number mean nothing, nor do those whose journal has a malformed record
pub record NoVolumeMeansNothing : Type 0 where
  pub size : (bytes : List ℕ) → (IsVolumeSize (length bytes) → ⊥) → MeansNothing bytes
  pub malformed : (bytes : List ℕ) → records bytes ≡ None → MeansNothing bytes
