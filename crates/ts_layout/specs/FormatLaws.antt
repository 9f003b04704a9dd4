-- What holds of the formats of volumes.
use Rattle.std.specs.Prelude.{◌≡◌, ◌≢◌, ℕ, true, false, List, length}
use Rattle.ts_row.specs.Row.{Heading, has_long_decimal, Element, has_hidden}
use Rattle.ts_page.specs.Pages.{EqualPages, with_page}
use Rattle.ts_space.specs.Directory.{Directory}
use Rattle.ts_model.specs.Catalogue.{Catalogue, in_newest_format, old_format, newest_format}
use Rattle.ts_model.specs.Format.{KeepsFormat}
use Rattle.ts_model.specs.Definitions.{Definitions, with_format}
use Rattle.ts_layout.specs.Slot.{header_bytes}
use Rattle.ts_layout.specs.Meaning.{IsOfFormat, AreOfFormat, Layout, HoldsLayout, IsSound, Means, catalogue_of}
use Rattle.ts_layout.specs.Changed.{layout_in}
use Rattle.ts_layout.specs.Surveyed.{free_pages, ListsPlaces}
use Rattle.ts_layout.specs.Chains.{AreFilled}
use Rattle.ts_layout.specs.Placed.{AreKept}

-- what pages mean keeps its format: in the old one no decimal is long, and no element is hidden
abbrev pub CataloguesKeepFormats : Type 0
CataloguesKeepFormats = (count : ℕ) (pages : ℕ → List ℕ) (cat : Catalogue) → Means count pages cat → KeepsFormat cat

-- the newest format is taken by the first page alone: nothing else changes, and the catalogue is the same
pub record VolumesTakeNewestFormat : Type 0 where
  pub bytes : (l : Layout) (v w : ℕ → List ℕ)
      → EqualPages (with_page 0 (header_bytes newest_format (length l.element_pages)) v) w
      → HoldsLayout v l → HoldsLayout w (layout_in newest_format l)
  pub rules : (l : Layout) → IsSound l → IsSound (layout_in newest_format l)
  pub filled : (l : Layout) → AreFilled l → AreFilled (layout_in newest_format l)
  pub places : (l : Layout) (space : Directory) → ListsPlaces space l → ListsPlaces space (layout_in newest_format l)
  pub free : (l : Layout) → free_pages (layout_in newest_format l) ≡ free_pages l
  pub kept : (d : Definitions) (space : Directory) (free : List ℕ) (count : ℕ) → AreKept d space free count
      → AreKept (with_format newest_format d) space free count
  pub catalogue : (l : Layout) → catalogue_of (layout_in newest_format l) ≡ in_newest_format (catalogue_of l)

-- row types without a long decimal, and elements of which none is hidden, are of every format; the newest has all
pub record NewestFormatHasAll : Type 0 where
  pub short : (format : ℕ) (h : Heading) → has_long_decimal h.columns ≡ false → IsOfFormat format h
  pub heading : (format : ℕ) (h : Heading) → format ≢ old_format → IsOfFormat format h
  pub elements : (format : ℕ) (es : List Element) → format ≢ old_format → AreOfFormat format es
  pub newest : newest_format ≢ old_format

-- elements that hide one only where others of the format do are of the format
pub record EditedElementsKeepFormats : Type 0 where
  pub edited : (format : ℕ) (old es : List Element) → AreOfFormat format old
      → (has_hidden es ≡ true → has_hidden old ≡ true)
      → AreOfFormat format es
