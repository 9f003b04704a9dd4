-- What a check says of a volume.
use Rattle.std.specs.Prelude.{◌≡◌, ℕ, ◌+◌, List, ◌++◌, length, codes, decimal}
use Rattle.std.specs.List.{flat_map}
use Rattle.std.specs.FinMap.{entries}
use Rattle.ts_journal.specs.Journal.{page_count, pages}
use Rattle.ts_model.specs.Catalogue.{Catalogue, Container, series_in}
use Rattle.ts_model.specs.Charge.{container_charge}
use Rattle.ts_layout.specs.Meaning.{Layout, IsLaidOut}
use Rattle.ts_layout.specs.Surveyed.{free_pages}
use Rattle.ts_volume.specs.Volume.{MeansCatalogue}
use Rattle.ts_volume.specs.FirstBad.{IsFirstBadOf}
use Rattle.ts_check.specs.declared.verdict.Verdict.{Verdict}
use Rattle.ts_check.specs.declared.verdict.Verdict.TheVariants.{Good, Bad}

-- a container of a name that is charged so many pages of a quota, and has so many series
unfoldable pub container_line : List ℕ → ℕ → ℕ → ℕ → List ℕ
container_line name charge quota series =
    codes "container " ++ name ++ codes " charge " ++ decimal charge ++ codes " of " ++ decimal quota
    ++ codes " series " ++ decimal series
    ++ codes "\n"

-- so many element pages aren't free, of so many
unfoldable pub pages_line : ℕ → ℕ → List ℕ
pages_line used pages = codes "ok " ++ decimal used ++ codes " of " ++ decimal pages ++ codes "\n"

-- the line of a container of a catalogue, which stands there under its name
abbrev pub line_of_container : Catalogue → List ℕ × Container → List ℕ
line_of_container cat e = container_line e.0 (container_charge e.0 cat) e.1.quota (length (series_in e.0 cat))

-- what is said of a volume that means a catalogue and has so many pages in use: a line for each container, in the order
-- of their names, and one for the pages
abbrev pub report : Catalogue → ℕ → List ℕ
report cat used = flat_map (line_of_container cat) (entries cat.containers) ++ pages_line used cat.pages

-- what is said of a volume whose first bad page this is
unfoldable pub bad_line : ℕ → List ℕ
bad_line page = codes "bad page " ++ decimal page ++ codes "\n"

-- so many element pages aren't free, of the pages that a volume has by its journal
pub record IsUsed (bytes : List ℕ) (used : ℕ) : Type 0 where
  pub layout : Layout
  pub laid : IsLaidOut (page_count (length bytes)) (pages bytes) layout
  pub counted : used + length (free_pages layout) ≡ length layout.element_pages

-- the bytes of a volume mean a catalogue, and this is the report on it
pub record IsGoodReport (bytes said : List ℕ) : Type 0 where
  pub cat : Catalogue
  pub used : ℕ
  pub means : MeansCatalogue bytes cat
  pub counted : IsUsed bytes used
  pub is : said ≡ report cat used

-- what is said of the bytes of a volume by what was found: the report, or which page is the first bad one
abbrev pub IsReport : List ℕ → Verdict → List ℕ → Type 0
IsReport bytes Good said = IsGoodReport bytes said
IsReport bytes (Bad page) said = IsFirstBadOf bytes page × (said ≡ bad_line page)
