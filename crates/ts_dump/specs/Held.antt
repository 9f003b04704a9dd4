-- What is in memory of a volume that was read.
use Rattle.std.specs.Prelude.{◌≡◌, ℕ, ◌*◌, Bool, IsTrue, Result, Ok, Err, IfOk, List, [], ◌∷◌}
use Rattle.ts_disk.specs.Device.{Device}
use Rattle.ts_page.specs.Pages.{page_size}
use Rattle.ts_journal.specs.Journal.{pages}
use Rattle.ts_store.specs.OpenBatch.{State, committed_pages}
use Rattle.ts_row.specs.declared.kind.Column.{Column}
use Rattle.ts_row.specs.Row.{Element}
use Rattle.ts_offset.specs.declared.shape.Shape.{Shape}
use Rattle.ts_clip.specs.Series.{HaveOnPlaces}
use Rattle.ts_space.specs.declared.place.Place.{Place}
use Rattle.ts_space.specs.Directory.{Directory}
use Rattle.ts_model.specs.Definitions.{Definitions}
use Rattle.ts_layout.specs.Meaning.{Layout, HoldsLayout, IsSound}
use Rattle.ts_layout.specs.Surveyed.{ListsPlaces}
use Rattle.ts_layout.specs.Chains.{AreFilled}
use Rattle.ts_layout.specs.Placed.{AreKept}
use Rattle.ts_container.specs.declared.fault.SurveyFault.{SurveyFault}
use Rattle.ts_container.specs.declared.surveyed.Surveyed.{Surveyed}
use Rattle.ts_check.specs.Checked.{VolumeSurveyed}
use Rattle.ts_dump.specs.declared.opened.Opened.{Opened}

-- a store is that of a volume: what it puts over the pages in their places makes those of the volume
pub record IsStoreOf (tells : Bool) (s : State) (v : Device) : Type 0 where
  pub size : v.size ≡ page_size * s.pages
  pub reads : IsTrue tells → committed_pages s v.held ≡ pages v.held

-- these definitions and places are those of a layout that the pages hold
pub record IsLayoutOf (d : Definitions) (space : Directory) (bytes : List ℕ) (l : Layout) : Type 0 where
  pub definitions : d ≡ l.definitions
  pub places : ListsPlaces space l
  pub filled : AreFilled l
  pub rules : IsSound l
  pub holds : HoldsLayout (pages bytes) l

-- what is kept in memory keeps its rules, and the store is that of the volume
pub record IsOpen (tells : Bool) (opened : Opened) (v : Device) : Type 0 where
  pub store : IsStoreOf tells opened.store v
  pub kept : AreKept opened.found.defs.definitions opened.found.space opened.found.free.items opened.store.pages

-- what was found, or why not
abbrev pub found_in : Result Opened SurveyFault → Result Surveyed SurveyFault
found_in (Ok opened) = Ok opened.found
found_in (Err fault) = Err fault

-- a volume was read and judged, and can be read on
pub record VolumeOpened (tells : Bool) (result : Result Opened SurveyFault) (v w : Device) : Type 0 where
  pub surveyed : VolumeSurveyed tells (found_in result) v w
  pub ready : IfOk result (λ opened. IsOpen tells opened w)

-- pages have these elements, place by place
abbrev pub HaveParts : Shape → ℕ → List Column → (ℕ → List ℕ) → List Place → List (List Element) → Type 0
HaveParts shape slot columns pages [] [] = Unit {0}
HaveParts shape slot columns pages [] (es ∷ parts) = ⊥
HaveParts shape slot columns pages (place ∷ places) [] = ⊥
HaveParts shape slot columns pages (place ∷ places) (es ∷ parts) =
    HaveOnPlaces shape slot columns pages (place ∷ []) es × HaveParts shape slot columns pages places parts
