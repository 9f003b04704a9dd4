-- What holds of charges and quotas.
use Rattle.std.specs.Prelude.{◌≡◌, ◌≢◌, ◌+◌, ◌<◌, ◌≤◌, ℕ, Some, length, List}
use Rattle.ts_row.specs.Row.{Heading}
use Rattle.ts_space.specs.Directory.{Directory, places_of}
use Rattle.ts_row.specs.declared.kind.Column.{Column}
use Rattle.ts_regular.specs.RegularPage.{OffsetElement, AreRising}
use Rattle.ts_sheets.specs.Charge.{charge_of}
use Rattle.ts_sheets.specs.Stamped.{stamped, HaveStarts}
use Rattle.ts_calendar.specs.Calendars.{IsLaid}
use Rattle.ts_offset.specs.Grid.{GridPlan}
use Rattle.ts_offset.specs.declared.shape.Shape.{Shape}
use Rattle.ts_offset.specs.declared.shape.Shape.TheVariants.{Regular}
use Rattle.ts_cells.specs.IrregularPage.{page_room}
use Rattle.ts_model.specs.Catalogue.{Elements, columns_of, quota_of}
use Rattle.ts_model.specs.Charge.{elements_charge, container_charge as charge_by_name}
use Rattle.ts_model.specs.Definitions.{Definitions, ContainerDef, SeriesDef, series_slots, at_slot, IsDefinitions}
use Rattle.ts_layout.specs.Meaning.{Layout, AreSound, IsSound, heading_of_container, heading_at, shape_of}
use Rattle.ts_layout.specs.Meaning.{charge_of_container, elements_at, series_of, catalogue_of}
use Rattle.ts_layout.specs.Surveyed.{ListsPlaces}
use Rattle.ts_layout.specs.Chains.{by_stamp, AreFilled, with_elements_at}
use Rattle.ts_layout.specs.Held.{IsHeldOf}
use Rattle.ts_layout.specs.Charges.{AreCountable, places_charge, container_charge, KeepQuotas}
use Rattle.ts_layout.specs.Placed.{AreKept}

-- where no container is charged more than its quota, there are pages for what a series may be charged beside the others
-- of its container
pub record QuotasLeaveRoom : Type 0 where
  pub quotas : (l : Layout) (space : Directory) → IsSound l → ListsPlaces space l → KeepQuotas l.definitions space
  pub room : (l : Layout) (space : Directory) (free : List ℕ) (count slot more : ℕ) (s : SeriesDef) (c : ContainerDef)
      (h : Heading)
      → IsHeldOf l.definitions space count free l → length space.lists ≡ series_slots → slot < series_slots
      → at_slot slot l.definitions.series ≡ Some s → at_slot s.container l.definitions.containers ≡ Some c
      → heading_of_container l.definitions c ≡ Some h
      → container_charge l.definitions space s.container (page_room h.columns) + more
      ≤ c.quota + places_charge (page_room h.columns) s.regular (places_of slot space)
      → more ≤ length free + length (places_of slot space)
  pub countable : (d : Definitions) (space : Directory) (free : List ℕ) (count : ℕ) → AreKept d space free count
      → AreCountable space

-- what containers are charged by places is what they are charged by pages and by names, and what changes with the
-- places of one series
pub record ChargesFollowPlaces : Type 0 where
  pub pages : (l : Layout) (space : Directory) (container room : ℕ) → IsDefinitions l.definitions → ListsPlaces space l
      → container_charge l.definitions space container room ≡ charge_of_container l container room
  pub own : (d : Definitions) (space space' : Directory) (slot : ℕ) (s : SeriesDef) (room : ℕ) → IsDefinitions d
      → at_slot slot d.series ≡ Some s
      → ((t : ℕ) → t < series_slots → t ≢ slot → places_of t space' ≡ places_of t space)
      → container_charge d space' s.container room + places_charge room s.regular (places_of slot space)
      ≡ container_charge d space s.container room + places_charge room s.regular (places_of slot space')
  pub others : (d : Definitions) (space space' : Directory) (slot : ℕ) (s : SeriesDef) (container room : ℕ)
      → IsDefinitions d
      → at_slot slot d.series ≡ Some s
      → ((t : ℕ) → t < series_slots → t ≢ slot → places_of t space' ≡ places_of t space)
      → container ≢ s.container → container_charge d space' container room ≡ container_charge d space container room
  pub name : (l : Layout) (slot : ℕ) (c : ContainerDef) (h : Heading) → IsSound l → AreFilled l
      → at_slot slot l.definitions.containers ≡ Some c → heading_of_container l.definitions c ≡ Some h
      → charge_by_name c.name (catalogue_of l) ≡ charge_of_container l slot (page_room h.columns)
  pub with : (l : Layout) (pages slot : ℕ) (s : SeriesDef) (c : ContainerDef) (h : Heading) (shape : Shape)
      (es : Elements) → AreSound pages l.definitions
      → at_slot slot l.definitions.series ≡ Some s → at_slot s.container l.definitions.containers ≡ Some c
      → heading_of_container l.definitions c ≡ Some h → shape_of l.definitions s.regular ≡ Some shape
      → charge_by_name c.name (with_elements_at slot s es l) + elements_charge h.columns shape
      (elements_at slot l.element_pages)
      ≡ charge_by_name c.name (catalogue_of l) + elements_charge h.columns shape es
  pub elements : (l : Layout) (space : Directory) (slot : ℕ) (s : SeriesDef) (h : Heading) (shape : Shape) → IsSound l
      → AreFilled l
      → ListsPlaces space l → slot < series_slots → at_slot slot l.definitions.series ≡ Some s
      → heading_at l.definitions slot ≡ Some h
      → shape_of l.definitions s.regular ≡ Some shape
      → elements_charge h.columns shape (elements_at slot l.element_pages)
      ≡ places_charge (page_room h.columns) s.regular (places_of slot space)
  pub offsets : (grid : GridPlan) (columns : List Column) (es : List OffsetElement) → IsLaid grid.calendar
      → HaveStarts grid es → AreRising es
      → elements_charge columns (Regular grid) (by_stamp (stamped grid es)) ≡ charge_of columns es
  pub columns : (l : Layout) (pages slot : ℕ) (s : SeriesDef) (c : ContainerDef) (h : Heading)
      → AreSound pages l.definitions
      → at_slot s.container l.definitions.containers ≡ Some c → heading_of_container l.definitions c ≡ Some h
      → columns_of (catalogue_of l) (series_of l slot s) ≡ h.columns
  pub quota : (l : Layout) (pages slot : ℕ) (s : SeriesDef) (c : ContainerDef) → AreSound pages l.definitions
      → at_slot s.container l.definitions.containers ≡ Some c → quota_of (catalogue_of l) (series_of l slot s) ≡ c.quota

-- the places of a series may change where its container is then charged its quota at most
pub record QuotasFollowPlaces : Type 0 where
  pub put : (d : Definitions) (space space' : Directory) (pages slot : ℕ) (s : SeriesDef) (c : ContainerDef)
      (h : Heading)
      → AreSound pages d → KeepQuotas d space → at_slot slot d.series ≡ Some s → at_slot s.container d.containers
      ≡ Some c
      → heading_of_container d c ≡ Some h
      → ((t : ℕ) → t < series_slots → t ≢ slot → places_of t space' ≡ places_of t space)
      → container_charge d space' s.container (page_room h.columns) ≤ c.quota → KeepQuotas d space'
