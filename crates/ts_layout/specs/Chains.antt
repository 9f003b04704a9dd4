-- The pages of series in a layout, and layouts in which one series has other pages.
use Rattle.std.specs.Prelude.{◌≡◌, ℕ, pos, unwrap_or, ◌-◌, ◌≤◌, ◌==◌, if◌then◌else◌, ◌++◌, Some, None, Contains}
use Rattle.std.specs.Prelude.{IsPermutation, List, [], ◌∷◌, length, map, All, replicate, slice_set}
use Rattle.std.specs.FinMap.{from_entries}
use Rattle.ts_row.specs.declared.kind.Column.{Column}
use Rattle.ts_row.specs.Row.{Heading}
use Rattle.ts_page.specs.Pages.{first_element_page, IsFreePage, Contents}
use Rattle.ts_space.specs.declared.place.Place.{Place}
use Rattle.ts_space.specs.Place.{IsRising, count_of, pages_of}
use Rattle.ts_cells.specs.IrregularPage.{Element, page_room, first_stamp}
use Rattle.ts_regular.specs.RegularPage.{elements_from}
use Rattle.ts_regular.specs.Places.{OffsetPage, AreOn, all_in as all_at}
use Rattle.ts_sheets.specs.Stamped.{stamped, HaveStarts, IsChain, all_in}
use Rattle.ts_offset.specs.Grid.{GridPlan}
use Rattle.ts_offset.specs.declared.shape.Shape.{Shape}
use Rattle.ts_sheets.specs.Places.{AreChained}
use Rattle.ts_model.specs.Catalogue.{Catalogue, Elements, with_named}
use Rattle.ts_model.specs.declared.kind.Kind.TheVariants as kinds
use Rattle.ts_model.specs.Definitions.{Definitions, ContainerDef, SeriesDef, at_slot, with_slot}
use Rattle.ts_layout.specs.Meaning.{AreOfFormat, ElementPage, Free, Cells, Layout, element_page, elements_at}
use Rattle.ts_layout.specs.Meaning.{heading_at, shape_at, heading_of_container, charge_of_container, series_of}
use Rattle.ts_layout.specs.Meaning.{catalogue_of}
use Rattle.ts_layout.specs.Sheets.{Sheet, FillSheet, AreInSequence, AreSheetsOn}

-- elements by their stamps
abbrev pub by_stamp : List Element → Elements
by_stamp es = from_entries es

-- the catalogue of a layout in which the series in a slot has these elements
abbrev pub with_elements_at : ℕ → SeriesDef → Elements → Layout → Catalogue
with_elements_at slot s es l = with_named kinds.Series s.key (record (series_of l slot s) { elements = es })
    (catalogue_of l)

-- a sheet is such as a page of the series in a slot can have, and its elements are of the format
pub record IsFilledFor (d : Definitions) (slot : ℕ) (sheet : Sheet) : Type 0 where
  pub heading : Heading
  pub shape : Shape
  pub columns : heading_at d slot ≡ Some heading
  pub lies : shape_at d slot ≡ Some shape
  pub fill : FillSheet shape heading.columns sheet
  pub of_format : AreOfFormat d.format sheet.1

-- each page of elements has those of a series that is defined
abbrev pub AreFilled : Layout → Type 0
AreFilled l = (i slot : ℕ) (sheet : Sheet) → element_page i l.element_pages ≡ Cells slot sheet
    → IsFilledFor l.definitions slot sheet

-- the container of the series in a slot is charged its quota at most
abbrev pub KeepsQuotaOf : ℕ → Layout → Type 0
KeepsQuotaOf slot l =
    (s : SeriesDef) (c : ContainerDef) (h : Heading) → at_slot slot l.definitions.series ≡ Some s
    → at_slot s.container l.definitions.containers ≡ Some c → heading_of_container l.definitions c ≡ Some h
    → charge_of_container l s.container (page_room h.columns) ≤ c.quota

-- A chain is all that an irregular series has: these pages hold it as its places tell, and its elements are those of
-- the series.
pub record IsChainOf (slot : ℕ) (columns : List Column) (pages : ℕ → List ℕ) (places : List Place) (l : Layout)
    (chain : List (List Element)) : Type 0 where
  pub is : IsChain columns chain
  pub on : AreChained slot columns pages places chain
  pub elements : elements_at slot l.element_pages ≡ by_stamp (all_in chain)
  pub count : count_of places ≡ length (all_in chain)
  pub of_format : AreOfFormat l.definitions.format (all_in chain)

-- Cells at offsets are all that a regular series has: these pages hold them as its places tell, and its elements are
-- theirs, each at the on start of its offset.
pub record IsOnGrid (grid : GridPlan) (slot : ℕ) (columns : List Column) (pages : ℕ → List ℕ) (places : List Place)
    (l : Layout) (ps : List OffsetPage) : Type 0 where
  pub on : AreOn slot columns pages places ps
  pub starts : HaveStarts grid (all_at ps)
  pub elements : elements_at slot l.element_pages ≡ by_stamp (stamped grid (all_at ps))
  pub count : count_of places ≡ length (all_at ps)
  pub of_format : AreOfFormat l.definitions.format (stamped grid (all_at ps))

-- the sheets of a chain, each from its first stamp on
abbrev pub chain_sheets : List (List Element) → List Sheet
chain_sheets chain = map (λ es. (unwrap_or (first_stamp es) (pos 0), es)) chain

-- the sheets of pages on a grid
abbrev pub grid_sheets : GridPlan → List OffsetPage → List Sheet
grid_sheets grid ps = map (λ p. (pos p.0, stamped grid (elements_from p.0 p.1))) ps

-- an element page, free where it has elements of the series in a slot
abbrev pub freed : ℕ → ElementPage → ElementPage
freed slot Free = Free
freed slot (Cells s sheet) = if s == slot then Free else Cells s sheet

-- the pages of these numbers have these sheets
abbrev pub with_sheets : ℕ → List ℕ → List Sheet → List ElementPage → List ElementPage
with_sheets slot [] sheets pages = pages
with_sheets slot (number ∷ numbers) [] pages = pages
with_sheets slot (number ∷ numbers) (sheet ∷ sheets) pages = slice_set (with_sheets slot numbers sheets pages)
    (number - first_element_page) (Cells slot sheet)

-- the layout in which the series in a slot has these pages with these sheets, and no others
abbrev pub rewritten : ℕ → List ℕ → List Sheet → Layout → Layout
rewritten slot numbers sheets l =
    record l { element_pages = with_sheets slot numbers sheets (map (freed slot) l.element_pages) }

-- The places of a series and its pages become others, which have these sheets: they are of the pages that were free or
-- its own; what is free then is so; and no other page changes.
pub record IsRewritten (shape : Shape) (slot : ℕ) (columns : List Column) (old new : List Place) (sheets : List Sheet)
    (v w : Contents) : Type 0 where
  pub is : AreInSequence shape columns sheets
  pub on : AreSheetsOn shape slot columns w.page new sheets
  pub rising : IsRising new
  pub pages : IsPermutation (v.free ++ pages_of old) (w.free ++ pages_of new)
  pub freed : All (λ number. IsFreePage (w.page number)) w.free
  pub others : (number : ℕ) → ¬ Contains (pages_of old) number → ¬ Contains v.free number
      → w.page number ≡ v.page number

-- the layout without the series in a slot, and without its elements
abbrev pub without_series : ℕ → Layout → Layout
without_series slot l = record {
  definitions = with_slot kinds.Series slot None l.definitions;
  element_pages = map (freed slot) l.element_pages;
}

-- the pages of a series are freed, and no others change from the first element page on
pub record AreAllFreed (places : List Place) (v w : ℕ → List ℕ) : Type 0 where
  pub freed : (number : ℕ) → Contains (pages_of places) number → IsFreePage (w number)
  pub others : (number : ℕ) → first_element_page ≤ number → ¬ Contains (pages_of places) number → w number ≡ v number

-- a layout of these definitions, with so many free pages and no elements
abbrev pub bare : ℕ → Definitions → Layout
bare pages d = record { definitions = d; element_pages = replicate pages Free }
