-- What holds of layouts and of their catalogues.
use Rattle.std.specs.Prelude.{◌≡◌, ◌+◌, ◌<◌, ℕ, ℤ, true, false, Option, Some, None, List, length}
use Rattle.std.specs.FinMap.{empty, get, len}
use Rattle.ts_page.specs.Pages.{first_element_page, EqualPages, with_page}
use Rattle.ts_space.specs.Directory.{Directory}
use Rattle.ts_model.specs.declared.kind.Kind.{Kind}
use Rattle.ts_model.specs.declared.kind.Kind.TheVariants as kinds
use Rattle.ts_model.specs.declared.def.Def.{Def}
use Rattle.ts_calendar.specs.declared.text.PatternPart.TheVariants.{Named, Own}
use Rattle.ts_offset.specs.declared.shape.Shape.{Shape}
use Rattle.ts_offset.specs.Grid.{IsOnStart}
use Rattle.ts_model.specs.Catalogue.{Irregular, Regular, Catalogue, calendar_of, shape_of, heading_of, quotas, In}
use Rattle.ts_model.specs.Catalogue.{named, with_named, without, is_used}
use Rattle.ts_model.specs.Definitions.{RowTypeDef, PatternDef, CalendarDef, ContainerDef, SeriesDef, KindDef, kind_of}
use Rattle.ts_model.specs.Definitions.{name_of, name_in, to_def, table_of, limit, slots, at_slot, slot_of, vacant_slot}
use Rattle.ts_model.specs.Definitions.{with_slot, IsUsed}
use Rattle.ts_layout.specs.Slot.{page_of_slot}
use Rattle.ts_layout.specs.Meaning.{Layout, def_at, heading_at, shape_at, sum_of_quotas, HoldsDefinitions, HoldsLayout}
use Rattle.ts_layout.specs.Meaning.{IsSound, IsLaidOut, Means, text_of, container_of, series_of, value_of, catalogue_of}
use Rattle.ts_layout.specs.Changed.{with_slot_bytes, SameOutsideJournal, layout_with, KeepsElements, HasNoPage, CanMake}
use Rattle.ts_layout.specs.Changed.{CanDrop}
use Rattle.ts_layout.specs.Placed.{AreKept}
use Rattle.ts_layout.specs.Lookup.{IsNamedAt}

-- pages are laid out in one way at most, and so mean one catalogue at most
pub record PagesMeanOneCatalogue : Type 0 where
  pub definitions : (count : ℕ) (pages : ℕ → List ℕ) (k l : Layout) → IsLaidOut count pages k → IsLaidOut count pages l
      → k.definitions ≡ l.definitions
  pub element_pages : (count : ℕ) (pages : ℕ → List ℕ) (k l : Layout) → IsLaidOut count pages k
      → IsLaidOut count pages l
      → k.element_pages ≡ l.element_pages
  pub layout : (count : ℕ) (pages : ℕ → List ℕ) (k l : Layout) → IsLaidOut count pages k → IsLaidOut count pages l
      → k ≡ l
  pub catalogue : (count : ℕ) (pages : ℕ → List ℕ) (a b : Catalogue) → Means count pages a → Means count pages b → a ≡ b

-- what stands in the journal, and behind the heads of free pages, means nothing
abbrev pub OtherBytesMeanNothing : Type 0
OtherBytesMeanNothing =
    (wanted pages : ℕ → List ℕ) (l : Layout) → SameOutsideJournal wanted pages → HoldsLayout wanted l
    → HoldsLayout pages l

-- a slot that is written changes the definitions, and neither the header nor the element pages
abbrev pub WrittenSlotsChangeDefinitions : Type 0
WrittenSlotsChangeDefinitions =
    (kind : Kind) (slot : ℕ) (def : Option Def) (v w : ℕ → List ℕ) (l : Layout) → slot < limit kind
    → HoldsLayout v l
    → EqualPages
    (with_page (page_of_slot kind slot) (with_slot_bytes kind slot def (v (page_of_slot kind slot))) v) w
    → HoldsDefinitions w (with_slot kind slot def l.definitions)
    → KeepsElements (with_slot kind slot def l.definitions) l
    → HoldsLayout w (layout_with kind slot def l)

-- a definition that is made adds its name, and elements keep their columns; in the catalogue it has names in place of
-- slots
pub record DefinitionsAreMade : Type 0 where
  pub rules : (slot : ℕ) (def : Def) (l : Layout) → IsSound l → CanMake slot def l
      → IsSound (layout_with (kind_of def) slot (Some def) l)
  pub headings : (slot : ℕ) (def : Def) (l : Layout) → IsSound l → CanMake slot def l
      → KeepsElements (with_slot (kind_of def) slot (Some def) l.definitions) l
  pub kept : (l : Layout) → IsSound l → (space : Directory) (free : List ℕ) (count : ℕ)
      → count ≡ first_element_page + length l.element_pages → AreKept l.definitions space free count
      → (slot : ℕ) (def : Def)
      → CanMake slot def l → AreKept (with_slot (kind_of def) slot (Some def) l.definitions) space free count
  pub catalogue : (slot : ℕ) (def : Def) (l : Layout) → IsSound l → CanMake slot def l → (a : KindDef (kind_of def))
      → to_def (kind_of def) a ≡ def
      → catalogue_of (layout_with (kind_of def) slot (Some def) l)
      ≡ with_named (kind_of def) (name_of def) (value_of (kind_of def) l slot a) (catalogue_of l)
  pub calendar_named : (l : Layout) (c : CalendarDef) (slot : ℕ) (name : List ℕ) → c.by ≡ Some slot
      → slot_of name (slots kinds.Pattern l.definitions) ≡ Some slot
      → text_of l.definitions c ≡ record {
        start = c.calendar.start;
        patt_start = c.calendar.patt_start;
        part =
            Named name;
      }
  pub calendar_own : (l : Layout) (c : CalendarDef) → c.by ≡ None
      → text_of l.definitions c ≡ record {
        start = c.calendar.start;
        patt_start = c.calendar.patt_start;
        part =
            Own c.calendar.pattern;
      }
  pub container : (l : Layout) (c : ContainerDef) (holder : List ℕ) → slot_of holder (slots kinds.RowType l.definitions)
      ≡ Some c.row_type
      → container_of l.definitions c ≡ record { row_type = holder; quota = c.quota }
  pub irregular : (l : Layout) (slot : ℕ) (s : SeriesDef) (holder : List ℕ) → HasNoPage slot l.element_pages
      → slot_of holder (slots kinds.Container l.definitions) ≡ Some s.container → s.regular ≡ None
      → series_of l slot s ≡ record { container = holder; kind = Irregular; elements = empty }
  pub regular : (l : Layout) (slot at : ℕ) (origin : ℤ) (s : SeriesDef) (holder calendar : List ℕ)
      → HasNoPage slot l.element_pages
      → slot_of holder (slots kinds.Container l.definitions) ≡ Some s.container → s.regular ≡ Some (at, origin)
      → slot_of calendar (slots kinds.Calendar l.definitions) ≡ Some at
      → series_of l slot s ≡ record { container = holder; kind = Regular calendar origin; elements = empty }
  pub no_page : (pages : ℕ → List ℕ) (slot : ℕ) (l : Layout) → HoldsLayout pages l
      → def_at kinds.Series slot l.definitions ≡ None
      → HasNoPage slot l.element_pages

-- a definition that has no pages and to which nothing refers is dropped: its name goes, and elements keep their columns
pub record DefinitionsAreDropped : Type 0 where
  pub rules : (kind : Kind) (slot : ℕ) (name : List ℕ) (l : Layout) → IsSound l → CanDrop kind slot name l
      → IsSound (layout_with kind slot None l)
  pub headings : (kind : Kind) (slot : ℕ) (name : List ℕ) (l : Layout) → IsSound l → CanDrop kind slot name l
      → KeepsElements (with_slot kind slot None l.definitions) l
  pub kept : (l : Layout) → IsSound l → (space : Directory) (free : List ℕ) (count : ℕ)
      → count ≡ first_element_page + length l.element_pages → AreKept l.definitions space free count
      → (kind : Kind) (slot : ℕ) (name : List ℕ) → CanDrop kind slot name l
      → AreKept (with_slot kind slot None l.definitions) space free count
  pub catalogue : (kind : Kind) (slot : ℕ) (name : List ℕ) (l : Layout) → IsSound l → CanDrop kind slot name l
      → catalogue_of (layout_with kind slot None l) ≡ without kind name (catalogue_of l)

-- each definition's name has its slot, and stands in the catalogue for what is there; no other does
pub record NamesStandInSlots : Type 0 where
  pub at : (kind : Kind) (l : Layout) (slot : ℕ) (a : KindDef kind) → IsSound l
      → at_slot slot (table_of kind l.definitions) ≡ Some a
      → IsNamedAt kind l slot (name_in kind a) a
  pub found : (kind : Kind) (l : Layout) (name : List ℕ) (slot : ℕ) → IsSound l
      → slot_of name (slots kind l.definitions) ≡ Some slot
      → (a : KindDef kind) × IsNamedAt kind l slot name a
  pub listed : (kind : Kind) (l : Layout) (name : List ℕ) (value : In kind) → IsSound l
      → get (named kind (catalogue_of l)) name ≡ Some value
      → (slot : ℕ) × (a : KindDef kind) × IsNamedAt kind l slot name a × (value ≡ value_of kind l slot a)
  pub none_found : (kind : Kind) (l : Layout) (name : List ℕ) → slot_of name (slots kind l.definitions) ≡ None
      → get (named kind (catalogue_of l)) name ≡ None
  pub none_listed : (kind : Kind) (l : Layout) (name : List ℕ) → get (named kind (catalogue_of l)) name ≡ None
      → slot_of name (slots kind l.definitions) ≡ None

-- what a definition refers to stands in the catalogue under the name that it gives; a calendar's text stands for the
-- one in the slot, and the kind of a series for the grid of the calendar in its slot
pub record ReferencesAreNames : Type 0 where
  pub pattern : (l : Layout) (slot at : ℕ) (c : CalendarDef) → IsSound l → at_slot slot l.definitions.calendars ≡ Some c
      → c.by ≡ Some at
      → (name : List ℕ) × (p : PatternDef) × ((text_of l.definitions c).part ≡ Named name)
      × IsNamedAt kinds.Pattern l at name p × (p.pattern ≡ c.calendar.pattern)
  pub calendar : (l : Layout) (slot : ℕ) (c : CalendarDef) → IsSound l → at_slot slot l.definitions.calendars ≡ Some c
      → calendar_of (catalogue_of l) (text_of l.definitions c) ≡ Some c.calendar
  pub row_type : (l : Layout) (slot : ℕ) (c : ContainerDef) → IsSound l → at_slot slot l.definitions.containers ≡ Some c
      → (r : RowTypeDef) × IsNamedAt kinds.RowType l c.row_type (container_of l.definitions c).row_type r
  pub container : (l : Layout) (slot : ℕ) (s : SeriesDef) → IsSound l → at_slot slot l.definitions.series ≡ Some s
      → (c : ContainerDef) × IsNamedAt kinds.Container l s.container (series_of l slot s).container c
  pub grid : (l : Layout) (slot at : ℕ) (origin : ℤ) (s : SeriesDef) → IsSound l → at_slot slot l.definitions.series
      ≡ Some s
      → s.regular ≡ Some (at, origin)
      → (name : List ℕ) × (c : CalendarDef) × ((series_of l slot s).kind ≡ Regular name origin)
      × IsNamedAt kinds.Calendar l at name c
      × IsOnStart c.calendar origin
  pub shape : (l : Layout) (slot : ℕ) (s : SeriesDef) → IsSound l → at_slot slot l.definitions.series ≡ Some s
      → (shape : Shape) × (shape_at l.definitions slot ≡ Some shape)
      × (shape_of (catalogue_of l) (series_of l slot s).kind ≡ Some shape)
  pub columns : (l : Layout) (slot : ℕ) (s : SeriesDef) → IsSound l → at_slot slot l.definitions.series ≡ Some s
      → heading_of (catalogue_of l) (series_of l slot s) ≡ heading_at l.definitions slot

-- the catalogue is full exactly where no slot is empty; the quotas of slots are those of the catalogue
pub record SlotsAreCounted : Type 0 where
  pub vacant : (kind : Kind) (slot : ℕ) (l : Layout) → IsSound l → vacant_slot (slots kind l.definitions) ≡ Some slot
      → (slot < limit kind) × (def_at kind slot l.definitions ≡ None)
  pub fewer : (kind : Kind) (l : Layout) (slot : ℕ) → IsSound l → vacant_slot (slots kind l.definitions) ≡ Some slot
      → len (named kind (catalogue_of l)) < limit kind
  pub full : (kind : Kind) (l : Layout) → IsSound l → vacant_slot (slots kind l.definitions) ≡ None
      → len (named kind (catalogue_of l)) ≡ limit kind
  pub quotas : (l : Layout) → IsSound l → sum_of_quotas l.definitions.containers ≡ quotas (catalogue_of l)

-- something in the catalogue refers to a name exactly where a filled slot refers to that name's slot
pub record DefinitionsAreUsedBySlots : Type 0 where
  pub used : (kind : Kind) (slot : ℕ) (name : List ℕ) (l : Layout) → IsSound l → slot_of name (slots kind l.definitions)
      ≡ Some slot
      → IsUsed kind slot l.definitions → is_used kind name (catalogue_of l) ≡ true
  pub user : (kind : Kind) (slot : ℕ) (name : List ℕ) (l : Layout) → IsSound l → slot_of name (slots kind l.definitions)
      ≡ Some slot
      → is_used kind name (catalogue_of l) ≡ true → IsUsed kind slot l.definitions
  pub unused : (kind : Kind) (slot : ℕ) (name : List ℕ) (l : Layout) → IsSound l
      → slot_of name (slots kind l.definitions) ≡ Some slot
      → (IsUsed kind slot l.definitions → ⊥) → is_used kind name (catalogue_of l) ≡ false
  pub idle : (kind : Kind) (slot : ℕ) (name : List ℕ) (l : Layout) → IsSound l → slot_of name (slots kind l.definitions)
      ≡ Some slot
      → is_used kind name (catalogue_of l) ≡ false → IsUsed kind slot l.definitions → ⊥
