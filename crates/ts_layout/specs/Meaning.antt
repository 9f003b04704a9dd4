-- What pages mean: definitions within their limits, the pages laid out from definitions and elements, and the
-- catalogue.
use Rattle.std.specs.Prelude.{◌≡◌, ℕ, ℤ, ◌<◌, ◌≤◌, ◌==◌, if◌then◌else◌, IsSome, IsPermutation, false, IsTrue, Option}
use Rattle.std.specs.Prelude.{Some, None, option_and_then, option_map, unwrap_or, IfSome, suc, ◌+◌, ◌-◌, List, [], ◌∷◌}
use Rattle.std.specs.Prelude.{length, drop, replicate, slice_index_or, sum_by}
use Rattle.std.specs.List.{list_all, flat_map}
use Rattle.std.specs.FinMap.{from_entries}
use Rattle.ts_base.specs.Name.{is_name, is_key}
use Rattle.ts_base.specs.Moment.{IsStamp}
use Rattle.ts_row.specs.declared.kind.Column.{Column}
use Rattle.ts_row.specs.Row.{Heading, is_row_type, has_long_decimal, Element, has_hidden}
use Rattle.ts_pattern.specs.Patterns.{is_pattern}
use Rattle.ts_calendar.specs.Calendars.{IsValid}
use Rattle.ts_calendar.specs.declared.text.PatternPart.{PatternPart}
use Rattle.ts_calendar.specs.declared.text.PatternPart.TheVariants.{Named as ByName, Own}
use Rattle.ts_calendar.specs.declared.text.CalendarText.{CalendarText}
use Rattle.ts_offset.specs.declared.shape.Shape.{Shape}
use Rattle.ts_offset.specs.declared.shape.Shape.TheVariants as shapes
use Rattle.ts_offset.specs.Grid.{GridPlan, IsOnStart}
use Rattle.ts_space.specs.Charge.{irregular_charge}
use Rattle.ts_page.specs.Pages.{most_element_pages, page_size, first_element_page, bytes_at, IsFreePage}
use Rattle.ts_cells.specs.IrregularPage.{page_room}
use Rattle.ts_model.specs.Catalogue.{old_format, Named, Catalogue, Container, SeriesKind, Series, Elements}
use Rattle.ts_model.specs.Catalogue.{Irregular as AnyStamps, Regular as OnCalendar, In}
use Rattle.ts_model.specs.declared.kind.Kind.{Kind}
use Rattle.ts_model.specs.declared.kind.Kind.TheVariants as kinds
use Rattle.ts_model.specs.declared.def.Def.{Def}
use Rattle.ts_model.specs.declared.def.Def.TheVariants as defs
use Rattle.ts_model.specs.Definitions.{RowTypeDef, PatternDef, CalendarDef, ContainerDef, SeriesDef, KindDef, limit}
use Rattle.ts_model.specs.Definitions.{row_type_slots, pattern_slots, calendar_slots, container_slots, kind_of}
use Rattle.ts_model.specs.Definitions.{Definitions, name_in, table_of, at_slot, by_name, references, IsDefinitions}
pub use Rattle.ts_model.specs.Definitions.{def_at}
use Rattle.ts_layout.specs.Sheets.{Sheet, HoldsSheet, AreInSequence}
use Rattle.ts_layout.specs.Slot.{slot_size, slot_bytes, page_of_slot, byte_of_slot, first_definition_page}
use Rattle.ts_layout.specs.Slot.{slots_in_page, bytes_of_slots, header_bytes}

-- The limits that each definition keeps by itself, and what the format of a volume asks.

-- what a volume of a format asks of a row type: in the old one no decimal has over 18 digits
abbrev pub IsOfFormat : ℕ → Heading → Type 0
IsOfFormat format heading = format ≡ old_format → has_long_decimal heading.columns ≡ false

-- what it asks of the elements of a page: in the old one none is hidden
abbrev pub AreOfFormat : ℕ → List Element → Type 0
AreOfFormat format es = format ≡ old_format → has_hidden es ≡ false

-- names of words, and columns that make a row type of the format
pub record IsRowTypeDef (format : ℕ) (r : RowTypeDef) : Type 0 where
  pub name : IsTrue (is_name r.name)
  pub stamp : IsTrue (is_name r.heading.stamp)
  pub columns : IsTrue (list_all (λ c. is_name c.name) r.heading.columns)
  pub rules : IsTrue (is_row_type r.heading.stamp r.heading.columns)
  pub of_format : IsOfFormat format r.heading

-- a name, and merged runs within the limits
pub record IsPatternDef (p : PatternDef) : Type 0 where
  pub name : IsTrue (is_name p.name)
  pub runs : IsTrue (is_pattern p.pattern.runs)

-- a name, two stamps, merged runs within the limits, and the slot of a pattern, if there is one
pub record IsCalendarDef (c : CalendarDef) : Type 0 where
  pub name : IsTrue (is_name c.name)
  pub start : IsStamp c.calendar.start
  pub patt_start : IsStamp c.calendar.patt_start
  pub runs : IsTrue (is_pattern c.calendar.pattern.runs)
  pub by : IfSome c.by (λ slot. slot < pattern_slots)

-- a name, a slot of a row type, and a quota of 1 to 65536 pages
pub record IsContainerDef (c : ContainerDef) : Type 0 where
  pub name : IsTrue (is_name c.name)
  pub row_type : c.row_type < row_type_slots
  pub some : 1 ≤ c.quota
  pub most : c.quota ≤ most_element_pages

-- the slot of a calendar, and a stamp
pub record IsRegularPart (regular : ℕ × ℤ) : Type 0 where
  pub calendar : regular.0 < calendar_slots
  pub origin : IsStamp regular.1

-- a key, a slot of a container, and for a regular series the slot of a calendar and a stamp
pub record IsSeriesDef (s : SeriesDef) : Type 0 where
  pub key : IsTrue (is_key s.key)
  pub container : s.container < container_slots
  pub regular : IfSome s.regular IsRegularPart

-- a definition of any kind, in a volume of a format
abbrev pub IsDef : ℕ → Def → Type 0
IsDef format (defs.RowType name kind) = IsRowTypeDef format (record { name = name; heading = kind })
IsDef format (defs.Pattern name pattern) = IsPatternDef (record { name = name; pattern = pattern })
IsDef format (defs.Calendar name calendar by) = IsCalendarDef (record { name = name; calendar = calendar; by = by })
IsDef format (defs.Container name row_type quota) =
    IsContainerDef (record { name = name; row_type = row_type; quota = quota })
IsDef format (defs.Series key container regular) =
    IsSeriesDef (record { key = key; container = container; regular = regular })

-- an empty slot, or a definition of the kind
abbrev pub IsSlotOf : ℕ → Kind → Option Def → Type 0
IsSlotOf format kind None = Unit {0}
IsSlotOf format kind (Some def) = (kind_of def ≡ kind) × IsDef format def

-- What the pages of a volume mean: they are laid out from definitions and elements that keep the rules, and mean the
-- catalogue of these.

-- an element page: free, or with a sheet of the series in a slot
pub data ElementPage : Type 0 where
  Free : ElementPage
  Cells : ℕ → Sheet → ElementPage

-- what a volume is laid out from: its definitions in their slots, and what stands on each of its element pages
pub record Layout : Type 0 where
  pub definitions : Definitions
  pub element_pages : List ElementPage

-- the element page of that number, counted from 0
abbrev pub element_page : ℕ → List ElementPage → ElementPage
element_page i pages = slice_index_or pages i Free

-- the columns of a container's elements, by the slot of its row type
abbrev pub heading_of_container : Definitions → ContainerDef → Option Heading
heading_of_container d c = option_map (λ r. r.heading) (at_slot c.row_type d.row_types)

-- the columns of the elements of the container in a slot
abbrev pub heading_in : Definitions → ℕ → Option Heading
heading_in d slot = option_and_then (heading_of_container d) (at_slot slot d.containers)

-- the columns of the elements of the series in a slot
abbrev pub heading_at : Definitions → ℕ → Option Heading
heading_at d slot = option_and_then (λ s. heading_in d s.container) (at_slot slot d.series)

-- the grid of a calendar in a slot, and an origin
abbrev pub grid_in : Definitions → ℕ × ℤ → Option GridPlan
grid_in d regular = option_map (λ c. record { calendar = c.calendar; origin = regular.1 })
    (at_slot regular.0 d.calendars)

-- where the elements of a series can stand: at all stamps, or at the on starts of its grid
abbrev pub shape_of : Definitions → Option (ℕ × ℤ) → Option Shape
shape_of d None = Some shapes.Irregular
shape_of d (Some regular) = option_map shapes.Regular (grid_in d regular)

-- where those of the series in a slot can
abbrev pub shape_at : Definitions → ℕ → Option Shape
shape_at d slot = option_and_then (λ s. shape_of d s.regular) (at_slot slot d.series)

-- the bytes of a slot
abbrev pub bytes_of_slot : Kind → ℕ → (ℕ → List ℕ) → List ℕ
bytes_of_slot kind slot pages = bytes_at (byte_of_slot kind slot) (slot_size kind) (pages (page_of_slot kind slot))

-- the bytes of definitions, each in its slot; what is in no slot is zero
pub record HoldsDefinitions (pages : ℕ → List ℕ) (d : Definitions) : Type 0 where
  pub slots : (kind : Kind) (slot : ℕ) → slot < limit kind → bytes_of_slot kind slot pages
      ≡ slot_bytes kind (def_at kind slot d)
  pub behind : (number : ℕ) → first_definition_page ≤ number → number < first_element_page
      → drop (bytes_of_slots (slots_in_page number)) (pages number)
      ≡ replicate (page_size - bytes_of_slots (slots_in_page number)) 0

-- the page of a sheet of the series in a slot, of its columns, where its elements can stand, and in the format of the
-- volume
pub record HoldsSeries (d : Definitions) (page : List ℕ) (slot : ℕ) (sheet : Sheet) : Type 0 where
  pub heading : Heading
  pub shape : Shape
  pub columns : heading_at d slot ≡ Some heading
  pub lies : shape_at d slot ≡ Some shape
  pub bytes : HoldsSheet shape slot heading.columns sheet page
  pub of_format : AreOfFormat d.format sheet.1

-- a page that is free, whatever follows its first byte, or the page of a sheet
abbrev pub HoldsElements : Definitions → List ℕ → ElementPage → Type 0
HoldsElements d page Free = IsFreePage page
HoldsElements d page (Cells slot sheet) = HoldsSeries d page slot sheet

-- element pages, from page 930 on, with these elements
abbrev pub HoldAll : Definitions → (ℕ → List ℕ) → List ElementPage → Type 0
HoldAll d pages es = (j : ℕ) → j < length es → HoldsElements d (pages (first_element_page + j)) (element_page j es)

-- the bytes of a volume that is laid out so; the journal's pages are no part of it
pub record HoldsLayout (pages : ℕ → List ℕ) (l : Layout) : Type 0 where
  pub header : pages 0 ≡ header_bytes l.definitions.format (length l.element_pages)
  pub definitions : HoldsDefinitions pages l.definitions
  pub elements : (i : ℕ) → i < length l.element_pages → HoldsElements l.definitions (pages (first_element_page + i))
      (element_page i l.element_pages)

-- what stands in the slots of each kind is of that kind and keeps its limits and those of the format
pub record KeepLimits (d : Definitions) : Type 0 where
  pub each : (kind : Kind) (slot : ℕ) → slot < limit kind → IsSlotOf d.format kind (def_at kind slot d)

-- something stands in each of some slots
abbrev pub IsThere : Definitions → List (Kind × ℕ) → Type 0
IsThere d [] = Unit {0}
IsThere d (target ∷ rest) = IsSome (def_at target.0 target.1 d) × IsThere d rest

-- each definition of a kind refers to filled slots
abbrev pub AreThereIn : Kind → Definitions → Type 0
AreThereIn kind d = (slot : ℕ) (def : Def) → slot < limit kind → def_at kind slot d ≡ Some def
    → IsThere d (references def)

-- each definition does
abbrev pub AreThere : Definitions → Type 0
AreThere d = (kind : Kind) → AreThereIn kind d

-- where it was made by a pattern's name, the pattern of a calendar is the one in that slot
abbrev pub Follows : List (Option PatternDef) → CalendarDef → Type 0
Follows patterns c = (slot : ℕ) → c.by ≡ Some slot → option_map (λ p. p.pattern) (at_slot slot patterns)
    ≡ Some c.calendar.pattern

-- so it is of each calendar
abbrev pub AreFollowing : Definitions → Type 0
AreFollowing d = (slot : ℕ) (c : CalendarDef) → at_slot slot d.calendars ≡ Some c → Follows d.patterns c

-- no calendar breaks a rule of calendars
abbrev pub AreValid : Definitions → Type 0
AreValid d = (slot : ℕ) (c : CalendarDef) → at_slot slot d.calendars ≡ Some c → IsValid c.calendar

-- the calendar in a slot has an on start at an origin
abbrev pub IsOnCalendar : Definitions → ℕ × ℤ → Type 0
IsOnCalendar d regular = (c : CalendarDef) → at_slot regular.0 d.calendars ≡ Some c → IsOnStart c.calendar regular.1

-- the origin of each regular series is an on start of its calendar
abbrev pub HaveOrigins : Definitions → Type 0
HaveOrigins d = (slot : ℕ) (s : SeriesDef) → at_slot slot d.series ≡ Some s → IfSome s.regular (IsOnCalendar d)

-- the quota of a container; 0 where there is none
abbrev pub quota_in : Option ContainerDef → ℕ
quota_in None = 0
quota_in (Some c) = c.quota

-- the same of a whole table
abbrev pub sum_of_quotas : List (Option ContainerDef) → ℕ
sum_of_quotas table = sum_by quota_in table

-- the rules of definitions in a volume with so many element pages, each by itself
pub record AreSound (pages : ℕ) (d : Definitions) : Type 0 where
  pub tables : IsDefinitions d
  pub limits : KeepLimits d
  pub references : AreThere d
  pub follow : AreFollowing d
  pub valid : AreValid d
  pub quotas : sum_of_quotas d.containers ≤ pages
  pub origins : HaveOrigins d

-- the elements that a page has of the series in a slot
abbrev pub elements_on : ℕ → ElementPage → List Element
elements_on slot Free = []
elements_on slot (Cells s sheet) = if s == slot then sheet.1 else []

-- all elements of the series in a slot, page after page
abbrev pub elements_of : ℕ → List ElementPage → List Element
elements_of slot pages = flat_map (elements_on slot) pages

-- the sum over the filled slots of a table, from slot number `first` on, of what a function gives of slot and
-- definition
abbrev pub sum_filled : {A : Type 0} → (ℕ → A → ℕ) → ℕ → List (Option A) → ℕ
sum_filled f first [] = 0
sum_filled f first (None ∷ rest) = sum_filled f (suc first) rest
sum_filled f first (Some a ∷ rest) = f first a + sum_filled f (suc first) rest

-- what a page has of the series in a slot: its sheet as a list of one, or nothing
abbrev pub sheets_on : ℕ → ElementPage → List Sheet
sheets_on slot Free = []
sheets_on slot (Cells s sheet) = if s == slot then sheet ∷ [] else []

-- the sheets of the series in a slot, page after page
abbrev pub sheets_of : ℕ → List ElementPage → List Sheet
sheets_of slot pages = flat_map (sheets_on slot) pages

-- what the series in a slot is charged: an irregular one by its elements, where a page has room for so many, a regular
-- one for each page
abbrev pub charge_on : List ElementPage → ℕ → ℕ → Option (ℕ × ℤ) → ℕ
charge_on pages room slot None = irregular_charge room (length (elements_of slot pages))
charge_on pages room slot (Some regular) = length (sheets_of slot pages)

-- what one series is charged to the container in a slot
abbrev pub charge_of_series : List ElementPage → ℕ → ℕ → ℕ → SeriesDef → ℕ
charge_of_series pages container room slot s = if s.container == container then charge_on pages room slot s.regular
    else 0

-- what all series of the container in a slot are charged together
abbrev pub charge_of_container : Layout → ℕ → ℕ → ℕ
charge_of_container l container room =
    sum_filled (charge_of_series l.element_pages container room) 0 l.definitions.series

-- the sheets of the series in a slot, in their order, are such as those of its shape have to be
pub record IsInSequence (shape : Shape) (slot : ℕ) (columns : List Column) (pages : List ElementPage) : Type 0 where
  pub sheets : List Sheet
  pub is : AreInSequence shape columns sheets
  pub all : IsPermutation sheets (sheets_of slot pages)

-- those of each series are
abbrev pub AreAllInSequence : Layout → Type 0
AreAllInSequence l =
    (slot : ℕ) (h : Heading) (shape : Shape) → heading_at l.definitions slot ≡ Some h → shape_at l.definitions slot
    ≡ Some shape
    → IsInSequence shape slot h.columns l.element_pages

-- no container is charged more than its quota
abbrev pub KeepsQuotas : Layout → Type 0
KeepsQuotas l =
    (i : ℕ) (c : ContainerDef) (h : Heading) → at_slot i l.definitions.containers ≡ Some c
    → heading_of_container l.definitions c ≡ Some h
    → charge_of_container l i (page_room h.columns) ≤ c.quota

-- the rules of a volume
pub record IsSound (l : Layout) : Type 0 where
  pub some : 1 ≤ length l.element_pages
  pub most : length l.element_pages ≤ most_element_pages
  pub definitions : AreSound (length l.element_pages) l.definitions
  pub sequences : AreAllInSequence l
  pub charges : KeepsQuotas l

-- pages, so many in all, that are laid out so and keep the rules
pub record IsLaidOut (count : ℕ) (pages : ℕ → List ℕ) (l : Layout) : Type 0 where
  pub size : count ≡ first_element_page + length l.element_pages
  pub bytes : HoldsLayout pages l
  pub rules : IsSound l

-- the name of what stands in a slot; an empty slot has none
abbrev pub name_at : {A : Type 0} → (A → List ℕ) → ℕ → List (Option A) → List ℕ
name_at name slot table = unwrap_or (option_map name (at_slot slot table)) []

-- the elements of the series in a slot, by their stamps
abbrev pub elements_at : ℕ → List ElementPage → Elements
elements_at slot pages = from_entries (elements_of slot pages)

-- which pattern a calendar has: by the name of the one in a slot, or its own
abbrev pub part_of : Definitions → CalendarDef → Option ℕ → PatternPart
part_of d c (Some slot) = ByName (name_at (λ p. p.name) slot d.patterns)
part_of d c None = Own c.calendar.pattern

-- a calendar as its text, with the name of the pattern by whose name it was made
abbrev pub text_of : Definitions → CalendarDef → CalendarText
text_of d c = record { start = c.calendar.start; patt_start = c.calendar.patt_start; part = part_of d c c.by }

-- a container with the name of its row type
abbrev pub container_of : Definitions → ContainerDef → Container
container_of d c = record { row_type = name_at (λ r. r.name) c.row_type d.row_types; quota = c.quota }

-- how the elements of a series lie, with the name of its calendar
abbrev pub kind_in : Definitions → Option (ℕ × ℤ) → SeriesKind
kind_in d None = AnyStamps
kind_in d (Some regular) = OnCalendar (name_at (λ c. c.name) regular.0 d.calendars) regular.1

-- a series with the name of its container, how its elements lie, and these
abbrev pub series_of : Layout → ℕ → SeriesDef → Series
series_of l slot s = record {
  container = name_at (λ c. c.name) s.container l.definitions.containers;
  kind = kind_in l.definitions s.regular;
  elements = elements_at slot l.element_pages;
}

-- what a definition in a slot of a kind is in the catalogue
abbrev pub value_of : (kind : Kind) → Layout → ℕ → KindDef kind → In kind
value_of kinds.RowType l slot r = r.heading
value_of kinds.Pattern l slot p = p.pattern
value_of kinds.Calendar l slot c = text_of l.definitions c
value_of kinds.Container l slot c = container_of l.definitions c
value_of kinds.Series l slot s = series_of l slot s

-- the definitions of a kind under their names
abbrev pub named_in : (kind : Kind) → Layout → Named (In kind)
named_in kind l = by_name (name_in kind) (value_of kind l) (table_of kind l.definitions)

-- the catalogue of a layout
abbrev pub catalogue_of : Layout → Catalogue
catalogue_of l = record {
  format = l.definitions.format;
  pages = length l.element_pages;
  row_types = named_in kinds.RowType l;
  patterns = named_in kinds.Pattern l;
  calendars = named_in kinds.Calendar l;
  containers = named_in kinds.Container l;
  series = named_in kinds.Series l;
}

-- pages, so many in all, mean the catalogue that they are laid out from
abbrev pub Means : ℕ → (ℕ → List ℕ) → Catalogue → Type 0
Means count pages cat = (l : Layout) × IsLaidOut count pages l × (cat ≡ catalogue_of l)
