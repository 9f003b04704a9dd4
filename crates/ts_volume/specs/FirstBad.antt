-- The first bad page of a volume: pages are judged in steps, and of what the first step with a bad page finds it is the
-- least.
use Rattle.std.specs.Prelude.{◌≡◌, ◌≢◌, ℕ, ◌+◌, ◌-◌, ◌<◌, ◌≤◌, ◌⊎◌, ℤ, ◌<ℤ◌, ◌≤ℤ◌, Option, Some, None, unwrap_or, List}
use Rattle.std.specs.Prelude.{[], ◌∷◌, length, drop, replicate}
use Rattle.ts_page.specs.Pages.{page_size, first_element_page}
use Rattle.ts_cells.specs.IrregularPage.{page_room, last_stamp}
use Rattle.ts_row.specs.Row.{Heading}
use Rattle.ts_calendar.specs.Calendars.{IsValid}
use Rattle.ts_offset.specs.declared.shape.Shape.{Shape}
use Rattle.ts_offset.specs.declared.shape.Shape.TheVariants.{Irregular, Regular}
use Rattle.ts_offset.specs.Grid.{IsOnStart}
use Rattle.ts_model.specs.declared.kind.Kind.{Kind}
use Rattle.ts_model.specs.declared.kind.Kind.TheVariants as kinds
use Rattle.ts_model.specs.declared.def.Def.{Def}
use Rattle.ts_model.specs.Definitions.{Definitions, PatternDef, CalendarDef, ContainerDef, SeriesDef, IsFormat, Refers}
use Rattle.ts_model.specs.Definitions.{limit, name_of, at_slot, def_at, table_of}
use Rattle.ts_layout.specs.Slot.{first_definition_page, container_page, slot_bytes, page_of_slot, slots_in_page}
use Rattle.ts_layout.specs.Slot.{bytes_of_slots, header_bytes}
use Rattle.ts_layout.specs.Meaning.{IsSlotOf, Layout, ElementPage, Cells, element_page, bytes_of_slot}
use Rattle.ts_layout.specs.Meaning.{heading_of_container, heading_at, shape_at, sum_of_quotas, charge_of_container}
use Rattle.ts_layout.specs.Meaning.{HoldsDefinitions, HoldsElements, HoldAll, KeepLimits}
use Rattle.ts_layout.specs.Sheets.{Sheet}
use Rattle.ts_journal.specs.Journal.{Entry, IsVolumeSize, page_count, records, pages}

-- the least number that has a property
pub record IsLeast (P : ℕ → Type 0) (number : ℕ) : Type 0 where
  pub has : P number
  pub least : (other : ℕ) → P other → number ≤ other

-- no number has it
abbrev pub HasNone : (ℕ → Type 0) → Type 0
HasNone P = (number : ℕ) → P number → ⊥

-- page 0 is the header of a volume of a format with so many pages
pub record HasHeader (count : ℕ) (pages : ℕ → List ℕ) (format : ℕ) : Type 0 where
  pub one : IsFormat format
  pub bytes : pages 0 ≡ header_bytes format (count - first_element_page)

-- each slot of a definition page is empty or has a definition that keeps its limits and those of the format, and zeros
-- stand behind the slots
pub record HoldsSlots (format : ℕ) (pages : ℕ → List ℕ) (number : ℕ) : Type 0 where
  pub slots : (kind : Kind) (slot : ℕ) → slot < limit kind → page_of_slot kind slot ≡ number
      → (def : Option Def) × IsSlotOf format kind def × (bytes_of_slot kind slot pages ≡ slot_bytes kind def)
  pub behind : drop (bytes_of_slots (slots_in_page number)) (pages number)
      ≡ replicate (page_size - bytes_of_slots (slots_in_page number)) 0

-- a definition page that isn't such
pub record IsBadDefinitionPage (count : ℕ) (pages : ℕ → List ℕ) (number : ℕ) : Type 0 where
  pub format : ℕ
  pub header : HasHeader count pages format
  pub low : first_definition_page ≤ number
  pub high : number < first_element_page
  pub bad : HoldsSlots format pages number → ⊥

-- a calendar that was made by a pattern's name has the pattern of that slot, where one stands there
abbrev pub HavePatterns : Definitions → Type 0
HavePatterns d =
    (slot at : ℕ) (c : CalendarDef) (p : PatternDef) → at_slot slot d.calendars ≡ Some c → c.by ≡ Some at
    → at_slot at d.patterns ≡ Some p → c.calendar.pattern ≡ p.pattern

-- what the header and the definition pages say, whatever rules it breaks together: in each slot nothing, or a
-- definition that keeps its limits
pub record AreSaid (count : ℕ) (pages : ℕ → List ℕ) (d : Definitions) : Type 0 where
  pub header : HasHeader count pages d.format
  pub sizes : (kind : Kind) → length (table_of kind d) ≡ limit kind
  pub bytes : HoldsDefinitions pages d
  pub limits : KeepLimits d
  pub patterns : HavePatterns d

-- a definition has the name or the key of a lower slot of its kind
pub record Repeats (kind : Kind) (slot : ℕ) (d : Definitions) : Type 0 where
  pub lower : ℕ
  pub first : Def
  pub second : Def
  pub below : lower < slot
  pub before : def_at kind lower d ≡ Some first
  pub there : def_at kind slot d ≡ Some second
  pub names : name_of first ≡ name_of second

-- a definition refers to an empty slot
pub record Dangles (kind : Kind) (slot : ℕ) (d : Definitions) : Type 0 where
  pub def : Def
  pub target : Kind
  pub at : ℕ
  pub there : def_at kind slot d ≡ Some def
  pub refers : Refers def target at
  pub empty : def_at target at d ≡ None

-- the page of a definition that does one or the other
pub record IsUnresolved (d : Definitions) (number : ℕ) : Type 0 where
  pub kind : Kind
  pub slot : ℕ
  pub within : slot < limit kind
  pub page : number ≡ page_of_slot kind slot
  pub flaw : Repeats kind slot d ⊎ Dangles kind slot d

-- the page of a calendar that breaks a rule of calendars
pub record IsInvalid (d : Definitions) (number : ℕ) : Type 0 where
  pub slot : ℕ
  pub c : CalendarDef
  pub within : slot < limit kinds.Calendar
  pub there : at_slot slot d.calendars ≡ Some c
  pub page : number ≡ page_of_slot kinds.Calendar slot
  pub breaks : IsValid c.calendar → ⊥

-- the page of containers, where their quotas are more together than the volume has element pages
pub record IsOvergranted (count : ℕ) (d : Definitions) (number : ℕ) : Type 0 where
  pub page : number ≡ container_page
  pub more : count - first_element_page < sum_of_quotas d.containers

-- the page of a regular series whose origin is no on start of its calendar
pub record IsAstray (d : Definitions) (number : ℕ) : Type 0 where
  pub slot : ℕ
  pub s : SeriesDef
  pub regular : ℕ × ℤ
  pub c : CalendarDef
  pub within : slot < limit kinds.Series
  pub there : at_slot slot d.series ≡ Some s
  pub lies : s.regular ≡ Some regular
  pub calendar : at_slot regular.0 d.calendars ≡ Some c
  pub page : number ≡ page_of_slot kinds.Series slot
  pub astray : IsOnStart c.calendar regular.1 → ⊥

-- an element page that is neither free nor the page of a series that is there, of its kind and its columns
pub record IsBadElementPage (count : ℕ) (pages : ℕ → List ℕ) (d : Definitions) (number : ℕ) : Type 0 where
  pub low : first_element_page ≤ number
  pub high : number < count
  pub bad : (e : ElementPage) → HoldsElements d (pages number) e → ⊥

-- what all pages say, whatever rules it breaks together
pub record AllSaid (count : ℕ) (pages : ℕ → List ℕ) (l : Layout) : Type 0 where
  pub definitions : AreSaid count pages l.definitions
  pub size : count ≡ first_element_page + length l.element_pages
  pub elements : HoldAll l.definitions pages l.element_pages

-- two pages of one series meet: on a grid they begin at one offset, else their stamps overlap, from the first to the
-- last of each
abbrev pub Meet : Shape → Sheet → Sheet → Type 0
Meet Irregular a b = (a.0 ≤ℤ unwrap_or (last_stamp b.1) b.0) × (b.0 ≤ℤ unwrap_or (last_stamp a.1) a.0)
Meet (Regular grid) a b = a.0 ≡ b.0

-- a page that meets a lower page of its series
pub record IsOverlap (l : Layout) (number : ℕ) : Type 0 where
  pub slot : ℕ
  pub shape : Shape
  pub lower : ℕ
  pub upper : ℕ
  pub a : Sheet
  pub b : Sheet
  pub lies : shape_at l.definitions slot ≡ Some shape
  pub first : element_page lower l.element_pages ≡ Cells slot a
  pub second : element_page upper l.element_pages ≡ Cells slot b
  pub below : lower < upper
  pub page : number ≡ first_element_page + upper
  pub meet : Meet shape a b

-- of the pages of a series behind one the next is the one with the least first stamp
pub record IsNext (pages : List ElementPage) (slot : ℕ) (a b : Sheet) : Type 0 where
  pub at : ℕ
  pub there : element_page at pages ≡ Cells slot b
  pub behind : a.0 <ℤ b.0
  pub least : (i : ℕ) (c : Sheet) → element_page i pages ≡ Cells slot c → a.0 <ℤ c.0 → b.0 ≤ℤ c.0

-- a page of an irregular series that fits one page together with the next
pub record IsSparse (l : Layout) (number : ℕ) : Type 0 where
  pub slot : ℕ
  pub heading : Heading
  pub at : ℕ
  pub a : Sheet
  pub b : Sheet
  pub lies : shape_at l.definitions slot ≡ Some Irregular
  pub columns : heading_at l.definitions slot ≡ Some heading
  pub there : element_page at l.element_pages ≡ Cells slot a
  pub next : IsNext l.element_pages slot a b
  pub page : number ≡ first_element_page + at
  pub fit : length a.1 + length b.1 ≤ page_room heading.columns

-- the page of containers, where one is charged more than its quota
pub record IsOvercharged (l : Layout) (number : ℕ) : Type 0 where
  pub slot : ℕ
  pub c : ContainerDef
  pub heading : Heading
  pub there : at_slot slot l.definitions.containers ≡ Some c
  pub columns : heading_of_container l.definitions c ≡ Some heading
  pub page : number ≡ container_page
  pub more : c.quota < charge_of_container l slot (page_room heading.columns)

-- the steps in which pages are judged
pub data Step : Type 0 where
  Header : Step
  Slots : Step
  Names : Step
  Rules : Step
  Grants : Step
  Elements : Step
  Overlaps : Step
  Neighbours : Step
  Charges : Step

-- a step finds a page bad
abbrev pub Finds : ℕ → (ℕ → List ℕ) → Step → ℕ → Type 0
Finds count pages Header number = (number ≡ 0) × HasNone (HasHeader count pages)
Finds count pages Slots number = IsBadDefinitionPage count pages number
Finds count pages Names number = (d : Definitions) × AreSaid count pages d × IsUnresolved d number
Finds count pages Rules number = (d : Definitions) × AreSaid count pages d × IsInvalid d number
Finds count pages Grants number =
    (d : Definitions) × AreSaid count pages d × (IsOvergranted count d number ⊎ IsAstray d number)
Finds count pages Elements number = (d : Definitions) × AreSaid count pages d × IsBadElementPage count pages d number
Finds count pages Overlaps number = (l : Layout) × AllSaid count pages l × IsOverlap l number
Finds count pages Neighbours number = (l : Layout) × AllSaid count pages l × IsSparse l number
Finds count pages Charges number = (l : Layout) × AllSaid count pages l × IsOvercharged l number

-- the least page that the first of some steps with a bad page finds
abbrev pub IsFirstIn : (Step → ℕ → Type 0) → List Step → ℕ → Type 0
IsFirstIn F [] number = ⊥
IsFirstIn F (step ∷ rest) number = IsLeast (F step) number ⊎ (HasNone (F step) × IsFirstIn F rest number)

-- all steps in their order
abbrev pub all_steps : List Step
all_steps = Header ∷ Slots ∷ Names ∷ Rules ∷ Grants ∷ Elements ∷ Overlaps ∷ Neighbours ∷ Charges ∷ []

-- the first bad page of so many pages
abbrev pub IsFirstBad : ℕ → (ℕ → List ℕ) → ℕ → Type 0
IsFirstBad count pages number = IsFirstIn (Finds count pages) all_steps number

-- the journal has no malformed record, and of the pages that the volume has by it this is the first bad one
pub record IsFirstBadPage (bytes : List ℕ) (page : ℕ) : Type 0 where
  pub sound : (rs : List (List Entry)) × (records bytes ≡ Some rs)
  pub first : IsFirstBad (page_count (length bytes)) (pages bytes) page

-- The first bad page of bytes: 0 where they aren't as many as a volume has, else 1 where a record of the journal is
-- malformed, else that of the pages.
abbrev pub IsFirstBadOf : List ℕ → ℕ → Type 0
IsFirstBadOf bytes page =
    ((IsVolumeSize (length bytes) → ⊥) × (page ≡ 0))
    ⊎ (IsVolumeSize (length bytes) × (((records bytes ≡ None) × (page ≡ 1)) ⊎ IsFirstBadPage bytes page))
