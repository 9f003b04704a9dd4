-- What one slot that is filled or emptied, or another format, changes in a layout, and what pages that mean the same
-- may differ in.
use Rattle.std.specs.Prelude.{◌≡◌, ℕ, ◌<◌, ◌≤◌, ◌⊎◌, Option, Some, None, IfSome, option_and_then, List, ◌+◌, ◌++◌}
use Rattle.std.specs.Prelude.{length, take, drop}
use Rattle.ts_page.specs.Pages.{IsOutsideJournal, IsElementPage, HasFreeHead}
use Rattle.ts_layout.specs.Sheets.{Sheet}
use Rattle.ts_model.specs.declared.kind.Kind.{Kind}
use Rattle.ts_model.specs.declared.kind.Kind.TheVariants as kinds
use Rattle.ts_model.specs.declared.def.Def.{Def}
use Rattle.ts_model.specs.declared.def.Def.TheVariants as defs
use Rattle.ts_calendar.specs.Calendars.{IsValid}
use Rattle.ts_model.specs.Catalogue.{HasNoPages}
use Rattle.ts_model.specs.Definitions.{Definitions, limit, kind_of, name_of, from_def, slots, with_slot, with_format}
use Rattle.ts_model.specs.Definitions.{slot_of, references, IsUsed}
use Rattle.ts_layout.specs.Meaning.{IsDef, Layout, ElementPage, Cells, element_page, def_at, heading_at, shape_at}
use Rattle.ts_layout.specs.Meaning.{quota_in, sum_of_quotas, IsThere, Follows, IsOnCalendar}
use Rattle.ts_layout.specs.Slot.{slot_bytes, slot_size, byte_of_slot}

-- outside the journal the same pages, but for the bytes behind the heads of free element pages
abbrev pub SameOutsideJournal : (ℕ → List ℕ) → (ℕ → List ℕ) → Type 0
SameOutsideJournal wanted pages =
    (number : ℕ) → IsOutsideJournal number → (pages number ≡ wanted number)
    ⊎ (IsElementPage number × HasFreeHead (wanted number) × HasFreeHead (pages number))

-- the bytes of a page with another slot
abbrev pub with_slot_bytes : Kind → ℕ → Option Def → List ℕ → List ℕ
with_slot_bytes kind slot def page =
    take (byte_of_slot kind slot) page ++ (slot_bytes kind def ++ drop (byte_of_slot kind slot + slot_size kind) page)

-- the layout with this definition, or none, in a slot of a kind
abbrev pub layout_with : Kind → ℕ → Option Def → Layout → Layout
layout_with kind slot def l = record l { definitions = with_slot kind slot def l.definitions }

-- the layout in another format
abbrev pub layout_in : ℕ → Layout → Layout
layout_in format l = record l { definitions = with_format format l.definitions }

-- by other definitions the elements on each page have the same columns, and can stand where they could
pub record KeepsElements (d : Definitions) (l : Layout) : Type 0 where
  pub headings : (i slot : ℕ) (sheet : Sheet) → element_page i l.element_pages ≡ Cells slot sheet
      → heading_at d slot ≡ heading_at l.definitions slot
  pub shapes : (i slot : ℕ) (sheet : Sheet) → element_page i l.element_pages ≡ Cells slot sheet
      → shape_at d slot ≡ shape_at l.definitions slot

-- no page has elements of the series in a slot
abbrev pub HasNoPage : ℕ → List ElementPage → Type 0
HasNoPage slot pages = (i : ℕ) (sheet : Sheet) → element_page i pages ≡ Cells slot sheet → ⊥

-- a calendar that is valid, and that has the pattern of the slot by whose name it is made; of other definitions nothing
-- is asked
abbrev pub KeepsCalendarRules : Def → Definitions → Type 0
KeepsCalendarRules (defs.Calendar name calendar by) d = IsValid calendar
    × Follows d.patterns (record { name = name; calendar = calendar; by = by })
KeepsCalendarRules (defs.RowType name kind) d = Unit {0}
KeepsCalendarRules (defs.Pattern name pattern) d = Unit {0}
KeepsCalendarRules (defs.Container name row_type quota) d = Unit {0}
KeepsCalendarRules (defs.Series key container regular) d = Unit {0}

-- the origin of a regular series is an on start of its calendar; of other definitions nothing is asked
abbrev pub HasOrigin : Def → Definitions → Type 0
HasOrigin (defs.Series key container regular) d = IfSome regular (IsOnCalendar d)
HasOrigin (defs.RowType name kind) d = Unit {0}
HasOrigin (defs.Pattern name pattern) d = Unit {0}
HasOrigin (defs.Calendar name calendar by) d = Unit {0}
HasOrigin (defs.Container name row_type quota) d = Unit {0}

-- this definition can be put into a slot: the slot is empty, the name is new, what it refers to is there, it is valid,
-- and its origin is one
pub record CanCreate (slot : ℕ) (def : Def) (d : Definitions) : Type 0 where
  pub within : slot < limit (kind_of def)
  pub empty : def_at (kind_of def) slot d ≡ None
  pub new : slot_of (name_of def) (slots (kind_of def) d) ≡ None
  pub limits : IsDef d.format def
  pub refers : IsThere d (references def)
  pub valid : KeepsCalendarRules def d
  pub origin : HasOrigin def d

-- how many pages a definition is granted: a container its quota
abbrev pub granted : Option Def → ℕ
granted def = quota_in (option_and_then (from_def kinds.Container) def)

-- it can be made in a layout: there are pages for its quota, and no page has elements of a series in that slot
pub record CanMake (slot : ℕ) (def : Def) (l : Layout) : Type 0 where
  pub fits : CanCreate slot def l.definitions
  pub pages : sum_of_quotas l.definitions.containers + granted (Some def) ≤ length l.element_pages
  pub pageless : kind_of def ≡ kinds.Series → HasNoPage slot l.element_pages

-- what has this name can be dropped: it has a slot and no pages, and nothing refers to it
pub record CanDrop (kind : Kind) (slot : ℕ) (name : List ℕ) (l : Layout) : Type 0 where
  pub named : slot_of name (slots kind l.definitions) ≡ Some slot
  pub pageless : HasNoPages kind
  pub unused : IsUsed kind slot l.definitions → ⊥
