-- The pages of series as they are found: their spans, in the order of the series and of where they begin, and the rules
-- that they keep.
use Rattle.std.specs.Prelude.{◌≡◌, ◌≢◌, ℕ, suc, ◌+◌, ◌<◌, ◌≤◌, ◌==◌, ℤ, ◌<ℤ◌, ◌≤ℤ◌, Option, Some, None, unwrap_or, List}
use Rattle.std.specs.Prelude.{[], ◌∷◌, ◌++◌, length, map, filter, slice_index_or, All, AllPairs, Contains, Bool, true}
use Rattle.std.specs.Prelude.{IsTrue}
use Rattle.std.specs.List.{AllAdjacentBelow}
use Rattle.ts_row.specs.declared.kind.Column.{Column}
use Rattle.ts_row.specs.Row.{Heading, has_hidden}
use Rattle.ts_space.specs.declared.place.Place.{Place}
use Rattle.ts_space.specs.Directory.{Directory, places_of}
use Rattle.ts_cells.specs.IrregularPage.{page_room, last_stamp}
use Rattle.ts_offset.specs.declared.shape.Shape.{Shape}
use Rattle.ts_offset.specs.declared.shape.Shape.TheVariants.{Irregular, Regular}
use Rattle.ts_model.specs.Definitions.{Definitions, container_slots, series_slots}
use Rattle.ts_container.specs.declared.span.Span.{Span}
use Rattle.ts_layout.specs.Charges.{KeepsQuotaAt}
use Rattle.ts_layout.specs.Meaning.{AreOfFormat, ElementPage, Free, Cells, heading_at, shape_at}
use Rattle.ts_layout.specs.Sheets.{Sheet, HoldsSheet}

-- Where a page ends: one of an irregular series at its last stamp. Of a page on a grid it is where it begins, since two
-- pages of a series there overlap exactly where they begin at one offset.
abbrev pub end_of : Shape → Sheet → ℤ
end_of Irregular sheet = unwrap_or (last_stamp sheet.1) sheet.0
end_of (Regular grid) sheet = sheet.0

-- the span of a page with a sheet of the series in a slot
abbrev pub span_of : Shape → ℕ → ℕ → Sheet → Span
span_of shape slot number sheet = record {
  slot = slot;
  count = length sheet.1;
  page = number;
  first = sheet.0;
  last = end_of shape sheet;
  hidden =
      has_hidden sheet.1;
}

-- a page has a sheet of the series in a slot, such as the format of the volume allows
pub record HasSheet (shape : Shape) (slot : ℕ) (columns : List Column) (format : ℕ) (page : List ℕ)
    (sheet : Sheet) : Type 0 where
  pub bytes : HoldsSheet shape slot columns sheet page
  pub of_format : AreOfFormat format sheet.1

-- this is the span of the page of a number, where it has a sheet of the series in a slot
abbrev pub IsSpanFound : Shape → ℕ → List Column → ℕ → ℕ → List ℕ → Option Span → Type 0
IsSpanFound shape slot columns format number page (Some span) = (sheet : Sheet)
    × HasSheet shape slot columns format page sheet × (span ≡ span_of shape slot number sheet)
IsSpanFound shape slot columns format number page None = (sheet : Sheet) → HasSheet shape slot columns format page sheet
    → ⊥

-- where the elements of the series in a slot can stand; at all stamps where there is none
abbrev pub shape_in : Definitions → ℕ → Shape
shape_in d slot = unwrap_or (shape_at d slot) Irregular

-- the span of an element page; none where it is free
abbrev pub span_on : Definitions → ℕ → ElementPage → List Span
span_on d number Free = []
span_on d number (Cells slot sheet) = span_of (shape_in d slot) slot number sheet ∷ []

-- those of all element pages, page after page from page number `first` on
abbrev pub spans_from : Definitions → ℕ → List ElementPage → List Span
spans_from d first [] = []
spans_from d first (e ∷ rest) = span_on d first e ++ spans_from d (suc first) rest

-- those of the series in a slot
abbrev pub spans_in : ℕ → List Span → List Span
spans_in slot = filter (λ span. span.slot == slot)

-- its place in the directory
abbrev pub place_in : Span → Place
place_in span = record { at = span.first; page = span.page; count = span.count }

-- a span ends where it begins or behind that
abbrev pub IsSpan : Span → Type 0
IsSpan span = span.first ≤ℤ span.last

-- one span may stand behind another: that of a later series, or of the same and not earlier
pub record Follows (a b : Span) : Type 0 where
  pub slots : a.slot ≤ b.slot
  pub stamps : a.slot ≡ b.slot → a.first ≤ℤ b.first

-- spans sorted by their series, and those of one series by where they begin
abbrev pub AreSorted : List Span → Type 0
AreSorted spans = AllAdjacentBelow Follows spans (length spans)

-- one span ends before another of its series begins
abbrev pub IsApart : Span → Span → Type 0
IsApart a b = a.slot ≡ b.slot → a.last <ℤ b.first

-- no span overlaps the next one
abbrev pub AreApart : List Span → Type 0
AreApart spans = AllAdjacentBelow IsApart spans (length spans)

-- two pages of an irregular series never fit one page
abbrev pub AreMore : Definitions → Span → Span → Type 0
AreMore d a b =
    a.slot ≡ b.slot → shape_at d a.slot ≡ Some Irregular → (h : Heading) → heading_at d a.slot ≡ Some h
    → page_room h.columns < a.count + b.count

-- no page and the next one do
abbrev pub AreDense : Definitions → List Span → Type 0
AreDense d spans = AllAdjacentBelow (AreMore d) spans (length spans)

-- no two have one page
abbrev pub AreDifferent : List Span → Type 0
AreDifferent spans = AllPairs (λ a b. a.page ≢ b.page) spans

-- two pages of one series overlap; this is the higher one
pub record IsClash (spans : List Span) (page : ℕ) : Type 0 where
  pub lower : Span
  pub upper : Span
  pub first : Contains spans lower
  pub second : Contains spans upper
  pub below : lower.page < upper.page
  pub is : page ≡ upper.page
  pub series : lower.slot ≡ upper.slot
  pub begins : lower.first ≤ℤ upper.last
  pub ends : upper.first ≤ℤ lower.last

-- a page up to a number overlaps a lower one, or none does
abbrev pub HasClashTo : ℕ → List Span → Type 0
HasClashTo limit spans = (page : ℕ) × IsClash spans page × (page ≤ limit)

abbrev pub AreApartTo : ℕ → List Span → Type 0
AreApartTo limit spans = (page : ℕ) → IsClash spans page → limit < page

-- two pages of one irregular series fit one page
pub record IsThinPair (d : Definitions) (a b : Span) : Type 0 where
  pub heading : Heading
  pub series : a.slot ≡ b.slot
  pub lies : shape_at d a.slot ≡ Some Irregular
  pub columns : heading_at d a.slot ≡ Some heading
  pub fit : a.count + b.count ≤ page_room heading.columns

-- a page and the next one of these are such
pub record IsThin (d : Definitions) (spans : List Span) (page : ℕ) : Type 0 where
  pub at : ℕ
  pub a : Span
  pub b : Span
  pub within : at + 1 < length spans
  pub first : slice_index_or spans at a ≡ a
  pub second : slice_index_or spans (at + 1) b ≡ b
  pub is : page ≡ a.page
  pub pair : IsThinPair d a b

-- some container is charged more than its quota
abbrev pub IsOverQuota : Definitions → Directory → Type 0
IsOverQuota d space = (slot : ℕ) × (slot < container_slots) × (KeepsQuotaAt d space slot → ⊥)

-- the places of the series in a slot, by the spans of all
abbrev pub places_in : ℕ → List Span → List Place
places_in slot spans = map place_in (spans_in slot spans)

-- of each slot whether its series is marked: it is where one of these spans has a hidden element
abbrev pub AreMarked : List Span → List Bool → Type 0
AreMarked spans marks = All (λ span. IsTrue span.hidden → slice_index_or marks span.slot true ≡ true) spans

-- the directory lists these places
pub record Lists (spans : List Span) (space : Directory) : Type 0 where
  pub slots : length space.lists ≡ series_slots
  pub places : (slot : ℕ) → slot < series_slots → places_of slot space ≡ places_in slot spans
