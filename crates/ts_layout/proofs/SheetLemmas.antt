-- Sheets, whatever the shape of their series: such as fill a page, their elements, and where they begin.
use Rattle.std.specs.Prelude.{All}
use Rattle.std.proofs.Common.{◌≡◌, ℕ, suc, ℤ, ◌<ℤ◌, IsSome, Option, Some, List, [], ◌∷◌, ◌++◌, map, length, refl, sym, ap, subst, ◌∙◌, arith}
use Rattle.std.specs.List.{cons_option}
use Rattle.std.specs.Option.{option_map}
use Rattle.std.proofs.lemmas.Int.{ints}
use Rattle.std.proofs.lemmas.List.Elements.{All-nil, All-cons, All-head, All-tail}
use Rattle.ts_row.specs.Row.{Element}
use Rattle.ts_row.specs.declared.kind.Column.{Column}
use Rattle.ts_calendar.specs.Calendars.{IsLaid}
use Rattle.ts_offset.specs.Grid.{GridPlan, stamp_of}
use Rattle.ts_offset.specs.declared.shape.Shape.{Shape}
use Rattle.ts_offset.specs.declared.shape.Shape.TheVariants.{Irregular, Regular}
use Rattle.ts_cells.specs.IrregularPage.{AreRising, first_stamp}
use Rattle.ts_sheets.specs.Stamped.{AreLater, AreBefore, ArePages, all_in, stamped, HaveStarts}
use Rattle.ts_sheets.proofs.OrderLemmas.{pages_in_order}
use Rattle.ts_regular.specs.RegularPage.{OffsetElement}
use Rattle.ts_regular.specs.Places.{all_in as all_at}
use Rattle.ts_layout.specs.Sheets.{Sheet, FillSheet, HoldsSheet, BeginInOrder, AreInSequence, elements_in}
use Rattle.ts_layout.proofs.GridLemmas.{of_cells, rising_pages, grid_elements, rising_stamped}
use Rattle.ts_layout.proofs.OptionLemmas.{there_of}

-- a page that has a sheet is filled with it
pub fill_of : (shape : Shape) (slot : ℕ) (columns : List Column) (sheet : Sheet) (page : List ℕ) → HoldsSheet shape slot columns sheet page → FillSheet shape columns sheet
fill_of Irregular slot columns sheet page holds = (holds.0.fill, holds.1)
fill_of (Regular grid) slot columns sheet page holds = record { base = holds.base; cells = holds.cells; whole = holds.bytes.whole; fill = holds.bytes.fill; on = holds.on }

-- the elements of each sheet
abbrev pub lists_in : List Sheet → List (List Element)
lists_in sheets = map (λ sheet. sheet.1) sheets

-- the elements of sheets are those of a chain
pub chain_elements : (sheets : List Sheet) → elements_in sheets ≡ all_in (lists_in sheets)
chain_elements [] = refl
chain_elements (sheet ∷ sheets) = ap (λ (l : List Element). sheet.1 ++ l) (chain_elements sheets)

-- the calendar of a grid is laid; of other series nothing is asked
abbrev pub IsLaidOn : Shape → Type 0
IsLaidOn Irregular = Unit {0}
IsLaidOn (Regular grid) = IsLaid grid.calendar

-- elements at offsets, each at its on start
module _ (grid : GridPlan) where
  abbrev HasStart : OffsetElement → Type 0
  HasStart e = IsSome (stamp_of grid e.0)

  -- an element stands at the on start of some offset
  abbrev pub IsOnStart : Element → Type 0
  IsOnStart e = (n : ℕ) × (stamp_of grid n ≡ Some e.0)

  one_more : (e : OffsetElement) (s : ℤ) (es : List OffsetElement) → stamp_of grid e.0 ≡ Some s → stamped grid (e ∷ es) ≡ (s, e.1) ∷ stamped grid es
  one_more e s es is = ap (λ (o : Option ℤ). cons_option (option_map (λ start. (start, e.1)) o) (stamped grid es)) is

  pub length-stamped : (es : List OffsetElement) → HaveStarts grid es → length (stamped grid es) ≡ length es
  length-stamped [] starts = refl
  length-stamped (e ∷ es) starts =
      let t = there_of (stamp_of grid e.0) (All-head HasStart e es starts) in
      ap (λ (l : List Element). length l) (one_more e t.0 es t.1) ∙ ap suc (length-stamped es (All-tail HasStart e es starts))

  pub stamped_each : (es : List OffsetElement) → HaveStarts grid es → All IsOnStart (stamped grid es)
  stamped_each [] starts = All-nil IsOnStart
  stamped_each (e ∷ es) starts =
      let t = there_of (stamp_of grid e.0) (All-head HasStart e es starts) in
      subst (All IsOnStart) (sym (one_more e t.0 es t.1)) (All-cons IsOnStart (t.0, e.1) (stamped grid es) (e.0, t.1) (stamped_each es (All-tail HasStart e es starts)))

-- each sheet begins behind this
abbrev pub AreBehind : ℤ → List Sheet → Type 0
AreBehind at [] = Unit {0}
AreBehind at (sheet ∷ sheets) = (at <ℤ sheet.0) × AreBehind at sheets

behind_than : (low high : ℤ) (sheets : List Sheet) → low <ℤ high → AreBehind high sheets → AreBehind low sheets
behind_than low high [] below behind = tt
behind_than low high (sheet ∷ sheets) below behind =
    let first = behind.0 in
    (omega (arith, ints, below, first), behind_than low high sheets below behind.1)

-- where each begins before the next, it begins before all later ones
pub begins_first : (sheet : Sheet) (sheets : List Sheet) → BeginInOrder (sheet ∷ sheets) → AreBehind sheet.0 sheets
begins_first sheet [] order = tt
begins_first sheet (next ∷ sheets) order = (order.0, behind_than sheet.0 next.0 sheets order.0 (begins_first next sheets order.1))

pub begins_rest : (sheet : Sheet) (sheets : List Sheet) → BeginInOrder (sheet ∷ sheets) → BeginInOrder sheets
begins_rest sheet [] order = tt
begins_rest sheet (next ∷ sheets) order = order.1

pub begins_more : (sheet : Sheet) (sheets : List Sheet) → AreBehind sheet.0 sheets → BeginInOrder sheets → BeginInOrder (sheet ∷ sheets)
begins_more sheet [] behind order = tt
begins_more sheet (next ∷ sheets) behind order = (behind.0, order)

-- sheets of a chain begin in order
first_later : (at : ℤ) (es fs : List Element) → first_stamp es ≡ Some at → AreBefore es fs → AreLater at fs
first_later at [] fs is before = absurd (cc)
first_later at (e ∷ es) fs is before = let same : e.0 ≡ at = cc in subst (λ (z : ℤ). AreLater z fs) same before.0

below_next : (at next : ℤ) (es fs : List Element) → first_stamp es ≡ Some next → AreLater at (es ++ fs) → at <ℤ next
below_next at next [] fs is later = absurd (cc)
below_next at next (e ∷ es) fs is later = let same : e.0 ≡ next = cc in subst (λ (z : ℤ). at <ℤ z) same later.0

chain_order : (columns : List Column) (sheets : List Sheet) → ArePages columns (lists_in sheets) → All (FillSheet Irregular columns) sheets → BeginInOrder sheets
chain_order columns [] pages fills = tt
chain_order columns (sheet ∷ []) pages fills = tt
chain_order columns (sheet ∷ next ∷ sheets) pages fills =
    let rest = All-tail (FillSheet Irregular columns) sheet (next ∷ sheets) fills in
    let first = (All-head (FillSheet Irregular columns) sheet (next ∷ sheets) fills).1 in
    let second = (All-head (FillSheet Irregular columns) next sheets rest).1 in
    (below_next sheet.0 next.0 next.1 (all_in (lists_in sheets)) second (first_later sheet.0 sheet.1 (next.1 ++ all_in (lists_in sheets)) first pages.1), chain_order columns (next ∷ sheets) pages.2 rest)

-- sheets in sequence begin in order
pub sequence_order : (shape : Shape) (columns : List Column) (sheets : List Sheet) → AreInSequence shape columns sheets → All (FillSheet shape columns) sheets → BeginInOrder sheets
sequence_order Irregular columns sheets is fills = chain_order columns sheets is.pages fills
sequence_order (Regular grid) columns sheets is fills = is

-- and their elements rise
pub sequence_rises : (shape : Shape) (columns : List Column) (sheets : List Sheet) → IsLaidOn shape → AreInSequence shape columns sheets → All (FillSheet shape columns) sheets → AreRising (elements_in sheets)
sequence_rises Irregular columns sheets laid is fills = subst AreRising (sym (chain_elements sheets)) (pages_in_order columns (lists_in sheets) is.pages).rising
sequence_rises (Regular grid) columns sheets laid is fills =
    let p = of_cells grid columns sheets is fills in
    subst AreRising (sym (ap elements_in p.is ∙ grid_elements grid p.pages)) (rising_stamped grid (all_at p.pages) laid p.starts (rising_pages columns p.pages p.cells))
