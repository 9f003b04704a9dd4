-- The span of a page of a series, and what stands on an element page.
use Rattle.std.proofs.Common.{◌≡◌, ℕ, ℤ, pos, ◌==◌, Bool, true, false, cond, ◌&&◌, ◌||◌, IsSome, get_or, w16, w64, Option, Some, None, List, [], ◌∷◌, length, refl, sym, ap, subst, ◌∙◌, arith}
use Rattle.std.specs.Option.{option_map, unwrap_or}
use Rattle.std.specs.List.{cons_option}
use Rattle.std.specs.Int.{from_be_bytes}
use Rattle.std.proofs.lemmas.Bool.Decides.{nat_tests}
use Rattle.std.proofs.lemmas.List.Elements.{All-head, All-tail}
use Rattle.ts_row.specs.declared.kind.Column.{Column}
use Rattle.ts_row.specs.Row.{Heading, is_row_type, Element, has_hidden}
use Rattle.ts_row.proofs.RowBytesLemmas.{valid}
use Rattle.ts_page.specs.declared.page.Head.{Head}
use Rattle.ts_page.specs.declared.page.Head.TheVariants as heads
use Rattle.ts_page.specs.Pages.{head_of, bytes_at, are_zero, IsFreePage}
use Rattle.ts_cells.specs.declared.extent.Extent.{Extent}
use Rattle.ts_cells.specs.IrregularPage.{IsIrregularPage, HasExtent}
use Rattle.ts_regular.specs.declared.extent.RegularExtent.{RegularExtent}
use Rattle.ts_regular.specs.RegularPage.{Cell, OffsetElement, elements_from, IsRegularPage}
use Rattle.ts_regular.specs.RegularPage as offsets
use Rattle.ts_regular.proofs.CellsLemmas.{count_in}
use Rattle.ts_sheets.specs.Stamped.{stamped, HaveStarts}
use Rattle.ts_offset.specs.Grid.{GridPlan, stamp_of}
use Rattle.ts_offset.specs.declared.shape.Shape.{Shape}
use Rattle.ts_offset.specs.declared.shape.Shape.TheVariants.{Irregular, Regular}
use Rattle.ts_model.specs.Definitions.{Definitions}
use Rattle.ts_layout.specs.Meaning.{AreOfFormat, ElementPage, Free, Cells, HoldsSeries, HoldsElements, heading_at, shape_at}
use Rattle.ts_layout.specs.Sheets.{Sheet, HoldsSheet}
use Rattle.ts_layout.proofs.CallerLemmas.{head_free, slot_in as slot_of_head, slot_told, one_sheet, one_grid_page, length-stamped}
use Rattle.ts_container.specs.declared.content.Content.{Content}
use Rattle.ts_container.specs.declared.content.Content.TheVariants as content
use Rattle.ts_container.specs.declared.span.Span.{Span}
use Rattle.ts_container.specs.Spans.{HasSheet, IsSpanFound, span_of}
use Rattle.ts_container.specs.Elements.{IsContentOf, slot_in}

none_some : {A : Type 0} (o : Option A) (a : A) → o ≡ None → o ≡ Some a → ⊥
none_some o a none some = cc

two : {A : Type 0} (o : Option A) (a b : A) → o ≡ Some a → o ≡ Some b → a ≡ b
two o a b first second = cc

-- the columns of a row type may be those of rows
pub columns_valid : (stamp : List ℕ) (columns : List Column) → is_row_type stamp columns ≡ true → valid columns
columns_valid stamp columns is = grind (arith, nat_tests)

-- the series that a head tells
slots_agree : (o : Option Head) → slot_of_head o ≡ slot_in o
slots_agree None = refl
slots_agree (Some heads.Free) = refl
slots_agree (Some (heads.Regular slot count base)) = refl
slots_agree (Some (heads.Irregular slot count)) = refl

pub its_slot : (shape : Shape) (slot t : ℕ) (columns : List Column) (sheet : Sheet) (page : List ℕ) → slot_in (head_of page) ≡ Some t → HoldsSheet shape slot columns sheet page → slot ≡ t
its_slot shape slot t columns sheet page told holds = two (slot_in (head_of page)) slot t (sym (slots_agree (head_of page)) ∙ slot_told shape slot columns sheet page holds) told

-- a page of an irregular series, with this extent
pub stamps_found : (slot t number format : ℕ) (columns : List Column) (es : List Element) (extent : Extent) (page : List ℕ) (span : Span) → slot_in (head_of page) ≡ Some slot → IsIrregularPage t columns es page → HasExtent es extent
    → AreOfFormat format es → span ≡ record { slot = slot; count = extent.count; page = number; first = extent.first; last = extent.last; hidden = extent.hidden } → IsSpanFound Irregular slot columns format number page (Some span)
stamps_found slot t number format columns es extent page span told is has allowed same =
    let sheet : Sheet = (extent.first, es) in
    let own : t ≡ slot = its_slot Irregular t slot columns sheet page told (is, has.ends.begins) in (
      sheet,
      record { bytes = (subst (λ (n : ℕ). IsIrregularPage n columns es page) own is, has.ends.begins); of_format = allowed },
      same ∙ (λ i. record {
        slot = slot;
        count = sym has.count i;
        page = number;
        first = extent.first;
        last = sym (ap (λ (o : Option ℤ). unwrap_or o extent.first) has.ends.ends) i;
        hidden = sym has.hides i;
      }),
    )

-- it is none where its elements are of no volume of the format
pub stamps_hidden : (slot t format : ℕ) (columns : List Column) (es : List Element) (extent : Extent) (page : List ℕ) → valid columns → slot_in (head_of page) ≡ Some slot → IsIrregularPage t columns es page → HasExtent es extent
    → (AreOfFormat format es → ⊥) → (sheet : Sheet) → HasSheet Irregular slot columns format page sheet → ⊥
stamps_hidden slot t format columns es extent page kinds told is has other sheet holds =
    let own : t ≡ slot = its_slot Irregular t slot columns (extent.first, es) page told (is, has.ends.begins) in
    let same : sheet ≡ (extent.first, es) = one_sheet Irregular slot columns sheet (extent.first, es) page kinds holds.bytes (subst (λ (n : ℕ). IsIrregularPage n columns es page) own is, has.ends.begins) in
    other (subst (λ (s : Sheet). AreOfFormat format s.1) same holds.of_format)

-- elements at their on starts are hidden where those at the offsets are
some_start : (o : Option ℤ) → IsSome o → (t : ℤ) × (o ≡ Some t)
some_start (Some t) some = (t, refl)
some_start None some = absurd (cc)

pub hidden_stamped : (grid : GridPlan) (es : List OffsetElement) → HaveStarts grid es → has_hidden (stamped grid es) ≡ offsets.has_hidden es
hidden_stamped grid [] starts = refl
hidden_stamped grid (e ∷ es) starts =
    let s = some_start (stamp_of grid e.0) (All-head (λ (x : OffsetElement). IsSome (stamp_of grid x.0)) e es starts) in
    let rest = hidden_stamped grid es (All-tail (λ (x : OffsetElement). IsSome (stamp_of grid x.0)) e es starts) in
    ap (λ (o : Option ℤ). has_hidden (cons_option (option_map (λ start. (start, e.1)) o) (stamped grid es))) s.1 ∙ ap (λ (b : Bool). e.1.hidden || b) rest

-- a page of a regular series, with this extent
pub grid_found : (grid : GridPlan) (slot t number format base : ℕ) (columns : List Column) (cells : List Cell) (extent : RegularExtent) (page : List ℕ) (span : Span) → slot_in (head_of page) ≡ Some slot → IsRegularPage t columns base cells page
    → offsets.HasExtent base cells extent → HaveStarts grid (elements_from base cells) → AreOfFormat format (stamped grid (elements_from base cells))
    → span ≡ record { slot = slot; count = extent.count; page = number; first = pos extent.base; last = pos extent.base; hidden = extent.hidden } → IsSpanFound (Regular grid) slot columns format number page (Some span)
grid_found grid slot t number format base columns cells extent page span told is has starts allowed same =
    let es : List OffsetElement = elements_from base cells in
    let sheet : Sheet = (pos base, stamped grid es) in
    let count : length (stamped grid es) ≡ extent.count = length-stamped grid es starts ∙ count_in base cells ∙ has.count in
    let hides : has_hidden (stamped grid es) ≡ extent.hidden = hidden_stamped grid es starts ∙ has.hides in
    let own : t ≡ slot = its_slot (Regular grid) t slot columns sheet page told (record { base = base; cells = cells; bytes = is; on = record { begins = refl; starts = starts; elements = refl } }) in (
      sheet,
      record {
        bytes = record { base = base; cells = cells; bytes = subst (λ (n : ℕ). IsRegularPage n columns base cells page) own is; on = record { begins = refl; starts = starts; elements = refl } };
        of_format = allowed;
      },
      same ∙ (λ i. record { slot = slot; count = sym count i; page = number; first = pos (sym has.begins i); last = pos (sym has.begins i); hidden = sym hides i }),
    )

-- it is none where some element has no on start, or is of no volume of the format
pub grid_refused : (grid : GridPlan) (slot t format base : ℕ) (columns : List Column) (cells : List Cell) (page : List ℕ) → valid columns → IsRegularPage t columns base cells page
    → (HaveStarts grid (elements_from base cells) → AreOfFormat format (stamped grid (elements_from base cells)) → ⊥) → (sheet : Sheet) → HasSheet (Regular grid) slot columns format page sheet → ⊥
grid_refused grid slot t format base columns cells page kinds is other sheet holds =
    let h = holds.bytes in
    let both = one_grid_page slot t columns h.base base h.cells cells page kinds h.bytes is in
    let same : elements_from h.base h.cells ≡ elements_from base cells = λ i. elements_from (both.0 i) (both.1 i) in
    other (subst (HaveStarts grid) same h.on.starts) (subst (AreOfFormat format) (h.on.elements ∙ ap (stamped grid) same) holds.of_format)

-- a page that tells a series has no sheet of another
no_series : (d : Definitions) (slot : ℕ) (page : List ℕ) → slot_in (head_of page) ≡ Some slot → ((sheet : Sheet) → HoldsSeries d page slot sheet → ⊥) → (e : ElementPage) → HoldsElements d page e → ⊥
no_series d slot page told none Free holds = none_some (slot_in (head_of page)) slot (ap slot_in (head_free page holds)) told
no_series d slot page told none (Cells t sheet) holds =
    let own : t ≡ slot = its_slot holds.shape t slot holds.heading.columns sheet page told holds.bytes in
    none sheet (subst (λ (n : ℕ). HoldsSeries d page n sheet) own holds)

-- none at all where the series has no row type, or no shape
pub no_heading : (d : Definitions) (slot : ℕ) (page : List ℕ) → slot_in (head_of page) ≡ Some slot → None ≡ heading_at d slot → (e : ElementPage) → HoldsElements d page e → ⊥
no_heading d slot page told none = no_series d slot page told (λ sheet holds. none_some (heading_at d slot) holds.heading (sym none) holds.columns)

pub no_shape : (d : Definitions) (slot : ℕ) (page : List ℕ) → slot_in (head_of page) ≡ Some slot → None ≡ shape_at d slot → (e : ElementPage) → HoldsElements d page e → ⊥
no_shape d slot page told none = no_series d slot page told (λ sheet holds. none_some (shape_at d slot) holds.shape (sym none) holds.lies)

-- what was found of the span of a page tells what stands on it
pub content_found : (d : Definitions) (slot number format : ℕ) (h : Heading) (shape : Shape) (page : List ℕ) (found : Option Span) (is : Option Content) → slot_in (head_of page) ≡ Some slot → Some h ≡ heading_at d slot → Some shape ≡ shape_at d slot
    → format ≡ d.format → IsSpanFound shape slot h.columns format number page found → is ≡ option_map content.Series found → IsContentOf d number page is
content_found d slot number format h shape page found is told there lies volume has same =
    subst (IsContentOf d number page) (sym same) (of_span found (subst (λ (n : ℕ). IsSpanFound shape slot h.columns n number page found) volume has)) where
      of_span : (found : Option Span) → IsSpanFound shape slot h.columns d.format number page found → IsContentOf d number page (option_map content.Series found)
      of_span (Some span) (sheet, holds, one) = (
        Cells slot sheet,
        record { heading = h; shape = shape; columns = sym there; lies = sym lies; bytes = holds.bytes; of_format = holds.of_format },
        λ i. (ap (λ (s : Shape). span_of s slot number sheet) (sym (ap (λ (o : Option Shape). unwrap_or o Irregular) lies)) ∙ sym one) i ∷ [],
      )
      of_span None none = no_series d slot page told (λ sheet holds.
          let headings : holds.heading ≡ h = two (heading_at d slot) holds.heading h holds.columns (sym there) in
          let shapes : holds.shape ≡ shape = two (shape_at d slot) holds.shape shape holds.lies (sym lies) in
          none sheet (record {
            bytes = subst (λ (x : Heading). HoldsSheet shape slot x.columns sheet page) headings (subst (λ (x : Shape). HoldsSheet x slot holds.heading.columns sheet page) shapes holds.bytes);
            of_format = holds.of_format;
          }))

-- a page whose head is that of a free one is free
pub free_told : (page : List ℕ) → head_of page ≡ Some heads.Free → IsFreePage page
free_told page is =
    let kind : ℕ = get_or page 0 0 in
    elim (kind == 0) as (λ (b : Bool). (kind == 0) ≡ b → cond b (Some heads.Free) (cond ((kind == 1) && are_zero (bytes_at 13 19 page)) (Some (heads.Regular (from_be_bytes w16 (bytes_at 1 2 page)) (from_be_bytes w16 (bytes_at 3 2 page)) (from_be_bytes w64 (bytes_at 5 8 page)))) (cond ((kind == 2) && are_zero (bytes_at 5 27 page)) (Some (heads.Irregular (from_be_bytes w16 (bytes_at 1 2 page)) (from_be_bytes w16 (bytes_at 3 2 page)))) None)) ≡ Some heads.Free → kind ≡ 0) [
      | true ↦ λ zero head. grind (arith, nat_tests, zero)
      | false ↦ λ other head. absurd (not_free ((kind == 1) && are_zero (bytes_at 13 19 page)) ((kind == 2) && are_zero (bytes_at 5 27 page)) _ _ _ _ _ head)
    ] refl is where
      not_free : (a b : Bool) (s n at t m : ℕ) → cond a (Some (heads.Regular s n at)) (cond b (Some (heads.Irregular t m)) None) ≡ Some heads.Free → ⊥
      not_free true b s n at t m is = cc
      not_free false true s n at t m is = cc
      not_free false false s n at t m is = cc

-- a page with another head is no element page
pub no_head : (d : Definitions) (page : List ℕ) → head_of page ≡ None → (e : ElementPage) → HoldsElements d page e → ⊥
no_head d page none Free holds = none_some (head_of page) heads.Free none (head_free page holds)
no_head d page none (Cells slot sheet) holds =
    none_some (slot_of_head (head_of page)) slot (ap slot_of_head none) (slot_told holds.shape slot holds.heading.columns sheet page holds.bytes)
