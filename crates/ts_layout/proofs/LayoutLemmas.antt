-- Pages hold one layout, and the bytes behind the head of a free page are no part of it.
use Rattle.std.proofs.Common.{◌≡◌, ◌≢◌, ℕ, suc, ◌+◌, ◌<◌, ◌≤◌, true, Option, Some, None, List, [], ◌∷◌, length, drop, refl, sym, ap, subst, ◌∙◌, arith, inl, inr, ◌⊎◌}
use Rattle.std.specs.Option.{option_map}
use Rattle.std.proofs.lemmas.Bool.Decides.{nat_tests}
use Rattle.ts_row.specs.Row.{Heading, is_row_type}
use Rattle.ts_row.specs.declared.kind.Column.{Column}
use Rattle.ts_row.proofs.RowBytesLemmas.{valid}
use Rattle.ts_page.specs.Pages.{bytes_at, head_of, IsFreePage, IsElementPage, HasFreeHead, EqualPages, with_page, first_element_page}
use Rattle.ts_page.proofs.PagesLemmas.{free_headed, with_other}
use Rattle.ts_offset.specs.declared.shape.Shape.{Shape}
use Rattle.ts_model.specs.declared.kind.Kind.{Kind}
use Rattle.ts_model.specs.declared.kind.Kind.TheVariants as kinds
use Rattle.ts_model.specs.declared.def.Def.{Def}
use Rattle.ts_model.specs.Catalogue.{Catalogue}
use Rattle.ts_model.specs.Definitions.{Definitions, RowTypeDef, ContainerDef, SeriesDef, of_row_type, of_series, at_slot, limit, IsDefinitions}
use Rattle.ts_layout.specs.Meaning.{IsSlotOf, AreOfFormat, Layout, ElementPage, Free, Cells, element_page, def_at, heading_of_container, heading_in, heading_at, shape_at, HoldsDefinitions, HoldsSeries, HoldsElements, HoldsLayout, KeepLimits, IsLaidOut, Means, catalogue_of}
use Rattle.ts_layout.specs.Sheets.{Sheet, HoldsSheet}
use Rattle.ts_layout.specs.Slot.{slot_size, page_of_slot, byte_of_slot, slots_in_page, bytes_of_slots, header_bytes}
use Rattle.ts_layout.specs.Changed.{SameOutsideJournal, KeepsElements, HasNoPage}
pub use Rattle.ts_layout.proofs.OptionLemmas.{none≢some, one_of, chained, mapped, within_table}
use Rattle.ts_layout.proofs.ElementPageLemmas.{within_list}
use Rattle.ts_layout.proofs.FieldLemmas.{header_format}
use Rattle.ts_layout.proofs.OnePageLemmas.{slot_in, slot_told, free_or_sheet, one_sheet}
use Rattle.ts_layout.proofs.UniqueLemmas.{AreInPages, unique}
use Rattle.ts_layout.proofs.PlaceLemmas.{at_slot-map, page_low, page_high}

-- the row type of a series that has one
pub record RowTypeOf (d : Definitions) (slot : ℕ) (h : Heading) : Type 0 where
  pub series : SeriesDef
  pub container : ContainerDef
  pub row_type : RowTypeDef
  pub series_there : at_slot slot d.series ≡ Some series
  pub container_there : at_slot series.container d.containers ≡ Some container
  pub row_type_there : at_slot container.row_type d.row_types ≡ Some row_type
  pub heading : row_type.heading ≡ h

pub row_type_of : (d : Definitions) (slot : ℕ) (h : Heading) → heading_at d slot ≡ Some h → RowTypeOf d slot h
row_type_of d slot h is =
    let s = chained (λ (s : SeriesDef). heading_in d s.container) (at_slot slot d.series) h is in
    let c = chained (heading_of_container d) (at_slot s.0.container d.containers) h s.2 in
    let r = mapped (λ (r : RowTypeDef). r.heading) (at_slot c.0.row_type d.row_types) h c.2 in
    record { series = s.0; container = c.0; row_type = r.0; series_there = s.1; container_there = c.1; row_type_there = r.1; heading = r.2 }

-- its columns may be
row_type_columns : (stamp : List ℕ) (columns : List Column) → is_row_type stamp columns ≡ true → valid columns
row_type_columns stamp columns is = grind (arith, nat_tests)

columns_valid : (d : Definitions) (slot : ℕ) (h : Heading) → KeepLimits d → IsDefinitions d → heading_at d slot ≡ Some h → valid h.columns
columns_valid d slot h limits rules is =
    let row = row_type_of d slot h is in
    let r : RowTypeDef = row.row_type in
    let within : row.container.row_type < 64 = omega (arith, within_table d.row_types row.container.row_type r row.row_type_there, rules.row_types.size) in
    let there : def_at kinds.RowType row.container.row_type d ≡ Some (of_row_type r) = at_slot-map of_row_type row.container.row_type d.row_types ∙ ap (option_map of_row_type) row.row_type_there in
    let good = (let P : Option Def → Type 0 = IsSlotOf d.format kinds.RowType in subst P there (limits.each kinds.RowType row.container.row_type within)).1.rules in
    subst (λ (x : Heading). valid x.columns) row.heading (row_type_columns r.heading.stamp r.heading.columns good)

-- a page holds one thing
free_or_cells : (d : Definitions) (page : List ℕ) (slot : ℕ) (sheet : Sheet) → IsFreePage page → HoldsSeries d page slot sheet → ⊥
free_or_cells d page slot sheet free holds = free_or_sheet holds.shape slot holds.heading.columns sheet page free holds.bytes

pub same_page : (d : Definitions) (page : List ℕ) (e f : ElementPage) → KeepLimits d → IsDefinitions d → HoldsElements d page e → HoldsElements d page f → e ≡ f
same_page d page Free Free limits rules first second = refl
same_page d page Free (Cells t b) limits rules first second = absurd (free_or_cells d page t b first second)
same_page d page (Cells s a) Free limits rules first second = absurd (free_or_cells d page s a second first)
same_page d page (Cells s a) (Cells t b) limits rules first second =
    let columns : List Column = first.heading.columns in
    let slots : s ≡ t = one_of (slot_in (head_of page)) s t (slot_told first.shape s columns a page first.bytes) (slot_told second.shape t second.heading.columns b page second.bytes) in
    let there : HoldsSeries d page s b = subst (λ (n : ℕ). HoldsSeries d page n b) (sym slots) second in
    let headings : there.heading ≡ first.heading = one_of (heading_at d s) there.heading first.heading there.columns first.columns in
    let shapes : there.shape ≡ first.shape = one_of (shape_at d s) there.shape first.shape there.lies first.lies in
    let other : HoldsSheet first.shape s columns b page =
    subst (λ (x : Heading). HoldsSheet first.shape s x.columns b page) headings (subst (λ (x : Shape). HoldsSheet x s there.heading.columns b page) shapes there.bytes) in
    let sheets : a ≡ b = one_sheet first.shape s columns a b page (columns_valid d s first.heading limits rules first.columns) first.bytes other in
    λ i. Cells (slots i) (sheets i)

-- lists of pages that are the same page by page
pub same_pages : (es fs : List ElementPage) → length es ≡ length fs → ((i : ℕ) → i < length es → element_page i es ≡ element_page i fs) → es ≡ fs
same_pages [] [] long same = refl
same_pages [] (f ∷ fs) long same = absurd (omega arith)
same_pages (e ∷ es) [] long same = absurd (omega arith)
same_pages (e ∷ es) (f ∷ fs) long same =
    let first : e ≡ f = same 0 (omega arith) in
    let others : es ≡ fs = same_pages es fs (omega arith) (λ i within. same (suc i) (omega (arith, within))) in
    λ j. first j ∷ others j

-- pages hold one list of definitions, and one list of element pages by them
laid_definitions : (count : ℕ) (pages : ℕ → List ℕ) (l : Layout) → IsLaidOut count pages l → AreInPages pages l.definitions
laid_definitions count pages l laid = record {
  holds = laid.bytes.definitions;
  limits = laid.rules.definitions.limits;
  rules = laid.rules.definitions.tables;
  follow = laid.rules.definitions.follow;
}

pub same_definitions : (count : ℕ) (pages : ℕ → List ℕ) (k l : Layout) → IsLaidOut count pages k → IsLaidOut count pages l → k.definitions ≡ l.definitions
same_definitions count pages k l first second =
    unique pages k.definitions l.definitions (laid_definitions count pages k first) (laid_definitions count pages l second)
    (header_format k.definitions.format l.definitions.format (length k.element_pages) (length l.element_pages) (sym first.bytes.header ∙ second.bytes.header))

pub same_element_pages : (count : ℕ) (pages : ℕ → List ℕ) (k l : Layout) → IsLaidOut count pages k → IsLaidOut count pages l → k.element_pages ≡ l.element_pages
same_element_pages count pages k l first second =
    let long : length k.element_pages ≡ length l.element_pages = omega (arith, first.size, second.size) in
    let same = same_definitions count pages k l first second in
    same_pages k.element_pages l.element_pages long (λ i within.
    same_page k.definitions (pages (first_element_page + i)) (element_page i k.element_pages) (element_page i l.element_pages) first.rules.definitions.limits first.rules.definitions.tables
    (first.bytes.elements i within)
    (subst (λ (d : Definitions). HoldsElements d (pages (first_element_page + i)) (element_page i l.element_pages)) (sym same) (second.bytes.elements i (omega (arith, within, long)))))

pub same_layout : (count : ℕ) (pages : ℕ → List ℕ) (k l : Layout) → IsLaidOut count pages k → IsLaidOut count pages l → k ≡ l
same_layout count pages k l first second =
    let definitions = same_definitions count pages k l first second in
    let element_pages = same_element_pages count pages k l first second in
    λ i. record { definitions = definitions i; element_pages = element_pages i }

pub same_catalogue : (count : ℕ) (pages : ℕ → List ℕ) (a b : Catalogue) → Means count pages a → Means count pages b → a ≡ b
same_catalogue count pages a b first second =
    first.2 ∙ ap catalogue_of (same_layout count pages first.0 second.0 first.1 second.1) ∙ sym second.2

-- a page of elements has no free head
freed_is : (d : Definitions) (page : List ℕ) (e : ElementPage) → HasFreeHead page → HoldsElements d page e → e ≡ Free
freed_is d page Free free holds = refl
freed_is d page (Cells slot sheet) free holds = absurd (free_or_cells d page slot sheet (free_headed page free) holds)

-- what a free page holds, so does another
element_stays : (d : Definitions) (wanted page : List ℕ) (e : ElementPage) (number : ℕ) → (page ≡ wanted) ⊎ (IsElementPage number × HasFreeHead wanted × HasFreeHead page) → HoldsElements d wanted e → HoldsElements d page e
element_stays d wanted page e number (inl same) holds = subst (λ (p : List ℕ). HoldsElements d p e) (sym same) holds
element_stays d wanted page e number (inr freed) holds =
    subst (HoldsElements d page) (sym (freed_is d wanted e freed.1 holds)) (free_headed page freed.2)

below_elements : (number : ℕ) (wanted page : List ℕ) → number < first_element_page → (page ≡ wanted) ⊎ (IsElementPage number × HasFreeHead wanted × HasFreeHead page) → page ≡ wanted
below_elements number wanted page low (inl same) = same
below_elements number wanted page low (inr freed) = absurd (omega (arith, freed.0))

pub layout_stays : (wanted pages : ℕ → List ℕ) (l : Layout) → SameOutsideJournal wanted pages → HoldsLayout wanted l → HoldsLayout pages l
layout_stays wanted pages l same holds =
    let low : (number : ℕ) → 257 ≤ number → number < first_element_page → pages number ≡ wanted number =
    λ number above below. below_elements number (wanted number) (pages number) below (same number (inr (omega (arith, above)))) in
    record {
      header = below_elements 0 (wanted 0) (pages 0) (omega arith) (same 0 (inl refl)) ∙ holds.header;
      definitions = record {
        slots = λ kind slot within.
            ap (bytes_at (byte_of_slot kind slot) (slot_size kind)) (low (page_of_slot kind slot) (page_low kind slot) (page_high kind slot within)) ∙ holds.definitions.slots kind slot within;
        behind = λ number above below. ap (drop (bytes_of_slots (slots_in_page number))) (low number above below) ∙ holds.definitions.behind number above below;
      };
      elements = λ i within.
          element_stays l.definitions (wanted (first_element_page + i)) (pages (first_element_page + i)) (element_page i l.element_pages) (first_element_page + i) (same (first_element_page + i) (inr (omega arith))) (holds.elements i within);
    }

-- a page holds the same by definitions of the same format where the columns and the shape of its series are the same
by_elements : (d e : Definitions) (page : List ℕ) (p : ElementPage) → e.format ≡ d.format → ((slot : ℕ) (sheet : Sheet) → p ≡ Cells slot sheet → heading_at e slot ≡ heading_at d slot)
    → ((slot : ℕ) (sheet : Sheet) → p ≡ Cells slot sheet → shape_at e slot ≡ shape_at d slot) → HoldsElements d page p → HoldsElements e page p
by_elements d e page Free format headings shapes holds = holds
by_elements d e page (Cells slot sheet) format headings shapes holds = record {
  heading = holds.heading;
  shape = holds.shape;
  columns = headings slot sheet refl ∙ holds.columns;
  lies = shapes slot sheet refl ∙ holds.lies;
  bytes = holds.bytes;
  of_format = subst (λ (n : ℕ). AreOfFormat n sheet.1) (sym format) holds.of_format;
}

-- a slot is written: the header and the element pages stay
pub layout_written : (kind : Kind) (slot : ℕ) (bytes : List ℕ) (v w : ℕ → List ℕ) (d : Definitions) (l : Layout) → d.format ≡ l.definitions.format → slot < limit kind → HoldsLayout v l → EqualPages (with_page (page_of_slot kind slot) bytes v) w → HoldsDefinitions w d → KeepsElements d l
    → HoldsLayout w (record l { definitions = d })
layout_written kind slot bytes v w d l format within holds written definitions keeps =
    let number : ℕ = page_of_slot kind slot in
    let low = page_low kind slot in
    let high = page_high kind slot within in
    let stays : (n : ℕ) → number ≢ n → w n ≡ v n = λ n other. written n ∙ with_other number n bytes v other in
    record {
      header = stays 0 (λ same. absurd (omega (arith, low, same))) ∙ holds.header ∙ ap (λ (n : ℕ). header_bytes n (length l.element_pages)) (sym format);
      definitions = definitions;
      elements = λ i inside.
          let page : w (first_element_page + i) ≡ v (first_element_page + i) = stays (first_element_page + i) (λ same. absurd (omega (arith, high, same))) in
          subst (λ (p : List ℕ). HoldsElements d p (element_page i l.element_pages)) (sym page)
          (by_elements l.definitions d (v (first_element_page + i)) (element_page i l.element_pages) format (keeps.headings i) (keeps.shapes i) (holds.elements i inside));
    }

-- a slot without a series has no page
pub no_page_held : (pages : ℕ → List ℕ) (slot : ℕ) (l : Layout) → HoldsLayout pages l → def_at kinds.Series slot l.definitions ≡ None → HasNoPage slot l.element_pages
no_page_held pages slot l holds empty i sheet is =
    let within : i < length l.element_pages = within_list l.element_pages i slot sheet is in
    let page : HoldsElements l.definitions (pages (first_element_page + i)) (Cells slot sheet) = subst (HoldsElements l.definitions (pages (first_element_page + i))) is (holds.elements i within) in
    let row = row_type_of l.definitions slot page.heading page.columns in
    none≢some (def_at kinds.Series slot l.definitions) (of_series row.series) empty (at_slot-map of_series slot l.definitions.series ∙ ap (option_map of_series) row.series_there)
