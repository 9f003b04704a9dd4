-- The catalogue of a layout keeps its format.
use Rattle.std.proofs.Common.{◌≡◌, ℕ, suc, ◌<◌, ◌==◌, ◌||◌, cond, true, false, Bool, ℤ, Option, Some, List, [], ◌∷◌, ◌++◌, refl, sym, ap, subst, ◌∙◌, arith, inl, inr}
use Rattle.std.specs.Ordering.{int_cmp, eq_by_cmp}
use Rattle.std.specs.Cmp.{int_cmp_total}
use Rattle.std.specs.FinMap.{find, get, get-from_entries}
use Rattle.std.proofs.lemmas.Bool.Decides.{nat_tests}
use Rattle.std.proofs.lemmas.Bool.{cases_eq}
use Rattle.ts_row.specs.Row.{Heading, has_long_decimal, Row, Element, has_hidden}
use Rattle.ts_model.specs.declared.kind.Kind.TheVariants as kinds
use Rattle.ts_model.specs.declared.def.Def.{Def}
use Rattle.ts_model.specs.Catalogue.{Series, Catalogue, old_format}
use Rattle.ts_model.specs.Format.{KeepsFormat}
use Rattle.ts_model.specs.Definitions.{RowTypeDef}
use Rattle.ts_layout.specs.Meaning.{IsSlotOf, Layout, ElementPage, Free, Cells, element_page, elements_on, elements_of, IsSound, Means, catalogue_of}
use Rattle.ts_layout.specs.Sheets.{Sheet}
use Rattle.ts_layout.specs.Chains.{AreFilled}
use Rattle.ts_layout.proofs.LayoutLemmas.{within_table}
use Rattle.ts_layout.proofs.LookupLemmas.{name_listed}
use Rattle.ts_layout.proofs.PageLemmas.{filled_pages}

neither : (a b : Bool) → (a || b) ≡ false → (a ≡ false) × (b ≡ false)
neither true b none = absurd (cc)
neither false b none = (refl, none)

both : (a b : Bool) → a ≡ false → b ≡ false → (a || b) ≡ false
both true b first second = absurd (cc)
both false b first second = second

-- a row among elements of which none is hidden
of_test : (test : Bool) (own row : Row) (rest : Option Row) → cond test (Some own) rest ≡ Some row → own.hidden ≡ false → (rest ≡ Some row → row.hidden ≡ false) → row.hidden ≡ false
of_test true own row rest is first others = let same : own ≡ row = cc in subst (λ (r : Row). r.hidden ≡ false) same first
of_test false own row rest is first others = others is

row_visible : (es : List Element) (stamp : ℤ) (row : Row) → find int_cmp stamp es ≡ Some row → has_hidden es ≡ false → row.hidden ≡ false
row_visible [] stamp row is none = absurd (cc)
row_visible (e ∷ es) stamp row is none =
    let each = neither e.1.hidden (has_hidden es) none in
    of_test (eq_by_cmp int_cmp stamp e.0) e.1 row (find int_cmp stamp es) is each.0 (λ rest. row_visible es stamp row rest each.1)

-- elements of which none is hidden, one list behind the other
none_joined : (es fs : List Element) → has_hidden es ≡ false → has_hidden fs ≡ false → has_hidden (es ++ fs) ≡ false
none_joined [] fs first second = second
none_joined (e ∷ es) fs first second =
    let each = neither e.1.hidden (has_hidden es) first in
    both e.1.hidden (has_hidden (es ++ fs)) each.0 (none_joined es fs each.1 second)

none_on : (slot : ℕ) (e : ElementPage) → ((sheet : Sheet) → e ≡ Cells slot sheet → has_hidden sheet.1 ≡ false) → has_hidden (elements_on slot e) ≡ false
none_on slot Free each = refl
none_on slot (Cells s sheet) each = elim (cases_eq s slot) [
  | inl same ↦ let t : (s == slot) ≡ true = grind (arith, nat_tests) in let none = each sheet (ap (λ (n : ℕ). Cells n sheet) same) in rw t none
  | inr other ↦ let f : (s == slot) ≡ false = grind (arith, nat_tests) in rw f refl
]

none_of : (slot : ℕ) (pages : List ElementPage) → ((i : ℕ) (sheet : Sheet) → element_page i pages ≡ Cells slot sheet → has_hidden sheet.1 ≡ false) → has_hidden (elements_of slot pages) ≡ false
none_of slot [] each = refl
none_of slot (e ∷ pages) each =
    none_joined (elements_on slot e) (elements_of slot pages) (none_on slot e (λ sheet is. each 0 sheet is)) (none_of slot pages (λ i sheet is. each (suc i) sheet is))

-- the row types and the elements of a layout in the old format
row_type_short : (l : Layout) → IsSound l → l.definitions.format ≡ old_format → (name : List ℕ) (h : Heading) → get (catalogue_of l).row_types name ≡ Some h → has_long_decimal h.columns ≡ false
row_type_short l sound old name h is =
    let there = name_listed kinds.RowType l name h sound is in
    let r : RowTypeDef = there.1 in
    let within : there.0 < 64 = omega (arith, within_table l.definitions.row_types there.0 r there.2.there, sound.definitions.tables.row_types.size) in
    let rules = (let P : Option Def → Type 0 = IsSlotOf l.definitions.format kinds.RowType in subst P there.2.def (sound.definitions.limits.each kinds.RowType there.0 within)).1 in
    ap (λ (g : Heading). has_long_decimal g.columns) there.3 ∙ rules.of_format old

element_visible : (l : Layout) → IsSound l → AreFilled l → l.definitions.format ≡ old_format → (key : List ℕ) (s : Series) → get (catalogue_of l).series key ≡ Some s → (stamp : ℤ) (row : Row) → get s.elements stamp ≡ Some row → row.hidden ≡ false
element_visible l sound filled old key s is stamp row has =
    let there = name_listed kinds.Series l key s sound is in
    let es : List Element = elements_of there.0 l.element_pages in
    let found : find int_cmp stamp es ≡ Some row =
    sym (get-from_entries int_cmp_total es stamp) ∙ ap (λ (x : Series). get x.elements stamp) (sym there.3) ∙ has in
    row_visible es stamp row found (none_of there.0 l.element_pages (λ i sheet at. (filled i there.0 sheet at).of_format old))

pub layout_keeps : (l : Layout) → IsSound l → AreFilled l → KeepsFormat (catalogue_of l)
layout_keeps l sound filled = record {
  format = sound.definitions.tables.format;
  short = row_type_short l sound;
  visible = element_visible l sound filled;
}

pub meaning_keeps : (count : ℕ) (pages : ℕ → List ℕ) (cat : Catalogue) → Means count pages cat → KeepsFormat cat
meaning_keeps count pages cat means = subst KeepsFormat (sym means.2) (layout_keeps means.0 means.1.rules (filled_pages pages means.0 means.1.bytes))
