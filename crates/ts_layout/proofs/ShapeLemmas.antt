-- What the pages of series are charged, by the places of these.
use Rattle.std.proofs.Common.{◌≡◌, ℕ, suc, ◌+◌, ◌<◌, ◌≤◌, ◌==◌, Bool, true, false, if◌then◌else◌, Option, Some, None, List, [], ◌∷◌, ◌++◌, length, refl, sym, ap, subst, ◌∙◌, arith, length-append, inl, inr, ℤ}
use Rattle.std.proofs.lemmas.Bool.{cases_lt}
use Rattle.std.proofs.lemmas.List.{get_or_past}
use Rattle.std.proofs.lemmas.List.Sums.{sum_by-append}
use Rattle.std.proofs.lemmas.List.Sorted.{length_permutation, sum_by-IsPermutation}
use Rattle.ts_space.specs.declared.place.Place.{Place}
use Rattle.ts_space.specs.Place.{count_of}
use Rattle.ts_space.specs.Directory.{Directory, places_of}
use Rattle.ts_space.specs.Charge.{irregular_charge}
use Rattle.ts_cells.specs.IrregularPage.{page_room}
use Rattle.ts_page.specs.Pages.{first_element_page}
use Rattle.ts_model.specs.Definitions.{Definitions, ContainerDef, SeriesDef, IsDefinitions}
use Rattle.ts_layout.specs.Sheets.{place_of_sheet}
use Rattle.ts_layout.specs.Meaning.{ElementPage, Free, Cells, Layout, elements_on, elements_of, sheets_on, sheets_of, charge_on, sum_filled, charge_of_series, charge_of_container, KeepsQuotas}
use Rattle.ts_layout.specs.Surveyed.{places_on, places_from, ListsPlaces}
use Rattle.ts_layout.specs.Charges.{places_charge, charges_listed, container_charge, KeepQuotas}

-- the places of a series count its elements, and are as many as its pages
count_append : (a b : List Place) → count_of (a ++ b) ≡ count_of a + count_of b
count_append a b = sum_by-append (λ p. p.count) a b

count_on : (slot number : ℕ) (e : ElementPage) → count_of (places_on slot number e) ≡ length (elements_on slot e)
count_on slot number Free = refl
count_on slot number (Cells s sheet) = count_if (s == slot) where
  count_if : (b : Bool) → count_of (if b then place_of_sheet number sheet ∷ [] else []) ≡ length (if b then sheet.1 else [])
  count_if false = refl
  count_if true = omega arith

pub count_places : (slot first : ℕ) (es : List ElementPage) → count_of (places_from slot first es) ≡ length (elements_of slot es)
count_places slot first [] = refl
count_places slot first (e ∷ es) =
    count_append (places_on slot first e) (places_from slot (suc first) es) ∙ (λ i. count_on slot first e i + count_places slot (suc first) es i) ∙ sym (length-append (elements_on slot e) (elements_of slot es))

many_on : (slot number : ℕ) (e : ElementPage) → length (places_on slot number e) ≡ length (sheets_on slot e)
many_on slot number Free = refl
many_on slot number (Cells s sheet) = many_if (s == slot) where
  many_if : (b : Bool) → length (if b then place_of_sheet number sheet ∷ [] else []) ≡ length (if b then sheet ∷ [] else [])
  many_if false = refl
  many_if true = refl

pub many_places : (slot first : ℕ) (es : List ElementPage) → length (places_from slot first es) ≡ length (sheets_of slot es)
many_places slot first [] = refl
many_places slot first (e ∷ es) =
    length-append (places_on slot first e) (places_from slot (suc first) es) ∙ (λ i. many_on slot first e i + many_places slot (suc first) es i) ∙ sym (length-append (sheets_on slot e) (sheets_of slot es))

pub record AreCounted (space : Directory) (es : List ElementPage) (slot : ℕ) : Type 0 where
  pub elements : count_of (places_of slot space) ≡ length (elements_of slot es)
  pub pages : length (places_of slot space) ≡ length (sheets_of slot es)

pub lists_counted : (l : Layout) (space : Directory) (slot : ℕ) → ListsPlaces space l → slot < 4096 → AreCounted space l.element_pages slot
lists_counted l space slot lists within =
    let all = (lists slot within).all in
    record {
      elements = sym (sum_by-IsPermutation (λ (p : Place). p.count) (places_of slot space) (places_from slot first_element_page l.element_pages) all) ∙ count_places slot first_element_page l.element_pages;
      pages = sym (length_permutation (places_of slot space) (places_from slot first_element_page l.element_pages) all) ∙ many_places slot first_element_page l.element_pages;
    }

-- the charge by the directory is the charge by the pages
pub one_charged : (space : Directory) (es : List ElementPage) (room slot : ℕ) (regular : Option (ℕ × ℤ)) → AreCounted space es slot → places_charge room regular (places_of slot space) ≡ charge_on es room slot regular
one_charged space es room slot None same = ap (irregular_charge room) same.elements
one_charged space es room slot (Some regular) same = same.pages

charges_same : (space : Directory) (es : List ElementPage) (container room first : ℕ) (table : List (Option SeriesDef)) → ((slot : ℕ) → slot < first + length table → AreCounted space es slot)
    → charges_listed space container room first table ≡ sum_filled (charge_of_series es container room) first table
charges_same space es container room first [] same = refl
charges_same space es container room first (None ∷ table) same =
    let rest = charges_same space es container room (suc first) table (λ slot within. same slot (omega (arith, within))) in omega (arith, rest)
charges_same space es container room first (Some s ∷ table) same =
    let here = one_charged space es room first s.regular (same first (omega arith)) in
    let rest = charges_same space es container room (suc first) table (λ slot within. same slot (omega (arith, within))) in
    λ i. (if s.container == container then here i else 0) + rest i

pub charge_same : (d : Definitions) (space : Directory) (es : List ElementPage) (container room : ℕ) → IsDefinitions d → ((slot : ℕ) → slot < 4096 → AreCounted space es slot)
    → container_charge d space container room ≡ charge_of_container (record { definitions = d; element_pages = es }) container room
charge_same d space es container room rules same = charges_same space es container room 0 d.series (λ slot within. same slot (omega (arith, within, rules.series.size)))

-- a layout keeps its quotas where the directory does
pub quotas_kept : (d : Definitions) (space : Directory) (es : List ElementPage) → IsDefinitions d → ((slot : ℕ) → slot < 4096 → AreCounted space es slot) → KeepQuotas d space → KeepsQuotas (record { definitions = d; element_pages = es })
quotas_kept d space es rules same kept i c h there heading =
    elim (cases_lt i 64) [
      | inl within ↦ subst (λ (n : ℕ). n ≤ c.quota) (charge_same d space es i (page_room h.columns) rules same) (kept i within c h there heading)
      | inr past ↦ absurd (no_container c (sym (get_or_past d.containers i None (omega (arith, past, rules.containers.size))) ∙ there))
    ] where
      no_container : (c : ContainerDef) → None ≡ Some c → ⊥
      no_container c is = cc

pub quotas_listed : (d : Definitions) (space : Directory) (es : List ElementPage) → IsDefinitions d → ((slot : ℕ) → slot < 4096 → AreCounted space es slot) → KeepsQuotas (record { definitions = d; element_pages = es }) → KeepQuotas d space
quotas_listed d space es rules same kept slot within c h there heading =
    subst (λ (n : ℕ). n ≤ c.quota) (sym (charge_same d space es slot (page_room h.columns) rules same)) (kept slot c h there heading)
