-- Single element pages: what stands on one, one that is set in a list, and those that are freed.
use Rattle.std.proofs.Common.{◌≡◌, ◌≢◌, ℕ, zero, suc, ◌+◌, ◌<◌, ◌==◌, Bool, true, false, if◌then◌else◌, Option, Some, None, List, [], ◌∷◌, map, length, set, refl, sym, ap, subst, ◌∙◌, arith, get_or-set_same, get_or-set_other, inl, inr, ◌⊎◌}
use Rattle.std.proofs.lemmas.Bool.Decides.{nat_tests}
use Rattle.std.proofs.lemmas.Bool.{cases_eq}
use Rattle.ts_page.specs.Pages.{first_element_page}
use Rattle.ts_model.specs.Definitions.{SeriesDef, at_slot}
use Rattle.ts_layout.specs.Meaning.{ElementPage, Free, Cells, Layout, element_page, HoldsElements, HoldsLayout, sum_filled}
use Rattle.ts_layout.specs.Sheets.{Sheet}
use Rattle.ts_layout.specs.Chains.{AreFilled, freed}
use Rattle.ts_layout.proofs.ElementPageLemmas.{within_list}
use Rattle.ts_layout.proofs.SheetLemmas.{fill_of}

pub free_cells : (slot : ℕ) (own : Sheet) → Free ≡ Cells slot own → ⊥
free_cells slot own same = cc

pub same_cells : (slot s : ℕ) (one other : Sheet) → Cells slot one ≡ Cells s other → (slot ≡ s) × (one ≡ other)
same_cells slot s one other same = (cc, cc)

-- a page that has no elements of the series in a slot
abbrev pub HasNone : ℕ → ElementPage → Type 0
HasNone slot e = (sheet : Sheet) → e ≡ Cells slot sheet → ⊥

-- whether a page has elements of it
pub has_cells : (slot : ℕ) (e : ElementPage) → ((sheet : Sheet) × (e ≡ Cells slot sheet)) ⊎ HasNone slot e
has_cells slot Free = inr (λ sheet is. free_cells slot sheet is)
has_cells slot (Cells s own) = elim (cases_eq s slot) [
  | inl same ↦ inl (own, ap (λ (n : ℕ). Cells n own) same)
  | inr other ↦ inr (λ sheet is. other (same_cells s slot own sheet is).0)
]

pub not_own : (slot s : ℕ) (sheet : Sheet) → s ≢ slot → HasNone s (Cells slot sheet)
not_own slot s sheet other own there = other (sym (same_cells slot s sheet own there).0)

-- a page in a list that was set, and another one
pub page_set : (pages : List ElementPage) (i : ℕ) (e : ElementPage) → i < length pages → element_page i (set pages i e) ≡ e
page_set pages i e within = get_or-set_same pages i e Free within

pub page_other : (pages : List ElementPage) (i j : ℕ) (e : ElementPage) → j ≢ i → element_page j (set pages i e) ≡ element_page j pages
page_other pages i j e other = get_or-set_other pages i j e Free other

-- pages that are freed, and those that stay
pub freed_own : (slot : ℕ) (sheet : Sheet) → freed slot (Cells slot sheet) ≡ Free
freed_own slot sheet = let t : (slot == slot) ≡ true = grind (arith, nat_tests) in ap (λ (b : Bool). if b then Free else Cells slot sheet) t

pub freed_other : (slot : ℕ) (e : ElementPage) → HasNone slot e → freed slot e ≡ e
freed_other slot Free none = refl
freed_other slot (Cells s sheet) none = elim (cases_eq s slot) [
  | inl same ↦ absurd (none sheet (ap (λ (n : ℕ). Cells n sheet) same))
  | inr other ↦ let f : (s == slot) ≡ false = grind (arith, nat_tests) in ap (λ (b : Bool). if b then Free else Cells s sheet) f
]

pub page_freed : (slot i : ℕ) (pages : List ElementPage) → element_page i (map (freed slot) pages) ≡ freed slot (element_page i pages)
page_freed slot i [] = refl
page_freed slot zero (e ∷ pages) = refl
page_freed slot (suc i) (e ∷ pages) = page_freed slot i pages

-- what has elements after had them before, and is of another series
freed_cells : (slot s : ℕ) (sheet : Sheet) (e : ElementPage) → freed slot e ≡ Cells s sheet → (e ≡ Cells s sheet) × (s ≢ slot)
freed_cells slot s sheet e is = elim (has_cells slot e) [
  | inl own ↦ absurd (free_cells s sheet (sym (freed_own slot own.0) ∙ ap (freed slot) (sym own.1) ∙ is))
  | inr none ↦
      let here : e ≡ Cells s sheet = sym (freed_other slot e none) ∙ is in
      (here, λ same. none sheet (here ∙ ap (λ (n : ℕ). Cells n sheet) same))
]

pub cells_before : (slot i s : ℕ) (sheet : Sheet) (pages : List ElementPage) → element_page i (map (freed slot) pages) ≡ Cells s sheet → (element_page i pages ≡ Cells s sheet) × (s ≢ slot)
cells_before slot i s sheet pages is = freed_cells slot s sheet (element_page i pages) (sym (page_freed slot i pages) ∙ is)

-- sums over filled slots of two functions that agree there
pub sum_same : {A : Type 0} (f g : ℕ → A → ℕ) (first : ℕ) (table : List (Option A)) → ((j : ℕ) (a : A) → at_slot j table ≡ Some a → f (first + j) a ≡ g (first + j) a) → sum_filled f first table ≡ sum_filled g first table
sum_same f g first [] same = refl
sum_same f g first (None ∷ table) same = sum_same f g (suc first) table (λ j a there. let at : first + suc j ≡ suc first + j = omega arith in subst (λ (n : ℕ). f n a ≡ g n a) at (same (suc j) a there))
sum_same f g first (Some b ∷ table) same =
    let at : first + 0 ≡ first = omega arith in
    let here : f first b ≡ g first b = subst (λ (n : ℕ). f n b ≡ g n b) at (same 0 b refl) in
    let rest = sum_same f g (suc first) table (λ j a there. let at : first + suc j ≡ suc first + j = omega arith in subst (λ (n : ℕ). f n a ≡ g n a) at (same (suc j) a there)) in
    λ k. here k + rest k

pub not_equal : (a b : ℕ) → a ≢ b → (a == b) ≡ false
not_equal a b other = grind (arith, nat_tests)

-- whether a slot has a series of a container
pub its_container : (o : Option SeriesDef) (container : ℕ) → ((s : SeriesDef) × (o ≡ Some s) × (s.container ≡ container)) ⊎ ((s : SeriesDef) → o ≡ Some s → s.container ≢ container)
its_container None container = inr (λ s there same. let no : ⊥ = cc in no)
its_container (Some s) container = elim (cases_eq s.container container) [
  | inl same ↦ inl (s, refl, same)
  | inr other ↦ inr (λ t there same. other (let e : s ≡ t = cc in ap (λ (x : SeriesDef). x.container) e ∙ same))
]

-- pages that hold a layout have filled pages
pub filled_pages : (pages : ℕ → List ℕ) (l : Layout) → HoldsLayout pages l → AreFilled l
filled_pages pages l holds i slot sheet is =
    let here = subst (HoldsElements l.definitions (pages (first_element_page + i))) is (holds.elements i (within_list l.element_pages i slot sheet is)) in
    record {
      heading = here.heading;
      shape = here.shape;
      columns = here.columns;
      lies = here.lies;
      fill = fill_of here.shape slot here.heading.columns sheet (pages (first_element_page + i)) here.bytes;
      of_format = here.of_format;
    }
