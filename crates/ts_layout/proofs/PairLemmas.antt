-- The pages of a series, each by its number and its sheet: what is kept of a series follows from these.
use Rattle.std.specs.Prelude.{All, IsPermutation}
use Rattle.std.proofs.Common.{◌≡◌, ◌≢◌, ℕ, zero, suc, ◌+◌, ◌<◌, ◌==◌, Bool, true, false, if◌then◌else◌, List, [], ◌∷◌, ◌++◌, map, length, set, refl, sym, ap, subst, ◌∙◌, arith, inl, inr}
use Rattle.std.proofs.lemmas.Bool.{cases_eq}
use Rattle.std.proofs.lemmas.Bool.Decides.{nat_tests}
use Rattle.std.proofs.lemmas.List.{append-nil, map-append}
use Rattle.std.proofs.lemmas.List.Concat.{flat_map-append}
use Rattle.std.proofs.lemmas.List.Elements.{All-nil, All-cons, All-append, All-map}
use Rattle.std.proofs.lemmas.List.Sorted.{IsPermutation-refl, IsPermutation-sym, IsPermutation-trans, IsPermutation-cons, IsPermutation-middle, IsPermutation-append_right, IsPermutation-map}
use Rattle.ts_space.specs.declared.place.Place.{Place}
use Rattle.ts_space.specs.Place.{pages_of}
use Rattle.ts_row.specs.Row.{Element}
use Rattle.ts_page.specs.Pages.{first_element_page}
use Rattle.ts_layout.specs.Sheets.{Sheet, elements_in, place_of_sheet}
use Rattle.ts_layout.specs.Meaning.{ElementPage, Free, Cells, element_page, elements_on, elements_of, sheets_on, sheets_of}
use Rattle.ts_layout.specs.Surveyed.{places_on, places_from, free_from, IsListOf}
use Rattle.ts_layout.specs.Chains.{freed}
use Rattle.ts_layout.proofs.PageLemmas.{HasNone, free_cells, has_cells, not_own, not_equal, freed_own, freed_other}
use Rattle.ts_layout.proofs.MemberLemmas.{Among, among_back, all_among}
use Rattle.ts_layout.proofs.PermutedLemmas.{flat_map_permuted}

-- a page by its number and its sheet
abbrev pub Numbered : Type 0
Numbered = ℕ × Sheet

abbrev pub pairs_on : ℕ → ℕ → ElementPage → List Numbered
pairs_on slot number Free = []
pairs_on slot number (Cells s sheet) = if s == slot then (number, sheet) ∷ [] else []

-- those of the series in a slot, from page number `first` on
abbrev pub pairs_from : ℕ → ℕ → List ElementPage → List Numbered
pairs_from slot first [] = []
pairs_from slot first (e ∷ pages) = pairs_on slot first e ++ pairs_from slot (suc first) pages

-- their places
abbrev pub places_in : List Numbered → List Place
places_in pairs = map (λ p. place_of_sheet p.0 p.1) pairs

abbrev pub numbers_in : List Numbered → List ℕ
numbers_in pairs = map (λ p. p.0) pairs

abbrev pub sheets_in : List Numbered → List Sheet
sheets_in pairs = map (λ p. p.1) pairs

places_on_in : (slot number : ℕ) (e : ElementPage) → places_on slot number e ≡ places_in (pairs_on slot number e)
places_on_in slot number Free = refl
places_on_in slot number (Cells s sheet) = of_test (s == slot) where
  of_test : (b : Bool) → (if b then place_of_sheet number sheet ∷ [] else []) ≡ places_in (if b then (number, sheet) ∷ [] else [])
  of_test true = refl
  of_test false = refl

pub places_from_in : (slot first : ℕ) (pages : List ElementPage) → places_from slot first pages ≡ places_in (pairs_from slot first pages)
places_from_in slot first [] = refl
places_from_in slot first (e ∷ pages) =
    (λ i. places_on_in slot first e i ++ places_from_in slot (suc first) pages i)
    ∙ sym (map-append (λ (p : Numbered). place_of_sheet p.0 p.1) (pairs_on slot first e) (pairs_from slot (suc first) pages))

sheets_on_in : (slot number : ℕ) (e : ElementPage) → sheets_on slot e ≡ sheets_in (pairs_on slot number e)
sheets_on_in slot number Free = refl
sheets_on_in slot number (Cells s sheet) = of_test (s == slot) where
  of_test : (b : Bool) → (if b then sheet ∷ [] else []) ≡ sheets_in (if b then (number, sheet) ∷ [] else [])
  of_test true = refl
  of_test false = refl

pub sheets_of_in : (slot first : ℕ) (pages : List ElementPage) → sheets_of slot pages ≡ sheets_in (pairs_from slot first pages)
sheets_of_in slot first [] = refl
sheets_of_in slot first (e ∷ pages) =
    (λ i. sheets_on_in slot first e i ++ sheets_of_in slot (suc first) pages i)
    ∙ sym (map-append (λ (p : Numbered). p.1) (pairs_on slot first e) (pairs_from slot (suc first) pages))

-- the elements of a series are those of its sheets, page after page
elements_on_in : (slot : ℕ) (e : ElementPage) → elements_on slot e ≡ elements_in (sheets_on slot e)
elements_on_in slot Free = refl
elements_on_in slot (Cells s sheet) = of_test (s == slot) where
  of_test : (b : Bool) → (if b then sheet.1 else []) ≡ elements_in (if b then sheet ∷ [] else [])
  of_test true = sym (append-nil sheet.1)
  of_test false = refl

pub sheets_all : (slot : ℕ) (pages : List ElementPage) → elements_of slot pages ≡ elements_in (sheets_of slot pages)
sheets_all slot [] = refl
sheets_all slot (e ∷ pages) =
    (λ i. elements_on_in slot e i ++ sheets_all slot pages i)
    ∙ sym (flat_map-append (λ (sheet : Sheet). sheet.1) (sheets_on slot e) (sheets_of slot pages))

pub elements_of_in : (slot first : ℕ) (pages : List ElementPage) → elements_of slot pages ≡ elements_in (sheets_in (pairs_from slot first pages))
elements_of_in slot first pages = sheets_all slot pages ∙ ap elements_in (sheets_of_in slot first pages)

pub elements_permuted : (slot : ℕ) (pages : List ElementPage) (sheets : List Sheet) → IsPermutation sheets (sheets_of slot pages) → IsPermutation (elements_in sheets) (elements_of slot pages)
elements_permuted slot pages sheets all =
    subst (λ (l : List Element). IsPermutation (elements_in sheets) l) (sym (sheets_all slot pages)) (flat_map_permuted (λ (sheet : Sheet). sheet.1) sheets (sheets_of slot pages) all)

-- what holds of each page of the series
pub pairs_each : (P : Numbered → Type 0) (slot first : ℕ) (pages : List ElementPage) → ((i : ℕ) (sheet : Sheet) → element_page i pages ≡ Cells slot sheet → P (first + i, sheet)) → All P (pairs_from slot first pages)
pairs_each P slot first [] each = All-nil P
pairs_each P slot first (e ∷ pages) each =
    All-append P (pairs_on slot first e) (pairs_from slot (suc first) pages)
    (on_page e (λ sheet is. let at : first + 0 ≡ first = omega arith in subst (λ (n : ℕ). P (n, sheet)) at (each 0 sheet is)))
    (pairs_each P slot (suc first) pages (λ i sheet is. let at : first + suc i ≡ suc first + i = omega arith in subst (λ (n : ℕ). P (n, sheet)) at (each (suc i) sheet is)))
  where
    on_page : (e : ElementPage) → ((sheet : Sheet) → e ≡ Cells slot sheet → P (first, sheet)) → All P (pairs_on slot first e)
    on_page Free here = All-nil P
    on_page (Cells s sheet) here = elim (cases_eq s slot) [
      | inl same ↦ of_test (s == slot) (here sheet (ap (λ (n : ℕ). Cells n sheet) same))
      | inr other ↦ subst (λ (b : Bool). All P (if b then (first, sheet) ∷ [] else [])) (sym (not_equal s slot other)) (All-nil P)
    ] where
      of_test : (b : Bool) → P (first, sheet) → All P (if b then (first, sheet) ∷ [] else [])
      of_test true holds = All-cons P (first, sheet) [] holds (All-nil P)
      of_test false holds = All-nil P

-- and of its sheets
pub sheets_each : (P : Sheet → Type 0) (slot : ℕ) (pages : List ElementPage) → ((i : ℕ) (sheet : Sheet) → element_page i pages ≡ Cells slot sheet → P sheet) → All P (sheets_of slot pages)
sheets_each P slot pages each =
    subst (All P) (sym (sheets_of_in slot 0 pages)) (All-map P (λ (p : Numbered). p.1) (pairs_from slot 0 pages) (pairs_each (λ p. P p.1) slot 0 pages each))

-- the pages of the places are those pages
pub pages_in : (pairs : List Numbered) → pages_of (places_in pairs) ≡ numbers_in pairs
pages_in [] = refl
pages_in (p ∷ pairs) = ap (λ (l : List ℕ). p.0 ∷ l) (pages_in pairs)

-- a page of the series, and one that has none of it
pub own_pair : (slot number : ℕ) (sheet : Sheet) → pairs_on slot number (Cells slot sheet) ≡ (number, sheet) ∷ []
own_pair slot number sheet =
    let t : (slot == slot) ≡ true = same_slot slot in
    let one : List Numbered = (number, sheet) ∷ [] in
    ap (λ (b : Bool). if b then one else []) t
  where
    same_slot : (n : ℕ) → (n == n) ≡ true
    same_slot n = grind (arith, nat_tests)

pub no_pair : (slot number : ℕ) (e : ElementPage) → HasNone slot e → pairs_on slot number e ≡ []
no_pair slot number Free none = refl
no_pair slot number (Cells s sheet) none = elim (cases_eq s slot) [
  | inl same ↦ absurd (none sheet (ap (λ (n : ℕ). Cells n sheet) same))
  | inr other ↦ let one : List Numbered = (number, sheet) ∷ [] in ap (λ (b : Bool). if b then one else []) (not_equal s slot other)
]

-- the pages of a series that is freed, and those of another
pub pairs_freed_own : (slot first : ℕ) (pages : List ElementPage) → pairs_from slot first (map (freed slot) pages) ≡ []
pairs_freed_own slot first [] = refl
pairs_freed_own slot first (e ∷ pages) =
    let here : pairs_on slot first (freed slot e) ≡ [] = elim (has_cells slot e) [
      | inl own ↦ ap (pairs_on slot first) (ap (freed slot) own.1 ∙ freed_own slot own.0)
      | inr none ↦ ap (pairs_on slot first) (freed_other slot e none) ∙ no_pair slot first e none
    ] in
    λ i. here i ++ pairs_freed_own slot (suc first) pages i

pub pairs_freed_other : (slot s first : ℕ) (pages : List ElementPage) → s ≢ slot → pairs_from s first (map (freed slot) pages) ≡ pairs_from s first pages
pairs_freed_other slot s first [] other = refl
pairs_freed_other slot s first (e ∷ pages) other =
    let here : pairs_on s first (freed slot e) ≡ pairs_on s first e = elim (has_cells slot e) [
      | inl own ↦
          ap (pairs_on s first) (ap (freed slot) own.1 ∙ freed_own slot own.0)
          ∙ sym (ap (pairs_on s first) own.1 ∙ no_pair s first (Cells slot own.0) (not_own slot s own.0 other))
      | inr none ↦ ap (pairs_on s first) (freed_other slot e none)
    ] in
    λ i. here i ++ pairs_freed_other slot s (suc first) pages other i

-- a free page that gets elements of the series
pub pairs_set_own : (slot first i : ℕ) (sheet : Sheet) (pages : List ElementPage) → i < length pages → element_page i pages ≡ Free → IsPermutation (pairs_from slot first (set pages i (Cells slot sheet))) ((first + i, sheet) ∷ pairs_from slot first pages)
pairs_set_own slot first i sheet [] within free = absurd (omega (arith, within))
pairs_set_own slot first zero sheet (e ∷ pages) within free =
    let at : first + 0 ≡ first = omega arith in
    let rest : List Numbered = pairs_from slot (suc first) pages in
    let before : pairs_on slot first (Cells slot sheet) ++ rest ≡ (first, sheet) ∷ rest = ap (λ (l : List Numbered). l ++ rest) (own_pair slot first sheet) in
    let after : ◌≡◌ {A = List Numbered} ((first + 0, sheet) ∷ (pairs_on slot first e ++ rest)) ((first, sheet) ∷ rest) = λ k. (at k, sheet) ∷ (pairs_on slot first (free k) ++ rest) in
    subst (λ (l : List Numbered). IsPermutation (pairs_on slot first (Cells slot sheet) ++ rest) l) (before ∙ sym after) (IsPermutation-refl (pairs_on slot first (Cells slot sheet) ++ rest))
pairs_set_own slot first (suc i) sheet (e ∷ pages) within free =
    let at : suc first + i ≡ first + suc i = omega arith in
    let here : List Numbered = pairs_on slot first e in
    let rest : List Numbered = pairs_from slot (suc first) pages in
    let more = pairs_set_own slot (suc first) i sheet pages (omega (arith, within)) free in
    subst (λ (n : ℕ). IsPermutation (here ++ pairs_from slot (suc first) (set pages i (Cells slot sheet))) ((n, sheet) ∷ (here ++ rest))) at
    (IsPermutation-trans (here ++ pairs_from slot (suc first) (set pages i (Cells slot sheet))) (here ++ (suc first + i, sheet) ∷ rest) ((suc first + i, sheet) ∷ (here ++ rest))
    (IsPermutation-append_right here (pairs_from slot (suc first) (set pages i (Cells slot sheet))) ((suc first + i, sheet) ∷ rest) more)
    (IsPermutation-middle here (suc first + i, sheet) rest))

-- of another series
pub pairs_set_other : (slot s first i : ℕ) (sheet : Sheet) (pages : List ElementPage) → s ≢ slot → element_page i pages ≡ Free → pairs_from s first (set pages i (Cells slot sheet)) ≡ pairs_from s first pages
pairs_set_other slot s first i sheet [] other free = refl
pairs_set_other slot s first zero sheet (e ∷ pages) other free =
    let here : pairs_on s first (Cells slot sheet) ≡ pairs_on s first e = no_pair s first (Cells slot sheet) (not_own slot s sheet other) ∙ sym (ap (pairs_on s first) free) in
    λ k. here k ++ pairs_from s (suc first) pages
pairs_set_other slot s first (suc i) sheet (e ∷ pages) other free = ap (λ (l : List Numbered). pairs_on s first e ++ l) (pairs_set_other slot s (suc first) i sheet pages other free)

-- the free pages then
pub free_set : (slot first i : ℕ) (sheet : Sheet) (pages : List ElementPage) → i < length pages → element_page i pages ≡ Free → IsPermutation (free_from first pages) ((first + i) ∷ free_from first (set pages i (Cells slot sheet)))
free_set slot first i sheet [] within free = absurd (omega (arith, within))
free_set slot first zero sheet (Free ∷ pages) within free =
    let at : first + 0 ≡ first = omega arith in
    subst (λ (n : ℕ). IsPermutation (first ∷ free_from (suc first) pages) (n ∷ free_from (suc first) pages)) (sym at) (IsPermutation-refl (first ∷ free_from (suc first) pages))
free_set slot first zero sheet (Cells s other ∷ pages) within free = absurd (free_cells s other (sym free))
free_set slot first (suc i) sheet (Free ∷ pages) within free =
    let at : suc first + i ≡ first + suc i = omega arith in
    let then_free : List ℕ = free_from (suc first) (set pages i (Cells slot sheet)) in
    let more = free_set slot (suc first) i sheet pages (omega (arith, within)) free in
    subst (λ (n : ℕ). IsPermutation (first ∷ free_from (suc first) pages) (n ∷ first ∷ then_free)) at
    (IsPermutation-trans (first ∷ free_from (suc first) pages) (first ∷ (suc first + i) ∷ then_free) ((suc first + i) ∷ first ∷ then_free)
    (IsPermutation-cons first (free_from (suc first) pages) ((suc first + i) ∷ then_free) more)
    (IsPermutation-middle (first ∷ []) (suc first + i) then_free))
free_set slot first (suc i) sheet (Cells s other ∷ pages) within free =
    let at : suc first + i ≡ first + suc i = omega arith in
    subst (λ (n : ℕ). IsPermutation (free_from (suc first) pages) (n ∷ free_from (suc first) (set pages i (Cells slot sheet)))) at (free_set slot (suc first) i sheet pages (omega (arith, within)) free)

-- the free pages where a series is freed: those that were, and its own
pub free_freed : (slot first : ℕ) (pages : List ElementPage) → IsPermutation (free_from first (map (freed slot) pages)) (numbers_in (pairs_from slot first pages) ++ free_from first pages)
free_freed slot first [] = IsPermutation-refl []
free_freed slot first (Free ∷ pages) =
    let own : List ℕ = numbers_in (pairs_from slot (suc first) pages) in
    let free : List ℕ = free_from (suc first) pages in
    let all : List ℕ = free_from (suc first) (map (freed slot) pages) in
    IsPermutation-trans (first ∷ all) (first ∷ (own ++ free)) (own ++ first ∷ free) (IsPermutation-cons first all (own ++ free) (free_freed slot (suc first) pages))
    (IsPermutation-sym (own ++ first ∷ free) (first ∷ (own ++ free)) (IsPermutation-middle own first free))
free_freed slot first (Cells s sheet ∷ pages) = of_test (s == slot) (free_freed slot (suc first) pages) where
  of_test : (b : Bool) → IsPermutation (free_from (suc first) (map (freed slot) pages)) (numbers_in (pairs_from slot (suc first) pages) ++ free_from (suc first) pages)
      → IsPermutation (free_from first ((if b then Free else Cells s sheet) ∷ map (freed slot) pages)) (numbers_in ((if b then (first, sheet) ∷ [] else []) ++ pairs_from slot (suc first) pages) ++ free_from (suc first) pages)
  of_test true rest = IsPermutation-cons first (free_from (suc first) (map (freed slot) pages)) (numbers_in (pairs_from slot (suc first) pages) ++ free_from (suc first) pages) rest
  of_test false rest = rest

-- each free page is among them
pub free_among : (first i : ℕ) (pages : List ElementPage) → i < length pages → element_page i pages ≡ Free → Among (first + i) (free_from first pages)
free_among first i [] within free = absurd (omega (arith, within))
free_among first zero (Free ∷ pages) within free = inl (let at : first + 0 ≡ first = omega arith in at)
free_among first zero (Cells s other ∷ pages) within free = absurd (free_cells s other (sym free))
free_among first (suc i) (Free ∷ pages) within free =
    let at : suc first + i ≡ first + suc i = omega arith in
    inr (subst (λ (n : ℕ). Among n (free_from (suc first) pages)) at (free_among (suc first) i pages (omega (arith, within)) free))
free_among first (suc i) (Cells s other ∷ pages) within free =
    let at : suc first + i ≡ first + suc i = omega arith in
    subst (λ (n : ℕ). Among n (free_from (suc first) pages)) at (free_among (suc first) i pages (omega (arith, within)) free)

pub free_only : (first number : ℕ) (pages : List ElementPage) → Among number (free_from first pages) → (i : ℕ) × (number ≡ first + i) × (i < length pages) × (element_page i pages ≡ Free)
free_only first number [] there = absurd there
free_only first number (Free ∷ pages) (inl is) = (0, omega (arith, is), omega arith, refl)
free_only first number (Free ∷ pages) (inr there) = let rest = free_only (suc first) number pages there in (suc rest.0, omega (arith, rest.1), omega (arith, rest.2), rest.3)
free_only first number (Cells s other ∷ pages) there = let rest = free_only (suc first) number pages there in (suc rest.0, omega (arith, rest.1), omega (arith, rest.2), rest.3)

-- and each page of the series among its numbers
pub pair_among : (slot first i : ℕ) (sheet : Sheet) (pages : List ElementPage) → element_page i pages ≡ Cells slot sheet → Among (first + i) (numbers_in (pairs_from slot first pages))
pair_among slot first i sheet [] is = absurd (free_cells slot sheet is)
pair_among slot first zero sheet (e ∷ pages) is =
    let at : first ≡ first + 0 = omega arith in
    let here : pairs_on slot first e ≡ (first, sheet) ∷ [] = ap (pairs_on slot first) is ∙ own_pair slot first sheet in
    subst (λ (l : List Numbered). Among (first + 0) (numbers_in (l ++ pairs_from slot (suc first) pages))) (sym here) (inl (sym at))
pair_among slot first (suc i) sheet (e ∷ pages) is =
    let at : suc first + i ≡ first + suc i = omega arith in
    subst (λ (n : ℕ). Among n (numbers_in (pairs_from slot first (e ∷ pages)))) at
    (subst (Among (suc first + i)) (sym (map-append (λ (p : Numbered). p.0) (pairs_on slot first e) (pairs_from slot (suc first) pages)))
    (among_back (numbers_in (pairs_on slot first e)) (numbers_in (pairs_from slot (suc first) pages)) (suc first + i) (pair_among slot (suc first) i sheet pages is)))

pub pair_only : (slot first number : ℕ) (pages : List ElementPage) → Among number (numbers_in (pairs_from slot first pages)) → (i : ℕ) × (sheet : Sheet) × (number ≡ first + i) × (element_page i pages ≡ Cells slot sheet)
pair_only slot first number pages there =
    all_among (λ (n : ℕ). (i : ℕ) × (sheet : Sheet) × (n ≡ first + i) × (element_page i pages ≡ Cells slot sheet)) (numbers_in (pairs_from slot first pages)) number
    (All-map (λ (n : ℕ). (i : ℕ) × (sheet : Sheet) × (n ≡ first + i) × (element_page i pages ≡ Cells slot sheet)) (λ (p : Numbered). p.0) (pairs_from slot first pages)
    (pairs_each (λ p. (i : ℕ) × (sheet : Sheet) × (p.0 ≡ first + i) × (element_page i pages ≡ Cells slot sheet)) slot first pages (λ i sheet is. (i, sheet, refl, is)))) there

-- the pages of the places of a series are these
pub place_numbers : (slot : ℕ) (places : List Place) (pages : List ElementPage) → IsListOf slot places pages → IsPermutation (pages_of places) (numbers_in (pairs_from slot first_element_page pages))
place_numbers slot places pages listed =
    subst (IsPermutation (pages_of places)) (ap pages_of (places_from_in slot first_element_page pages) ∙ pages_in (pairs_from slot first_element_page pages))
    (IsPermutation-map (λ (p : Place). p.page) places (places_from slot first_element_page pages) listed.all)
