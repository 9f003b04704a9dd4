-- The free pages and the places of all series are the element pages together.
use Rattle.std.proofs.Common.{◌≡◌, ◌≢◌, ℕ, zero, suc, ◌+◌, ◌<◌, ◌≤◌, ◌==◌, Bool, true, false, if◌then◌else◌, Some, List, [], ◌∷◌, length, get_or, refl, sym, ap, ◌∙◌, arith, length-append, zero-add, inl, inr}
use Rattle.std.specs.List.{sum_by}
use Rattle.std.proofs.lemmas.Bool.Decides.{nat_tests}
use Rattle.std.proofs.lemmas.Bool.{cases_eq, cases_lt}
use Rattle.std.proofs.lemmas.List.Sums.{sum_by-cons}
use Rattle.std.proofs.lemmas.List.Sorted.{IsPermutation-sym, length_permutation}
use Rattle.ts_row.specs.Row.{Heading}
use Rattle.ts_page.specs.Pages.{first_element_page}
use Rattle.ts_space.specs.declared.place.Place.{Place}
use Rattle.ts_space.specs.Directory.{Directory, places_of, used_of}
use Rattle.ts_model.specs.Definitions.{Definitions, IsDefinitions}
use Rattle.ts_layout.specs.Sheets.{Sheet, place_of_sheet}
use Rattle.ts_layout.specs.Meaning.{ElementPage, Free, Cells, Layout, element_page, heading_at}
use Rattle.ts_layout.specs.Surveyed.{places_on, places_from, free_from, free_pages, ListsPlaces}
use Rattle.ts_layout.specs.Chains.{AreFilled}
use Rattle.ts_layout.proofs.LayoutLemmas.{none≢some}
use Rattle.ts_layout.proofs.LimitLemmas.{heading_past}

-- the sum of a function over so many numbers, from the first on
sum_to : (ℕ → ℕ) → ℕ → ℕ → ℕ
sum_to f first zero = 0
sum_to f first (suc n) = f first + sum_to f (suc first) n

to_add : (f g : ℕ → ℕ) (first n : ℕ) → sum_to (λ k. f k + g k) first n ≡ sum_to f first n + sum_to g first n
unfolding sum_to
to_add f g first zero = refl
to_add f g first (suc n) = let rest = to_add f g (suc first) n in omega (arith, rest)

to_none : (f : ℕ → ℕ) (first n : ℕ) → ((k : ℕ) → first ≤ k → f k ≡ 0) → sum_to f first n ≡ 0
unfolding sum_to
to_none f first zero none = refl
to_none f first (suc n) none =
    let here = none first (omega arith) in
    let rest = to_none f (suc first) n (λ k above. none k (omega (arith, above))) in
    omega (arith, here, rest)

to_one : (f : ℕ → ℕ) (first n s : ℕ) → first ≤ s → s < first + n → f s ≡ 1 → ((k : ℕ) → k ≢ s → f k ≡ 0) → sum_to f first n ≡ 1
unfolding sum_to
to_one f first zero s low high one none = absurd (omega arith)
to_one f first (suc n) s low high one none = elim (cases_eq s first) [
  | inl same ↦
      let here : f first ≡ 1 = ap f (sym same) ∙ one in
      let rest = to_none f (suc first) n (λ k above. none k (higher k s first above same)) in
      omega (arith, here, rest)
  | inr other ↦
      let here : f first ≡ 0 = none first (λ is. other (sym is)) in
      let rest = to_one f (suc first) n s (above_first s first low other) (omega (arith, high)) one none in
      omega (arith, here, rest)
] where
  higher : (k s first : ℕ) → suc first ≤ k → s ≡ first → k ≢ s
  higher k s first above same is = omega arith

  above_first : (s first : ℕ) → first ≤ s → s ≢ first → suc first ≤ s
  above_first s first low other = omega arith

-- the places of a directory, slot by slot
lists_sum : (f : ℕ → ℕ) (first : ℕ) (lists : List (List Place)) → ((j : ℕ) → j < length lists → length (get_or lists j []) ≡ f (first + j)) → sum_by length lists ≡ sum_to f first (length lists)
unfolding sum_to
lists_sum f first [] each = refl
lists_sum f first (p ∷ lists) each =
    let at : first + 0 ≡ first = omega arith in
    let here : length p ≡ f first = each 0 (omega arith) ∙ ap f at in
    let rest = lists_sum f (suc first) lists (λ j within. let next : first + suc j ≡ suc first + j = omega arith in each (suc j) (omega arith) ∙ ap f next) in
    sum_by-cons length p lists ∙ (λ i. here i + rest i)

-- one page of elements is one place
own_place : (s number : ℕ) (sheet : Sheet) → length (places_on s number (Cells s sheet)) ≡ 1
own_place s number sheet = let t : (s == s) ≡ true = grind (arith, nat_tests) in ap (λ (b : Bool). length (if b then place_of_sheet number sheet ∷ [] else [])) t

other_place : (s k number : ℕ) (sheet : Sheet) → k ≢ s → length (places_on k number (Cells s sheet)) ≡ 0
other_place s k number sheet other = let f : (s == k) ≡ false = grind (arith, nat_tests) in ap (λ (b : Bool). length (if b then place_of_sheet number sheet ∷ [] else [])) f

free_and_used : (slots first : ℕ) (pages : List ElementPage) → ((i s : ℕ) (sheet : Sheet) → element_page i pages ≡ Cells s sheet → s < slots) → length (free_from first pages) + sum_to (λ k. length (places_from k first pages)) 0 slots ≡ length pages
free_and_used slots first [] each = zero-add (sum_to (λ k. 0) 0 slots) ∙ to_none (λ k. 0) 0 slots (λ k above. refl)
free_and_used slots first (Free ∷ pages) each =
    let rest = free_and_used slots (suc first) pages (λ i s sheet is. each (suc i) s sheet is) in
    let more : (n m k : ℕ) → n + m ≡ k → suc n + m ≡ suc k = λ n m k is. omega (arith, is) in
    more (length (free_from (suc first) pages)) (sum_to (λ k. length (places_from k (suc first) pages)) 0 slots) (length pages) rest
free_and_used slots first (Cells s sheet ∷ pages) each =
    let rest = free_and_used slots (suc first) pages (λ i t other is. each (suc i) t other is) in
    let own = each 0 s sheet refl in
    let one : sum_to (λ k. length (places_on k first (Cells s sheet))) 0 slots ≡ 1 =
    to_one (λ k. length (places_on k first (Cells s sheet))) 0 slots s (omega arith) (omega (arith, own)) (own_place s first sheet) (λ k other. other_place s k first sheet other) in
    let split : sum_to (λ k. length (places_from k first (Cells s sheet ∷ pages))) 0 slots
    ≡ sum_to (λ k. length (places_on k first (Cells s sheet))) 0 slots + sum_to (λ k. length (places_from k (suc first) pages)) 0 slots =
    (λ i. sum_to (λ k. length-append (places_on k first (Cells s sheet)) (places_from k (suc first) pages) i) 0 slots)
    ∙ to_add (λ k. length (places_on k first (Cells s sheet))) (λ k. length (places_from k (suc first) pages)) 0 slots in
    omega (arith, rest, one, split)

-- the slot of a series with columns is one of the table
pub filled_within : (d : Definitions) (slot : ℕ) (h : Heading) → IsDefinitions d → heading_at d slot ≡ Some h → slot < 4096
filled_within d slot h rules there = elim (cases_lt slot 4096) [
  | inl below ↦ below
  | inr past ↦ absurd (none≢some (heading_at d slot) h (sym (heading_past d rules slot past)) there)
]

-- each element page is free or the place of one series
pub free_counted : (l : Layout) (space : Directory) → IsDefinitions l.definitions → AreFilled l → ListsPlaces space l → length space.lists ≡ 4096 → length (free_pages l) + used_of space ≡ length l.element_pages
free_counted l space rules filled lists size =
    let used : used_of space ≡ sum_to (λ k. length (places_from k first_element_page l.element_pages)) 0 (length space.lists) =
    lists_sum (λ k. length (places_from k first_element_page l.element_pages)) 0 space.lists (λ j within.
    let at : j ≡ 0 + j = omega arith in
    length_permutation (places_from j first_element_page l.element_pages) (places_of j space) (IsPermutation-sym (places_of j space) (places_from j first_element_page l.element_pages) (lists j (omega (arith, within, size))).all) ∙ ap (λ (k : ℕ). length (places_from k first_element_page l.element_pages)) at) in
    let both = free_and_used (length space.lists) first_element_page l.element_pages (λ i s sheet is.
    let fill = filled i s sheet is in
    let z = filled_within l.definitions s fill.heading rules fill.columns in omega (arith, z, size)) in
    ap (λ (n : ℕ). length (free_pages l) + n) used ∙ both
