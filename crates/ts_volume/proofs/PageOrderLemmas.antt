-- The pages of one series among all, and the sheets of a series in their order.
use Rattle.std.specs.Prelude.{All, AllPairs, Contains, IsPermutation}
use Rattle.std.proofs.Common.{◌≡◌, ◌≢◌, ℕ, ℤ, ◌<ℤ◌, ◌≤ℤ◌, zero, suc, ◌+◌, ◌<◌, ◌≤◌, ◌==◌, Bool, true, false, if◌then◌else◌, Option, Some, None, unwrap_or, List, [], ◌∷◌, ◌++◌, map, length, get_or, refl, sym, ap, ◌∙◌, subst, arith, inl, inr}
use Rattle.std.proofs.lemmas.Int.{ints}
use Rattle.std.proofs.lemmas.Bool.Decides.{nat_tests}
use Rattle.std.proofs.lemmas.Bool.{cases_lt, cases_eq}
use Rattle.std.proofs.lemmas.List.Elements.{All-cons, All-nil}
use Rattle.std.proofs.lemmas.List.Kept.{AllPairs-cons}
use Rattle.std.proofs.lemmas.List.Sorted.{All-permutation, Contains-permutation, IsPermutation-sym}
use Rattle.ts_row.specs.declared.kind.Column.{Column}
use Rattle.ts_row.specs.Row.{Element}
use Rattle.ts_cells.specs.IrregularPage.{page_room, first_stamp, last_stamp}
use Rattle.ts_sheets.specs.Stamped.{all_in, AreLater, AreBefore, ArePages, IsDense, IsChain}
use Rattle.ts_sheets.proofs.OrderLemmas.{later_back}
use Rattle.ts_offset.specs.Grid.{GridPlan}
use Rattle.ts_offset.specs.declared.shape.Shape.{Shape}
use Rattle.ts_offset.specs.declared.shape.Shape.TheVariants.{Irregular, Regular}
use Rattle.ts_layout.specs.Sheets.{Sheet, BeginInOrder, AreInSequence}
use Rattle.ts_layout.specs.Meaning.{ElementPage, Free, Cells, element_page, sheets_on, sheets_of}
use Rattle.ts_layout.proofs.CallerLemmas.{sheets_each}
use Rattle.ts_volume.specs.FirstBad.{Meet, IsNext}
use Rattle.ts_volume.proofs.PlaceLemmas.{AtEachTwo, two_from_pairs, two_permuted}

free_cells : (slot : ℕ) (sheet : Sheet) → Free ≡ Cells slot sheet → ⊥
free_cells slot sheet same = cc

-- a list has this element at some place
pub record StandsIn (x : Sheet) (xs : List Sheet) : Type 0 where
  pub place : ℕ
  pub within : place < length xs
  pub is : (d : Sheet) → get_or xs place d ≡ x

own_sheet : (slot : ℕ) (e : ElementPage) (a : Sheet) (rest : List Sheet) → e ≡ Cells slot a → sheets_on slot e ++ rest ≡ a ∷ rest
own_sheet slot e a rest here =
    let test : (slot == slot) ≡ true = grind (arith, nat_tests) in
    ap (λ (x : ElementPage). sheets_on slot x ++ rest) here ∙ ap (λ (b : Bool). (if b then a ∷ [] else []) ++ rest) test

stands_behind : (slot : ℕ) (e : ElementPage) (x : Sheet) (rest : List Sheet) → StandsIn x rest → StandsIn x (sheets_on slot e ++ rest)
stands_behind slot Free x rest there = there
stands_behind slot (Cells s sheet) x rest there = elim (s == slot) as (λ (b : Bool). StandsIn x ((if b then sheet ∷ [] else []) ++ rest)) [
  | true ↦ record { place = suc there.place; within = (let z = there.within in omega (arith, z)); is = there.is }
  | false ↦ there
]

-- so it is of the sheet on each page of the series
pub stands : (slot : ℕ) (pages : List ElementPage) (i : ℕ) (a : Sheet) → element_page i pages ≡ Cells slot a → StandsIn a (sheets_of slot pages)
stands slot [] i a here = absurd (free_cells slot a here)
stands slot (e ∷ pages) zero a here = subst (StandsIn a) (sym (own_sheet slot e a (sheets_of slot pages) here)) (record { place = 0; within = omega arith; is = λ d. refl })
stands slot (e ∷ pages) (suc i) a here = stands_behind slot e a (sheets_of slot pages) (stands slot pages i a here)

contains : (slot : ℕ) (pages : List ElementPage) (i : ℕ) (a : Sheet) → element_page i pages ≡ Cells slot a → Contains (sheets_of slot pages) a
contains slot pages i a here = let there = stands slot pages i a here in (there.place, there.within, there.is a)

-- what holds at each two places of the sheets holds of the sheets of two pages
module _ (R : Sheet → Sheet → Type 0) (slot : ℕ) where
  two_behind : (e : ElementPage) (rest : List Sheet) → AtEachTwo R (sheets_on slot e ++ rest) → AtEachTwo R rest
  two_behind Free rest two = two
  two_behind (Cells s sheet) rest two = elim (s == slot) as (λ (b : Bool). AtEachTwo R ((if b then sheet ∷ [] else []) ++ rest) → AtEachTwo R rest) [
    | true ↦ λ held i j d inside within other. held (suc i) (suc j) d (omega (arith, inside)) (omega (arith, within)) (λ same. other (omega (arith, same)))
    | false ↦ λ held. held
  ] two

  pub pages_two : (pages : List ElementPage) (i j : ℕ) (a b : Sheet) → element_page i pages ≡ Cells slot a → element_page j pages ≡ Cells slot b → i < j → AtEachTwo R (sheets_of slot pages) → R a b
  pages_two [] i j a b first second below two = absurd (free_cells slot a first)
  pages_two (e ∷ pages) i zero a b first second below two = absurd (omega (arith, below))
  pages_two (e ∷ pages) zero (suc j) a b first second below two =
      let own : AtEachTwo R (a ∷ sheets_of slot pages) = subst (AtEachTwo R) (own_sheet slot e a (sheets_of slot pages) first) two in
      let there = stands slot pages j b second in
      let low = there.within in
      subst (R a) (there.is a) (own 0 (suc there.place) a (omega arith) (omega (arith, low)) (omega arith))
  pages_two (e ∷ pages) (suc i) (suc j) a b first second below two = pages_two pages i j a b first second (omega (arith, below)) (two_behind e (sheets_of slot pages) two)

-- a sheet begins at its first stamp
abbrev Begins : Sheet → Type 0
Begins sheet = first_stamp sheet.1 ≡ Some sheet.0

abbrev pub Begin : Shape → Sheet → Type 0
Begin Irregular sheet = Begins sheet
Begin (Regular grid) sheet = Unit {0}

all_tail : (P : Sheet → Type 0) (x : Sheet) (xs : List Sheet) → All P (x ∷ xs) → All P xs
all_tail P x xs all k d within = all (suc k) d (omega (arith, within))

-- the last stamp of some elements
last_of : (es : List Element) (first : ℤ) → first_stamp es ≡ Some first → (last : ℤ) × (last_stamp es ≡ Some last)
last_of [] first none = absurd (cc)
last_of (e ∷ []) first some = (e.0, refl)
last_of (e ∷ f ∷ es) first some = last_of (f ∷ es) f.0 refl

last_before : (es : List Element) (last : ℤ) (fs : List Element) → last_stamp es ≡ Some last → AreBefore es fs → AreLater last fs
last_before [] last fs is before = absurd (let no : ⊥ = cc in no)
last_before (e ∷ []) last fs is before = let same : last ≡ e.0 = cc in subst (λ (z : ℤ). AreLater z fs) (sym same) before.0
last_before (e ∷ f ∷ es) last fs is before = last_before (f ∷ es) last fs is before.1

begins_later : (at : ℤ) (es fs : List Element) (first : ℤ) → first_stamp es ≡ Some first → AreLater at (es ++ fs) → at <ℤ first
begins_later at [] fs first none later = absurd (cc)
begins_later at (e ∷ es) fs first some later = let same : e.0 ≡ first = cc in subst (λ (z : ℤ). at <ℤ z) same later.0

-- each sheet behind a page begins later than what all its elements are later than
each_later : (at : ℤ) (sheets : List Sheet) → All Begins sheets → AreLater at (all_in (map (λ s. s.1) sheets)) → All (λ s. at <ℤ s.0) sheets
each_later at [] all later = All-nil (λ (s : Sheet). at <ℤ s.0)
each_later at (x ∷ sheets) all later =
    All-cons (λ (s : Sheet). at <ℤ s.0) x sheets
    (begins_later at x.1 (all_in (map (λ (s : Sheet). s.1) sheets)) x.0 (all 0 x (omega arith)) later)
    (each_later at sheets (all_tail Begins x sheets all) (later_back at x.1 (all_in (map (λ (s : Sheet). s.1) sheets)) later))

-- a sheet ends before another begins, and begins before it
abbrev IsBehind : Sheet → Sheet → Type 0
IsBehind x y = (unwrap_or (last_stamp x.1) x.0 <ℤ y.0) × (x.0 <ℤ y.0)

behind_all : (columns : List Column) (sheets : List Sheet) → All Begins sheets → ArePages columns (map (λ s. s.1) sheets) → AllPairs IsBehind sheets
behind_all columns [] all pages = λ i j d before within. absurd (omega (arith, within))
behind_all columns (x ∷ sheets) all pages =
    let others = all_tail Begins x sheets all in
    let own = all 0 x (omega arith) in
    let last = last_of x.1 x.0 own in
    let fs : List Element = all_in (map (λ (s : Sheet). s.1) sheets) in
    let later = each_later last.0 sheets others (last_before x.1 last.0 fs last.1 pages.1) in
    let first = each_later x.0 sheets others (first_before x.1 x.0 fs own pages.1) in
    AllPairs-cons IsBehind x sheets
    (λ k d within. (subst (λ (z : ℤ). z <ℤ (get_or sheets k d).0) (sym (ap (λ (o : Option ℤ). unwrap_or o x.0) last.1)) (later k d within), first k d within))
    (behind_all columns sheets others pages.2)
  where
    first_before : (es : List Element) (at : ℤ) (gs : List Element) → first_stamp es ≡ Some at → AreBefore es gs → AreLater at gs
    first_before [] at gs is before = absurd (let no : ⊥ = cc in no)
    first_before (e ∷ es) at gs is before = let same : e.0 ≡ at = cc in subst (λ (z : ℤ). AreLater z gs) same before.0

-- sheets on a grid begin one after the other
order_from : (at : ℤ) (y : Sheet) (sheets : List Sheet) → at <ℤ y.0 → BeginInOrder (y ∷ sheets) → All (λ s. at <ℤ s.0) (y ∷ sheets)
order_from at y [] below order = All-cons (λ (s : Sheet). at <ℤ s.0) y [] below (All-nil (λ (s : Sheet). at <ℤ s.0))
order_from at y (z ∷ sheets) below order =
    let next = order.0 in
    All-cons (λ (s : Sheet). at <ℤ s.0) y (z ∷ sheets) below (order_from at z sheets (omega (arith, ints, below, next)) order.1)

order_all : (sheets : List Sheet) → BeginInOrder sheets → AllPairs (λ x y. x.0 <ℤ y.0) sheets
order_all [] order = λ i j d before within. absurd (omega (arith, within))
order_all (x ∷ []) order = AllPairs-cons (λ (a b : Sheet). a.0 <ℤ b.0) x [] (All-nil (λ (s : Sheet). x.0 <ℤ s.0)) (order_all [] tt)
order_all (x ∷ y ∷ sheets) order = AllPairs-cons (λ (a b : Sheet). a.0 <ℤ b.0) x (y ∷ sheets) (order_from x.0 y sheets order.0 order.1) (order_all (y ∷ sheets) order.1)

-- so no two sheets of a sequence meet
abbrev pub Part : Shape → Sheet → Sheet → Type 0
Part shape a b = Meet shape a b → ⊥

part_both : (shape : Shape) (a b : Sheet) → Part shape a b → Part shape b a
part_both Irregular a b part meet = part (meet.1, meet.0)
part_both (Regular grid) a b part meet = part (sym meet)

part_pairs : (shape : Shape) (columns : List Column) (sheets : List Sheet) → All (Begin shape) sheets → AreInSequence shape columns sheets → AllPairs (Part shape) sheets
part_pairs Irregular columns sheets all sequence i j d before within meet =
    let behind = (behind_all columns sheets all sequence.pages i j d before within).0 in
    let late = meet.1 in
    absurd (omega (arith, ints, behind, late))
part_pairs (Regular grid) columns sheets all sequence i j d before within meet =
    let behind = order_all sheets sequence i j d before within in
    absurd (omega (arith, ints, behind, meet))

pub never_meet : (shape : Shape) (columns : List Column) (slot : ℕ) (pages : List ElementPage) (sheets : List Sheet) → AreInSequence shape columns sheets → IsPermutation sheets (sheets_of slot pages) → All (Begin shape) (sheets_of slot pages)
    → (i j : ℕ) (a b : Sheet) → element_page i pages ≡ Cells slot a → element_page j pages ≡ Cells slot b → i < j → Meet shape a b → ⊥
never_meet shape columns slot pages sheets sequence moved all i j a b first second below =
    let begin = All-permutation (Begin shape) (sheets_of slot pages) sheets (IsPermutation-sym sheets (sheets_of slot pages) moved) all in
    let two = two_from_pairs (Part shape) sheets (part_both shape) (part_pairs shape columns sheets begin sequence) in
    pages_two (Part shape) slot pages i j a b first second below (two_permuted (Part shape) sheets (sheets_of slot pages) moved two)

-- two neighbours in a chain never fit one page
dense_at : (q : ℕ) (sheets : List Sheet) → IsDense q (map (λ s. s.1) sheets) → (i : ℕ) (d : Sheet) → suc i < length sheets → q < length (get_or sheets i d).1 + length (get_or sheets (suc i) d).1
dense_at q [] dense i d within = absurd (omega (arith, within))
dense_at q (x ∷ []) dense i d within = absurd (omega (arith, within))
dense_at q (x ∷ y ∷ sheets) dense zero d within = dense.0
dense_at q (x ∷ y ∷ sheets) dense (suc i) d within = dense_at q (y ∷ sheets) dense.1 i d (omega (arith, within))

-- the one that begins next to another is its neighbour
module _ (columns : List Column) (sheets : List Sheet) (chain : IsChain columns (map (λ s. s.1) sheets)) (all : All Begins sheets) (a b : Sheet) (behind : a.0 <ℤ b.0) (least : All (λ c. a.0 <ℤ c.0 → b.0 ≤ℤ c.0) sheets) where
  later : (i j : ℕ) (d : Sheet) → i < j → j < length sheets → (get_or sheets i d).0 <ℤ (get_or sheets j d).0
  later i j d before within = (behind_all columns sheets all chain.pages i j d before within).1

  neighbours : (i j : ℕ) → i < length sheets → j < length sheets → get_or sheets i a ≡ a → get_or sheets j a ≡ b → page_room columns < length a.1 + length b.1
  neighbours i j inside within first second =
      elim (cases_lt i j) [
        | inr past ↦ elim (cases_eq i j) [
          | inl same ↦
              let one : a ≡ b = sym first ∙ ap (λ (n : ℕ). get_or sheets n a) same ∙ second in
              let stamps : a.0 ≡ b.0 = ap (λ (s : Sheet). s.0) one in
              absurd (omega (arith, ints, stamps, behind))
          | inr other ↦
              let low = later j i a (omega (arith, past, other)) inside in
              let from = subst (λ (s : Sheet). s.0 <ℤ (get_or sheets i a).0) second low in
              let turned = subst (λ (s : Sheet). b.0 <ℤ s.0) first from in
              absurd (omega (arith, ints, behind, turned))
        ]
        | inl before ↦ elim (cases_eq j (suc i)) [
          | inl next ↦
              let dense = dense_at (page_room columns) sheets chain.dense i a (omega (arith, next, within)) in
              let here : get_or sheets (suc i) a ≡ b = ap (λ (n : ℕ). get_or sheets n a) (sym next) ∙ second in
              let front : length (get_or sheets i a).1 ≡ length a.1 = ap (λ (s : Sheet). length s.1) first in
              let back : length (get_or sheets (suc i) a).1 ≡ length b.1 = ap (λ (s : Sheet). length s.1) here in
              omega (arith, dense, front, back)
          | inr between ↦
              let one = later i (suc i) a (omega arith) (omega (arith, before, between, within)) in
              let two = later (suc i) j a (omega (arith, before, between)) within in
              let from = subst (λ (s : Sheet). s.0 <ℤ (get_or sheets (suc i) a).0) first one in
              let to = subst (λ (s : Sheet). (get_or sheets (suc i) a).0 <ℤ s.0) second two in
              let past = least (suc i) a (omega (arith, before, between, within)) from in
              absurd (omega (arith, ints, to, past))
        ]
      ]

-- so a page and the next one never fit one page
pub never_sparse : (columns : List Column) (slot : ℕ) (pages : List ElementPage) (sheets : List Sheet) → IsChain columns (map (λ s. s.1) sheets) → IsPermutation sheets (sheets_of slot pages) → All (Begin Irregular) (sheets_of slot pages)
    → (i : ℕ) (a b : Sheet) → element_page i pages ≡ Cells slot a → IsNext pages slot a b → page_room columns < length a.1 + length b.1
never_sparse columns slot pages sheets chain moved all i a b there next =
    let back = IsPermutation-sym sheets (sheets_of slot pages) moved in
    let least : All (λ c. a.0 <ℤ c.0 → b.0 ≤ℤ c.0) sheets = All-permutation (λ (c : Sheet). a.0 <ℤ c.0 → b.0 ≤ℤ c.0) (sheets_of slot pages) sheets back (sheets_each (λ c. a.0 <ℤ c.0 → b.0 ≤ℤ c.0) slot pages next.least) in
    let begin = All-permutation (Begin Irregular) (sheets_of slot pages) sheets back all in
    let first = Contains-permutation (sheets_of slot pages) sheets a back (contains slot pages i a there) in
    let second = Contains-permutation (sheets_of slot pages) sheets b back (contains slot pages next.at b next.there) in
    neighbours columns sheets chain begin a b next.behind least first.0 second.0 first.1 second.1 first.2 (at_any sheets second.0 b a second.1 second.2)
  where
    at_any : (xs : List Sheet) (k : ℕ) (x d : Sheet) → k < length xs → get_or xs k x ≡ x → get_or xs k d ≡ x
    at_any [] k x d within is = absurd (omega (arith, within))
    at_any (y ∷ xs) zero x d within is = is
    at_any (y ∷ xs) (suc k) x d within is = at_any xs k x d (omega (arith, within)) is
