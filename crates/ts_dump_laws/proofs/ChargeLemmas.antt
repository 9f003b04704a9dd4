-- A charge only grows: with the elements of a series, and with the series of a container.
use Rattle.std.proofs.Common.{◌≡◌, ℕ, ◌+◌, ◌/◌, ◌<◌, ◌≤◌, Bool, true, false, cond, Option, Some, None, List, [], ◌∷◌, ◌++◌, length, map, sum, ℤ, refl, ap, sym, ◌∙◌, arith}
use Rattle.std.specs.Option.{option_map, unwrap_or}
use Rattle.std.specs.List.{filter}
use Rattle.std.specs.Str.{bytes_eq}
use Rattle.std.specs.Ordering.{int_cmp}
use Rattle.std.specs.FinMap.{entries, empty, len, len-entries, len-empty}
use Rattle.std.proofs.lemmas.List.{append-nil, append_assoc, map-append, length-map, nil_from_length}
use Rattle.std.proofs.lemmas.List.{length-append}
use Rattle.std.proofs.lemmas.List.Sums.{sum_by-cons}
use Rattle.ts_row.specs.declared.kind.Column.{Column}
use Rattle.ts_row.specs.Row.{Row, Element}
use Rattle.ts_space.specs.Charge.{distinct_count, regular_charge, irregular_charge}
use Rattle.ts_space.proofs.ChargeLemmas.{distinct_push, charge_grows}
use Rattle.ts_offset.specs.Grid.{GridPlan, starts_before}
use Rattle.ts_offset.specs.declared.shape.Shape.{Shape}
use Rattle.ts_offset.specs.declared.shape.Shape.TheVariants.{Irregular, Regular}
use Rattle.ts_model.specs.Catalogue.{Elements, Series, Catalogue, columns_of, shape_of}
use Rattle.ts_model.specs.Charge.{page_elements, page_cells, elements_charge, series_charge}

-- numbers behind others make no fewer different ones
distinct_more : (xs ys : List ℕ) → distinct_count xs ≤ distinct_count (xs ++ ys)
distinct_more xs [] = let same = ap distinct_count (append-nil xs) in omega (arith, same)
distinct_more xs (y ∷ ys) =
    let push = distinct_push xs y in
    let rest = distinct_more (xs ++ y ∷ []) ys in
    let same = ap distinct_count (append_assoc xs (y ∷ []) ys) in
    omega (arith, push, rest, same)

-- the stamps of elements
abbrev pub stamps : List Element → List ℤ
stamps es = map (λ e. e.0) es

quotients : (grid : GridPlan) (r : ℕ) (es : List Element)
    → map (λ (offset : ℕ). offset / r) (map (λ (e : Element). starts_before grid e.0) es) ≡ map (λ (z : ℤ). starts_before grid z / r) (stamps es)
quotients grid r [] = refl
quotients grid r (e ∷ es) = ap (λ (l : List ℕ). (starts_before grid e.0 / r) ∷ l) (quotients grid r es)

pub no_elements : entries (empty {X = Row} {R = int_cmp}) ≡ []
no_elements = nil_from_length (entries (empty {X = Row} {R = int_cmp})) (sym (len-entries (empty {X = Row} {R = int_cmp})) ∙ len-empty int_cmp Row)

-- further elements behind those that are there
pub elements_grow : (columns : List Column) (shape : Shape) (xs ys : Elements) (rest : List ℤ) → 0 < page_elements columns
    → stamps (entries xs) ++ rest ≡ stamps (entries ys) → elements_charge columns shape xs ≤ elements_charge columns shape ys
elements_grow columns Irregular xs ys rest room front =
    let many = ap (λ (l : List ℤ). length l) front in
    let first = length-append (stamps (entries xs)) rest in
    let left = length-map (entries xs) (λ (e : Element). e.0) in
    let right = length-map (entries ys) (λ (e : Element). e.0) in
    charge_grows (page_elements columns) (len xs) (len ys) room (omega (arith, many, first, left, right, len-entries xs, len-entries ys))
elements_grow columns (Regular grid) xs ys rest room front =
    let r = page_cells columns in
    let h : ℤ → ℕ = λ z. starts_before grid z / r in
    let left = ap distinct_count (quotients grid r (entries xs)) in
    let right = ap distinct_count (quotients grid r (entries ys) ∙ ap (map h) (sym front) ∙ map-append h (stamps (entries xs)) rest) in
    let more = distinct_more (map h (stamps (entries xs))) (map h rest) in
    omega (arith, left, right, more)

pub none_charged : (columns : List Column) (shape : Shape) → elements_charge columns shape empty ≡ 0
none_charged columns Irregular = ap (irregular_charge (page_elements columns)) (len-empty int_cmp Row)
none_charged columns (Regular grid) = ap (λ (es : List Element). regular_charge (page_cells columns) (map (λ (e : Element). starts_before grid e.0) es)) no_elements

-- of a series
by_shape : (columns : List Column) (o : Option Shape) (xs ys : Elements) → ((shape : Shape) → elements_charge columns shape xs ≤ elements_charge columns shape ys)
    → unwrap_or (option_map (λ shape. elements_charge columns shape xs) o) 0 ≤ unwrap_or (option_map (λ shape. elements_charge columns shape ys) o) 0
by_shape columns None xs ys le = omega arith
by_shape columns (Some shape) xs ys le = le shape

pub series_grow : (cat : Catalogue) (s : Series) (xs ys : Elements) → ((shape : Shape) → elements_charge (columns_of cat s) shape xs ≤ elements_charge (columns_of cat s) shape ys)
    → series_charge cat (record s { elements = xs }) ≤ series_charge cat (record s { elements = ys })
series_grow cat s xs ys le = by_shape (columns_of cat s) (shape_of cat s.kind) xs ys le

-- what series of a list are charged to a container
abbrev pub charged : Catalogue → List ℕ → List (List ℕ × Series) → ℕ
charged cat name es = sum (map (λ e. series_charge cat e.1) (filter (λ e. bytes_eq e.1.container name) es))

pub charged_cons : (cat : Catalogue) (name : List ℕ) (e : List ℕ × Series) (es : List (List ℕ × Series))
    → charged cat name (e ∷ es) ≡ cond (bytes_eq e.1.container name) (series_charge cat e.1) 0 + charged cat name es
charged_cons cat name e es =
    elim (bytes_eq e.1.container name) as (λ (b : Bool). sum (map (λ (x : List ℕ × Series). series_charge cat x.1) (cond b (e ∷ filter (λ (x : List ℕ × Series). bytes_eq x.1.container name) es) (filter (λ (x : List ℕ × Series). bytes_eq x.1.container name) es)))
    ≡ cond b (series_charge cat e.1) 0 + charged cat name es) [
      | true ↦ sum_by-cons (λ (y : ℕ). y) (series_charge cat e.1) (map (λ (x : List ℕ × Series). series_charge cat x.1) (filter (λ (x : List ℕ × Series). bytes_eq x.1.container name) es))
      | false ↦ let n = charged cat name es in let zero_first : n ≡ 0 + n = omega arith in zero_first
    ]

-- each series of a list is charged no more than that of another at its place, in the same container
pub record IsNoMore (cat : Catalogue) (x y : List ℕ × Series) : Type 0 where
  pub container : x.1.container ≡ y.1.container
  pub charge : series_charge cat x.1 ≤ series_charge cat y.1

abbrev pub AreNoMore : Catalogue → List (List ℕ × Series) → List (List ℕ × Series) → Type 0
AreNoMore cat [] [] = Unit {0}
AreNoMore cat [] (y ∷ ys) = ⊥
AreNoMore cat (x ∷ xs) [] = ⊥
AreNoMore cat (x ∷ xs) (y ∷ ys) = IsNoMore cat x y × AreNoMore cat xs ys

pub charged_no_more : (cat : Catalogue) (name : List ℕ) (xs ys : List (List ℕ × Series)) → AreNoMore cat xs ys → charged cat name xs ≤ charged cat name ys
charged_no_more cat name [] [] no_more = omega arith
charged_no_more cat name [] (y ∷ ys) no_more = absurd no_more
charged_no_more cat name (x ∷ xs) [] no_more = absurd no_more
charged_no_more cat name (x ∷ xs) (y ∷ ys) no_more =
    let rest = charged_no_more cat name xs ys no_more.1 in
    let first = charged_cons cat name x xs in
    let second = charged_cons cat name y ys in
    let same = ap (λ (c : List ℕ). cond (bytes_eq c name) (series_charge cat x.1) 0) no_more.0.container in
    let le : cond (bytes_eq y.1.container name) (series_charge cat x.1) 0 ≤ cond (bytes_eq y.1.container name) (series_charge cat y.1) 0 =
    elim (bytes_eq y.1.container name) as (λ (b : Bool). cond b (series_charge cat x.1) 0 ≤ cond b (series_charge cat y.1) 0) [ true ↦ no_more.0.charge | false ↦ omega arith ] in
    omega (arith, rest, first, second, same, le)

pub no_more_same : (cat : Catalogue) (xs : List (List ℕ × Series)) → AreNoMore cat xs xs
no_more_same cat [] = tt
no_more_same cat (x ∷ xs) = (record { container = refl; charge = omega arith }, no_more_same cat xs)

pub no_more_join : (cat : Catalogue) (xs xs' ys ys' : List (List ℕ × Series)) → AreNoMore cat xs xs' → AreNoMore cat ys ys' → AreNoMore cat (xs ++ ys) (xs' ++ ys')
no_more_join cat [] [] ys ys' first rest = rest
no_more_join cat [] (x ∷ xs') ys ys' first rest = absurd first
no_more_join cat (x ∷ xs) [] ys ys' first rest = absurd first
no_more_join cat (x ∷ xs) (x' ∷ xs') ys ys' first rest = (first.0, no_more_join cat xs xs' ys ys' first.1 rest)
