-- What a series is charged, where its elements are as many as before, or fewer.
use Rattle.std.proofs.Common.{◌≡◌, ℕ, ℤ, ◌+◌, ◌*◌, ◌/◌, ◌<◌, ◌≤◌, ◌==◌, Bool, true, false, cond, ◌||◌, Some, None, List, [], ◌∷◌, ◌++◌, map, length, refl, sym, ap, ◌∙◌, subst, arith, append_assoc, IsTrue}
use Rattle.std.specs.List.{filter, list_any}
use Rattle.std.specs.Cmp.{int_cmp_total}
use Rattle.std.specs.Ordering.{int_cmp}
use Rattle.std.proofs.Math.Nat.{le-div_iff_mul-le}
use Rattle.std.proofs.lemmas.Bool.Decides.{nat_tests}
use Rattle.std.specs.FinMap.{empty, entries, get, insert, len, len-entries, len-empty, int_cmp-IsAntisymmetric}
use Rattle.std.specs.FinMap.Entries.{where_key}
use Rattle.ts_row.specs.declared.kind.Column.{Column}
use Rattle.ts_row.specs.Row.{Row, is_row_type, width_of}
use Rattle.ts_space.specs.Charge.{distinct_count, regular_charge, irregular_charge}
use Rattle.ts_space.proofs.ChargeLemmas.{charge_grows}
use Rattle.ts_offset.specs.Grid.{starts_before}
use Rattle.ts_offset.specs.declared.shape.Shape.{Shape}
use Rattle.ts_offset.specs.declared.shape.Shape.TheVariants.{Irregular, Regular}
use Rattle.ts_model.specs.Catalogue.{Elements}
use Rattle.ts_model.specs.Charge.{page_elements, page_cells, offsets_on, elements_charge}
use Rattle.ts_catalogue_laws.proofs.MapLemmas.{keys_stay, len_stays, kept_entries}

-- how many different numbers there are, without one of them
exchanged : (a b c : Bool) → (a || (b || c)) ≡ (b || (a || c))
exchanged true true c = refl
exchanged true false c = refl
exchanged false b c = refl

any_across : (p : ℕ → Bool) (front back : List ℕ) (x : ℕ) → list_any p (front ++ x ∷ back) ≡ (p x || list_any p (front ++ back))
any_across p [] back x = refl
any_across p (z ∷ front) back x = ap (λ (b : Bool). p z || b) (any_across p front back x) ∙ exchanged (p z) (p x) (list_any p (front ++ back))

neither : (a b : Bool) → (a || b) ≡ false → (a ≡ false) × (b ≡ false)
neither true b is = absurd (let never : ⊥ = cc in never)
neither false b is = (refl, is)

other_way : (a b : ℕ) → (a == b) ≡ false → (b == a) ≡ false
other_way a b is = grind (arith, nat_tests)

one_more : (front back : List ℕ) (x : ℕ) → list_any (λ y. y == x) (front ++ back) ≡ false → distinct_count (front ++ x ∷ back) ≡ 1 + distinct_count (front ++ back)
one_more [] back x new = ap (λ (b : Bool). cond b 0 1 + distinct_count back) new
one_more (z ∷ front) back x new =
    let apart = neither (z == x) (list_any (λ y. y == x) (front ++ back)) new in
    let here : list_any (λ y. y == z) (front ++ x ∷ back) ≡ list_any (λ y. y == z) (front ++ back) =
    any_across (λ y. y == z) front back x ∙ ap (λ (b : Bool). b || list_any (λ y. y == z) (front ++ back)) (other_way z x apart.0) in
    let rest : distinct_count (front ++ x ∷ back) ≡ 1 + distinct_count (front ++ back) = one_more front back x apart.1 in
    let same : ℕ = cond (list_any (λ y. y == z) (front ++ back)) 0 1 in
    ap (λ (b : Bool). cond b 0 1 + distinct_count (front ++ x ∷ back)) here ∙ later same (distinct_count (front ++ x ∷ back)) (distinct_count (front ++ back)) rest where
      later : (a b c : ℕ) → b ≡ 1 + c → a + b ≡ 1 + (a + c)
      later a b c is = omega arith

one_less : (front back : List ℕ) (x : ℕ) → distinct_count (front ++ back) ≤ distinct_count (front ++ x ∷ back)
one_less [] back x = omega arith
one_less (z ∷ front) back x =
    elim (list_any (λ y. y == z) (front ++ back)) as (λ (b : Bool). list_any (λ y. y == z) (front ++ back) ≡ b
    → cond b 0 1 + distinct_count (front ++ back) ≤ cond (list_any (λ y. y == z) (front ++ x ∷ back)) 0 1 + distinct_count (front ++ x ∷ back)) [
      | true ↦ λ is. there (list_any (λ y. y == z) (front ++ x ∷ back)) (one_less front back x)
      | false ↦ λ is. elim (x == z) as (λ (b : Bool). (x == z) ≡ b → 1 + distinct_count (front ++ back) ≤ cond (list_any (λ y. y == z) (front ++ x ∷ back)) 0 1 + distinct_count (front ++ x ∷ back)) [
        | true ↦ λ one.
            let same : x ≡ z = grind (arith, nat_tests) in
            let new : list_any (λ y. y == x) (front ++ back) ≡ false = ap (λ (n : ℕ). list_any (λ y. y == n) (front ++ back)) same ∙ is in
            least (cond (list_any (λ y. y == z) (front ++ x ∷ back)) 0 1) (distinct_count (front ++ x ∷ back)) (distinct_count (front ++ back)) (one_more front back x new)
        | false ↦ λ other.
            let none : list_any (λ y. y == z) (front ++ x ∷ back) ≡ false =
            any_across (λ y. y == z) front back x ∙ ap (λ (b : Bool). b || list_any (λ y. y == z) (front ++ back)) other ∙ is in
            new_both (list_any (λ y. y == z) (front ++ x ∷ back)) none (one_less front back x)
      ] refl
    ] refl where
      there : {a c : ℕ} (b : Bool) → a ≤ c → cond true 0 1 + a ≤ cond b 0 1 + c
      there true few = omega arith
      there false few = omega arith

      least : (b c a : ℕ) → c ≡ 1 + a → 1 + a ≤ b + c
      least b c a is = omega arith

      new_both : {a c : ℕ} (b : Bool) → b ≡ false → a ≤ c → 1 + a ≤ cond b 0 1 + c
      new_both true is few = absurd (let never : ⊥ = cc in never)
      new_both false is few = omega arith

kept_count : {A : Type 0} (p : A → Bool) (f : A → ℕ) (front : List ℕ) (es : List A) → distinct_count (front ++ map f (filter p es)) ≤ distinct_count (front ++ map f es)
kept_count p f front [] = omega arith
kept_count {A} p f front (e ∷ es) =
    elim (p e) as (λ (b : Bool). distinct_count (front ++ map f (cond b (e ∷ filter p es) (filter p es))) ≤ distinct_count (front ++ f e ∷ map f es)) [
      | true ↦
          let rest = kept_count p f (front ++ f e ∷ []) es in
          let a : (front ++ f e ∷ []) ++ map f (filter p es) ≡ front ++ f e ∷ map f (filter p es) = append_assoc front (f e ∷ []) (map f (filter p es)) in
          let b : (front ++ f e ∷ []) ++ map f es ≡ front ++ f e ∷ map f es = append_assoc front (f e ∷ []) (map f es) in
          subst (λ (l : List ℕ). distinct_count (front ++ f e ∷ map f (filter p es)) ≤ distinct_count l) b
          (subst (λ (l : List ℕ). distinct_count l ≤ distinct_count ((front ++ f e ∷ []) ++ map f es)) a rest)
      | false ↦ chain (kept_count p f front es) (one_less front (map f es) (f e))
    ] where
      chain : {a b c : ℕ} → a ≤ b → b ≤ c → a ≤ c
      chain low high = omega arith

kept_fewer : {A : Type 0} (p : A → Bool) (es : List A) → length (filter p es) ≤ length es
kept_fewer p [] = omega arith
kept_fewer p (e ∷ es) = elim (p e) as (λ (b : Bool). length (cond b (e ∷ filter p es) (filter p es)) ≤ length (e ∷ es)) [
  | true ↦ let rest : length (filter p es) ≤ length es = kept_fewer p es in omega arith
  | false ↦ let rest : length (filter p es) ≤ length es = kept_fewer p es in omega arith
]

map_twice : {A B C : Type 0} (g : B → C) (f : A → B) (es : List A) → map g (map f es) ≡ map (λ e. g (f e)) es
map_twice g f [] = refl
map_twice g f (e ∷ es) = ap (λ (l : List _). g (f e) ∷ l) (map_twice g f es)

-- a page has room for one element at least
width_kept : (stamp : List ℕ) (columns : List Column) → IsTrue (is_row_type stamp columns) → width_of columns ≤ 1000
width_kept stamp columns is = grind (arith, nat_tests)

room_of : (w : ℕ) → w ≤ 1000 → 0 < 4064 / (w + 9)
room_of w small =
    let some : 0 < w + 9 = omega arith in
    let fits : 1 * (w + 9) ≤ 4064 = omega arith in
    let one : 1 ≤ 4064 / (w + 9) = (le-div_iff_mul-le {k = w + 9} {x = 1} {y = 4064} some).1 fits in
    omega arith

pub has_room : (stamp : List ℕ) (columns : List Column) → IsTrue (is_row_type stamp columns) → 0 < page_elements columns
has_room stamp columns rules = room_of (width_of columns) (width_kept stamp columns rules)

module _ (columns : List Column) (m n : Elements) where
  -- the elements under some stamps alone
  pub charged_less : (p : ℤ → Bool) (shape : Shape) → 0 < page_elements columns → ((q : ℤ) → get n q ≡ cond (p q) (get m q) None) → elements_charge columns shape n ≤ elements_charge columns shape m
  charged_less p shape room is = of shape (kept_entries int_cmp_total int_cmp-IsAntisymmetric p m n is) where
    of : (shape : Shape) → entries n ≡ where_key int_cmp p (entries m) → elements_charge columns shape n ≤ elements_charge columns shape m
    of Irregular kept =
        let few : length (entries n) ≤ length (entries m) = subst (λ (es : List (ℤ × Row)). length es ≤ length (entries m)) (sym kept) (kept_fewer (λ (e : ℤ × Row). p e.0) (entries m)) in
        let less : len n ≤ len m = omega (arith, few, len-entries n, len-entries m) in
        charge_grows (page_elements columns) (len n) (len m) room less
    of (Regular grid) kept =
        let offset : ℤ × Row → ℕ = λ e. starts_before grid e.0 in
        let page : ℤ × Row → ℕ = λ e. starts_before grid e.0 / page_cells columns in
        let before : map (λ (o : ℕ). o / page_cells columns) (offsets_on grid m) ≡ map page (entries m) = map_twice (λ (o : ℕ). o / page_cells columns) offset (entries m) in
        let after : map (λ (o : ℕ). o / page_cells columns) (offsets_on grid n) ≡ map page (where_key int_cmp p (entries m)) =
        map_twice (λ (o : ℕ). o / page_cells columns) offset (entries n) ∙ ap (λ (es : List (ℤ × Row)). map page es) kept in
        subst (λ (l : List ℕ). distinct_count l ≤ distinct_count (map (λ (o : ℕ). o / page_cells columns) (offsets_on grid m))) (sym after)
        (subst (λ (l : List ℕ). distinct_count (map page (where_key int_cmp p (entries m))) ≤ distinct_count l) (sym before)
        (kept_count (λ (e : ℤ × Row). p e.0) page [] (entries m)))

-- a row in place of another
pub charged_same : (columns : List Column) (shape : Shape) (m : Elements) (at : ℤ) (old row : Row) → get m at ≡ Some old → elements_charge columns shape (insert m at row) ≡ elements_charge columns shape m
charged_same columns Irregular m at old row there = ap (irregular_charge (page_elements columns)) (len_stays int_cmp_total int_cmp-IsAntisymmetric m at row old there)
charged_same columns (Regular grid) m at old row there =
    ap (regular_charge (page_cells columns))
    (sym (map_twice (starts_before grid) (λ (e : ℤ × Row). e.0) (entries (insert m at row)))
    ∙ ap (map (starts_before grid)) (keys_stay int_cmp_total int_cmp-IsAntisymmetric m at row old there)
    ∙ map_twice (starts_before grid) (λ (e : ℤ × Row). e.0) (entries m))

-- no elements
none_listed : {A : Type 0} (es : List A) → length es ≡ 0 → es ≡ []
none_listed [] none = refl
none_listed (e ∷ es) none = absurd (omega (arith, none))

pub charged_none : (columns : List Column) (shape : Shape) → elements_charge columns shape empty ≡ 0
charged_none columns Irregular = ap (irregular_charge (page_elements columns)) (len-empty int_cmp Row)
charged_none columns (Regular grid) =
    let none : entries (empty {X = Row} {R = int_cmp}) ≡ [] = none_listed (entries (empty {X = Row} {R = int_cmp})) (sym (len-entries (empty {X = Row} {R = int_cmp})) ∙ len-empty int_cmp Row) in
    ap (λ (es : List (ℤ × Row)). regular_charge (page_cells columns) (map (λ e. starts_before grid e.0) es)) none
