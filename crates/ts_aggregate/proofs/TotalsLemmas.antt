-- The numbers of a column that are gathered one after the other, and what is kept of them.
use Rattle.std.proofs.Common.{◌≡◌, ℕ, zero, suc, ◌+◌, ◌*◌, ◌<◌, ◌≤◌, ◌^◌, Bool, true, false, cond, nat_lt, ℤ, pos, negsuc, ◌+ℤ◌, ◌≤ℤ◌, unsigned_abs, List, [], ◌∷◌, length, fold, map, Option, Some, None, IsTrue, refl, sym, subst, ap, ◌∙◌, arith, lit<, inl, inr}
use Rattle.std.specs.Prelude.{IfSome, if◌then◌else◌}
use Rattle.std.specs.List.{list_all}
use Rattle.std.specs.Int.{int_min, int_max}
use Rattle.std.proofs.lemmas.Int.{ints, clamps}
use Rattle.std.proofs.lemmas.Bool.{and_parts, cases_Bool}
use Rattle.std.proofs.lemmas.Bool.Decides.{nat_tests}
use Rattle.ts_row.specs.declared.kind.ColumnKind.{ColumnKind}
use Rattle.ts_row.specs.declared.kind.ColumnKind.TheVariants.{SmallInt, Integer, BigInt, Decimal, VarChar}
use Rattle.ts_row.specs.Row.{short_digits, column_width}
use Rattle.ts_row.specs.Decoding.{number_in}
use Rattle.ts_row.specs.declared.value.Value.{Value}
use Rattle.ts_row.specs.declared.value.Value.TheVariants.{Null, Number, Text}
use Rattle.ts_expr.specs.Aggregates.{is_text_kind}
use Rattle.ts_aggregate.specs.declared.totals.Gathered.{Gathered}
use Rattle.ts_aggregate.specs.declared.numbers.NumberSize.TheVariants.{Eight, Sixteen}
use Rattle.ts_aggregate.specs.declared.totals.Sought.{Sought}
use Rattle.ts_aggregate.specs.declared.totals.Totals.{Totals}
use Rattle.ts_aggregate.specs.Column.{better, is_small}
use Rattle.ts_aggregate.specs.Totals.{size_of, bytes_in, number_of_size, IsBest, best_of, gathered, AreTotals, AreKnown}

-- the numbers of a column are those of its size
sized : (kind : ColumnKind) → is_text_kind kind ≡ false → (bytes : List ℕ) → number_of_size (size_of kind) bytes ≡ number_in kind bytes
sized SmallInt numbers bytes = refl
sized Integer numbers bytes = refl
sized BigInt numbers bytes = refl
sized (Decimal digits scale) numbers bytes = elim (cases_Bool (nat_lt short_digits digits)) [ inl t ↦ rw t refl | inr f ↦ rw f refl ]
sized (VarChar most) numbers bytes = absurd (cc)

pub all_sized : (kind : ColumnKind) → is_text_kind kind ≡ false → (found : List (List ℕ)) → map (number_of_size (size_of kind)) found ≡ map (number_in kind) found
all_sized kind numbers [] = refl
all_sized kind numbers (bytes ∷ found) =
    ap (λ (z : ℤ). z ∷ map (number_of_size (size_of kind)) found) (sized kind numbers bytes)
    ∙ ap (λ (l : List ℤ). number_in kind bytes ∷ l) (all_sized kind numbers found)

-- and have as many bytes
pub width_sized : (kind : ColumnKind) → is_text_kind kind ≡ false → (w : ℕ) → w + 1 ≡ column_width kind → w ≡ bytes_in (size_of kind)
width_sized SmallInt numbers w is = omega (arith, is)
width_sized Integer numbers w is = omega (arith, is)
width_sized BigInt numbers w is = omega (arith, is)
width_sized (Decimal digits scale) numbers w is = by (nat_lt short_digits digits) is where
  by : (long : Bool) → w + 1 ≡ (if long then 17 else 9) → w ≡ bytes_in (if long then Sixteen else Eight)
  by true is = omega (arith, is)
  by false is = omega (arith, is)
width_sized (VarChar most) numbers w is = absurd (cc)

-- the lesser, or the greater, of two
abbrev pick : Bool → ℤ → ℤ → ℤ
pick most a b = cond most (int_max a b) (int_min a b)

lesser_is : (a b : ℤ) → better false (Number a) (Number b) ≡ Number (int_min a b)
lesser_is a b = grind (arith, ints)

greater_is : (a b : ℤ) → better true (Number a) (Number b) ≡ Number (int_max a b)
greater_is a b = grind (arith, ints)

better_is : (most : Bool) (a b : ℤ) → better most (Number a) (Number b) ≡ Number (pick most a b)
better_is true a b = greater_is a b
better_is false a b = lesser_is a b

-- of three
pick_assoc : (most : Bool) (a b c : ℤ) → pick most (pick most a b) c ≡ pick most a (pick most b c)
pick_assoc true a b c = omega (arith, ints, clamps)
pick_assoc false a b c = omega (arith, ints, clamps)

best_assoc : (most : Bool) (kept : Value) (a b : ℤ) → better most (better most kept (Number a)) (Number b) ≡ better most kept (Number (pick most a b))
best_assoc true Null a b = greater_is a b
best_assoc false Null a b = lesser_is a b
best_assoc true (Text text) a b = refl
best_assoc false (Text text) a b = refl
best_assoc most (Number k) a b =
    ap (λ (v : Value). better most v (Number b)) (better_is most k a) ∙ better_is most (pick most k a) b
    ∙ ap (λ (z : ℤ). Number z) (pick_assoc most k a b) ∙ sym (better_is most k (pick most a b))

-- the best of a value and of numbers is that of it and of their best
best_behind : (most : Bool) (kept : Value) (x : ℤ) (zs : List ℤ) (z : ℤ) → fold (better most) (Number x) (map (λ y. Number y) zs) ≡ Number z
    → fold (better most) (better most kept (Number x)) (map (λ y. Number y) zs) ≡ better most kept (Number z)
best_behind most kept x [] z is = ap (better most kept) is
best_behind most kept x (y ∷ zs) z is =
    ap (λ (v : Value). fold (better most) v (map (λ u. Number u) zs)) (best_assoc most kept x y)
    ∙ best_behind most kept (pick most x y) zs z (ap (λ (v : Value). fold (better most) v (map (λ u. Number u) zs)) (sym (better_is most x y)) ∙ is)

null_first : (most : Bool) (z : ℤ) → better most Null (Number z) ≡ Number z
null_first true z = refl
null_first false z = refl

pub best_kept : (most : Bool) (kept : Value) (zs : List ℤ) (z : ℤ) → (length zs ≡ 0 → ⊥) → IsBest most zs z
    → better most kept (Number z) ≡ fold (better most) kept (map (λ y. Number y) zs)
best_kept most kept [] z some best = absurd (some refl)
best_kept most kept (x ∷ zs) z some best =
    sym (best_behind most kept x zs z (ap (λ (v : Value). fold (better most) v (map (λ u. Number u) zs)) (sym (null_first most x)) ∙ best some))

pub best_told : (most : Bool) (zs : List ℤ) (t : Totals) → AreTotals zs t → IfSome (best_of most t) (IsBest most zs)
best_told true zs t are = are.greatest
best_told false zs t are = are.least

pub none_kept : (most : Bool) (kept : Value) (zs : List ℤ) → length zs ≡ 0 → kept ≡ fold (better most) kept (map (λ y. Number y) zs)
none_kept most kept [] none = refl
none_kept most kept (x ∷ zs) none = absurd (omega (arith, none))

-- the best of so many numbers, NULL of none
abbrev best_so_far : ℕ → ℤ → Value
best_so_far zero z = Null
best_so_far (suc n) z = Number z

-- what was gathered, and the numbers that are left; all of them lie between two bounds
pub record SoFar (top : ℕ) (all : List ℤ) (sought : Sought) (g : Gathered) (left : List ℤ) : Type 0 where
  pub count : g.count + length left ≡ length all
  pub small : IsTrue (list_all is_small all) → IsTrue (list_all is_small left)
  pub digits : IsTrue (list_all is_small all) → unsigned_abs g.sum ≤ g.count * 10 ^ 28
  pub sum : IsTrue (list_all is_small all) → fold ◌+ℤ◌ g.sum left ≡ fold ◌+ℤ◌ (pos 0) all
  pub first_least : g.count ≡ 0 → g.least ≡ pos top
  pub first_greatest : g.count ≡ 0 → g.greatest ≡ negsuc top
  pub least : IsTrue sought.least → fold (better false) (best_so_far g.count g.least) (map (λ z. Number z) left)
      ≡ fold (better false) Null (map (λ z. Number z) all)
  pub greatest : IsTrue sought.greatest → fold (better true) (best_so_far g.count g.greatest) (map (λ z. Number z) left)
      ≡ fold (better true) Null (map (λ z. Number z) all)

pub none_gathered : (top : ℕ) (all : List ℤ) (sought : Sought) → SoFar top all sought (gathered 0 (pos 0) (pos top) (negsuc top)) all
none_gathered top all sought = record {
  count = omega arith;
  small = λ small. small;
  digits = λ small. omega arith;
  sum = λ small. refl;
  first_least = λ none. refl;
  first_greatest = λ none. refl;
  least = λ yes_. refl;
  greatest = λ yes_. refl;
}

least_more : (top count : ℕ) (kept z : ℤ) → (count ≡ 0 → kept ≡ pos top) → z ≤ℤ pos top
    → better false (best_so_far count kept) (Number z) ≡ best_so_far (suc count) (int_min kept z)
least_more top zero kept z first within =
    let start : kept ≡ pos top = first refl in
    let same : z ≡ int_min kept z = omega (arith, ints, clamps) in
    ap (λ (x : ℤ). Number x) same
least_more top (suc n) kept z first within = lesser_is kept z

greatest_more : (top count : ℕ) (kept z : ℤ) → (count ≡ 0 → kept ≡ negsuc top) → negsuc top ≤ℤ z
    → better true (best_so_far count kept) (Number z) ≡ best_so_far (suc count) (int_max kept z)
greatest_more top zero kept z first within =
    let start : kept ≡ negsuc top = first refl in
    let same : z ≡ int_max kept z = omega (arith, ints, clamps) in
    ap (λ (x : ℤ). Number x) same
greatest_more top (suc n) kept z first within = greater_is kept z

-- one more is gathered
pub more_gathered : (top : ℕ) (all : List ℤ) (sought : Sought) (g h : Gathered) (z : ℤ) (left zs : List ℤ) → SoFar top all sought g left → left ≡ z ∷ zs
    → z ≤ℤ pos top → negsuc top ≤ℤ z
    → h.count ≡ g.count + 1 → (unsigned_abs g.sum ≤ g.count * 10 ^ 28 → unsigned_abs z < 2 ^ 94 → h.sum ≡ g.sum +ℤ z)
    → (IsTrue sought.least → h.least ≡ int_min g.least z) → (IsTrue sought.greatest → h.greatest ≡ int_max g.greatest z)
    → SoFar top all sought h zs
more_gathered top all sought g h z left zs was split high low count sum least greatest = record {
  count = omega (arith, was.count, ap length split, count);
  small = λ small. (parts small).1;
  digits = λ small.
      let digits = was.digits small in
      let near = is_near small in
      let more = sum digits (omega (arith, near, top_small)) in
      omega (arith, ints, digits, near, more, count);
  sum = λ small. ap (λ (x : ℤ). fold ◌+ℤ◌ x zs) (sum (was.digits small) (omega (arith, is_near small, top_small))) ∙ ap (fold ◌+ℤ◌ g.sum) (sym split) ∙ was.sum small;
  first_least = λ none. absurd (omega (arith, none, count));
  first_greatest = λ none. absurd (omega (arith, none, count));
  least = λ yes_.
      ap (λ (n : ℕ). fold (better false) (best_so_far n h.least) numbers) many
      ∙ ap (λ (x : ℤ). fold (better false) (best_so_far (suc g.count) x) numbers) (least yes_)
      ∙ ap (λ (v : Value). fold (better false) v numbers) (sym (least_more top g.count g.least z was.first_least high))
      ∙ ap (λ (l : List ℤ). fold (better false) (best_so_far g.count g.least) (map (λ x. Number x) l)) (sym split) ∙ was.least yes_;
  greatest = λ yes_.
      ap (λ (n : ℕ). fold (better true) (best_so_far n h.greatest) numbers) many
      ∙ ap (λ (x : ℤ). fold (better true) (best_so_far (suc g.count) x) numbers) (greatest yes_)
      ∙ ap (λ (v : Value). fold (better true) v numbers) (sym (greatest_more top g.count g.greatest z was.first_greatest low))
      ∙ ap (λ (l : List ℤ). fold (better true) (best_so_far g.count g.greatest) (map (λ x. Number x) l)) (sym split) ∙ was.greatest yes_;
} where
  numbers : List Value
  numbers = map (λ x. Number x) zs

  many : h.count ≡ suc g.count
  many = omega (arith, count)

  top_small : 10 ^ 28 < 2 ^ 94
  top_small = lit< tt

  parts : IsTrue (list_all is_small all) → (is_small z ≡ true) × (list_all is_small zs ≡ true)
  parts small = and_parts (is_small z) (list_all is_small zs) (subst (λ (l : List ℤ). IsTrue (list_all is_small l)) split (was.small small))

  is_near : IsTrue (list_all is_small all) → unsigned_abs z < 10 ^ 28
  is_near small = let one : nat_lt (unsigned_abs z) (10 ^ 28) ≡ true = (parts small).0 in grind (arith, nat_tests)

-- all are gathered
best_is : (most : Bool) (zs : List ℤ) (count : ℕ) (z : ℤ) → count ≡ length zs
    → best_so_far count z ≡ fold (better most) Null (map (λ x. Number x) zs) → IsBest most zs z
best_is most zs zero z many is some = absurd (some (sym many))
best_is most zs (suc n) z many is some = sym is

pub all_gathered : (top : ℕ) (all : List ℤ) (sought : Sought) (g : Gathered) (t : Totals) → SoFar top all sought g [] → t.count ≡ g.count
    → unsigned_abs t.sum ≤ t.count * 10 ^ 28 → (unsigned_abs g.sum ≤ g.count * 10 ^ 28 → t.sum ≡ g.sum)
    → t.least ≡ (if sought.least then Some g.least else None)
    → t.greatest ≡ (if sought.greatest then Some g.greatest else None) → AreKnown all t
all_gathered top all sought g t so_far count digits sum least greatest = record {
  digits = digits;
  exact = λ small. record {
    count = omega (arith, count, so_far.count);
    sum = sum (so_far.digits small) ∙ so_far.sum small;
    least = subst (λ (o : Option ℤ). IfSome o (IsBest false all)) (sym least) (by false sought.least g.least so_far.least);
    greatest = subst (λ (o : Option ℤ). IfSome o (IsBest true all)) (sym greatest) (by true sought.greatest g.greatest so_far.greatest);
  };
} where
  many : g.count ≡ length all
  many = omega (arith, so_far.count)

  by : (most : Bool) (b : Bool) (z : ℤ) → (IsTrue b → best_so_far g.count z ≡ fold (better most) Null (map (λ x. Number x) all))
      → IfSome (if b then Some z else None) (IsBest most all)
  by most true z best = best_is most all g.count z many (best refl)
  by most false z best = tt
