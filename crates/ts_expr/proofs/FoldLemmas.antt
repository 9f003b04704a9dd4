-- Values that are taken one after the other.
use Rattle.std.proofs.Common.{◌≡◌, ℕ, zero, suc, ◌+◌, ◌<◌, ◌≤◌, ◌^◌, ◌==◌, Bool, true, false, not, ℤ, pos, ◌+ℤ◌, unsigned_abs, List, [], ◌∷◌, ◌++◌, length, length-append, map, filter, fold, take, set, get_or, All, refl, sym, ◌∙◌, ap, arith, inl, inr, lit<}
use Rattle.std.proofs.lemmas.Bool.{cases_Bool, and_parts}
use Rattle.std.proofs.lemmas.Bool.Decides.{nat_tests}
use Rattle.std.proofs.lemmas.List.{map-append, length-map, append-nil}
use Rattle.std.proofs.lemmas.List.Elements.{filter-append}
use Rattle.std.proofs.Math.Nat.{pow-le-pow_right}
use Rattle.std.specs.List.{list_all}
use Rattle.ts_row.specs.declared.kind.ColumnKind.{ColumnKind}
use Rattle.ts_row.specs.declared.kind.ColumnKind.TheVariants.{SmallInt, Integer, BigInt, Decimal, VarChar}
use Rattle.ts_row.specs.declared.kind.Column.{Column}
use Rattle.ts_row.specs.declared.value.Value.{Value}
use Rattle.ts_row.specs.declared.value.Value.TheVariants.{Null, Number, Text}
use Rattle.ts_row.specs.Row.{is_kind, Values, Row, holds, hold}
use Rattle.ts_expr.specs.declared.function.Function.{Function}
use Rattle.ts_expr.specs.declared.function.Function.TheVariants.{Sum, Avg, Count, Min, Max, First, Last}
use Rattle.ts_expr.specs.declared.item.BoundItem.{BoundItem}
use Rattle.ts_expr.specs.declared.tally.Tally.{Tally}
use Rattle.ts_expr.specs.declared.tally.Tally.TheVariants as tally
use Rattle.ts_expr.specs.Sums.{Sums}
use Rattle.ts_expr.specs.Aggregates.{is_null, value_at, values_of, number_of, total, mean, lesser, greater, earlier, later, made, folded}
use Rattle.ts_expr.specs.Running.{sums, tally_of, after, count_of, with_value, taken_into, all_taken, IsSmall, sum_if_any, value_of}

-- a fold over one more
fold_push : {A B : Type 0} (f : B → A → B) (start : B) (xs : List A) (x : A) → fold f start (xs ++ x ∷ []) ≡ f (fold f start xs) x
fold_push f start [] x = refl
fold_push f start (y ∷ xs) x = fold_push f (f start y) xs x

length_more : (values : List Value) (v : Value) → length (values ++ v ∷ []) ≡ length values + 1
length_more values v = omega (arith, length-append values (v ∷ []))

total_more : (values : List Value) (v : Value) → total (values ++ v ∷ []) ≡ total values +ℤ number_of v
total_more values v = ap (fold ◌+ℤ◌ (pos 0)) (map-append number_of values (v ∷ [])) ∙ fold_push ◌+ℤ◌ (pos 0) (map number_of values) (number_of v)

sums_more : (values : List Value) (v : Value) → sums (length (values ++ v ∷ [])) (total (values ++ v ∷ [])) ≡ sums (length values + 1) (total values +ℤ number_of v)
sums_more values v = ap (λ (n : ℕ). sums n (total (values ++ v ∷ []))) (length_more values v) ∙ ap (λ (z : ℤ). sums (length values + 1) z) (total_more values v)

-- one more value
pub tally_more : (f : Function) (values : List Value) (v : Value) → tally_of f (values ++ v ∷ []) ≡ with_value (tally_of f values) v
tally_more Count values v = ap (λ (n : ℕ). tally.Count n) (length_more values v)
tally_more Sum values v = ap (λ (s : Sums). tally.Sum s) (sums_more values v)
tally_more Avg values v = ap (λ (s : Sums). tally.Avg s) (sums_more values v)
tally_more Min values v = ap (λ (w : Value). tally.Min w) (fold_push lesser Null values v)
tally_more Max values v = ap (λ (w : Value). tally.Max w) (fold_push greater Null values v)
tally_more First values v = ap (λ (w : Value). tally.First w) (fold_push earlier Null values v)
tally_more Last values v = ap (λ (w : Value). tally.Last w) (fold_push later Null values v)

-- the values of a column over one more row
values_more : (column : ℕ) (rows : List Row) (r : Row) → values_of column (rows ++ r ∷ []) ≡ values_of column rows ++ values_of column (r ∷ [])
values_more column rows r =
    ap (λ (l : List Row). filter (λ v. not (is_null v)) (map (λ x. value_at column x.values) l)) (filter-append (λ (x : Row). not x.hidden) rows (r ∷ []))
    ∙ ap (filter (λ v. not (is_null v))) (map-append (λ (x : Row). value_at column x.values) (filter (λ x. not x.hidden) rows) (filter (λ x. not x.hidden) (r ∷ [])))
    ∙ filter-append (λ (v : Value). not (is_null v)) (map (λ x. value_at column x.values) (filter (λ x. not x.hidden) rows)) (map (λ x. value_at column x.values) (filter (λ x. not x.hidden) (r ∷ [])))

values_hidden : (column : ℕ) (rows : List Row) (r : Row) → r.hidden ≡ true → values_of column (rows ++ r ∷ []) ≡ values_of column rows
values_hidden column rows r hidden = values_more column rows r ∙ rw hidden (append_nothing (values_of column rows)) where
  append_nothing : (l : List Value) → l ++ [] ≡ l
  append_nothing [] = refl
  append_nothing (v ∷ l) = ap (λ (m : List Value). v ∷ m) (append_nothing l)

-- what is known after one more row that is seen
tally_seen : (i : BoundItem) (rows : List Row) (r : Row) → r.hidden ≡ false →
    taken_into (tally_of i.function (values_of i.column rows)) (value_at i.column r.values) ≡ tally_of i.function (values_of i.column (rows ++ r ∷ []))
tally_seen i rows r seen = by_null (is_null (value_at i.column r.values)) refl where
  v : Value
  v = value_at i.column r.values

  by_null : (b : Bool) → is_null (value_at i.column r.values) ≡ b →
      taken_into (tally_of i.function (values_of i.column rows)) (value_at i.column r.values) ≡ tally_of i.function (values_of i.column (rows ++ r ∷ []))
  by_null true e = rw (values_more i.column rows r, seen) (rw e (ap (tally_of i.function) (sym (append-nil (values_of i.column rows)))))
  by_null false e = rw (values_more i.column rows r, seen) (rw e (sym (tally_more i.function (values_of i.column rows) (value_at i.column r.values))))

pub after_seen : (items : List BoundItem) (rows : List Row) (r : Row) → r.hidden ≡ false → all_taken items r.values (after items rows) ≡ after items (rows ++ r ∷ [])
after_seen [] rows r seen = refl
after_seen (i ∷ items) rows r seen =
    ap (λ (t : Tally). t ∷ all_taken items r.values (after items rows)) (tally_seen i rows r seen)
    ∙ ap (λ (l : List Tally). tally_of i.function (values_of i.column (rows ++ r ∷ [])) ∷ l) (after_seen items rows r seen)

pub after_hidden : (items : List BoundItem) (rows : List Row) (r : Row) → r.hidden ≡ true → after items rows ≡ after items (rows ++ r ∷ [])
after_hidden [] rows r hidden = refl
after_hidden (i ∷ items) rows r hidden =
    ap (λ (l : List Value). tally_of i.function l ∷ after items rows) (sym (values_hidden i.column rows r hidden))
    ∙ ap (λ (l : List Tally). tally_of i.function (values_of i.column (rows ++ r ∷ [])) ∷ l) (after_hidden items rows r hidden)

-- what is made of what is known

some_values : (v : Value) (values : List Value) (z : ℤ) → sum_if_any (sums (length (v ∷ values)) (total (v ∷ values))) z ≡ Number z
some_values v values z = let none : (suc (length values) == 0) ≡ false = grind (arith, nat_tests) in rw none refl

value_of-tally : (f : Function) (values : List Value) → value_of (tally_of f values) ≡ made f values
value_of-tally Count values = refl
value_of-tally Sum [] = refl
value_of-tally Sum (v ∷ values) = some_values v values (total (v ∷ values))
value_of-tally Avg [] = refl
value_of-tally Avg (v ∷ values) = some_values v values (mean (v ∷ values))
value_of-tally Min values = refl
value_of-tally Max values = refl
value_of-tally First values = refl
value_of-tally Last values = refl

pub folded_after : (items : List BoundItem) (rows : List Row) → map value_of (after items rows) ≡ folded items rows
folded_after [] rows = refl
folded_after (i ∷ items) rows =
    ap (λ (v : Value). v ∷ map value_of (after items rows)) (value_of-tally i.function (values_of i.column rows))
    ∙ ap (λ (l : List Value). made i.function (values_of i.column rows) ∷ l) (folded_after items rows)

-- a column has no more values than rows

filter-le : {A : Type 0} (p : A → Bool) (xs : List A) → length (filter p xs) ≤ length xs
filter-le p [] = omega arith
filter-le p (x ∷ xs) = elim (cases_Bool (p x)) [
  | inl t ↦ rw t (omega (arith, filter-le p xs))
  | inr f ↦ rw f (omega (arith, filter-le p xs))
]

pub values-le : (column : ℕ) (rows : List Row) → length (values_of column rows) ≤ length rows
values-le column rows =
    let seen : List Row = filter (λ r. not r.hidden) rows in
    omega (
      arith,
      filter-le (λ (v : Value). not (is_null v)) (map (λ r. value_at column r.values) seen),
      length-map seen (λ (r : Row). value_at column r.values),
      filter-le (λ (r : Row). not r.hidden) rows,
    )

pub count-le : (f : Function) (values : List Value) → count_of (tally_of f values) ≤ length values
count-le Count values = omega arith
count-le Sum values = omega arith
count-le Avg values = omega arith
count-le Min values = omega arith
count-le Max values = omega arith
count-le First values = omega arith
count-le Last values = omega arith

pub after-few : (items : List BoundItem) (rows : List Row) (n : ℕ) → length rows ≤ n → All (λ t. count_of t ≤ n) (after items rows)
after-few [] rows n few = λ k d lt. absurd (omega (arith, lt))
after-few (i ∷ items) rows n few = λ k d lt. at (after-few items rows n few) k d lt where
  at : All (λ t. count_of t ≤ n) (after items rows) → (k : ℕ) (d : Tally) → k < length (after (i ∷ items) rows) → count_of (get_or (after (i ∷ items) rows) k d) ≤ n
  at others zero d lt = omega (arith, count-le i.function (values_of i.column rows), values-le i.column rows, few)
  at others (suc k) d lt = others k d (omega (arith, lt))

-- tallies are taken one after the other

pub length-all_taken : (items : List BoundItem) (values : Values) (tallies : List Tally) → length (all_taken items values tallies) ≡ length tallies
length-all_taken [] values tallies = refl
length-all_taken (i ∷ items) values [] = refl
length-all_taken (i ∷ items) values (t ∷ tallies) = ap (λ (n : ℕ). suc n) (length-all_taken items values tallies)

-- those behind the items stay
pub all_taken_rest : (items : List BoundItem) (values : Values) (tallies : List Tally) (n : ℕ) (d : Tally) → length items ≤ n → get_or (all_taken items values tallies) n d ≡ get_or tallies n d
all_taken_rest [] values tallies n d le = refl
all_taken_rest (i ∷ items) values [] n d le = refl
all_taken_rest (i ∷ items) values (t ∷ tallies) zero d le = absurd (omega (arith, le))
all_taken_rest (i ∷ items) values (t ∷ tallies) (suc n) d le = all_taken_rest items values tallies n d (omega (arith, le))

-- the next one
pub all_taken_more : (items : List BoundItem) (values : Values) (tallies : List Tally) (n : ℕ) (d : Tally) (e : BoundItem) → n < length items → n < length tallies →
    set (all_taken (take n items) values tallies) n (taken_into (get_or tallies n d) (value_at (get_or items n e).column values)) ≡ all_taken (take (n + 1) items) values tallies
all_taken_more [] values tallies n d e few le = absurd (omega (arith, few))
all_taken_more (j ∷ items) values [] n d e few le = absurd (omega (arith, le))
all_taken_more (j ∷ items) values (t ∷ tallies) zero d e few le = refl
all_taken_more (j ∷ items) values (t ∷ tallies) (suc n) d e few le =
    let next : suc n + 1 ≡ suc (n + 1) = omega arith in
    rw next (ap (λ (l : List Tally). taken_into t (value_at j.column values) ∷ l) (all_taken_more items values tallies n d e (omega (arith, few)) (omega (arith, le))))

-- what columns hold

holds_small : (kind : ColumnKind) (v : Value) → is_kind kind ≡ true → holds kind v ≡ true → IsSmall v
holds_small kind Null good is = lit< tt
holds_small kind (Text text) good is = lit< tt
holds_small SmallInt (Number z) good is = grind (arith, nat_tests)
holds_small Integer (Number z) good is = grind (arith, nat_tests)
holds_small BigInt (Number z) good is = grind (arith, nat_tests)
holds_small (VarChar most) (Number z) good is = absurd (cc)
holds_small (Decimal digits scale) (Number z) good is =
    let few : digits ≤ 28 = grind (arith, nat_tests) in
    let power : 10 ^ digits ≤ 10 ^ 28 = pow-le-pow_right (lit< tt) few in
    let less : unsigned_abs z < 10 ^ digits = grind (arith, nat_tests) in
    omega (arith, less, power)

pub hold_small : (columns : List Column) (values : Values) → list_all (λ c. is_kind c.kind) columns ≡ true → hold columns values ≡ true → All IsSmall values
hold_small columns [] good is = λ k d lt. absurd (omega (arith, lt))
hold_small [] (v ∷ values) good is = absurd (cc)
hold_small (c ∷ columns) (v ∷ values) good is = λ k d lt. at (hold_small columns values kinds.1 parts.1) k d lt where
  kinds : (is_kind c.kind ≡ true) × (list_all (λ x. is_kind x.kind) columns ≡ true)
  kinds = and_parts (is_kind c.kind) (list_all (λ x. is_kind x.kind) columns) good

  parts : (holds c.kind v ≡ true) × (hold columns values ≡ true)
  parts = and_parts (holds c.kind v) (hold columns values) is

  at : All IsSmall values → (k : ℕ) (d : Value) → k < length (v ∷ values) → IsSmall (get_or (v ∷ values) k d)
  at others zero d lt = holds_small c.kind v kinds.0 parts.0
  at others (suc k) d lt = others k d (omega (arith, lt))

pub hold-length : (columns : List Column) (values : Values) → hold columns values ≡ true → length values ≡ length columns
hold-length [] [] is = refl
hold-length [] (v ∷ values) is = absurd (cc)
hold-length (c ∷ columns) [] is = absurd (cc)
hold-length (c ∷ columns) (v ∷ values) is = ap (λ (n : ℕ). suc n) (hold-length columns values (and_parts (holds c.kind v) (hold columns values) is).1)

-- fewer rows than 2^32
pub few_all : (items : List BoundItem) (rows : List Row) → length rows ≤ 4_294_967_295 → All (λ t. count_of t < 2 ^ 32) (after items rows)
few_all items rows few = λ k d lt. let at = after-few items rows 4_294_967_295 few k d lt in omega (arith, at)
