-- What callers cite of tallies: many values that are taken at once.
use Rattle.std.proofs.Common.{◌≡◌, ℕ, ◌+◌, ◌≤◌, ℤ, pos, ◌+ℤ◌, List, [], ◌∷◌, ◌++◌, length, length-append, append_assoc, map, filter, not, fold, IsTrue, sym, ◌∙◌, ap, arith}
use Rattle.std.proofs.lemmas.Int.{ints}
use Rattle.std.proofs.lemmas.List.{append-nil, map-append}
use Rattle.std.proofs.lemmas.List.Elements.{filter-append}
use Rattle.ts_row.specs.declared.value.Value.{Value}
use Rattle.ts_row.specs.Row.{Row}
use Rattle.ts_expr.specs.declared.function.Function.{Function}
use Rattle.ts_expr.specs.declared.function.Function.TheVariants.{Sum, Avg, Count, Min, Max, First, Last}
use Rattle.ts_expr.specs.declared.tally.Tally.{Tally}
use Rattle.ts_expr.specs.declared.tally.Tally.TheVariants as tally
use Rattle.ts_expr.specs.Aggregates.{is_null, value_at, values_of, number_of, total}
use Rattle.ts_expr.specs.Sums.{Sums}
use Rattle.ts_expr.specs.Running.{sums, count_of, tally_of, is_summed, with_sums, with_value}
use Rattle.ts_expr.proofs.FoldLemmas.{tally_more, values-le, count-le}

-- a sum that begins with a number
sum_from : (z : ℤ) (values : List Value) → fold ◌+ℤ◌ z (map number_of values) ≡ z +ℤ total values
sum_from z [] = omega (arith, ints)
sum_from z (v ∷ values) =
    let one : fold ◌+ℤ◌ (z +ℤ number_of v) (map number_of values) ≡ (z +ℤ number_of v) +ℤ total values = sum_from (z +ℤ number_of v) values in
    let two : total (v ∷ values) ≡ (pos 0 +ℤ number_of v) +ℤ total values = sum_from (pos 0 +ℤ number_of v) values in
    omega (arith, ints, one, two)

-- one more value in front
total_cons : (v : Value) (values : List Value) → total (v ∷ values) ≡ number_of v +ℤ total values
total_cons v values =
    let two : total (v ∷ values) ≡ (pos 0 +ℤ number_of v) +ℤ total values = sum_from (pos 0 +ℤ number_of v) values in
    omega (arith, ints, two)

-- values that are taken one after the other
pub tally_all : (f : Function) (values more : List Value) → tally_of f (values ++ more) ≡ fold with_value (tally_of f values) more
tally_all f values [] = ap (tally_of f) (append-nil values)
tally_all f values (v ∷ more) =
    ap (tally_of f) (sym (append_assoc values (v ∷ []) more))
    ∙ tally_all f (values ++ v ∷ []) more
    ∙ ap (λ (t : Tally). fold with_value t more) (tally_more f values v)

-- where values are counted, one after the other is all at once
pub counted_at_once : (n : ℕ) (more : List Value) → with_sums (tally.Count n) (length more) (total more) ≡ fold with_value (tally.Count n) more
counted_at_once n [] = ap (λ (k : ℕ). tally.Count k) (omega arith)
counted_at_once n (v ∷ more) = ap (λ (k : ℕ). tally.Count k) (omega arith) ∙ counted_at_once (n + 1) more

sums_cons : (n : ℕ) (z : ℤ) (v : Value) (more : List Value) → sums (n + length (v ∷ more)) (z +ℤ total (v ∷ more)) ≡ sums (n + 1 + length more) ((z +ℤ number_of v) +ℤ total more)
sums_cons n z v more =
    let count : n + length (v ∷ more) ≡ n + 1 + length more = omega arith in
    let sum : z +ℤ total (v ∷ more) ≡ (z +ℤ number_of v) +ℤ total more = omega (arith, ints, total_cons v more) in
    ap (λ (k : ℕ). sums k (z +ℤ total (v ∷ more))) count ∙ ap (λ (y : ℤ). sums (n + 1 + length more) y) sum

sums_none : (s : Sums) → sums (s.count + 0) (s.sum +ℤ pos 0) ≡ s
sums_none s =
    let sum : s.sum +ℤ pos 0 ≡ s.sum = omega (arith, ints) in
    ap (λ (k : ℕ). sums k (s.sum +ℤ pos 0)) (omega arith) ∙ ap (λ (y : ℤ). sums s.count y) sum

pub summed_at_once : (s : Sums) (more : List Value) → with_sums (tally.Sum s) (length more) (total more) ≡ fold with_value (tally.Sum s) more
summed_at_once s [] = ap (λ (k : Sums). tally.Sum k) (sums_none s)
summed_at_once s (v ∷ more) = ap (λ (k : Sums). tally.Sum k) (sums_cons s.count s.sum v more) ∙ summed_at_once (sums (s.count + 1) (s.sum +ℤ number_of v)) more

pub mean_at_once : (s : Sums) (more : List Value) → with_sums (tally.Avg s) (length more) (total more) ≡ fold with_value (tally.Avg s) more
mean_at_once s [] = ap (λ (k : Sums). tally.Avg k) (sums_none s)
mean_at_once s (v ∷ more) = ap (λ (k : Sums). tally.Avg k) (sums_cons s.count s.sum v more) ∙ mean_at_once (sums (s.count + 1) (s.sum +ℤ number_of v)) more

-- so it is of what is known of values
all_at_once : (f : Function) (values more : List Value) → IsTrue (is_summed f) → with_sums (tally_of f values) (length more) (total more) ≡ tally_of f (values ++ more)
all_at_once Count values more summed = counted_at_once (length values) more ∙ sym (tally_all Count values more)
all_at_once Sum values more summed = summed_at_once (sums (length values) (total values)) more ∙ sym (tally_all Sum values more)
all_at_once Avg values more summed = mean_at_once (sums (length values) (total values)) more ∙ sym (tally_all Avg values more)
all_at_once Min values more summed = absurd (cc)
all_at_once Max values more summed = absurd (cc)
all_at_once First values more summed = absurd (cc)
all_at_once Last values more summed = absurd (cc)

-- values that are added at once are taken
pub added_at_once : (f : Function) (values more : List Value) (old new : Tally) (count : ℕ) (sum : ℤ) → new ≡ with_sums old count sum → IsTrue (is_summed f)
    → old ≡ tally_of f values → length more ≡ count → total more ≡ sum → new ≡ tally_of f (values ++ more)
added_at_once f values more old new count sum is summed was many all =
    is
    ∙ ap (λ (t : Tally). with_sums t count sum) was
    ∙ ap (λ (n : ℕ). with_sums (tally_of f values) n sum) (sym many)
    ∙ ap (λ (z : ℤ). with_sums (tally_of f values) (length more) z) (sym all)
    ∙ all_at_once f values more summed

-- where rows are few enough with others, they are without them
pub few_first : {A : Type 0} (before rows others : List A) (most : ℕ) → length before + length (rows ++ others) ≤ most → length before + length rows ≤ most
few_first before rows others most few = omega (arith, few, length-append rows others)

-- and so are the others behind them
pub few_behind : {A : Type 0} (before rows others : List A) (most : ℕ) → length before + length (rows ++ others) ≤ most → length (before ++ rows) + length others ≤ most
few_behind before rows others most few = omega (arith, few, length-append rows others, length-append before rows)

-- the values of a column over rows and more
pub values_all : (column : ℕ) (rows more : List Row) → values_of column (rows ++ more) ≡ values_of column rows ++ values_of column more
values_all column rows more =
    ap (λ (l : List Row). filter (λ v. not (is_null v)) (map (λ x. value_at column x.values) l)) (filter-append (λ (x : Row). not x.hidden) rows more)
    ∙ ap (filter (λ v. not (is_null v))) (map-append (λ (x : Row). value_at column x.values) (filter (λ x. not x.hidden) rows) (filter (λ x. not x.hidden) more))
    ∙ filter-append (λ (v : Value). not (is_null v)) (map (λ x. value_at column x.values) (filter (λ x. not x.hidden) rows)) (map (λ x. value_at column x.values) (filter (λ x. not x.hidden) more))

-- they are no more than the rows
pub values_few : (column : ℕ) (rows : List Row) → length (values_of column rows) ≤ length rows
values_few column rows = values-le column rows

-- and no more are counted
pub count_few : (f : Function) (values : List Value) → count_of (tally_of f values) ≤ length values
count_few f values = count-le f values
