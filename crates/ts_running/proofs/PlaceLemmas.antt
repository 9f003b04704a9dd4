-- What a function makes of the places of a window is what it makes of the values of the elements there.
use Rattle.std.proofs.Common.{◌≡◌, ℕ, ◌+◌, ◌-◌, ◌<◌, ◌==◌, true, false, ℤ, pos, ◌+ℤ◌, ◌*ℤ◌, Option, Some, None, List, [], ◌∷◌, length, map, take, drop, refl, sym, ap, ◌∙◌, arith}
use Rattle.std.specs.Prelude.{Bool, if◌then◌else◌, IsTrue, not, filter}
use Rattle.std.specs.List.{fold}
use Rattle.std.proofs.lemmas.Bool.Decides.{nat_tests}
use Rattle.std.proofs.lemmas.List.{length-map, take-map, drop-map}
use Rattle.ts_row.specs.declared.value.Value.{Value}
use Rattle.ts_row.specs.declared.value.Value.TheVariants.{Null, Number, Text}
use Rattle.ts_row.specs.Row.{Row, Element}
use Rattle.ts_expr.specs.declared.function.Function.{Function}
use Rattle.ts_expr.specs.declared.function.Function.TheVariants.{Sum, Avg, Count, Min, Max, First, Last}
use Rattle.ts_expr.specs.Aggregates.{is_null, value_at, values_of, number_of, total, rounded, mean, number_if_any, made}
use Rattle.ts_running.specs.Rows.{Window, window, after_push, window_at, present, count_of, total_of, value_over}
use Rattle.ts_running.specs.Binding.{value_if_any}
use Rattle.ts_running.specs.Places.{place_if_any, place_of, places, is_running, made_over}
use Rattle.ts_running.proofs.WindowLaws.{last_window}

-- the rows of elements
abbrev pub rows : List Element → List Row
rows es = map (λ e. e.1) es

-- a value isn't NULL
abbrev counts : Value → Bool
counts v = not (is_null v)

-- the numbers of values with one more
with_value : (values : List Value) (others : List (Option ℤ)) → map number_of values ≡ present others →
    (v : Value) → map number_of (if counts v then v ∷ values else values) ≡ present (place_if_any v ∷ others)
with_value values others same Null = same
with_value values others same (Number z) = ap (λ (l : List ℤ). z ∷ l) same
with_value values others same (Text text) = ap (λ (l : List ℤ). pos 0 ∷ l) same

-- the rows that aren't hidden
abbrev seen_rows : List Element → List Row
seen_rows es = filter (λ r. not r.hidden) (rows es)

with_row : (column : ℕ) (r : Row) (es : List Element) → map number_of (values_of column (rows es)) ≡ present (places column es) →
    (hidden : Bool) →
    map number_of (filter counts (map (λ x. value_at column x.values) (if not hidden then r ∷ seen_rows es else seen_rows es)))
    ≡ present ((if hidden then None else place_if_any (value_at column r.values)) ∷ places column es)
with_row column r es same true = same
with_row column r es same false =
    with_value (values_of column (rows es)) (places column es) same (value_at column r.values)

-- the numbers of the values are those of the places
numbers_are : (column : ℕ) (es : List Element) → map number_of (values_of column (rows es)) ≡ present (places column es)
numbers_are column [] = refl
numbers_are column (e ∷ es) = with_row column e.1 es (numbers_are column es) e.1.hidden

count_is : (column : ℕ) (es : List Element) → length (values_of column (rows es)) ≡ count_of (places column es)
count_is column es = sym (length-map (values_of column (rows es)) number_of) ∙ ap length (numbers_are column es)

total_is : (column : ℕ) (es : List Element) → total (values_of column (rows es)) ≡ total_of (places column es)
total_is column es = ap (fold ◌+ℤ◌ (pos 0)) (numbers_are column es)

-- a number, where there are values
there : (values : List Value) (z : ℤ) →
    number_if_any values z ≡ value_if_any (if length values == 0 then None else Some z)
there [] z = refl
there (v ∷ values) z = let some : (length (v ∷ values) == 0) ≡ false = grind (arith, nat_tests) in rw some refl

abbrev made_of : ℕ → ℤ → Value
made_of count z = value_if_any (if count == 0 then None else Some z)

-- what a function makes of places is what it makes of the values
pub made_places : (function : Function) → IsTrue (is_running function) → (column : ℕ) (es : List Element) →
    made_over function (places column es) ≡ made function (values_of column (rows es))
made_places Sum running column es = sym (
    there (values_of column (rows es)) (total (values_of column (rows es)))
    ∙ ap (λ (n : ℕ). made_of n (total (values_of column (rows es)))) (count_is column es)
    ∙ ap (made_of (count_of (places column es))) (total_is column es)
    )
made_places Avg running column es = sym (
    there (values_of column (rows es)) (mean (values_of column (rows es)))
    ∙ ap (λ (n : ℕ). made_of n (rounded (total (values_of column (rows es)) *ℤ pos 1_000_000) n)) (count_is column es)
    ∙ ap (λ (z : ℤ). made_of (count_of (places column es)) (rounded (z *ℤ pos 1_000_000) (count_of (places column es))))
    (total_is column es)
    )
made_places Count running column es = absurd (cc)
made_places Min running column es = absurd (cc)
made_places Max running column es = absurd (cc)
made_places First running column es = absurd (cc)
made_places Last running column es = absurd (cc)

-- the places of the first elements, and of the others
take_places : (n column : ℕ) (es : List Element) → take n (places column es) ≡ places column (take n es)
take_places n column es = take-map (λ (e : Element). place_of column e.1) n es

window_places : (column n i : ℕ) (es : List Element) → window_at (places column es) n i ≡ places column (window_at es n i)
window_places column n i es =
    ap (drop (i + 1 - n)) (take_places (i + 1) column es)
    ∙ drop-map (λ (e : Element). place_of column e.1) (i + 1 - n) (take (i + 1) es)

pub running_made : (function : Function) → IsTrue (is_running function) → (column n i : ℕ) (es : List Element) → i < length es →
    made_over function (fold (λ w value. after_push value w) (window [] n) (take (i + 1) (places column es))).values
    ≡ value_over function column n es i
running_made function running column n i es within =
    let inside : i < length (places column es) =
    omega (arith, within, length-map es (λ (e : Element). place_of column e.1)) in
    ap (λ (w : Window). made_over function w.values) (last_window n i (places column es) inside)
    ∙ ap (made_over function) (window_places column n i es)
    ∙ made_places function running column (window_at es n i)
