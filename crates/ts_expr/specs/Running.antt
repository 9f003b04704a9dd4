-- A fold that is under way: what is known of the rows so far.
use Rattle.std.specs.Prelude.{◌≡◌, ℕ, ◌+◌, ◌<◌, ◌≤◌, ◌^◌, ◌==◌, Bool, true, false, if◌then◌else◌, ℤ, pos, ◌+ℤ◌, ◌*ℤ◌}
use Rattle.std.specs.Prelude.{unsigned_abs, List, [], ◌∷◌, length, map, fold}
use Rattle.ts_row.specs.declared.value.Value.{Value}
use Rattle.ts_row.specs.declared.value.Value.TheVariants.{Null, Number}
use Rattle.ts_row.specs.Row.{Values, Row}
use Rattle.ts_expr.specs.declared.function.Function.{Function}
use Rattle.ts_expr.specs.declared.function.Function.TheVariants.{Sum, Avg, Count, Min, Max, First, Last}
use Rattle.ts_expr.specs.declared.item.BoundItem.{BoundItem}
use Rattle.ts_expr.specs.declared.tally.Tally.{Tally}
use Rattle.ts_expr.specs.declared.tally.Tally.TheVariants as tally
use Rattle.ts_expr.specs.Sums.{Sums}
use Rattle.ts_expr.specs.Aggregates.{is_null, value_at, values_of, number_of, total, rounded, lesser, greater, earlier}
use Rattle.ts_expr.specs.Aggregates.{later}

-- so many values with this sum
abbrev pub sums : ℕ → ℤ → Sums
sums count sum = record { count = count; sum = sum }

-- what is known of values, for a function
abbrev pub tally_of : Function → List Value → Tally
tally_of Count values = tally.Count (length values)
tally_of Sum values = tally.Sum (sums (length values) (total values))
tally_of Avg values = tally.Avg (sums (length values) (total values))
tally_of Min values = tally.Min (fold lesser Null values)
tally_of Max values = tally.Max (fold greater Null values)
tally_of First values = tally.First (fold earlier Null values)
tally_of Last values = tally.Last (fold later Null values)

-- what is known after these rows, for each item
abbrev pub after : List BoundItem → List Row → List Tally
after items rows = map (λ i. tally_of i.function (values_of i.column rows)) items

-- this is known of at most so many rows
pub record IsAfter (items : List BoundItem) (tallies : List Tally) (most : ℕ) : Type 0 where
  pub rows : List Row
  pub so_far : tallies ≡ after items rows
  pub few : length rows ≤ most

-- how many values a tally has seen, where it counts them
abbrev pub count_of : Tally → ℕ
count_of (tally.Count n) = n
count_of (tally.Sum s) = s.count
count_of (tally.Avg s) = s.count
count_of (tally.Min v) = 0
count_of (tally.Max v) = 0
count_of (tally.First v) = 0
count_of (tally.Last v) = 0

-- a value, not NULL, is taken
abbrev pub with_value : Tally → Value → Tally
with_value (tally.Count n) v = tally.Count (n + 1)
with_value (tally.Sum s) v = tally.Sum (sums (s.count + 1) (s.sum +ℤ number_of v))
with_value (tally.Avg s) v = tally.Avg (sums (s.count + 1) (s.sum +ℤ number_of v))
with_value (tally.Min kept) v = tally.Min (lesser kept v)
with_value (tally.Max kept) v = tally.Max (greater kept v)
with_value (tally.First kept) v = tally.First (earlier kept v)
with_value (tally.Last kept) v = tally.Last (later kept v)

-- what is known for a function is how many values there were, or that and their sum
abbrev pub is_summed : Function → Bool
is_summed Count = true
is_summed Sum = true
is_summed Avg = true
is_summed function = false

-- so many values, none of them NULL, with this sum are taken at once, where values are counted
abbrev pub with_sums : Tally → ℕ → ℤ → Tally
with_sums (tally.Count n) count sum = tally.Count (n + count)
with_sums (tally.Sum s) count sum = tally.Sum (sums (s.count + count) (s.sum +ℤ sum))
with_sums (tally.Avg s) count sum = tally.Avg (sums (s.count + count) (s.sum +ℤ sum))
with_sums (tally.Min v) count sum = tally.Min v
with_sums (tally.Max v) count sum = tally.Max v
with_sums (tally.First v) count sum = tally.First v
with_sums (tally.Last v) count sum = tally.Last v

-- a value is taken; NULL changes nothing
abbrev pub taken_into : Tally → Value → Tally
taken_into t v = if is_null v then t else with_value t v

-- the values of a row are taken, each by the items of its column
abbrev pub all_taken : List BoundItem → Values → List Tally → List Tally
all_taken [] values tallies = tallies
all_taken (i ∷ items) values [] = []
all_taken (i ∷ items) values (t ∷ tallies) = taken_into t (value_at i.column values) ∷ all_taken items values tallies

-- a number of at most 28 digits, a text or NULL
abbrev pub IsSmall : Value → Type 0
IsSmall v = unsigned_abs (number_of v) < 10 ^ 28

-- the sum or the mean, where there are values
abbrev pub sum_if_any : Sums → ℤ → Value
sum_if_any s z = if s.count == 0 then Null else Number z

-- what a function makes of what is known
abbrev pub value_of : Tally → Value
value_of (tally.Count n) = Number (pos n)
value_of (tally.Sum s) = sum_if_any s s.sum
value_of (tally.Avg s) = sum_if_any s (rounded (s.sum *ℤ pos 1_000_000) s.count)
value_of (tally.Min v) = v
value_of (tally.Max v) = v
value_of (tally.First v) = v
value_of (tally.Last v) = v
