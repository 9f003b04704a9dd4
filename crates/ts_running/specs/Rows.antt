-- Windows of values, and the rows of running values and of expressions.
use Rattle.std.specs.Prelude.{ℕ, ◌+◌, ◌-◌, ◌^◌, ◌<◌, ◌≤◌, ◌==◌, if◌then◌else◌, ℤ, pos, ◌+ℤ◌, ◌*ℤ◌, unsigned_abs, Option}
use Rattle.std.specs.Prelude.{Some, None, unwrap_or, Result, Ok, Err, IfSome, List, [], ◌∷◌, map, ◌++◌, length, All}
use Rattle.std.specs.Prelude.{take, drop, fold}
use Rattle.std.specs.List.{filter_map, enumerate_from}
use Rattle.std.specs.Option.{option_map}
use Rattle.circular_buffer.specs.Buffer.{keep_last}
use Rattle.ts_base.specs.declared.refusal.Refusal.{Refusal}
use Rattle.ts_base.specs.declared.refusal.Refusal.TheVariants.{Overflow}
use Rattle.ts_row.specs.declared.value.Value.{Value}
use Rattle.ts_row.specs.Row.{Row, visible, Element}
use Rattle.ts_expr.specs.declared.function.Function.{Function}
use Rattle.ts_expr.specs.Aggregates.{rounded, values_of, made}
use Rattle.ts_running.specs.Binding.{with_others, made_of_all, Sourced, part_scales, applied}

-- A window: the last values of a list, of which some places have none.

-- what is meant by a running sum
pub record Window : Type 0 where
  -- the places, the oldest first
  pub values : List (Option ℤ)
  -- how many there may be
  pub size : ℕ

abbrev pub window : List (Option ℤ) → ℕ → Window
window values size = record { values = values; size = size }

-- after a push: the last places of the list that goes on with this one
abbrev pub after_push : Option ℤ → Window → Window
after_push value w = window (keep_last w.size (w.values ++ value ∷ [])) w.size

-- a value's magnitude is below 10^28
abbrev pub IsSmall : ℤ → Type 0
IsSmall value = unsigned_abs value < 10 ^ 28

-- what holds of each window
pub record IsWindow (w : Window) : Type 0 where
  pub small : All (λ place. IfSome place IsSmall) w.values
  pub within : length w.values ≤ w.size
  pub positive : 0 < w.size
  pub few : w.size ≤ 65536

-- the values of the places that have one, in their order
abbrev pub present : List (Option ℤ) → List ℤ
present = filter_map (λ place. place)

-- their number
abbrev pub count_of : List (Option ℤ) → ℕ
count_of values = length (present values)

-- all of them added up
abbrev pub total_of : List (Option ℤ) → ℤ
total_of values = fold ◌+ℤ◌ (pos 0) (present values)

-- their sum: none where there is no value
abbrev pub sum_of : List (Option ℤ) → Option ℤ
sum_of values = if count_of values == 0 then None else Some (total_of values)

-- their mean, with six more digits after the point than they have: none where there is no value
abbrev pub mean_of : List (Option ℤ) → Option ℤ
mean_of values =
    if count_of values == 0 then None else Some (rounded (total_of values *ℤ pos 1_000_000) (count_of values))

-- what a place adds to the sum, and to the number of values
abbrev pub number_of : Option ℤ → ℤ
number_of None = pos 0
number_of (Some value) = value

abbrev pub tally_of : Option ℤ → ℕ
tally_of None = 0
tally_of (Some value) = 1

-- the window of n entries at the entry number i of a list: its entries from i - n + 1, or from the first, to i
abbrev pub window_at : {A : Type 0} → List A → ℕ → ℕ → List A
window_at list n i = drop (i + 1 - n) (take (i + 1) list)

-- The rows of running values and of expressions: one for each element of a list, at its stamp.

-- what a function makes of the values of a column in the window of n elements at the element number i of a list
abbrev pub value_over : Function → ℕ → ℕ → List Element → ℕ → Value
value_over function column n es i = made function (values_of column (map (λ e. e.1) (window_at es n i)))

-- the elements of a list with their running values
abbrev pub running : Function → ℕ → ℕ → List Element → List Element
running function column n es =
    map (λ e. (e.1.0, visible (value_over function column n es e.0 ∷ []))) (enumerate_from 0 es)

-- the digits after the point of expressions
abbrev pub scales_of : List Sourced → List ℕ
scales_of exprs = unwrap_or (made_of_all part_scales exprs) []

-- an element with the values of expressions over its own; none where a number has no place
abbrev pub applied_to : List Sourced → Element → Option Element
applied_to exprs e = option_map (λ row. (e.0, row)) (applied exprs e.1.values)

-- the elements of a list so; none where a number of one of them has no place
abbrev pub applied_all : List Sourced → List Element → Option (List Element)
applied_all exprs [] = Some []
applied_all exprs (e ∷ es) = with_others (applied_to exprs e) (applied_all exprs es)

-- rows, or that a number has no place
abbrev pub or_overflow : Option (List Element) → Result (List Element) Refusal
or_overflow None = Err Overflow
or_overflow (Some rows) = Ok rows

-- the rows of expressions over the elements of a list
abbrev pub applied_rows : List Sourced → List Element → Result (List Element) Refusal
applied_rows exprs es = or_overflow (applied_all exprs es)
