-- The places that elements take in a window, and what a function makes of them.
use Rattle.std.specs.Prelude.{ℕ, Bool, true, false, if◌then◌else◌, ℤ, Option, Some, None, List, map}
use Rattle.ts_row.specs.declared.value.Value.{Value}
use Rattle.ts_row.specs.declared.value.Value.TheVariants.{Null}
use Rattle.ts_row.specs.Row.{Row, Element}
use Rattle.ts_expr.specs.declared.function.Function.{Function}
use Rattle.ts_expr.specs.declared.function.Function.TheVariants.{Sum, Avg}
use Rattle.ts_expr.specs.Aggregates.{is_null, value_at, number_of}
use Rattle.ts_running.specs.Rows.{sum_of, mean_of}
use Rattle.ts_running.specs.Binding.{value_if_any}

-- the place of a value: NULL has none
abbrev pub place_if_any : Value → Option ℤ
place_if_any v = if is_null v then None else Some (number_of v)

-- the place of a row's value in a column; a hidden row has none
abbrev pub place_of : ℕ → Row → Option ℤ
place_of column row = if row.hidden then None else place_if_any (value_at column row.values)

-- the places of elements
abbrev pub places : ℕ → List Element → List (Option ℤ)
places column es = map (λ e. place_of column e.1) es

-- the functions that have running values
abbrev pub is_running : Function → Bool
is_running Sum = true
is_running Avg = true
is_running function = false

-- what such a function makes of the places of a window
abbrev pub made_over : Function → List (Option ℤ) → Value
made_over Sum values = value_if_any (sum_of values)
made_over Avg values = value_if_any (mean_of values)
made_over function values = Null
