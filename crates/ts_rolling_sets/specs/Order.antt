-- Where a text stands in the order of the keys of series.
use Rattle.std.specs.Prelude.{◌≡◌, ℕ, ◌<◌, ◌≤◌, Bool, true, false, Option, Some, None, List, length, slice_index}
use Rattle.std.specs.Ordering.{is_lt}
use Rattle.ts_model.specs.Catalogue.{name_cmp}
use Rattle.ts_model.specs.Definitions.{Definitions, SeriesDef, at_slot}
use Rattle.ts_rolling_sets.specs.InMemory.{in_order}

-- the series in a slot has a key below a text
abbrev pub below_if : List ℕ → Option SeriesDef → Bool
below_if text None = false
below_if text (Some s) = is_lt (name_cmp s.key text)

abbrev pub is_below : Definitions → List ℕ → ℕ → Bool
is_below d text slot = below_if text (at_slot slot d.series)

-- so many series have a key below a text: the first ones in the order of their keys
pub record IsPlace (d : Definitions) (text : List ℕ) (place : ℕ) : Type 0 where
  pub within : place ≤ length (in_order d)
  pub before : (k : ℕ) → k < place → is_below d text (slice_index (in_order d) k) ≡ true
  pub behind : (k : ℕ) → place ≤ k → k < length (in_order d) → is_below d text (slice_index (in_order d) k) ≡ false
