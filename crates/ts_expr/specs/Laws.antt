-- What the laws of aggregate lists say.
use Rattle.std.specs.Prelude.{◌≡◌, ◌⊎◌, ℕ, ◌*◌, ◌≤◌, Bool, true, false, ℤ, pos, ◌-ℤ◌, ◌*ℤ◌, ◌≤ℤ◌, unsigned_abs, Ok}
use Rattle.std.specs.Prelude.{List, map, All, Contains}
use Rattle.std.specs.Ordering.{is_lt, is_gt}
use Rattle.ts_row.specs.declared.kind.Column.{Column}
use Rattle.ts_row.specs.declared.value.Value.{Value}
use Rattle.ts_row.specs.declared.value.Value.TheVariants.{Null, Number, Text}
use Rattle.ts_expr.specs.declared.item.Item.{Item}
use Rattle.ts_expr.specs.declared.item.BoundItem.{BoundItem}
use Rattle.ts_expr.specs.Aggregates.{value_cmp, bound}

-- the distance of a whole number from a million times the sum divided by the count, times the count
abbrev pub distance : ℤ → ℕ → ℤ → ℕ
distance sum count mean = unsigned_abs (mean *ℤ pos count -ℤ sum *ℤ pos 1_000_000)

-- a whole number at most half a unit from a million times the sum divided by the count, and on its side of zero; of two
-- that are exactly half a unit from it, the one farther from zero
pub record IsNearestMean (sum : ℤ) (count : ℕ) (mean : ℤ) : Type 0 where
  pub near : 2 * distance sum count mean ≤ count
  pub half : 2 * distance sum count mean ≡ count → unsigned_abs sum * 1_000_000 ≤ unsigned_abs mean * count
  pub not_below_zero : pos 0 ≤ℤ sum → pos 0 ≤ℤ mean
  pub not_above_zero : sum ≤ℤ pos 0 → mean ≤ℤ pos 0

-- a number
abbrev pub is_number : Value → Bool
is_number Null = false
is_number (Number z) = true
is_number (Text text) = false

-- a text
abbrev pub is_text : Value → Bool
is_text Null = false
is_text (Number z) = false
is_text (Text text) = true

-- all are numbers or all are texts, and none is NULL
abbrev pub AreAlike : List Value → Type 0
AreAlike values = All (λ v. is_number v ≡ true) values ⊎ All (λ v. is_text v ≡ true) values

-- one of the values, and none is less
pub record IsLeast (values : List Value) (least : Value) : Type 0 where
  pub among : Contains values least
  pub no_less : All (λ v. is_lt (value_cmp v least) ≡ false) values

-- one of the values, and none is greater
pub record IsGreatest (values : List Value) (greatest : Value) : Type 0 where
  pub among : Contains values greatest
  pub no_greater : All (λ v. is_gt (value_cmp v greatest) ≡ false) values

-- each item is bound, the first as the first of these, and so on
abbrev pub AreBoundAs : List Column → List Item → List BoundItem → Type 0
AreBoundAs columns items ones = map (bound columns) items ≡ map (λ one. Ok one) ones
