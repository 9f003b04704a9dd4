-- What is known of the numbers of a column in cells, and the tallies that it is enough for.
use Rattle.std.specs.Prelude.{◌≡◌, ℕ, ◌*◌, ◌^◌, ◌≤◌, Bool, true, false, is_some, if◌then◌else◌, nat_lt}
use Rattle.std.specs.Prelude.{ℤ, pos, ◌+ℤ◌, unsigned_abs}
use Rattle.std.specs.Prelude.{Option, IsTrue, IfSome, List, length, map, fold}
use Rattle.std.specs.List.{list_all}
use Rattle.std.specs.Int.{w16, w32, w64, w128, from_be_bytes, cast_signed}
use Rattle.ts_row.specs.declared.kind.ColumnKind.{ColumnKind}
use Rattle.ts_row.specs.declared.kind.ColumnKind.TheVariants.{SmallInt, Integer, BigInt, Decimal, VarChar}
use Rattle.ts_row.specs.Row.{short_digits}
use Rattle.ts_row.specs.declared.value.Value.TheVariants.{Null, Number}
use Rattle.ts_expr.specs.declared.tally.Tally.{Tally}
use Rattle.ts_expr.specs.declared.tally.Tally.TheVariants as tally
use Rattle.ts_aggregate.specs.declared.cells.Cells.{Cells}
use Rattle.ts_aggregate.specs.declared.totals.Gathered.{Gathered}
use Rattle.ts_aggregate.specs.declared.numbers.NumberSize.{NumberSize}
use Rattle.ts_aggregate.specs.declared.numbers.NumberSize.TheVariants.{Two, Four, Eight, Sixteen}
use Rattle.ts_aggregate.specs.declared.totals.Sought.{Sought}
use Rattle.ts_aggregate.specs.declared.totals.Totals.{Totals}
use Rattle.ts_aggregate.specs.Column.{found, better, is_small}

-- how many bytes a column's numbers have
abbrev pub size_of : ColumnKind → NumberSize
size_of SmallInt = Two
size_of Integer = Four
size_of BigInt = Eight
size_of (Decimal digits scale) = if nat_lt short_digits digits then Sixteen else Eight
size_of (VarChar most) = Eight

abbrev pub bytes_in : NumberSize → ℕ
bytes_in Two = 2
bytes_in Four = 4
bytes_in Eight = 8
bytes_in Sixteen = 16

-- the number that so many bytes are
abbrev pub number_of_size : NumberSize → List ℕ → ℤ
number_of_size Two bytes = cast_signed w16 (from_be_bytes w16 bytes)
number_of_size Four bytes = cast_signed w32 (from_be_bytes w32 bytes)
number_of_size Eight bytes = cast_signed w64 (from_be_bytes w64 bytes)
number_of_size Sixteen bytes = cast_signed w128 (from_be_bytes w128 bytes)

-- the numbers of a column of such in cells
abbrev pub sized_numbers : NumberSize → Cells → List ℤ
sized_numbers size c = map (number_of_size size) (found c)

-- the least, or the greatest, of numbers, where there are some
abbrev pub IsBest : Bool → List ℤ → ℤ → Type 0
IsBest most zs z = (length zs ≡ 0 → ⊥) → fold (better most) Null (map (λ x. Number x) zs) ≡ Number z

-- numbers so far
abbrev pub gathered : ℕ → ℤ → ℤ → ℤ → Gathered
gathered count sum least greatest = record { count = count; sum = sum; least = least; greatest = greatest }

-- the greatest or the least
abbrev pub best_of : Bool → Totals → Option ℤ
best_of most t = if most then t.greatest else t.least

-- how many numbers there are, their sum, and the least and the greatest where each was sought
pub record AreTotals (zs : List ℤ) (t : Totals) : Type 0 where
  pub count : t.count ≡ length zs
  pub sum : t.sum ≡ fold ◌+ℤ◌ (pos 0) zs
  pub least : IfSome t.least (IsBest false zs)
  pub greatest : IfSome t.greatest (IsBest true zs)

-- The sum is never greater than that of so many numbers of 28 digits; it all is that of the numbers where each has as
-- many at most.
pub record AreKnown (zs : List ℤ) (t : Totals) : Type 0 where
  pub digits : unsigned_abs t.sum ≤ t.count * 10 ^ 28
  pub exact : IsTrue (list_all is_small zs) → AreTotals zs t

-- what a tally needs of the least and the greatest
abbrev pub needed_of : Tally → Sought
needed_of (tally.Min v) = record { least = true; greatest = false }
needed_of (tally.Max v) = record { least = false; greatest = true }
needed_of t = record { least = false; greatest = false }

-- a tally that totals are enough for
abbrev pub is_told : Tally → Totals → Bool
is_told (tally.Count n) t = true
is_told (tally.Sum s) t = true
is_told (tally.Avg s) t = true
is_told (tally.Min v) t = is_some t.least
is_told (tally.Max v) t = is_some t.greatest
is_told (tally.First v) t = false
is_told (tally.Last v) t = false
