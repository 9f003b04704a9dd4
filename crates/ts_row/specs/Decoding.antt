-- The value and the row that bytes give, read from their first byte on.
use Rattle.std.specs.Prelude.{ℕ, Bool, ◌-◌, ◌&&◌, ◌==◌, nat_le, nat_lt, if◌then◌else◌, ℤ, unsigned_abs, Option, Some}
use Rattle.std.specs.Prelude.{None, List, [], ◌∷◌, length, take, drop}
use Rattle.std.specs.Option.{option_map}
use Rattle.std.specs.List.{list_all}
use Rattle.std.specs.Int.{w16, w32, w64, w128, from_be_bytes, cast_signed}
use Rattle.ts_base.specs.Name.{is_text}
use Rattle.ts_row.specs.declared.kind.ColumnKind.{ColumnKind}
use Rattle.ts_row.specs.declared.kind.ColumnKind.TheVariants.{SmallInt, Integer, BigInt, Decimal, VarChar}
use Rattle.ts_row.specs.declared.kind.Column.{Column}
use Rattle.ts_row.specs.declared.value.Value.{Value}
use Rattle.ts_row.specs.declared.value.Value.TheVariants.{Null, Number, Text}
use Rattle.ts_row.specs.Row.{short_digits, column_width, Values, Row, holds_size, visible}
use Rattle.ts_row.specs.Encoding.{hidden_mark}

-- zeros and nothing else
abbrev pub all_zero : List ℕ → Bool
all_zero bytes = list_all (λ b. b == 0) bytes

-- the number that bytes are
abbrev pub number_in : ColumnKind → List ℕ → ℤ
number_in SmallInt bytes = cast_signed w16 (from_be_bytes w16 bytes)
number_in Integer bytes = cast_signed w32 (from_be_bytes w32 bytes)
number_in BigInt bytes = cast_signed w64 (from_be_bytes w64 bytes)
number_in (Decimal digits scale) bytes =
    if nat_lt short_digits digits then cast_signed w128 (from_be_bytes w128 bytes)
    else cast_signed w64 (from_be_bytes w64 bytes)
number_in (VarChar most) bytes = cast_signed w64 0

-- the number, if the column holds it
abbrev pub number_if_held : ColumnKind → ℤ → Option Value
number_if_held kind z = if holds_size kind (unsigned_abs z) then Some (Number z) else None

-- the text that a length, bytes and zeros are
abbrev pub text_in : ℕ → List ℕ → Option Value
text_in most [] = None
text_in most (n ∷ rest) =
    if nat_le n most && all_zero (drop n rest) && is_text (take n rest) then Some (Text (take n rest)) else None

-- the value that bytes are, which aren't NULL's
abbrev pub filled_in : ColumnKind → List ℕ → Option Value
filled_in (VarChar most) bytes = text_in most bytes
filled_in kind bytes = number_if_held kind (number_in kind bytes)

-- the value that the bytes of a column are
abbrev pub value_in : ColumnKind → List ℕ → Option Value
value_in kind [] = None
value_in kind (flag ∷ rest) =
    if flag == 0 then (if all_zero rest then Some Null else None)
    else (if flag == 1 then filled_in kind rest else None)

-- values that begin with this one
abbrev pub put_first : Option Value → Option Values → Option Values
put_first None rest = None
put_first (Some value) rest = option_map (λ values. value ∷ values) rest

-- the values that bytes are
abbrev pub values_in : List Column → List ℕ → Option Values
values_in [] bytes = if length bytes == 0 then Some [] else None
values_in (column ∷ columns) bytes =
    if nat_le (column_width column.kind) (length bytes)
    then put_first (value_in column.kind (take (column_width column.kind) bytes))
    (values_in columns (drop (column_width column.kind) bytes))
    else None

-- a first byte is one of a hidden row
abbrev pub is_mark : ℕ → Bool
is_mark byte = nat_le hidden_mark byte

-- a first byte without the mark
abbrev pub unmarked : ℕ → ℕ
unmarked byte = if is_mark byte then byte - hidden_mark else byte

-- the row that bytes are: its mark in the first byte, and the values that the bytes without it are
abbrev pub row_in : List Column → List ℕ → Option Row
row_in columns [] = option_map visible (values_in columns [])
row_in columns (first ∷ bytes) =
    option_map (λ values. record { values = values; hidden = is_mark first })
    (values_in columns (unmarked first ∷ bytes))
