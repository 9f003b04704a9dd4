-- The bytes of a row: those of its columns one after the other, with the mark in the first byte.
use Rattle.std.specs.Prelude.{◌≡◌, ◌↔◌, ℕ, ◌+◌, ◌-◌, Bool, nat_lt, if◌then◌else◌, IsTrue, ℤ, Option, Some, List, []}
use Rattle.std.specs.Prelude.{◌∷◌, ◌++◌, length, replicate}
use Rattle.std.specs.Int.{w16, w32, w64, w128, to_be_bytes, cast_unsigned}
use Rattle.ts_row.specs.declared.kind.ColumnKind.{ColumnKind}
use Rattle.ts_row.specs.declared.kind.ColumnKind.TheVariants.{SmallInt, Integer, BigInt, Decimal, VarChar}
use Rattle.ts_row.specs.declared.kind.Column.{Column}
use Rattle.ts_row.specs.declared.value.Value.{Value}
use Rattle.ts_row.specs.declared.value.Value.TheVariants.{Null, Number, Text}
use Rattle.ts_row.specs.Row.{short_digits, column_width, Values, Row, fits, marked}

-- the bytes of a number: two's complement, the highest byte first
abbrev pub number_bytes : ColumnKind → ℤ → List ℕ
number_bytes SmallInt z = to_be_bytes w16 (cast_unsigned w16 z)
number_bytes Integer z = to_be_bytes w32 (cast_unsigned w32 z)
number_bytes BigInt z = to_be_bytes w64 (cast_unsigned w64 z)
number_bytes (Decimal digits scale) z =
    if nat_lt short_digits digits then to_be_bytes w128 (cast_unsigned w128 z)
    else to_be_bytes w64 (cast_unsigned w64 z)
number_bytes (VarChar most) z = []

-- the bytes of a text: its length, its bytes, then zeros
abbrev pub text_bytes : ColumnKind → List ℕ → List ℕ
text_bytes (VarChar most) text = length text ∷ text ++ replicate (most - length text) 0
text_bytes _ text = []

-- the bytes of a value: 1 and its own, or zeros for NULL
abbrev pub value_bytes : ColumnKind → Value → List ℕ
value_bytes kind Null = replicate (column_width kind) 0
value_bytes kind (Number z) = 1 ∷ number_bytes kind z
value_bytes kind (Text text) = 1 ∷ text_bytes kind text

-- the bytes of values
abbrev pub values_bytes : List Column → Values → List ℕ
values_bytes (column ∷ columns) (value ∷ values) = value_bytes column.kind value ++ values_bytes columns values
values_bytes _ _ = []

-- what the mark of a hidden row adds to its first byte
abbrev pub hidden_mark : ℕ
hidden_mark = 2

-- what the mark adds to the first byte of a row: 2 where the row is hidden
abbrev pub mark_byte : Bool → ℕ
mark_byte hidden = if hidden then hidden_mark else 0

-- bytes with a mark in the first
abbrev pub with_mark : Bool → List ℕ → List ℕ
with_mark hidden [] = []
with_mark hidden (first ∷ bytes) = (first + mark_byte hidden) ∷ bytes

-- the bytes of a row: those of its values, the first 2 higher where the row is hidden
abbrev pub row_bytes : List Column → Row → List ℕ
row_bytes columns row = with_mark row.hidden (values_bytes columns row.values)

-- what bytes mean: a row that fits and has these bytes, and no other
abbrev pub IsMeaning : List Column → List ℕ → Option Row → Type 0
IsMeaning columns bytes found =
    (row : Row) → (found ≡ Some row) ↔ (IsTrue (fits columns row) × (row_bytes columns row ≡ bytes))

-- these are the bytes of a row that fits
abbrev pub AreRowBytes : List Column → List ℕ → Type 0
AreRowBytes columns bytes = (row : Row) × IsTrue (fits columns row) × (row_bytes columns row ≡ bytes)

-- of the bytes of a row that fits, this tells whether it is hidden
abbrev pub IsMarkOf : List Column → List ℕ → Bool → Type 0
IsMarkOf columns bytes hidden =
    (row : Row) → IsTrue (fits columns row) → row_bytes columns row ≡ bytes → hidden ≡ row.hidden

-- from the bytes of a row that fits to those of the same row, hidden or visible
abbrev pub Marks : List Column → Bool → List ℕ → List ℕ → Type 0
Marks columns hidden old new =
    (row : Row) → IsTrue (fits columns row) → row_bytes columns row ≡ old → new ≡ row_bytes columns (marked hidden row)
