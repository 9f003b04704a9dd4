-- Row types, rows and elements, and how they are printed.
use Rattle.std.specs.Prelude.{◌≡◌, ℕ, zero, suc, ◌+◌, ◌*◌, ◌/◌, ◌%◌, ◌^◌, Bool, true, false, ◌&&◌, ◌==◌, nat_lt, nat_le}
use Rattle.std.specs.Prelude.{nat_eq, not, max, if◌then◌else◌, ℤ, pos, neg_ℤ, int_lt, unsigned_abs, Option, slice_get}
use Rattle.std.specs.Prelude.{Some, None, Result, Ok, Err, List, filter, [], ◌∷◌, ◌++◌, codes, length, map, take, ◌-◌}
use Rattle.std.specs.Option.{option_map, option_and_then}
use Rattle.std.specs.List.{list_all, list_any, sum_by, flat_map, join_with_byte}
use Rattle.std.specs.Fmt.{decimal}
use Rattle.std.specs.Ordering.{int_cmp}
use Rattle.std.specs.FinMap.{find}
use Rattle.std.specs.Cmp.Lexicographic.{pointwise}
use Rattle.ts_base.specs.Name.{is_text}
pub use Rattle.ts_base.specs.Answer.{Extends}
use Rattle.ts_base.specs.declared.fault.Trouble.{Trouble}
use Rattle.ts_base.specs.declared.fault.Trouble.TheVariants.{Refused, Memory}
use Rattle.ts_base.specs.declared.refusal.Refusal.TheVariants.{BadRowType, RowMismatch}
use Rattle.ts_row.specs.declared.kind.ColumnKind.{ColumnKind}
use Rattle.ts_row.specs.declared.kind.ColumnKind.TheVariants.{SmallInt, Integer, BigInt, Decimal, VarChar}
use Rattle.ts_row.specs.declared.kind.Column.{Column}
use Rattle.ts_row.specs.declared.value.Value.{Value}
use Rattle.ts_row.specs.declared.value.Value.TheVariants.{Null, Number, Text}
use Rattle.ts_row.specs.declared.value.Literal.{Literal}
use Rattle.ts_row.specs.declared.value.Literal.TheVariants.{Null as NullLiteral, Number as NumberLiteral}
use Rattle.ts_row.specs.declared.value.Literal.TheVariants.{Text as TextLiteral}

-- Row types: the columns that they may have, and the first column that breaks a rule.

-- the most digits of a decimal
abbrev pub most_digits : ℕ
most_digits = 28

-- the most digits of a decimal whose numbers have eight bytes; with more they have sixteen
abbrev pub short_digits : ℕ
short_digits = 18

-- the name of the stamp's column, and the value columns
pub record Heading : Type 0 where
  pub stamp : List ℕ
  pub columns : List Column

-- a decimal has over 18 digits
abbrev pub is_long : ColumnKind → Bool
is_long SmallInt = false
is_long Integer = false
is_long BigInt = false
is_long (Decimal digits scale) = nat_lt short_digits digits
is_long (VarChar most) = false

-- some column is a decimal of over 18 digits
abbrev pub has_long_decimal : List Column → Bool
has_long_decimal columns = list_any (λ c. is_long c.kind) columns

-- the bytes that a column has in a row: one for NULL or not, then those of its values
abbrev pub column_width : ColumnKind → ℕ
column_width SmallInt = 3
column_width Integer = 5
column_width BigInt = 9
column_width (Decimal digits scale) = if nat_lt short_digits digits then 17 else 9
column_width (VarChar most) = most + 2

-- a decimal has 1 to 28 digits, and at most these after the point; a text has 1 to 255 bytes at most
abbrev pub is_kind : ColumnKind → Bool
is_kind SmallInt = true
is_kind Integer = true
is_kind BigInt = true
is_kind (Decimal digits scale) = nat_le 1 digits && nat_le digits most_digits && nat_le scale digits
is_kind (VarChar most) = nat_le 1 most && nat_le most 255

-- the digits after the point
abbrev pub scale_of : ColumnKind → ℕ
scale_of SmallInt = 0
scale_of Integer = 0
scale_of BigInt = 0
scale_of (Decimal digits scale) = scale
scale_of (VarChar most) = 0

-- the bytes of a row
abbrev pub width_of : List Column → ℕ
width_of columns = sum_by (λ c. column_width c.kind) columns

-- the names of the columns
abbrev pub names_of : List Column → List (List ℕ)
names_of columns = map (λ c. c.name) columns

-- a name is one of those before it
abbrev pub is_repeated : List ℕ → List (List ℕ) → Bool
is_repeated name before = list_any (λ other. pointwise nat_eq other name) before

-- a name is one of those after it
abbrev pub is_among : List ℕ → List (List ℕ) → Bool
is_among name others = list_any (λ other. pointwise nat_eq name other) others

-- no name stands twice
abbrev pub are_distinct : List (List ℕ) → Bool
are_distinct [] = true
are_distinct (name ∷ rest) = not (is_among name rest) && are_distinct rest

-- at most 32 columns of at most 1000 bytes, each of a kind that may be, with names that differ, also from the stamp's
abbrev pub keep_rules : List ℕ → List Column → Bool
keep_rules stamp columns =
    nat_le (length columns) 32 && list_all (λ c. is_kind c.kind) columns && nat_le (width_of columns) 1000
    && are_distinct (stamp ∷ names_of columns)

-- a column may follow others: they are fewer than 32, its kind may be, the row gets no wider than 1000 bytes, its name
-- is new
abbrev pub may_follow : List ℕ → List Column → Column → Bool
may_follow stamp before c =
    nat_lt (length before) 32 && is_kind c.kind && nat_le (width_of before + column_width c.kind) 1000
    && not (is_repeated c.name (stamp ∷ names_of before))

-- these columns make a row type: there is one at least, and they keep the rules
abbrev pub is_row_type : List ℕ → List Column → Bool
is_row_type stamp columns = nat_le 1 (length columns) && keep_rules stamp columns

-- the least number from `first` on, among `count` of them, that passes a test
abbrev pub least_from : ℕ → ℕ → (ℕ → Bool) → Option ℕ
least_from first zero test = None
least_from first (suc count) test = if test first then Some first else least_from (first + 1) count test

-- the number, counted from 1, of the first column with which the columns up to there make no row type
abbrev pub bad_column : List ℕ → List Column → Option ℕ
bad_column stamp columns = least_from 1 (max 1 (length columns)) (λ n. not (is_row_type stamp (take n columns)))

-- a row type is refused for its first bad column
abbrev pub IsBadRowType : List ℕ → List Column → Trouble → Type 0
IsBadRowType stamp columns trouble = (n : ℕ) × (bad_column stamp columns ≡ Some n) × (trouble ≡ Refused (BadRowType n))

-- Rows: the values that a column may hold, and the row that literals give.

-- the values of a row, one for each value column
abbrev pub Values : Type 0
Values = List Value

-- a row: its values, and whether it is hidden
pub record Row : Type 0 where
  pub values : Values
  pub hidden : Bool

-- a column holds numbers of this size, of either sign
abbrev pub holds_size : ColumnKind → ℕ → Bool
holds_size SmallInt n = nat_le n 32_767
holds_size Integer n = nat_le n 2_147_483_647
holds_size BigInt n = nat_le n 9_223_372_036_854_775_807
holds_size (Decimal digits scale) n = nat_lt n (10 ^ digits)
holds_size (VarChar most) n = false

-- a column holds this text
abbrev pub holds_text : ColumnKind → List ℕ → Bool
holds_text (VarChar most) text = nat_le (length text) most && is_text text
holds_text _ text = false

-- a column holds this value; each holds NULL
abbrev pub holds : ColumnKind → Value → Bool
holds kind Null = true
holds kind (Number z) = holds_size kind (unsigned_abs z)
holds kind (Text text) = holds_text kind text

-- there is one value for each column, which holds it
abbrev pub hold : List Column → Values → Bool
hold [] [] = true
hold [] (value ∷ values) = false
hold (column ∷ columns) [] = false
hold (column ∷ columns) (value ∷ values) = holds column.kind value && hold columns values

-- a row has one value for each column, which holds it; it may be hidden or not
abbrev pub fits : List Column → Row → Bool
fits columns row = hold columns row.values

-- the visible row of these values
abbrev pub visible : Values → Row
visible values = record { values = values; hidden = false }

-- the same values, hidden or visible
abbrev pub marked : Bool → Row → Row
marked hidden row = record { values = row.values; hidden = hidden }

-- a column takes numbers that are written with so many digits after a point: an integer only those with no point
abbrev pub takes_scale : ColumnKind → ℕ → Bool
takes_scale (Decimal digits scale) written = true
takes_scale (VarChar most) written = false
takes_scale _ written = written == 0

-- n / 10 ^ written times 10 ^ scale, where it is whole
abbrev pub rescaled : ℕ → ℕ → ℕ → Option ℕ
rescaled n written scale =
    if n * 10 ^ scale % 10 ^ written == 0 then Some (n * 10 ^ scale / 10 ^ written) else None

-- a size, if it is one of a number of 128 bits
abbrev pub size_if_fits : ℕ → Option ℕ
size_if_fits n = if nat_lt n (2 ^ 128) then Some n else None

-- a number of size n with the sign of another
abbrev pub with_sign : ℤ → ℕ → ℤ
with_sign z n = if int_lt z (pos 0) then neg_ℤ (pos n) else pos n

-- the size, if the column holds it
abbrev pub size_if_held : ColumnKind → ℕ → Option ℕ
size_if_held kind n = if holds_size kind n then Some n else None

-- the size of the number of a column that units / 10 ^ written gives, if the column takes it
abbrev pub size_if_any : ColumnKind → ℕ → ℕ → Option ℕ
size_if_any kind n written =
    if takes_scale kind written then option_and_then (size_if_held kind) (rescaled n written (scale_of kind)) else None

-- the value of a column that a literal gives, if it fits
abbrev pub value_if_any : ColumnKind → Literal → Option Value
value_if_any kind NullLiteral = Some Null
value_if_any kind (NumberLiteral units written) =
    option_map (λ n. Number (with_sign units n)) (size_if_any kind (unsigned_abs units) written)
value_if_any kind (TextLiteral text) = if holds_text kind text then Some (Text text) else None

-- values that begin with that of column number `number`, if there is one
abbrev pub with_first : ℕ → Option Value → Result Values ℕ → Result Values ℕ
with_first number None rest = Err number
with_first number (Some value) (Ok values) = Ok (value ∷ values)
with_first number (Some value) (Err later) = Err later

-- the values that literals give, where the columns count from `number`; else the first that misfits, is missing or is
-- too many
abbrev pub values_from : ℕ → List Column → List Literal → Result Values ℕ
values_from number [] [] = Ok []
values_from number [] (literal ∷ literals) = Err number
values_from number (column ∷ columns) [] = Err number
values_from number (column ∷ columns) (literal ∷ literals) =
    with_first number (value_if_any column.kind literal) (values_from (number + 1) columns literals)

-- the visible row of values, where there are values
abbrev pub visible_if_any : Result Values ℕ → Result Row ℕ
visible_if_any (Ok values) = Ok (visible values)
visible_if_any (Err number) = Err number

-- the visible row that literals give, or the number, counted from 1, of the first column that misfits, is missing or is
-- too many
abbrev pub row_of : List Column → List Literal → Result Row ℕ
row_of columns literals = visible_if_any (values_from 1 columns literals)

-- why there are none: the column at which they are refused, or want of memory
abbrev pub IsTroubleOf : {A : Type 0} → Result A ℕ → Trouble → Type 0
IsTroubleOf given (Refused refusal) = (n : ℕ) × (given ≡ Err n) × (refusal ≡ RowMismatch n)
IsTroubleOf given (Memory error) = Unit {0}

-- why literals give no row: the first column that misfits, is missing or is too many, or want of memory
abbrev pub IsRowTrouble : List Column → List Literal → Trouble → Type 0
IsRowTrouble columns literals trouble = IsTroubleOf (row_of columns literals) trouble

-- Elements: rows at their stamps, some of them hidden.

-- an element of a series: its stamp and its row
abbrev pub Element : Type 0
Element = ℤ × Row

-- the elements without the hidden ones
abbrev pub seen : List Element → List Element
seen es = filter (λ e. not e.1.hidden) es

-- some element is hidden
abbrev pub has_hidden : List Element → Bool
has_hidden es = list_any (λ e. e.1.hidden) es

-- the row of the element at a stamp, if one is there
abbrev pub element_at : ℤ → List Element → Option Row
element_at stamp es = find int_cmp stamp es

-- the last element, if there is one
abbrev pub last_of : List Element → Option Element
last_of es = slice_get es (length es - 1)

-- What is printed of values and rows.

-- the last digits of a number, this many
abbrev pub last_digits : ℕ → ℕ → List ℕ
last_digits zero n = []
last_digits (suc count) n = last_digits count (n / 10) ++ (48 + n % 10) ∷ []

-- the point and the digits after it, if there are any
abbrev pub fraction_text : ℕ → ℕ → List ℕ
fraction_text scale n = if scale == 0 then [] else 46 ∷ last_digits scale n

-- a number of this size with so many digits after the point
abbrev pub size_text : ℕ → ℕ → List ℕ
size_text scale n = decimal (n / 10 ^ scale) ++ fraction_text scale n

-- a number with so many digits after the point
abbrev pub number_text : ℕ → ℤ → List ℕ
number_text scale z = (if int_lt z (pos 0) then 45 ∷ [] else []) ++ size_text scale (unsigned_abs z)

-- a byte of a text, a quote twice
abbrev pub quoted : ℕ → List ℕ
quoted c = if c == 39 then 39 ∷ 39 ∷ [] else c ∷ []

-- a value; a number as a decimal with this scale, a text in quotes
abbrev pub value_text : ℕ → Value → List ℕ
value_text scale Null = codes "null"
value_text scale (Number z) = number_text scale z
value_text scale (Text text) = 39 ∷ flat_map quoted text ++ 39 ∷ []

-- values, each as its column prints it
abbrev pub value_texts : List Column → Values → List (List ℕ)
value_texts (column ∷ columns) (value ∷ values) = value_text (scale_of column.kind) value ∷ value_texts columns values
value_texts _ _ = []

-- values with commas between them
abbrev pub values_text : List Column → Values → List ℕ
values_text columns values = join_with_byte 44 (value_texts columns values)

-- the values of a row with commas between them; its mark isn't printed
abbrev pub row_text : List Column → Row → List ℕ
row_text columns row = values_text columns row.values

-- the literal that the text of a value is
abbrev pub literal_of : ℕ → Value → Literal
literal_of scale Null = NullLiteral
literal_of scale (Number z) = NumberLiteral z scale
literal_of scale (Text text) = TextLiteral text

-- the literals that the texts of values are
abbrev pub value_literals : List Column → Values → List Literal
value_literals (column ∷ columns) (value ∷ values) = literal_of (scale_of column.kind) value
    ∷ value_literals columns values
value_literals _ _ = []

-- the literals that the texts of a row's values are
abbrev pub literals_of : List Column → Row → List Literal
literals_of columns row = value_literals columns row.values
