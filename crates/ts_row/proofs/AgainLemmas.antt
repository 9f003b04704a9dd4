-- What is printed fits again.
use Rattle.std.proofs.Common.{◌≡◌, ℕ, ◌+◌, Bool, true, false, ◌&&◌, ℤ, pos, negsuc, int_lt, unsigned_abs, Some, Ok, List, [], ◌∷◌, IsTrue, refl, ap, ◌∙◌, arith}
use Rattle.std.specs.List.{list_all}
use Rattle.std.proofs.lemmas.Bool.Decides.{nat_tests}
use Rattle.ts_row.specs.declared.kind.ColumnKind.{ColumnKind}
use Rattle.ts_row.specs.declared.kind.ColumnKind.TheVariants.{SmallInt, Integer, BigInt, Decimal, VarChar}
use Rattle.ts_row.specs.declared.kind.Column.{Column}
use Rattle.ts_row.specs.declared.value.Value.{Value}
use Rattle.ts_row.specs.declared.value.Value.TheVariants.{Null, Number, Text}
use Rattle.ts_row.specs.Row.{is_kind, scale_of, Values, Row, holds_size, holds, hold, fits, marked, rescaled, with_sign, size_if_any, value_if_any, values_from, visible_if_any, row_of, literal_of, value_literals, literals_of}
use Rattle.ts_row.proofs.LiteralLemmas.{rescaled-raise}

first_of_two : (a b : Bool) → IsTrue (a && b) → IsTrue a
first_of_two a b both = grind (arith, nat_tests)

second_of_two : (a b : Bool) → IsTrue (a && b) → IsTrue b
second_of_two a b both = grind (arith, nat_tests)

-- the sign and the size make the number
with_sign-size : (z : ℤ) → with_sign z (unsigned_abs z) ≡ z
with_sign-size (pos n) = let no : int_lt (pos n) (pos 0) ≡ false = grind (arith, nat_tests) in rw no refl
with_sign-size (negsuc n) = refl

-- a number of the column's scale is taken as it is
rescaled-same : (n s : ℕ) → rescaled n s s ≡ Some n
rescaled-same n s = rescaled-raise n s s 0 (omega arith) ∙ ap Some (omega arith)

-- a size that the column holds is taken
size-again : (kind : ColumnKind) (n : ℕ) → holds_size kind n ≡ true → size_if_any kind n (scale_of kind) ≡ Some n
size-again SmallInt n held = rw (rescaled-same n 0, held) refl
size-again Integer n held = rw (rescaled-same n 0, held) refl
size-again BigInt n held = rw (rescaled-same n 0, held) refl
size-again (Decimal digits scale) n held = rw (rescaled-same n scale, held) refl
size-again (VarChar most) n held = cc

-- the literal of a value gives it
pub value-again : (kind : ColumnKind) (value : Value) → IsTrue (is_kind kind) → IsTrue (holds kind value) → value_if_any kind (literal_of (scale_of kind) value) ≡ Some value
value-again kind Null valid held = refl
value-again kind (Number z) valid held = rw (size-again kind (unsigned_abs z) held, with_sign-size z) refl
value-again kind (Text text) valid held = rw held refl

-- the literals of values give them, from any column's number on
from-again : (number : ℕ) (columns : List Column) (values : Values) → IsTrue (list_all (λ c. is_kind c.kind) columns) → IsTrue (hold columns values) → values_from number columns (value_literals columns values) ≡ Ok values
from-again number [] [] valid fit = refl
from-again number [] (value ∷ values) valid fit = cc
from-again number (column ∷ columns) [] valid fit = cc
from-again number (column ∷ columns) (value ∷ values) valid fit =
    let kind : IsTrue (is_kind column.kind) = first_of_two (is_kind column.kind) (list_all (λ (c : Column). is_kind c.kind) columns) valid in
    let kinds : IsTrue (list_all (λ (c : Column). is_kind c.kind) columns) = second_of_two (is_kind column.kind) (list_all (λ (c : Column). is_kind c.kind) columns) valid in
    let held : IsTrue (holds column.kind value) = first_of_two (holds column.kind value) (hold columns values) fit in
    let others : IsTrue (hold columns values) = second_of_two (holds column.kind value) (hold columns values) fit in
    rw (value-again column.kind value kind held, from-again (number + 1) columns values kinds others) refl

-- the literals of a row give the visible one
pub row-again : (columns : List Column) (row : Row) → IsTrue (list_all (λ c. is_kind c.kind) columns) → IsTrue (fits columns row) → row_of columns (literals_of columns row) ≡ Ok (marked false row)
row-again columns row valid fit = ap visible_if_any (from-again 1 columns row.values valid fit)
