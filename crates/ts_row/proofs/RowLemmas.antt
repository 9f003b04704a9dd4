-- The row that literals give fits.
use Rattle.std.proofs.Common.{◌≡◌, ℕ, zero, suc, ◌+◌, true, false, if◌then◌else◌, Option, Some, None, Result, Ok, Err, IsOkAnd, List, [], ◌∷◌, ◌++◌, ℤ, pos, negsuc, unsigned_abs, refl, sym, ap, ◌∙◌, arith}
use Rattle.std.specs.Option.{option_map, option_and_then}
use Rattle.std.proofs.lemmas.Int.{ints}
use Rattle.std.proofs.lemmas.Bool.Decides.{nat_tests}
use Rattle.ts_row.specs.declared.kind.ColumnKind.{ColumnKind}
use Rattle.ts_row.specs.declared.kind.Column.{Column}
use Rattle.ts_row.specs.declared.value.Value.{Value}
use Rattle.ts_row.specs.declared.value.Value.TheVariants.{Null, Number, Text}
use Rattle.ts_row.specs.declared.value.Literal.{Literal}
use Rattle.ts_row.specs.declared.value.Literal.TheVariants.{Null as NullLiteral, Number as NumberLiteral, Text as TextLiteral}
use Rattle.ts_row.specs.Row.{scale_of, Values, Row, holds, holds_size, holds_text, hold, fits, visible, takes_scale, rescaled, with_sign, size_if_held, size_if_any, value_if_any, with_first, values_from, visible_if_any, row_of, IsTroubleOf}
use Rattle.ts_base.specs.declared.fault.Trouble.{Trouble}
use Rattle.ts_base.specs.declared.fault.Trouble.TheVariants.{Refused, Memory}

-- the size of a number with the sign of another
unsigned_abs-with_sign : (z : ℤ) (n : ℕ) → unsigned_abs (with_sign z n) ≡ n
unsigned_abs-with_sign (pos m) n = grind (arith, ints, nat_tests)
unsigned_abs-with_sign (negsuc m) zero = refl
unsigned_abs-with_sign (negsuc m) (suc n) = refl

-- a size that comes out is one that the column holds
size_if_held-holds : (kind : ColumnKind) (o : Option ℕ) (n : ℕ) → option_and_then (size_if_held kind) o ≡ Some n → holds_size kind n ≡ true
size_if_held-holds kind None n is = cc
size_if_held-holds kind (Some m) n is = grind (arith, nat_tests)

-- the same with the literal's scale
size_if_any-holds : (kind : ColumnKind) (m written n : ℕ) → size_if_any kind m written ≡ Some n → holds_size kind n ≡ true
size_if_any-holds kind m written n is =
    elim (takes_scale kind written) as (λ b. (if b then option_and_then (size_if_held kind) (rescaled m written (scale_of kind)) else None) ≡ Some n → holds_size kind n ≡ true) [
      | true ↦ λ held. size_if_held-holds kind (rescaled m written (scale_of kind)) n held
      | false ↦ λ none. cc
    ] is

-- the number of an optional size
number_holds : (kind : ColumnKind) (units : ℤ) (o : Option ℕ) (v : Value) → ((n : ℕ) → o ≡ Some n → holds_size kind n ≡ true) → option_map (λ n. Number (with_sign units n)) o ≡ Some v → holds kind v ≡ true
number_holds kind units None v held is = cc
number_holds kind units (Some n) v held is =
    let same : v ≡ Number (with_sign units n) = cc in
    rw same (ap (holds_size kind) (unsigned_abs-with_sign units n) ∙ held n refl)

-- a value that a literal gives is one that the column holds
pub value_if_any-holds : (kind : ColumnKind) (literal : Literal) (v : Value) → value_if_any kind literal ≡ Some v → holds kind v ≡ true
value_if_any-holds kind NullLiteral v is =
    let same : v ≡ Null = cc in
    rw same refl
value_if_any-holds kind (NumberLiteral units written) v is =
    number_holds kind units (size_if_any kind (unsigned_abs units) written) v (size_if_any-holds kind (unsigned_abs units) written) is
value_if_any-holds kind (TextLiteral text) v is =
    elim (holds_text kind text) as (λ b. holds_text kind text ≡ b → (if b then Some (Text text) else None) ≡ Some v → holds kind v ≡ true) [
      | true ↦ λ held some. let same : v ≡ Text text = cc in rw same held
      | false ↦ λ not none. cc
    ] refl is

-- values that begin with one
with_first-ok : (number : ℕ) (o : Option Value) (rest : Result Values ℕ) (given : Values) → with_first number o rest ≡ Ok given → (v : Value) × (values : Values) × (o ≡ Some v) × (rest ≡ Ok values) × (given ≡ v ∷ values)
with_first-ok number None rest given is = absurd (cc)
with_first-ok number (Some v) (Ok values) given is = (v, values, refl, refl, cc)
with_first-ok number (Some v) (Err later) given is = absurd (cc)

-- the values that literals give are held
values_from-hold : (number : ℕ) (columns : List Column) (literals : List Literal) (given : Values) → values_from number columns literals ≡ Ok given → hold columns given ≡ true
values_from-hold number [] [] given is =
    let same : given ≡ [] = cc in
    rw same refl
values_from-hold number [] (literal ∷ literals) given is = absurd (cc)
values_from-hold number (column ∷ columns) [] given is = absurd (cc)
values_from-hold number (column ∷ columns) (literal ∷ literals) given is =
    let parts = with_first-ok number (value_if_any column.kind literal) (values_from (number + 1) columns literals) given is in
    let first = value_if_any-holds column.kind literal parts.0 parts.2 in
    let others = values_from-hold (number + 1) columns literals parts.1 parts.3 in
    rw (parts.4, first, others) refl

-- the row that literals give is the visible row of values that are held
pub given_fits : (columns : List Column) (literals : List Literal) (row : Row) → row_of columns literals ≡ Ok row → fits columns row ≡ true
given_fits columns literals row is =
    elim (values_from 1 columns literals) as (λ (given : Result Values ℕ). values_from 1 columns literals ≡ given → visible_if_any given ≡ Ok row → fits columns row ≡ true) [
      | Ok values ↦ λ same some. let one : row ≡ visible values = cc in ap (fits columns) one ∙ values_from-hold 1 columns literals values same
      | Err number ↦ λ same none. absurd (cc)
    ] refl is

-- what is put to the end of no values makes the row
pub row_of-put : (columns : List Column) (literals : List Literal) (old new : Values) (row : Row) → old ≡ [] → IsOkAnd (values_from 1 columns literals) (λ given. new ≡ old ++ given) → row ≡ visible new → row_of columns literals ≡ Ok row
row_of-put columns literals old new row empty given is =
    elim (values_from 1 columns literals) as (λ (r : Result Values ℕ). IsOkAnd r (λ all. new ≡ old ++ all) → visible_if_any r ≡ Ok row) [
      | Ok all ↦ λ same. ap Ok (ap visible (ap (λ (l : Values). l ++ all) (sym empty) ∙ sym same) ∙ sym is)
      | Err number ↦ λ none. absurd none
    ] given

-- why there are no values is why there is no row
pub trouble_of : (given : Result Values ℕ) (trouble : Trouble) → IsTroubleOf given trouble → IsTroubleOf (visible_if_any given) trouble
trouble_of given (Refused refusal) why = (why.0, ap visible_if_any why.1, why.2)
trouble_of given (Memory error) why = tt

-- for `grind`
pub ruleset fitting = (given_fits, row_of-put, trouble_of)
