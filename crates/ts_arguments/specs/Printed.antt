-- Printed values and rows, as a statement reads them again.
use Rattle.std.specs.Prelude.{◌≡◌, ℕ, ◌≤◌, Bool, false, ◌||◌, ◌==◌, IsTrue, Some, Ok, List, [], ◌∷◌, ◌++◌, length}
use Rattle.std.specs.List.{list_all}
use Rattle.ts_base.specs.Name.{is_blank}
use Rattle.ts_text.specs.Phrase.{repeated}
use Rattle.ts_row.specs.declared.kind.Column.{Column}
use Rattle.ts_row.specs.declared.kind.ColumnKind.{ColumnKind}
use Rattle.ts_row.specs.declared.value.Literal.{Literal}
use Rattle.ts_row.specs.declared.value.Value.{Value}
use Rattle.ts_row.specs.Row.{is_kind, scale_of, Row, holds, fits, marked, value_if_any, row_of, value_text, row_text}
use Rattle.ts_arguments.specs.Arguments.{a_literal}

-- a blank, a comma or a closing bracket comes first
abbrev pub ends_value : List ℕ → Bool
ends_value [] = false
ends_value (b ∷ bytes) = is_blank b || b == 44 || b == 41

-- where such a byte stands behind it, a value is one literal, which fits the column and gives the value back
abbrev pub ValuesAreReadAgain : Type 0
ValuesAreReadAgain =
    (kind : ColumnKind) (value : Value) (rest : List ℕ) → IsTrue (is_kind kind) → IsTrue (holds kind value)
    → IsTrue (ends_value rest)
    → (literal : Literal) × (a_literal (value_text (scale_of kind) value ++ rest) ≡ Ok (literal, rest))
    × (value_if_any kind literal ≡ Some value)

-- behind a comma and in front of a closing bracket a row is as many literals, which give the visible row back
abbrev pub RowsAreReadAgain : Type 0
RowsAreReadAgain =
    (columns : List Column) (row : Row) (rest : List ℕ) → 1 ≤ length columns
    → IsTrue (list_all (λ c. is_kind c.kind) columns) → IsTrue (fits columns row)
    → (literals : List Literal)
    × (repeated a_literal (44 ∷ (row_text columns row ++ 41 ∷ rest)) ≡ Ok (literals, 41 ∷ rest))
    × (row_of columns literals ≡ Ok (marked false row))
