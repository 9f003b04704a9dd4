-- The values of a column are of one kind.
use Rattle.std.proofs.Common.{◌≡◌, ℕ, zero, suc, Bool, true, false, List, [], ◌∷◌, All, refl, inl, inr}
use Rattle.std.specs.Prelude.{IsTrue}
use Rattle.std.proofs.lemmas.Bool.{cases_Bool, and_parts}
use Rattle.std.proofs.lemmas.List.Elements.{All-nil, All-cons, All-head, All-tail, All-weaker}
use Rattle.ts_row.specs.declared.kind.ColumnKind.{ColumnKind}
use Rattle.ts_row.specs.declared.kind.ColumnKind.TheVariants.{VarChar}
use Rattle.ts_row.specs.declared.kind.Column.{Column}
use Rattle.ts_row.specs.declared.value.Value.{Value}
use Rattle.ts_row.specs.declared.value.Value.TheVariants.{Null, Number, Text}
use Rattle.ts_row.specs.Row.{Values, Row, holds, hold, fits}
use Rattle.ts_expr.specs.Aggregates.{is_text_kind, is_null, value_at, values_of}
use Rattle.ts_expr.specs.Laws.{is_number, is_text, AreAlike}

-- what holds of the value of each row holds of the values
each_value : (P : Value → Type 0) (column : ℕ) (rows : List Row) →
    All (λ r. is_null (value_at column r.values) ≡ false → P (value_at column r.values)) rows →
    All P (values_of column rows)
each_value P column [] all = All-nil P
each_value P column (r ∷ rows) all =
    let others : All P (values_of column rows) =
    each_value P column rows (All-tail (λ (x : Row). is_null (value_at column x.values) ≡ false → P
    (value_at column x.values)) r rows all) in
    elim (cases_Bool r.hidden) [
      | inl hidden ↦ rw hidden others
      | inr seen ↦ elim (cases_Bool (is_null (value_at column r.values))) [
        | inl null ↦ rw (seen, null) others
        | inr some ↦ rw (seen, some) (All-cons P (value_at column r.values) (values_of column rows) (own some) others)
      ]
    ] where
      own : is_null (value_at column r.values) ≡ false → P (value_at column r.values)
      own = All-head (λ (x : Row). is_null (value_at column x.values) ≡ false → P (value_at column x.values)) r rows all

-- the column has texts
abbrev has_texts : List Column → ℕ → Bool
has_texts [] column = false
has_texts (c ∷ columns) zero = is_text_kind c.kind
has_texts (c ∷ columns) (suc column) = has_texts columns column

-- a value that a column holds is of its kind
kind_number : (kind : ColumnKind) (v : Value) → holds kind v ≡ true → is_text_kind kind ≡ false → is_null v ≡ false → is_number v ≡ true
kind_number kind Null is numbers some = absurd (cc)
kind_number kind (Number z) is numbers some = refl
kind_number (VarChar most) (Text text) is numbers some = absurd (cc)
kind_number kind (Text text) is numbers some = absurd (cc)

kind_text : (kind : ColumnKind) (v : Value) → holds kind v ≡ true → is_text_kind kind ≡ true → is_null v ≡ false → is_text v ≡ true
kind_text kind Null is texts some = absurd (cc)
kind_text (VarChar most) (Number z) is texts some = absurd (cc)
kind_text kind (Number z) is texts some = absurd (cc)
kind_text kind (Text text) is texts some = refl

number_at : (columns : List Column) (values : Values) (column : ℕ) → hold columns values ≡ true → has_texts columns column ≡ false →
    is_null (value_at column values) ≡ false → is_number (value_at column values) ≡ true
number_at columns [] column is numbers some = absurd (cc)
number_at [] (v ∷ values) column is numbers some = absurd (cc)
number_at (c ∷ columns) (v ∷ values) zero is numbers some =
    kind_number c.kind v (and_parts (holds c.kind v) (hold columns values) is).0 numbers some
number_at (c ∷ columns) (v ∷ values) (suc column) is numbers some =
    number_at columns values column (and_parts (holds c.kind v) (hold columns values) is).1 numbers some

text_at : (columns : List Column) (values : Values) (column : ℕ) → hold columns values ≡ true → has_texts columns column ≡ true →
    is_null (value_at column values) ≡ false → is_text (value_at column values) ≡ true
text_at columns [] column is texts some = absurd (cc)
text_at [] (v ∷ values) column is texts some = absurd (cc)
text_at (c ∷ columns) (v ∷ values) zero is texts some =
    kind_text c.kind v (and_parts (holds c.kind v) (hold columns values) is).0 texts some
text_at (c ∷ columns) (v ∷ values) (suc column) is texts some =
    text_at columns values column (and_parts (holds c.kind v) (hold columns values) is).1 texts some

pub alike : (columns : List Column) (column : ℕ) (rows : List Row) → All (λ r. IsTrue (fits columns r)) rows →
    AreAlike (values_of column rows)
alike columns column rows fit = elim (cases_Bool (has_texts columns column)) [
  | inl texts ↦ inr (each_value (λ v. is_text v ≡ true) column rows (All-weaker (λ (r : Row). IsTrue (fits columns r))
      (λ (r : Row). is_null (value_at column r.values) ≡ false → is_text (value_at column r.values) ≡ true)
      (λ r is. text_at columns r.values column is texts) rows fit))
  | inr numbers ↦ inl (each_value (λ v. is_number v ≡ true) column rows (All-weaker (λ (r : Row). IsTrue (fits columns r))
      (λ (r : Row). is_null (value_at column r.values) ≡ false → is_number (value_at column r.values) ≡ true)
      (λ r is. number_at columns r.values column is numbers) rows fit))
]
