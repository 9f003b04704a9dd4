-- The values that bytes are, said one column after the other.
use Rattle.std.proofs.Common.{◌≡◌, ℕ, ◌≤◌, true, false, nat_le, if◌then◌else◌, ℤ, Option, Some, None, List, [], ◌∷◌, ◌++◌, length, take, drop, IsTrue, refl, sym, ap, ◌∙◌, append_assoc, arith}
use Rattle.std.specs.List.{list_all}
use Rattle.std.proofs.lemmas.Bool.Decides.{nat_tests}
use Rattle.std.proofs.lemmas.List.{take_all}
use Rattle.ts_base.specs.Moment.{stamp_text}
use Rattle.ts_row.specs.declared.kind.Column.{Column}
use Rattle.ts_row.specs.declared.kind.ColumnKind.{ColumnKind}
use Rattle.ts_row.specs.declared.value.Value.{Value}
use Rattle.ts_row.specs.declared.value.Value.TheVariants.{Null}
use Rattle.ts_row.specs.Row.{column_width, is_kind, is_row_type, scale_of, width_of, Values, Row, value_text, values_text}
use Rattle.ts_row.specs.Encoding.{values_bytes, with_mark}
use Rattle.ts_row.specs.Decoding.{all_zero, value_in, put_first, values_in}
use Rattle.ts_row.proofs.PrintLemmas.{print_more}
use Rattle.ts_row.proofs.RowBytesLemmas.{values_in-values_bytes, with_mark-none}
use Rattle.ts_entry.specs.Entry.{AreSeenBytes}
use Rattle.ts_answer.specs.Reply.{entry_line}

-- the value of the first column, and those of the others
pub record AreParts (c : Column) (cs : List Column) (cell rest : List ℕ) (values : Values) : Type 0 where
  pub first : Value
  pub others : Values
  pub first_in : value_in c.kind cell ≡ Some first
  pub others_in : values_in cs rest ≡ Some others
  pub are : values ≡ first ∷ others

both_there : (c : Column) (cs : List Column) (cell rest : List ℕ) (o : Option Value) (p : Option Values) (values : Values) → value_in c.kind cell ≡ o → values_in cs rest ≡ p
    → put_first o p ≡ Some values → AreParts c cs cell rest values
both_there c cs cell rest None p values first others is = absurd (cc)
both_there c cs cell rest (Some v) None values first others is = absurd (cc)
both_there c cs cell rest (Some v) (Some vs) values first others is = record { first = v; others = vs; first_in = first; others_in = others; are = cc }

-- values of some columns have such parts
cut : (c : Column) (cs : List Column) (bytes : List ℕ) (values : Values) → values_in (c ∷ cs) bytes ≡ Some values
    → AreParts c cs (take (column_width c.kind) bytes) (drop (column_width c.kind) bytes) values
cut c cs bytes values is =
    elim (nat_le (column_width c.kind) (length bytes)) as
    (λ b. (if b then put_first (value_in c.kind (take (column_width c.kind) bytes)) (values_in cs (drop (column_width c.kind) bytes)) else None) ≡ Some values
    → AreParts c cs (take (column_width c.kind) bytes) (drop (column_width c.kind) bytes) values) [
      | true ↦ λ there. both_there c cs (take (column_width c.kind) bytes) (drop (column_width c.kind) bytes) (value_in c.kind (take (column_width c.kind) bytes)) (values_in cs (drop (column_width c.kind) bytes)) values refl refl there
      | false ↦ λ none. absurd (cc)
    ] is

-- where there are columns there are values
some_values : (cs : List Column) (bytes : List ℕ) (values : Values) → 1 ≤ length cs → values_in cs bytes ≡ Some values → 1 ≤ length values
some_values [] bytes values some is = absurd (omega arith)
some_values (c ∷ cs) bytes values some is =
    let parts : AreParts c cs (take (column_width c.kind) bytes) (drop (column_width c.kind) bytes) values = cut c cs bytes values is in
    omega (arith, ap length parts.are)

-- the bytes of one column are all that there are
pub whole_last : (columns cs : List Column) (c : Column) (bytes : List ℕ) → columns ≡ c ∷ cs → cs ≡ [] → length bytes ≡ width_of columns
    → (length bytes ≡ column_width c.kind) × (bytes ≡ take (column_width c.kind) bytes)
whole_last columns cs c bytes split none size =
    let one : width_of columns ≡ width_of (c ∷ []) = ap width_of split ∙ ap (λ l. width_of (c ∷ l)) none in
    let same : length bytes ≡ column_width c.kind = omega (arith, size, one) in
    (same, sym (take_all (column_width c.kind) bytes (omega (arith, same))))

-- the last value is said, and a line feed
pub last_said : (columns cs : List Column) (c : Column) (bytes cell old new : List ℕ) (values : Values) → columns ≡ c ∷ cs → cs ≡ []
    → cell ≡ take (column_width c.kind) bytes
    → ((value : Value) → value_in c.kind cell ≡ Some value → new ≡ old ++ value_text (scale_of c.kind) value ++ 10 ∷ [])
    → values_in columns bytes ≡ Some values → new ≡ old ++ values_text columns values ++ 10 ∷ []
last_said columns cs c bytes cell old new values split none front one is =
    let whole : values_in (c ∷ cs) bytes ≡ Some values = ap (λ l. values_in l bytes) (sym split) ∙ is in
    let parts : AreParts c cs (take (column_width c.kind) bytes) (drop (column_width c.kind) bytes) values = cut c cs bytes values whole in
    let text : values_text columns values ≡ value_text (scale_of c.kind) parts.first =
    (λ j. values_text (split j) (parts.are j)) ∙ ap (λ l. values_text (c ∷ l) (parts.first ∷ parts.others)) none in
    one parts.first (ap (value_in c.kind) front ∙ parts.first_in) ∙ ap (λ l. old ++ l ++ 10 ∷ []) (sym text)

-- the first value is said with a comma, then the others and a line feed
pub more_said : (columns cs : List Column) (c : Column) (bytes cell rest old first new : List ℕ) (values : Values) → columns ≡ c ∷ cs → 1 ≤ length cs
    → cell ≡ take (column_width c.kind) bytes → rest ≡ drop (column_width c.kind) bytes
    → ((value : Value) → value_in c.kind cell ≡ Some value → first ≡ old ++ value_text (scale_of c.kind) value ++ 44 ∷ [])
    → ((others : Values) → values_in cs rest ≡ Some others → new ≡ first ++ values_text cs others ++ 10 ∷ [])
    → values_in columns bytes ≡ Some values → new ≡ old ++ values_text columns values ++ 10 ∷ []
more_said columns cs c bytes cell rest old first new values split some front back one others is =
    let whole : values_in (c ∷ cs) bytes ≡ Some values = ap (λ l. values_in l bytes) (sym split) ∙ is in
    let parts : AreParts c cs (take (column_width c.kind) bytes) (drop (column_width c.kind) bytes) values = cut c cs bytes values whole in
    let value : List ℕ = value_text (scale_of c.kind) parts.first in
    let said : first ≡ old ++ value ++ 44 ∷ [] = one parts.first (ap (value_in c.kind) front ∙ parts.first_in) in
    let behind : new ≡ first ++ values_text cs parts.others ++ 10 ∷ [] = others parts.others (ap (values_in cs) back ∙ parts.others_in) in
    let both : first ++ values_text cs parts.others ≡ old ++ values_text columns values =
    print_more columns cs c values parts.others parts.first old (old ++ value) first (first ++ values_text cs parts.others) split parts.are some
    (some_values cs (drop (column_width c.kind) bytes) parts.others some parts.others_in) refl said refl in
    behind ∙ ap (λ l. l ++ 10 ∷ []) both

-- bytes of a row that isn't hidden are those of its values
seen_values : (columns : List Column) (bytes : List ℕ) (row : Row) → IsTrue (list_all (λ c. is_kind c.kind) columns) → AreSeenBytes columns bytes row
    → values_in columns bytes ≡ Some row.values
seen_values columns bytes row kinds seen =
    let bare : values_bytes columns row.values ≡ bytes =
    sym (with_mark-none (values_bytes columns row.values)) ∙ ap (λ b. with_mark b (values_bytes columns row.values)) (sym seen.seen) ∙ seen.is in
    ap (values_in columns) (sym bare) ∙ values_in-values_bytes columns row.values kinds seen.fits

-- so they are what is said of such bytes
pub seen_said : (stamp : List ℕ) (columns given : List Column) (bytes : List ℕ) (row : Row) (old new : List ℕ) → IsTrue (is_row_type stamp columns) → given ≡ columns → AreSeenBytes columns bytes row
    → ((values : Values) → values_in given bytes ≡ Some values → new ≡ old ++ values_text given values ++ 10 ∷ []) → new ≡ old ++ values_text columns row.values ++ 10 ∷ []
seen_said stamp columns given bytes row old new rules same seen said =
    let kinds : IsTrue (list_all (λ (c : Column). is_kind c.kind) columns) = grind (arith, nat_tests) in
    said row.values (ap (λ l. values_in l bytes) same ∙ seen_values columns bytes row kinds seen)
    ∙ ap (λ l. old ++ values_text l row.values ++ 10 ∷ []) same

-- a stamp and a blank, the values and a line feed are the line of an element
pub line_said : (columns : List Column) (stamp : ℤ) (row : Row) (old first new : List ℕ) → first ≡ old ++ stamp_text stamp ++ 32 ∷ []
    → new ≡ first ++ values_text columns row.values ++ 10 ∷ [] → new ≡ old ++ entry_line columns (stamp, Some row)
unfolding entry_line
line_said columns stamp row old first new one two =
    two ∙ ap (λ l. l ++ values_text columns row.values ++ 10 ∷ []) one ∙ simp append_assoc

-- the value of a byte 0 and others is NULL
pub null_there : (kind : ColumnKind) (cell : List ℕ) (flag : ℕ) (rest : List ℕ) (value : Value) → cell ≡ flag ∷ rest → flag ≡ 0 → value_in kind cell ≡ Some value
    → Null ≡ value
null_there kind cell flag rest value split none is =
    elim (all_zero rest) as (λ b. (if b then Some Null else None) ≡ Some value → Null ≡ value) [
      | true ↦ λ there. cc
      | false ↦ λ there. absurd (cc)
    ] (ap (value_in kind) (sym (split ∙ ap (λ (n : ℕ). n ∷ rest) none)) ∙ is)
