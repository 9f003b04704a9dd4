-- Columns as they are printed, and as they are read.
use Rattle.std.proofs.Common.{◌≡◌, ℕ, zero, suc, ◌<◌, ◌≤◌, true, false, IsTrue, Ok, List, [], ◌∷◌, ◌++◌, length, refl, ap, sym, ◌∙◌, length-append, arith}
use Rattle.std.specs.Prelude.{codes}
use Rattle.std.specs.List.{list_all}
use Rattle.std.specs.Fmt.{decimal}
use Rattle.std.proofs.lemmas.Bool.{and_parts}
use Rattle.std.proofs.lemmas.Bool.Decides.{nat_tests}
use Rattle.ts_base.specs.Name.{continues_word, is_word, is_name}
use Rattle.ts_row.specs.declared.kind.ColumnKind.{ColumnKind}
use Rattle.ts_row.specs.declared.kind.ColumnKind.TheVariants as kinds
use Rattle.ts_row.specs.declared.kind.Column.{Column}
use Rattle.ts_row.specs.Row.{is_kind}
use Rattle.ts_text.specs.Phrase.{Read, Phrase, go_on, taken, taken_front, ◌>>=◌, give, a_sign, behind, phrases, repeated, closed}
use Rattle.std.proofs.Math.Seq.{take-append_seam}
use Rattle.ts_tokens.specs.Tokens.{front}
use Rattle.ts_arguments.specs.Arguments.{type_of, a_name, a_small, type_in, a_type, kind_behind, a_column}
use Rattle.ts_dump_texts.specs.Texts.{kind_before, columns_before}
use Rattle.ts_dump_texts.proofs.TokenLemmas.{word_shows, word_front, name_read}
use Rattle.ts_dump_texts.proofs.NumberLemmas.{EndsNumber, small_read}

-- one phrase, and then the next
pub bind : {A B : Type 0} (first : Phrase A) (next : A → Phrase B) (bytes rest : List ℕ) (a : A) (r : Read B) → first bytes ≡ Ok (a, rest) → next a rest ≡ r → (first >>= next) bytes ≡ r
bind first next bytes rest a r is then = ap (λ (x : Read _). go_on x next) is ∙ then

pub bracket : EndsNumber 41
bracket = record { digit = refl; point = refl }

pub comma : EndsNumber 44
comma = record { digit = refl; point = refl }

open_small : (n : ℕ) (rest : List ℕ) (b : ℕ) → n < 1000 → EndsNumber b → behind 40 a_small (40 ∷ (decimal n ++ b ∷ rest)) ≡ Ok (n, b ∷ rest)
unfolding a_sign
open_small n rest b below ends = small_read n rest b below ends

comma_small : (n : ℕ) (rest : List ℕ) (b : ℕ) → n < 1000 → EndsNumber b → behind 44 a_small (44 ∷ (decimal n ++ b ∷ rest)) ≡ Ok (n, b ∷ rest)
unfolding a_sign
comma_small n rest b below ends = small_read n rest b below ends

close_sign : (rest : List ℕ) → a_sign 41 (41 ∷ rest) ≡ Ok (tt, rest)
unfolding a_sign
close_sign rest = refl

-- the name of a type, behind a blank
type_read : (word rest : List ℕ) (b : ℕ) → is_word word ≡ true → continues_word b ≡ false → a_type (32 ∷ (word ++ b ∷ rest)) ≡ taken (word ++ b ∷ rest) (length word) (type_of word)
unfolding a_type
type_read word rest b is ends =
    ap (λ (l : List ℕ). taken_front type_in l (front l)) (word_shows word (b ∷ rest) is)
    ∙ ap (taken_front type_in (word ++ b ∷ rest)) (word_front word rest b is ends)
    ∙ ap (λ (l : List ℕ). taken (word ++ b ∷ rest) (length word) (type_of l)) (take-append_seam word (b ∷ rest))

pub name_behind_blank : (bytes : List ℕ) → a_name (32 ∷ bytes) ≡ a_name bytes
unfolding a_name
name_behind_blank bytes = refl

decimal_numbers : (digits scale : ℕ) (rest : List ℕ) → digits < 1000 → scale < 1000
    → (behind 40 a_small >>= λ d. behind 44 a_small >>= λ s. a_sign 41 >>= λ end. give (kinds.Decimal d s)) (40 ∷ (decimal digits ++ 44 ∷ (decimal scale ++ 41 ∷ rest))) ≡ Ok (kinds.Decimal digits scale, rest)
decimal_numbers digits scale rest few part =
    let behind_digits : List ℕ = 44 ∷ (decimal scale ++ 41 ∷ rest) in
    bind (behind 40 a_small) _ (40 ∷ (decimal digits ++ behind_digits)) behind_digits digits _ (open_small digits (decimal scale ++ 41 ∷ rest) 44 few comma)
    (bind (behind 44 a_small) _ behind_digits (41 ∷ rest) scale _ (comma_small scale rest 41 part bracket)
    (bind (a_sign 41) _ (41 ∷ rest) rest tt _ (close_sign rest) refl))

text_number : (most : ℕ) (rest : List ℕ) → most < 1000 → (behind 40 a_small >>= λ n. a_sign 41 >>= λ end. give (kinds.VarChar n)) (40 ∷ (decimal most ++ 41 ∷ rest)) ≡ Ok (kinds.VarChar most, rest)
text_number most rest few =
    bind (behind 40 a_small) _ (40 ∷ (decimal most ++ 41 ∷ rest)) (41 ∷ rest) most _ (open_small most rest 41 few bracket)
    (bind (a_sign 41) _ (41 ∷ rest) rest tt _ (close_sign rest) refl)

-- a column of this name
abbrev column_of : List ℕ → ColumnKind → Column
column_of name kind = record { name = name; kind = kind }

-- a type behind the name of a column
kind_read : (name : List ℕ) (kind : ColumnKind) (rest : List ℕ) (b : ℕ) → is_kind kind ≡ true → continues_word b ≡ false
    → (a_type >>= λ type. kind_behind type >>= λ k. give (column_of name k)) (32 ∷ kind_before kind (b ∷ rest)) ≡ Ok (column_of name kind, b ∷ rest)
unfolding type_of kind_behind
kind_read name kinds.SmallInt rest b good ends = ap (λ (r : Read _). go_on r (λ type. kind_behind type >>= λ k. give (column_of name k))) (type_read (codes "smallint") rest b refl ends)
kind_read name kinds.Integer rest b good ends = ap (λ (r : Read _). go_on r (λ type. kind_behind type >>= λ k. give (column_of name k))) (type_read (codes "integer") rest b refl ends)
kind_read name kinds.BigInt rest b good ends = ap (λ (r : Read _). go_on r (λ type. kind_behind type >>= λ k. give (column_of name k))) (type_read (codes "bigint") rest b refl ends)
kind_read name (kinds.Decimal digits scale) rest b good ends =
    let few : digits ≤ 28 = grind (arith, nat_tests) in
    let part : scale ≤ digits = grind (arith, nat_tests) in
    ap (λ (r : Read _). go_on r (λ type. kind_behind type >>= λ k. give (column_of name k))) (type_read (codes "decimal") (decimal digits ++ 44 ∷ (decimal scale ++ 41 ∷ b ∷ rest)) 40 refl refl)
    ∙ ap (λ (r : Read ColumnKind). go_on r (λ k. give (column_of name k))) (decimal_numbers digits scale (b ∷ rest) (omega (arith, few)) (omega (arith, few, part)))
kind_read name (kinds.VarChar most) rest b good ends =
    let few : most ≤ 255 = grind (arith, nat_tests) in
    ap (λ (r : Read _). go_on r (λ type. kind_behind type >>= λ k. give (column_of name k))) (type_read (codes "varchar") (decimal most ++ 41 ∷ b ∷ rest) 40 refl refl)
    ∙ ap (λ (r : Read ColumnKind). go_on r (λ k. give (column_of name k))) (text_number most (b ∷ rest) (omega (arith, few)))

-- a column
pub column_read : (c : Column) (rest : List ℕ) (b : ℕ) → IsTrue (is_name c.name) → is_kind c.kind ≡ true → continues_word b ≡ false
    → a_column (32 ∷ (c.name ++ 32 ∷ kind_before c.kind (b ∷ rest))) ≡ Ok (c, b ∷ rest)
unfolding a_column
column_read c rest b named good ends =
    let typed : List ℕ = kind_before c.kind (b ∷ rest) in
    bind a_name _ (32 ∷ (c.name ++ 32 ∷ typed)) (32 ∷ typed) c.name _ (name_behind_blank (c.name ++ 32 ∷ typed) ∙ name_read c.name typed 32 named refl)
    (kind_read c.name c.kind rest b good ends)

-- what stands behind a column: a comma, or the bracket that closes the call
record Shows (bytes : List ℕ) : Type 0 where
  byte : ℕ
  more : List ℕ
  is : bytes ≡ byte ∷ more
  ends : continues_word byte ≡ false

behind_column : (columns : List Column) (rest : List ℕ) → Shows (columns_before columns (41 ∷ rest))
behind_column [] rest = record { byte = 41; more = rest; is = refl; ends = refl }
behind_column (c ∷ columns) rest = record { byte = 44; more = 32 ∷ (c.name ++ 32 ∷ kind_before c.kind (columns_before columns (41 ∷ rest))); is = refl; ends = refl }

pub column_before_others : (c : Column) (columns : List Column) (rest : List ℕ) → IsTrue (is_name c.name) → is_kind c.kind ≡ true
    → a_column (32 ∷ (c.name ++ 32 ∷ kind_before c.kind (columns_before columns (41 ∷ rest)))) ≡ Ok (c, columns_before columns (41 ∷ rest))
column_before_others c columns rest named good =
    let shows = behind_column columns rest in
    ap (λ (l : List ℕ). a_column (32 ∷ (c.name ++ 32 ∷ kind_before c.kind l))) shows.is ∙ column_read c shows.more shows.byte named good shows.ends
    ∙ ap (λ (l : List ℕ). let r : Read Column = Ok (c, l) in r) (sym shows.is)

-- further columns, each behind a comma
more_columns : (columns : List Column) (n : ℕ) (rest : List ℕ) → length columns ≤ n → list_all (λ (c : Column). is_name c.name) columns ≡ true → list_all (λ (c : Column). is_kind c.kind) columns ≡ true
    → phrases a_column n (columns_before columns (41 ∷ rest)) ≡ Ok (columns, 41 ∷ rest)
unfolding a_sign
more_columns [] zero rest few named good = refl
more_columns [] (suc n) rest few named good = refl
more_columns (c ∷ columns) zero rest few named good = absurd (omega arith)
more_columns (c ∷ columns) (suc n) rest few named good =
    let names = and_parts (is_name c.name) (list_all (λ (x : Column). is_name x.name) columns) named in
    let types = and_parts (is_kind c.kind) (list_all (λ (x : Column). is_kind x.kind) columns) good in
    bind a_column _ (32 ∷ (c.name ++ 32 ∷ kind_before c.kind (columns_before columns (41 ∷ rest)))) (columns_before columns (41 ∷ rest)) c _ (column_before_others c columns rest names.0 types.0)
    (bind (phrases a_column n) _ (columns_before columns (41 ∷ rest)) (41 ∷ rest) columns _ (more_columns columns n rest (omega (arith, few)) names.1 types.1) refl)

-- they are no more than the bytes
kind_longer : (kind : ColumnKind) (rest : List ℕ) → length rest ≤ length (kind_before kind rest)
kind_longer kinds.SmallInt rest = omega (arith, length-append (codes "smallint") rest)
kind_longer kinds.Integer rest = omega (arith, length-append (codes "integer") rest)
kind_longer kinds.BigInt rest = omega (arith, length-append (codes "bigint") rest)
kind_longer (kinds.Decimal digits scale) rest =
    omega (arith, length-append (codes "decimal(") (decimal digits ++ 44 ∷ (decimal scale ++ 41 ∷ rest)), length-append (decimal digits) (44 ∷ (decimal scale ++ 41 ∷ rest)), length-append (decimal scale) (41 ∷ rest))
kind_longer (kinds.VarChar most) rest = omega (arith, length-append (codes "varchar(") (decimal most ++ 41 ∷ rest), length-append (decimal most) (41 ∷ rest))

columns_fewer : (columns : List Column) (rest : List ℕ) → length columns ≤ length (columns_before columns rest)
columns_fewer [] rest = omega arith
columns_fewer (c ∷ columns) rest =
    let others = columns_fewer columns rest in
    let longer = kind_longer c.kind (columns_before columns rest) in
    let all = length-append c.name (32 ∷ kind_before c.kind (columns_before columns rest)) in
    omega (arith, others, longer, all)

pub columns_closed : (columns : List Column) (rest : List ℕ) → list_all (λ (c : Column). is_name c.name) columns ≡ true → list_all (λ (c : Column). is_kind c.kind) columns ≡ true
    → closed 41 a_column (columns_before columns (41 ∷ rest)) ≡ Ok (columns, rest)
unfolding repeated
columns_closed columns rest named good =
    bind (repeated a_column) _ (columns_before columns (41 ∷ rest)) (41 ∷ rest) columns _ (more_columns columns (length (columns_before columns (41 ∷ rest))) rest (columns_fewer columns (41 ∷ rest)) named good)
    (bind (a_sign 41) _ (41 ∷ rest) rest tt _ (close_sign rest) refl)
