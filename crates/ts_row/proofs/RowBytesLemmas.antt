-- Rows and their bytes: what is written is read as the same row, and what is read was written so.
use Rattle.std.proofs.Common.{◌≡◌, ◌↔◌, ℕ, zero, suc, ◌+◌, ◌-◌, ◌<◌, ◌≤◌, is_some, Bool, true, false, ◌&&◌, ◌==◌, nat_le, if◌then◌else◌, Option, Some, None, List, [], ◌∷◌, ◌++◌, length, take, drop, get_or, set, IsTrue, IfSome, refl, sym, ap, subst, ◌∙◌, arith, lit<, length-append, length-take, inl, inr}
use Rattle.std.specs.List.{list_all}
use Rattle.std.specs.Option.{option_map}
use Rattle.std.proofs.lemmas.Bool.Decides.{nat_tests}
use Rattle.std.proofs.lemmas.Bool.{cases_lt}
use Rattle.std.proofs.lemmas.List.{take-append-drop, get_or-take, get_or-drop, get_or_past}
use Rattle.std.proofs.lemmas.List.Sums.{sum_by-cons}
use Rattle.std.proofs.Math.Seq.{take-append_seam, drop-append_seam}
use Rattle.ts_row.specs.declared.kind.Column.{Column}
use Rattle.ts_row.specs.declared.value.Value.{Value}
use Rattle.ts_row.specs.Row.{is_kind, column_width, width_of, Values, Row, holds, hold, fits, visible, marked}
use Rattle.ts_row.specs.Encoding.{value_bytes, values_bytes, mark_byte, with_mark, row_bytes, IsMeaning, AreRowBytes, IsMarkOf, Marks}
use Rattle.ts_row.specs.Decoding.{value_in, put_first, values_in, is_mark, unmarked, row_in}
use Rattle.ts_row.proofs.ValueBytesLemmas.{value_in-value_bytes, length-value_bytes, value_bytes-value_in, column_width-positive, value_bytes-flag}

-- the kinds of columns may be
abbrev pub are_kinds : List Column → Type 0
are_kinds columns = list_all (λ c. is_kind c.kind) columns ≡ true

-- there is a column, and the kinds of all may be
abbrev pub valid : List Column → Type 0
valid columns = (nat_le 1 (length columns) && list_all (λ c. is_kind c.kind) columns) ≡ true

-- values that their columns hold, written and read
pub values_in-values_bytes : (columns : List Column) (row : Values) → are_kinds columns → hold columns row ≡ true → values_in columns (values_bytes columns row) ≡ Some row
values_in-values_bytes [] [] kinds fit = refl
values_in-values_bytes [] (v ∷ vs) kinds fit = cc
values_in-values_bytes (c ∷ cs) [] kinds fit = cc
values_in-values_bytes (c ∷ cs) (v ∷ vs) kinds fit =
    let kind : is_kind c.kind ≡ true = grind (arith, nat_tests) in
    let kinds' : are_kinds cs = grind (arith, nat_tests) in
    let held : holds c.kind v ≡ true = grind (arith, nat_tests) in
    let fit' : hold cs vs ≡ true = grind (arith, nat_tests) in
    let first : List ℕ = value_bytes c.kind v in
    let others : List ℕ = values_bytes cs vs in
    let size : length first ≡ column_width c.kind = length-value_bytes c.kind v held in
    let room : nat_le (column_width c.kind) (length (first ++ others)) ≡ true = rw (length-append first others) (grind (arith, nat_tests)) in
    let front : take (column_width c.kind) (first ++ others) ≡ first = ap (λ n. take n (first ++ others)) (sym size) ∙ take-append_seam first others in
    let behind : drop (column_width c.kind) (first ++ others) ≡ others = ap (λ n. drop n (first ++ others)) (sym size) ∙ drop-append_seam first others in
    rw (room, front, behind, value_in-value_bytes c.kind v kind held, values_in-values_bytes cs vs kinds' fit') refl

-- the first bytes are bytes
small-take : (n : ℕ) (bytes : List ℕ) → ((i : ℕ) → get_or bytes i 0 < 256) → (i : ℕ) → get_or (take n bytes) i 0 < 256
small-take n bytes small i =
    elim (cases_lt i n) [
      | inl below ↦ subst (λ b. b < 256) (sym (get_or-take n bytes i 0 below)) (small i)
      | inr above ↦ subst (λ b. b < 256) (sym (get_or_past (take n bytes) i 0 (omega (arith, length-take n bytes)))) (lit< tt)
    ]

-- so are the last
small-drop : (n : ℕ) (bytes : List ℕ) → ((i : ℕ) → get_or bytes i 0 < 256) → (i : ℕ) → get_or (drop n bytes) i 0 < 256
small-drop n bytes small i = rw (get_or-drop n bytes i 0) (small (n + i))

-- what two optional parts give, there are both
put_first-some : (o : Option Value) (rest : Option Values) (row : Values) → put_first o rest ≡ Some row → (v : Value) × (values : Values) × (o ≡ Some v) × (rest ≡ Some values) × (row ≡ v ∷ values)
put_first-some None rest row is = absurd (cc)
put_first-some (Some v) None row is = absurd (cc)
put_first-some (Some v) (Some values) row is = (v, values, refl, refl, cc)

-- values that were read, written
values_bytes-values_in : (columns : List Column) (bytes : List ℕ) (row : Values) → ((i : ℕ) → get_or bytes i 0 < 256) → values_in columns bytes ≡ Some row → (hold columns row ≡ true) × (values_bytes columns row ≡ bytes)
values_bytes-values_in [] [] row small is =
    let same : row ≡ [] = cc in
    (ap (hold []) same, ap (values_bytes []) same)
values_bytes-values_in [] (b ∷ bytes) row small is =
    let some : (length (b ∷ bytes) == 0) ≡ false = grind (arith, nat_tests) in
    let none : None ≡ Some row = rw some at is in
    cc
values_bytes-values_in (c ∷ cs) bytes row small is =
    elim (nat_le (column_width c.kind) (length bytes)) as
    (λ b. nat_le (column_width c.kind) (length bytes) ≡ b → (if b then put_first (value_in c.kind (take (column_width c.kind) bytes)) (values_in cs (drop (column_width c.kind) bytes)) else None) ≡ Some row → (hold (c ∷ cs) row ≡ true) × (values_bytes (c ∷ cs) row ≡ bytes)) [
      | true ↦ λ long some.
          let parts = put_first-some (value_in c.kind (take (column_width c.kind) bytes)) (values_in cs (drop (column_width c.kind) bytes)) row some in
          let room : column_width c.kind ≤ length bytes = grind (arith, nat_tests) in
          let first = value_bytes-value_in c.kind (take (column_width c.kind) bytes) parts.0 parts.2 (length-take (column_width c.kind) bytes ∙ omega arith) (small-take (column_width c.kind) bytes small) in
          let others = values_bytes-values_in cs (drop (column_width c.kind) bytes) parts.1 (small-drop (column_width c.kind) bytes small) parts.3 in (
            ap (hold (c ∷ cs)) parts.4 ∙ rw (first.0, others.0) refl,
            ap (values_bytes (c ∷ cs)) parts.4 ∙ rw (first.1, others.1) (take-append-drop (column_width c.kind) bytes),
          )
      | false ↦ λ short none. cc
    ] refl is

-- the bytes of values are as many as their columns have
length-values_bytes : (columns : List Column) (values : Values) → hold columns values ≡ true → length (values_bytes columns values) ≡ width_of columns
length-values_bytes [] [] fit = refl
length-values_bytes [] (v ∷ vs) fit = cc
length-values_bytes (c ∷ cs) [] fit = cc
length-values_bytes (c ∷ cs) (v ∷ vs) fit =
    let held : holds c.kind v ≡ true = grind (arith, nat_tests) in
    let others : hold cs vs ≡ true = grind (arith, nat_tests) in
    omega (arith, sum_by-cons (λ (k : Column). column_width k.kind) c cs, length-append (value_bytes c.kind v) (values_bytes cs vs), length-value_bytes c.kind v held, length-values_bytes cs vs others)

-- the mark takes no byte
length-with_mark : (hidden : Bool) (bytes : List ℕ) → length (with_mark hidden bytes) ≡ length bytes
length-with_mark hidden [] = refl
length-with_mark hidden (first ∷ bytes) = refl

-- so the bytes of a row are as many as its columns have
pub length-row_bytes : (columns : List Column) (row : Row) → fits columns row ≡ true → length (row_bytes columns row) ≡ width_of columns
length-row_bytes columns row fit = length-with_mark row.hidden (values_bytes columns row.values) ∙ length-values_bytes columns row.values fit

-- where there is a column, the bytes of values begin with 0 or 1
values_bytes-flag : (columns : List Column) (values : Values) → 1 ≤ length columns → hold columns values ≡ true → (flag : ℕ) × (rest : List ℕ) × (flag ≤ 1) × (values_bytes columns values ≡ flag ∷ rest)
values_bytes-flag [] values some fit = absurd (omega arith)
values_bytes-flag (c ∷ cs) [] some fit = absurd (cc)
values_bytes-flag (c ∷ cs) (v ∷ vs) some fit =
    let first = value_bytes-flag c.kind v in
    (first.0, first.1 ++ values_bytes cs vs, first.2, ap (λ l. l ++ values_bytes cs vs) first.3)

-- a mark that was set is told, and taken off again
is_mark-set : (flag : ℕ) (hidden : Bool) → flag ≤ 1 → is_mark (flag + mark_byte hidden) ≡ hidden
is_mark-set flag true low = grind (arith, nat_tests)
is_mark-set flag false low = grind (arith, nat_tests)

unmarked-set : (flag : ℕ) (hidden : Bool) → flag ≤ 1 → unmarked (flag + mark_byte hidden) ≡ flag
unmarked-set flag true low = rw (is_mark-set flag true low) (omega arith)
unmarked-set flag false low = rw (is_mark-set flag false low) (omega arith)

-- a first byte is what it is without the mark, and the mark
set-unmarked : (first : ℕ) → unmarked first + mark_byte (is_mark first) ≡ first
set-unmarked first =
    elim (is_mark first) as (λ b. is_mark first ≡ b → (if b then first - 2 else first) + mark_byte b ≡ first) [
      | true ↦ λ is. let above : 2 ≤ first = grind (arith, nat_tests) in omega arith
      | false ↦ λ not. omega arith
    ] refl

-- without the mark it is a byte too
small-unmarked : (first : ℕ) (rest : List ℕ) → ((i : ℕ) → get_or (first ∷ rest) i 0 < 256) → (i : ℕ) → get_or (unmarked first ∷ rest) i 0 < 256
small-unmarked first rest small zero = omega (arith, set-unmarked first, small 0)
small-unmarked first rest small (suc i) = small (suc i)

-- there is a column
some_column : (columns : List Column) → valid columns → 1 ≤ length columns
some_column columns is = grind (arith, nat_tests)

all_kinds : (columns : List Column) → valid columns → are_kinds columns
all_kinds columns is = grind (arith, nat_tests)

-- the bytes of a row begin with 0 or 1, and with the mark
pub record Begins (columns : List Column) (row : Row) : Type 0 where
  pub flag : ℕ
  pub rest : List ℕ
  pub low : flag ≤ 1
  pub values : values_bytes columns row.values ≡ flag ∷ rest
  pub bytes : (hidden : Bool) → row_bytes columns (marked hidden row) ≡ (flag + mark_byte hidden) ∷ rest

row_bytes-flag : (columns : List Column) (row : Row) → 1 ≤ length columns → fits columns row ≡ true → Begins columns row
row_bytes-flag columns row some fit =
    let first = values_bytes-flag columns row.values some fit in
    record { flag = first.0; rest = first.1; low = first.2; values = first.3; bytes = λ hidden. ap (with_mark hidden) first.3 }

-- the row of these values with this mark
abbrev row_with : Values → Bool → Row
row_with values hidden = record { values = values; hidden = hidden }

-- a row that fits, written and read
pub row_in-row_bytes : (columns : List Column) (row : Row) → valid columns → fits columns row ≡ true → row_in columns (row_bytes columns row) ≡ Some row
row_in-row_bytes columns row kinds fit =
    let begins : Begins columns row = row_bytes-flag columns row (some_column columns kinds) fit in
    let read : values_in columns (begins.flag ∷ begins.rest) ≡ Some row.values =
    ap (values_in columns) (sym begins.values) ∙ values_in-values_bytes columns row.values (all_kinds columns kinds) fit in
    ap (row_in columns) (begins.bytes row.hidden)
    ∙ (λ j. option_map (λ (values : Values). row_with values (is_mark-set begins.flag row.hidden begins.low j)) (values_in columns (unmarked-set begins.flag row.hidden begins.low j ∷ begins.rest)))
    ∙ ap (option_map (λ (values : Values). row_with values row.hidden)) read

-- what an optional value gives, it is there
option_map-some : (f : Values → Row) (o : Option Values) (row : Row) → option_map f o ≡ Some row → (values : Values) × (o ≡ Some values) × (row ≡ f values)
option_map-some f None row is = absurd (cc)
option_map-some f (Some values) row is = (values, refl, cc)

-- a row that was read, written
pub row_bytes-row_in : (columns : List Column) (bytes : List ℕ) (row : Row) → ((i : ℕ) → get_or bytes i 0 < 256) → row_in columns bytes ≡ Some row → (fits columns row ≡ true) × (row_bytes columns row ≡ bytes)
row_bytes-row_in columns [] row small is =
    let read = option_map-some visible (values_in columns []) row is in
    let written = values_bytes-values_in columns [] read.0 small read.1 in
    (ap (fits columns) read.2 ∙ written.0, ap (row_bytes columns) read.2 ∙ ap (with_mark false) written.1)
row_bytes-row_in columns (first ∷ rest) row small is =
    let read = option_map-some (λ values. record { values = values; hidden = is_mark first }) (values_in columns (unmarked first ∷ rest)) row is in
    let written = values_bytes-values_in columns (unmarked first ∷ rest) read.0 (small-unmarked first rest small) read.1 in (
      ap (fits columns) read.2 ∙ written.0,
      ap (row_bytes columns) read.2 ∙ ap (with_mark (is_mark first)) written.1 ∙ ap (λ (b : ℕ). b ∷ rest) (set-unmarked first),
    )

-- no bytes are no row where there is a column
pub row_in-none : (columns : List Column) (bytes : List ℕ) → 1 ≤ length columns → length bytes ≡ 0 → row_in columns bytes ≡ None
row_in-none [] bytes some empty = absurd (omega arith)
row_in-none (c ∷ cs) [] some empty =
    let short : nat_le (column_width c.kind) 0 ≡ false = grind (arith, nat_tests, column_width-positive c.kind) in
    let none : values_in (c ∷ cs) [] ≡ None = rw short refl in
    ap (option_map visible) none
row_in-none columns (b ∷ bytes) some empty = absurd (omega arith)

-- what bytes mean is what they give when they are read
pub meaning : (columns : List Column) (bytes : List ℕ) (found : Option Row) → valid columns → ((i : ℕ) → get_or bytes i 0 < 256) → found ≡ row_in columns bytes → IsMeaning columns bytes found
meaning columns bytes found kinds small is row = (
  (λ some. row_bytes-row_in columns bytes row small (sym is ∙ some)),
  (λ both. is ∙ ap (row_in columns) (sym both.1) ∙ row_in-row_bytes columns row kinds both.0),
)

-- a row that bytes mean fits
pub meaning_fits : (columns : List Column) (bytes : List ℕ) (found : Option Row) → IsMeaning columns bytes found → IfSome found (λ row. IsTrue (fits columns row))
meaning_fits columns bytes None means = tt
meaning_fits columns bytes (Some row) means = ((means row).0 refl).0

-- bytes that give a row when they are read are those of a row that fits
pub row_bytes_if_some : (columns : List Column) (bytes : List ℕ) → valid columns → ((i : ℕ) → get_or bytes i 0 < 256) → IsTrue (is_some (row_in columns bytes)) ↔ AreRowBytes columns bytes
row_bytes_if_some columns bytes kinds small = (
  (λ some. elim (row_in columns bytes) as (λ o. row_in columns bytes ≡ o → IsTrue (is_some o) → AreRowBytes columns bytes) [
    | None ↦ λ is none. absurd (cc)
    | Some row ↦ λ is yes. let both = row_bytes-row_in columns bytes row small is in (row, both.0, both.1)
  ] refl some),
  (λ row. ap (λ b. is_some (row_in columns b)) (sym row.2) ∙ ap is_some (row_in-row_bytes columns row.0 kinds row.1)),
)

-- two lists that are one begin with the same, and go on with the same
first_one : (a b : ℕ) (xs ys : List ℕ) → a ∷ xs ≡ b ∷ ys → a ≡ b
first_one a b xs ys is = cc

others_one : (a b : ℕ) (xs ys : List ℕ) → a ∷ xs ≡ b ∷ ys → xs ≡ ys
others_one a b xs ys is = cc

pub with_mark-none : (bytes : List ℕ) → with_mark false bytes ≡ bytes
with_mark-none [] = refl
with_mark-none (first ∷ bytes) = ap (λ (b : ℕ). b ∷ bytes) (omega arith)

-- where the bytes are a row's, the first tells its mark
pub mark_told : (columns : List Column) (bytes : List ℕ) (first : ℕ) (rest : List ℕ) → 1 ≤ length columns → bytes ≡ first ∷ rest → IsMarkOf columns bytes (is_mark first)
mark_told columns bytes first rest some split = λ row fit is.
    let begins : Begins columns row = row_bytes-flag columns row some fit in
    let same : first ≡ begins.flag + mark_byte row.hidden = first_one first _ rest _ (sym split ∙ sym is ∙ begins.bytes row.hidden) in
    ap is_mark same ∙ is_mark-set begins.flag row.hidden begins.low

-- no bytes are a row's
never_empty : (columns : List Column) (row : Row) (bytes : List ℕ) → 1 ≤ length columns → fits columns row ≡ true → row_bytes columns row ≡ bytes → length bytes ≡ 0 → ⊥
never_empty columns row bytes some fit is empty =
    let begins : Begins columns row = row_bytes-flag columns row some fit in
    let long : length bytes ≡ suc (length begins.rest) = ap length (sym is ∙ begins.bytes row.hidden) in
    omega (arith, long, empty)

pub mark_none : (columns : List Column) (bytes : List ℕ) (hidden : Bool) → 1 ≤ length columns → length bytes ≡ 0 → IsMarkOf columns bytes hidden
mark_none columns bytes hidden some empty = λ row fit is. absurd (never_empty columns row bytes some fit is empty)

pub marks_none : (columns : List Column) (hidden : Bool) (bytes new : List ℕ) → 1 ≤ length columns → length bytes ≡ 0 → Marks columns hidden bytes new
marks_none columns hidden bytes new some empty = λ row fit is. absurd (never_empty columns row bytes some fit is empty)

-- another first byte marks the row
pub marks : (columns : List Column) (hidden : Bool) (bytes : List ℕ) → 1 ≤ length columns → Marks columns hidden bytes (set bytes 0 (unmarked (get_or bytes 0 0) + mark_byte hidden))
marks columns hidden [] some = marks_none columns hidden [] _ some refl
marks columns hidden (first ∷ rest) some = λ row fit is.
    let begins : Begins columns row = row_bytes-flag columns row some fit in
    let both : first ∷ rest ≡ (begins.flag + mark_byte row.hidden) ∷ begins.rest = sym is ∙ begins.bytes row.hidden in
    let same : unmarked first ≡ begins.flag = ap unmarked (first_one first _ rest _ both) ∙ unmarked-set begins.flag row.hidden begins.low in
    (λ j. (same j + mark_byte hidden) ∷ others_one first _ rest _ both j) ∙ sym (begins.bytes hidden)

-- without a mark the bytes of a row are those of its values
pub row_bytes-visible : (columns : List Column) (values : Values) → row_bytes columns (visible values) ≡ values_bytes columns values
row_bytes-visible columns values = with_mark-none (values_bytes columns values)

-- and with it they are those that `Marks` gives
pub row_bytes-marked : (columns : List Column) (row : Row) (old new : List ℕ) → fits columns row ≡ true → old ≡ values_bytes columns row.values → Marks columns row.hidden old new → new ≡ row_bytes columns row
row_bytes-marked columns row old new fit is marks = marks (visible row.values) fit (row_bytes-visible columns row.values ∙ sym is)
