-- Rows in cells, and the values of a column that their bytes give.
use Rattle.std.proofs.Common.{◌≡◌, ◌⊎◌, inl, inr, ℕ, zero, suc, ◌+◌, ◌*◌, ◌<◌, ◌≤◌, ◌^◌, ◌==◌, ◌&&◌, Bool, true, false, nat_le, nat_lt, if◌then◌else◌, ℤ, unsigned_abs, Option, Some, None, slice_get, List, [], ◌∷◌, length, length-drop, length-take, map, take, drop, drop-drop, get_or, refl, sym, ap, subst, ◌∙◌, arith, lit<}
use Rattle.std.specs.List.{list_all}
use Rattle.std.specs.Option.{unwrap_or}
use Rattle.std.proofs.lemmas.Bool.{cases_Bool, and_parts}
use Rattle.std.proofs.lemmas.Bool.Decides.{nat_tests}
use Rattle.std.proofs.lemmas.Option.{unwrap_or-slice_get}
use Rattle.std.proofs.lemmas.List.{get_or-take, get_or-drop, drop-take, drop_more}
use Rattle.std.proofs.lemmas.List.Sums.{sum_by-cons, get_or-le-sum_by}
use Rattle.std.proofs.Math.Nat.{pow-le-pow_right, suc-mul}
use Rattle.ts_base.specs.Name.{is_text}
use Rattle.ts_row.specs.declared.kind.ColumnKind.{ColumnKind}
use Rattle.ts_row.specs.declared.kind.ColumnKind.TheVariants.{SmallInt, Integer, BigInt, Decimal, VarChar}
use Rattle.ts_row.specs.declared.kind.Column.{Column}
use Rattle.ts_row.specs.declared.value.Value.{Value}
use Rattle.ts_row.specs.declared.value.Value.TheVariants.{Null, Number, Text}
use Rattle.ts_row.specs.Row.{column_width, width_of, is_kind, Values, Row, holds_size, fits}
use Rattle.ts_row.specs.Encoding.{values_bytes, with_mark, row_bytes}
use Rattle.ts_row.specs.Decoding.{is_mark, number_in, filled_in, value_in, put_first, values_in, all_zero, text_in}
use Rattle.ts_row.proofs.RowBytesLemmas.{values_in-values_bytes, with_mark-none, mark_told, length-row_bytes}
use Rattle.ts_entry.specs.Rows.{IsCellWith, AreCellsWith, rows_in}
use Rattle.ts_expr.specs.Aggregates.{is_null, value_at}
use Rattle.ts_expr.specs.Aggregates as fold
use Rattle.ts_aggregate.specs.declared.cells.ValuePosition.{ValuePosition}
use Rattle.ts_aggregate.specs.Column.{has_value, bytes_of, found_in, read_value, is_small}
use Rattle.ts_aggregate.proofs.CellsLemmas.{seen, unseen}

-- the value of the first column, and those of the others
pub record AreParts (c : Column) (cs : List Column) (cell rest : List ℕ) (values : Values) : Type 0 where
  pub first : Value
  pub others : Values
  pub first_in : value_in c.kind cell ≡ Some first
  pub others_in : values_in cs rest ≡ Some others
  pub are : values ≡ first ∷ others

both_there : (c : Column) (cs : List Column) (cell rest : List ℕ) (o : Option Value) (p : Option Values) (values : Values)
    → value_in c.kind cell ≡ o → values_in cs rest ≡ p
    → put_first o p ≡ Some values → AreParts c cs cell rest values
both_there c cs cell rest None p values first others is = absurd (cc)
both_there c cs cell rest (Some v) None values first others is = absurd (cc)
both_there c cs cell rest (Some v) (Some vs) values first others is =
    record { first = v; others = vs; first_in = first; others_in = others; are = cc }

-- values of some columns have such parts
pub cut : (c : Column) (cs : List Column) (bytes : List ℕ) (values : Values) → values_in (c ∷ cs) bytes ≡ Some values
    → AreParts c cs (take (column_width c.kind) bytes) (drop (column_width c.kind) bytes) values
cut c cs bytes values is =
    elim (nat_le (column_width c.kind) (length bytes)) as
    (λ b. (if b then put_first (value_in c.kind (take (column_width c.kind) bytes))
    (values_in cs (drop (column_width c.kind) bytes)) else None) ≡ Some values
    → AreParts c cs (take (column_width c.kind) bytes) (drop (column_width c.kind) bytes) values) [
      | true ↦ λ there. both_there c cs (take (column_width c.kind) bytes) (drop (column_width c.kind) bytes)
          (value_in c.kind (take (column_width c.kind) bytes)) (values_in cs (drop (column_width c.kind) bytes)) values refl refl there
      | false ↦ λ none. absurd (cc)
    ] is

-- the value of a column stands behind those of the columns before it
value_there : (cs : List Column) (k : ℕ) (bytes : List ℕ) (values : Values) (d : Column) → values_in cs bytes ≡ Some values → k < length cs
    → value_in (get_or cs k d).kind (take (column_width (get_or cs k d).kind) (drop (width_of (take k cs)) bytes)) ≡ Some
    (value_at k values)
value_there [] k bytes values d is within = absurd (omega (arith, within))
value_there (c ∷ cs) zero bytes values d is within =
    let parts = cut c cs bytes values is in
    parts.first_in ∙ ap (λ (l : Values). Some (value_at 0 l)) (sym parts.are)
value_there (c ∷ cs) (suc k) bytes values d is within =
    let parts = cut c cs bytes values is in
    let width : width_of (c ∷ take k cs) ≡ column_width c.kind + width_of (take k cs) = sum_by-cons
    (λ (x : Column). column_width x.kind) c (take k cs) in
    let behind : drop (width_of (c ∷ take k cs)) bytes ≡ drop (width_of (take k cs)) (drop (column_width c.kind) bytes) =
    ap (λ n. drop n bytes) width ∙ sym (drop-drop (width_of (take k cs)) (column_width c.kind) bytes) in
    ap (λ (l : List ℕ). value_in (get_or cs k d).kind (take (column_width (get_or cs k d).kind) l)) behind
    ∙ value_there cs k (drop (column_width c.kind) bytes) parts.others d parts.others_in (omega (arith, within))
    ∙ ap (λ (l : Values). Some (value_at (suc k) l)) (sym parts.are)

-- a value that isn't NULL is what its bytes are read as
pub record IsFilled (kind : ColumnKind) (bytes : List ℕ) (v : Value) : Type 0 where
  pub value : v ≡ read_value kind bytes
  pub some : is_null v ≡ false
  pub small : is_small (number_in kind bytes) ≡ true

held : (kind : ColumnKind) (z : ℤ) (v : Value) → (if holds_size kind (unsigned_abs z) then Some (Number z) else None) ≡ Some v
    → (v ≡ Number z) × (holds_size kind (unsigned_abs z) ≡ true)
held kind z v is = elim (holds_size kind (unsigned_abs z)) as
    (λ b. (if b then Some (Number z) else None) ≡ Some v → (v ≡ Number z) × (b ≡ true)) [
      | true ↦ λ there. (cc, refl)
      | false ↦ λ none. absurd (cc)
    ] is

filled_number : (kind : ColumnKind) (bytes : List ℕ) (v : Value) → read_value kind bytes ≡ Number (number_in kind bytes)
    → ((z : ℤ) → holds_size kind (unsigned_abs z) ≡ true → is_small z ≡ true)
    → (if holds_size kind (unsigned_abs (number_in kind bytes)) then Some (Number (number_in kind bytes)) else None) ≡ Some v
    → IsFilled kind bytes v
filled_number kind bytes v reads small is =
    let both = held kind (number_in kind bytes) v is in
    record { value = both.0 ∙ sym reads; some = ap is_null both.0; small = small (number_in kind bytes) both.1 }

few_digits : (digits n : ℕ) → digits ≤ 28 → nat_lt n (10 ^ digits) ≡ true → nat_lt n (10 ^ 28) ≡ true
few_digits digits n few is =
    let power : 10 ^ digits ≤ 10 ^ 28 = pow-le-pow_right (lit< tt) few in
    let less : n < 10 ^ digits = grind (arith, nat_tests) in
    let most : n < 10 ^ 28 = omega (arith, less, power) in
    grind (arith, nat_tests)

filled_text : (most : ℕ) (bytes : List ℕ) (v : Value) → text_in most bytes ≡ Some v → IsFilled (VarChar most) bytes v
filled_text most [] v is = absurd (cc)
filled_text most (n ∷ rest) v is = elim (nat_le n most && all_zero (drop n rest) && is_text (take n rest)) as
    (λ b. (if b then Some (Text (take n rest)) else None) ≡ Some v → IsFilled (VarChar most) (n ∷ rest) v) [
      | true ↦ λ there. let same : v ≡ Text (take n rest) = cc in record { value = same; some = ap is_null same; small = refl }
      | false ↦ λ none. absurd (cc)
    ] is

filled : (kind : ColumnKind) (bytes : List ℕ) (v : Value) → is_kind kind ≡ true → filled_in kind bytes ≡ Some v → IsFilled kind bytes v
filled SmallInt bytes v good is = filled_number SmallInt bytes v refl (λ z held. grind (arith, nat_tests)) is
filled Integer bytes v good is = filled_number Integer bytes v refl (λ z held. grind (arith, nat_tests)) is
filled BigInt bytes v good is = filled_number BigInt bytes v refl (λ z held. grind (arith, nat_tests)) is
filled (Decimal digits scale) bytes v good is =
    let few : digits ≤ 28 = grind (arith, nat_tests) in
    filled_number (Decimal digits scale) bytes v refl (λ z held. few_digits digits (unsigned_abs z) few held) is
filled (VarChar most) bytes v good is = filled_text most bytes v is

-- what the bytes of a column tell: NULL, or a value
pub record IsNone (bytes : List ℕ) (v : Value) : Type 0 where
  pub flag : (get_or bytes 0 0 == 1) ≡ false
  pub none : v ≡ Null

pub record IsSome (kind : ColumnKind) (bytes : List ℕ) (v : Value) : Type 0 where
  pub flag : (get_or bytes 0 0 == 1) ≡ true
  pub is : IsFilled kind (drop 1 bytes) v

if_some : {A : Type 0} (b : Bool) (x y : A) → (if b then Some x else None) ≡ Some y → y ≡ x
if_some true x y is = cc
if_some false x y is = absurd (cc)

pub told : (kind : ColumnKind) (bytes : List ℕ) (v : Value) → is_kind kind ≡ true → value_in kind bytes ≡ Some v → IsNone bytes v
    ⊎ IsSome kind bytes v
told kind [] v good is = absurd (cc)
told kind (flag ∷ rest) v good is = elim (cases_Bool (flag == 0)) [
  | inl zero_is ↦
      let null : (if all_zero rest then Some Null else None) ≡ Some v = rw zero_is at is in
      let no : (flag == 1) ≡ false = grind (arith, nat_tests) in
      inl (record { flag = no; none = if_some (all_zero rest) Null v null })
  | inr some ↦ elim (cases_Bool (flag == 1)) [
    | inl one ↦ inr (record { flag = one; is = filled kind rest v good (let there = rw (some, one) at is in there) })
    | inr other ↦ absurd (let none = rw (some, other) at is in cc)
  ]
]

-- where a column stands in cells of such rows
pub record IsValuePosition (cs : List Column) (front k : ℕ) (c : Column) (s : ValuePosition) : Type 0 where
  pub within : k < length cs
  pub column : get_or cs k c ≡ c
  pub size : s.size ≡ front + width_of cs
  pub front_is : s.front ≡ front
  pub place : s.place ≡ front + width_of (take k cs)
  pub width : s.width + 1 ≡ column_width c.kind

-- the rows of a cell before others
abbrev before_rows : Option Row → List Row → List Row
before_rows None rows = rows
before_rows (Some row) rows = row ∷ rows

-- a cell without a value gives the column none
record HasNone (k : ℕ) (s : ValuePosition) (cell : List ℕ) (f : Option Row) : Type 0 where
  is : has_value s cell ≡ false
  stays : (rows : List Row) → fold.values_of k (before_rows f rows) ≡ fold.values_of k rows

-- one with a value gives it that
record HasOne (k : ℕ) (kind : ColumnKind) (s : ValuePosition) (cell : List ℕ) (f : Option Row) : Type 0 where
  is : has_value s cell ≡ true
  small : is_small (number_in kind (bytes_of s cell)) ≡ true
  more : (rows : List Row) → fold.values_of k (before_rows f rows) ≡ read_value kind (bytes_of s cell) ∷ fold.values_of k rows

hidden_none : (k : ℕ) (r : Row) (rows : List Row) → r.hidden ≡ true → fold.values_of k (r ∷ rows) ≡ fold.values_of k rows
hidden_none k r rows hidden = rw hidden refl

null_none : (k : ℕ) (r : Row) (rows : List Row) → r.hidden ≡ false → is_null (value_at k r.values) ≡ true
    → fold.values_of k (r ∷ rows) ≡ fold.values_of k rows
null_none k r rows visible null = rw (visible, null) refl

some_one : (k : ℕ) (r : Row) (rows : List Row) → r.hidden ≡ false → is_null (value_at k r.values) ≡ false
    → fold.values_of k (r ∷ rows) ≡ value_at k r.values ∷ fold.values_of k rows
some_one k r rows visible some = rw (visible, some) refl

-- the tests of a cell
no_first : (s : ValuePosition) (cell : List ℕ) → get_or cell 0 0 ≡ 0 → has_value s cell ≡ false
no_first s cell is = rw is refl

marked : (s : ValuePosition) (cell : List ℕ) → get_or cell 0 0 ≡ 1 → is_mark (get_or cell s.front 0) ≡ true → has_value s cell ≡ false
marked s cell is mark = rw (is, mark) refl

by_flag : (s : ValuePosition) (cell : List ℕ) → get_or cell 0 0 ≡ 1 → is_mark (get_or cell s.front 0) ≡ false
    → has_value s cell ≡ (get_or cell s.place 0 == 1)
by_flag s cell is mark = rw (is, mark) refl

-- the first byte of a cell
first_byte : (cell : List ℕ) (n : ℕ) → slice_get cell 0 ≡ Some n → get_or cell 0 0 ≡ n
first_byte cell n is = sym (unwrap_or-slice_get cell 0 0) ∙ ap (λ (o : Option ℕ). unwrap_or o 0) is

-- where the bytes of a row stand in a cell, the first of them tells whether it is hidden
mark_of : (cs : List Column) (front : ℕ) (cell : List ℕ) (row : Row) → 1 ≤ length cs → 1 ≤ width_of cs → fits cs row ≡ true
    → row_bytes cs row ≡ drop front cell
    → is_mark (get_or cell front 0) ≡ row.hidden
mark_of cs front cell row some wide fit is =
    let size : length (drop front cell) ≡ width_of cs = ap length (sym is) ∙ length-row_bytes cs row fit in
    let within : front < length cell = omega (arith, size, length-drop front cell, wide) in
    mark_told cs (drop front cell) (get_or cell front 0) (drop (front + 1) cell) some (drop_more cell front 0 within) row fit is

-- of a row that isn't hidden they are those of its values
pub values_seen : (cs : List Column) (bytes : List ℕ) (row : Row) → list_all (λ c. is_kind c.kind) cs ≡ true → fits cs row ≡ true
    → row.hidden ≡ false → row_bytes cs row ≡ bytes
    → values_in cs bytes ≡ Some row.values
values_seen cs bytes row kinds fit visible is =
    let bare : values_bytes cs row.values ≡ bytes = sym (with_mark-none (values_bytes cs row.values))
    ∙ ap (λ b. with_mark b (values_bytes cs row.values)) (sym visible) ∙ is in
    ap (values_in cs) (sym bare) ∙ values_in-values_bytes cs row.values kinds fit

-- the kind of a column may be
kind_there : (cs : List Column) (k : ℕ) (d : Column) → list_all (λ c. is_kind c.kind) cs ≡ true → k < length cs
    → is_kind (get_or cs k d).kind ≡ true
kind_there [] k d kinds within = absurd (omega (arith, within))
kind_there (c ∷ cs) zero d kinds within = (and_parts (is_kind c.kind) (list_all (λ x. is_kind x.kind) cs) kinds).0
kind_there (c ∷ cs) (suc k) d kinds within = kind_there cs k d (and_parts (is_kind c.kind) (list_all (λ x. is_kind x.kind) cs) kinds).1
    (omega (arith, within))

-- the bytes of a column in a cell
column_bytes : (p front w : ℕ) (s : ValuePosition) (cell : List ℕ) → s.place ≡ front + p → s.width + 1 ≡ w
    → (get_or (take w (drop p (drop front cell))) 0 0 ≡ get_or cell s.place 0)
    × (drop 1 (take w (drop p (drop front cell))) ≡ bytes_of s cell)
column_bytes p front w s cell place width = (flag, value) where
  flag : get_or (take w (drop p (drop front cell))) 0 0 ≡ get_or cell s.place 0
  flag =
      get_or-take w (drop p (drop front cell)) 0 0 (omega (arith, width))
      ∙ get_or-drop p (drop front cell) 0 0
      ∙ get_or-drop front cell (p + 0) 0
      ∙ ap (λ n. get_or cell n 0) (omega (arith, place))

  size : w ≡ 1 + s.width
  size = omega (arith, width)

  behind : drop 1 (drop p (drop front cell)) ≡ drop (s.place + 1) cell
  behind = drop-drop 1 p (drop front cell) ∙ drop-drop (p + 1) front cell ∙ ap (λ n. drop n cell) (omega (arith, place))

  value : drop 1 (take w (drop p (drop front cell))) ≡ bytes_of s cell
  value = ap (λ n. drop 1 (take n (drop p (drop front cell)))) size ∙ drop-take 1 s.width (drop p (drop front cell))
      ∙ ap (take s.width) behind

-- a row that isn't hidden
row_seen : (cs : List Column) (front k : ℕ) (c : Column) (s : ValuePosition) (cell : List ℕ) (row : Row)
    → list_all (λ x. is_kind x.kind) cs ≡ true → IsValuePosition cs front k c s
    → get_or cell 0 0 ≡ 1 → is_mark (get_or cell s.front 0) ≡ false → row.hidden ≡ false → fits cs row ≡ true
    → row_bytes cs row ≡ drop front cell
    → HasNone k s cell (Some row) ⊎ HasOne k c.kind s cell (Some row)
row_seen cs front k c s cell row kinds position one mark visible fit is = by_value (told c.kind vb v good there) where
  v : Value
  v = value_at k row.values

  vb : List ℕ
  vb = take (column_width c.kind) (drop (width_of (take k cs)) (drop front cell))

  good : is_kind c.kind ≡ true
  good = ap (λ (x : Column). is_kind x.kind) (sym position.column) ∙ kind_there cs k c kinds position.within

  there : value_in c.kind vb ≡ Some v
  there =
      ap (λ (x : Column). value_in x.kind (take (column_width x.kind) (drop (width_of (take k cs)) (drop front cell))))
      (sym position.column)
      ∙ value_there cs k (drop front cell) row.values c (values_seen cs (drop front cell) row kinds fit visible is) position.within

  same : (get_or vb 0 0 ≡ get_or cell s.place 0) × (drop 1 vb ≡ bytes_of s cell)
  same = column_bytes (width_of (take k cs)) front (column_width c.kind) s cell position.place position.width

  tells : has_value s cell ≡ (get_or vb 0 0 == 1)
  tells = by_flag s cell one mark ∙ ap (λ n. n == 1) (sym same.0)

  by_value : IsNone vb v ⊎ IsSome c.kind vb v → HasNone k s cell (Some row) ⊎ HasOne k c.kind s cell (Some row)
  by_value (inl none) = inl (record { is = tells ∙ none.flag; stays = λ rows. null_none k row rows visible (ap is_null none.none) })
  by_value (inr some) =
      let value : v ≡ read_value c.kind (bytes_of s cell) = some.is.value ∙ ap (read_value c.kind) same.1 in
      inr (record {
        is = tells ∙ some.flag;
        small = ap (λ (l : List ℕ). is_small (number_in c.kind l)) (sym same.1) ∙ some.is.small;
        more = λ rows. some_one k row rows visible some.is.some ∙ ap (λ (x : Value). x ∷ fold.values_of k rows) value;
      })

-- what a cell tells of a column
cell_told : (cs : List Column) (front k : ℕ) (c : Column) (s : ValuePosition) (cell : List ℕ) (f : Option Row)
    → list_all (λ x. is_kind x.kind) cs ≡ true → IsValuePosition cs front k c s
    → IsCellWith cs front cell f → HasNone k s cell f ⊎ HasOne k c.kind s cell f
cell_told cs front k c s cell None kinds position is = inl (record { is = no_first s cell (first_byte cell 0 is); stays = λ rows. refl })
cell_told cs front k c s cell (Some row) kinds position is = by_mark (cases_Bool row.hidden) where
  one : get_or cell 0 0 ≡ 1
  one = first_byte cell 1 is.0

  some : 1 ≤ length cs
  some = omega (arith, position.within)

  wide : 1 ≤ width_of cs
  wide = omega (
    arith,
    position.width,
    ap (λ (x : Column). column_width x.kind) position.column,
    get_or-le-sum_by
        (λ (x : Column). column_width x.kind) cs k c position.within,
  )

  mark : is_mark (get_or cell s.front 0) ≡ row.hidden
  mark = ap (λ n. is_mark (get_or cell n 0)) position.front_is ∙ mark_of cs front cell row some wide is.1 is.2

  by_mark : (row.hidden ≡ true) ⊎ (row.hidden ≡ false) → HasNone k s cell (Some row) ⊎ HasOne k c.kind s cell (Some row)
  by_mark (inl hidden) = inl (record { is = marked s cell one (mark ∙ hidden); stays = λ rows. hidden_none k row rows hidden })
  by_mark (inr visible) = row_seen cs front k c s cell row kinds position one (mark ∙ visible) visible is.1 is.2

-- what cells tell of a column: its values, all of them small
pub record Reads (k : ℕ) (kind : ColumnKind) (s : ValuePosition) (n : ℕ) (cells : List ℕ) (rows : List Row) : Type 0 where
  pub values : map (read_value kind) (found_in s n cells) ≡ fold.values_of k rows
  pub small : list_all is_small (map (number_in kind) (found_in s n cells)) ≡ true

reads_more : (k : ℕ) (kind : ColumnKind) (s : ValuePosition) (m : ℕ) (cells : List ℕ) (f : Option Row) (rows : List Row)
    → HasNone k s (take s.size cells) f ⊎ HasOne k kind s (take s.size cells) f → Reads k kind s m (drop s.size cells) rows
    → Reads k kind s (suc m) cells (before_rows f rows)
reads_more k kind s m cells f rows (inl none) rest =
    let same : found_in s (suc m) cells ≡ found_in s m (drop s.size cells) = unseen s (take s.size cells)
    (found_in s m (drop s.size cells)) none.is in
    record {
      values = ap (map (read_value kind)) same ∙ rest.values ∙ sym (none.stays rows);
      small = ap (λ (l : List (List ℕ)). list_all is_small (map (number_in kind) l)) same ∙ rest.small;
    }
reads_more k kind s m cells f rows (inr one) rest =
    let cell : List ℕ = take s.size cells in
    let same : found_in s (suc m) cells ≡ bytes_of s cell ∷ found_in s m (drop s.size cells) = seen s (take s.size cells)
    (found_in s m (drop s.size cells)) one.is in
    record {
      values = ap (map (read_value kind)) same ∙ ap (λ (l : List Value). read_value kind (bytes_of s cell) ∷ l) rest.values
          ∙ sym (one.more rows);
      small = ap (λ (l : List (List ℕ)). list_all is_small (map (number_in kind) l)) same
          ∙ ap (λ b. b && list_all is_small (map (number_in kind) (found_in s m (drop s.size cells)))) one.small
          ∙ rest.small;
    }

rows_first : (f : Option Row) (found : List (Option Row)) → rows_in (f ∷ found) ≡ before_rows f (rows_in found)
rows_first None found = refl
rows_first (Some row) found = refl

pub no_cell : (cs : List Column) (front : ℕ) (cell : List ℕ) (f : Option Row) → length cell ≡ 0 → IsCellWith cs front cell f → ⊥
no_cell cs front [] None empty is = cc
no_cell cs front [] (Some row) empty is = let first = is.0 in cc
no_cell cs front (b ∷ cell) f empty is = omega (arith, empty)

-- so cells that are those of rows give the column's values over them
pub all_read : (cs : List Column) (front k : ℕ) (c : Column) (s : ValuePosition) (found : List (Option Row)) (n : ℕ) (cells : List ℕ)
    → list_all (λ x. is_kind x.kind) cs ≡ true
    → IsValuePosition cs front k c s → 0 < s.size → length cells ≡ n * s.size → AreCellsWith cs front cells found
    → Reads k c.kind s n cells (rows_in found)
all_read cs front k c s [] zero cells kinds position some whole are = record { values = refl; small = refl }
all_read cs front k c s [] (suc m) cells kinds position some whole are = absurd
    (omega (arith, ap length are, whole, some, suc-mul m s.size))
all_read cs front k c s (f ∷ found) zero cells kinds position some whole are =
    let none : 0 * s.size ≡ 0 = omega arith in
    absurd (no_cell cs front (take (front + width_of cs) cells) f
    (omega (arith, length-take (front + width_of cs) cells, whole, none)) are.0)
all_read cs front k c s (f ∷ found) (suc m) cells kinds position some whole are =
    let here : IsCellWith cs front (take s.size cells) f = subst (λ n. IsCellWith cs front (take n cells) f) (sym position.size) are.0 in
    let there : AreCellsWith cs front (drop s.size cells) found = subst (λ n. AreCellsWith cs front (drop n cells) found)
    (sym position.size) are.1 in
    let others : length (drop s.size cells) ≡ m * s.size = omega (arith, length-drop s.size cells, whole, suc-mul m s.size) in
    subst (Reads k c.kind s (suc m) cells) (sym (rows_first f found))
    (reads_more k c.kind s m cells f (rows_in found) (cell_told cs front k c s (take s.size cells) f kinds position here)
    (all_read cs front k c s found m (drop s.size cells) kinds position some others there))
