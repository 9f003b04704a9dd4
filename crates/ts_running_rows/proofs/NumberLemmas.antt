-- The numbers of a row are those that are read from its bytes.
use Rattle.std.proofs.Common.{◌≡◌, ◌⊎◌, inl, inr, ℕ, zero, suc, ◌-◌, ◌<◌, ◌^◌, ◌==◌, ◌&&◌, Bool, true, false, nat_le, nat_lt, if◌then◌else◌, ℤ, unsigned_abs, Option, Some, None, List, [], ◌∷◌, ◌++◌, length, take, drop, get_or, refl, sym, ap, ◌∙◌, arith, append_assoc, append-nil, IsTrue}
use Rattle.std.specs.List.{list_all}
use Rattle.std.specs.Int.{w128}
use Rattle.std.specs.Prelude.{FitsSigned}
use Rattle.std.proofs.lemmas.Bool.{and_parts, ltb-true}
use Rattle.std.proofs.lemmas.Int.{fits_signed_from_abs}
use Rattle.ts_row.specs.declared.kind.ColumnKind.{ColumnKind}
use Rattle.ts_row.specs.declared.kind.ColumnKind.TheVariants.{SmallInt, Integer, BigInt, Decimal, VarChar}
use Rattle.ts_row.specs.declared.kind.Column.{Column}
use Rattle.ts_row.specs.declared.value.Value.{Value}
use Rattle.ts_row.specs.Row.{column_width, is_kind, width_of, names_of, are_distinct, keep_rules, is_row_type, Values, Row}
use Rattle.ts_row.specs.Decoding.{number_in, value_in, values_in}
use Rattle.ts_entry.specs.Entry.{AreSeenBytes}
use Rattle.ts_expr.specs.Aggregates.{is_null, value_at}
use Rattle.ts_expr.specs.Aggregates as fold
use Rattle.ts_aggregate.specs.Column.{read_value, is_small}
use Rattle.ts_aggregate.proofs.RowLemmas.{AreParts, cut, IsNone, IsSome, told, values_seen}
use Rattle.ts_running.specs.Places.{place_if_any, place_of}
use Rattle.ts_running.specs.Binding.{number_if_any, numbers_of}

-- the columns of a row type are of kinds that may be
kinds_may_be : (stamp : List ℕ) (columns : List Column) → IsTrue (is_row_type stamp columns) →
    list_all (λ c. is_kind c.kind) columns ≡ true
kinds_may_be stamp columns good =
    let kinds = list_all (λ c. is_kind c.kind) columns in
    let narrow = nat_le (width_of columns) 1000 in
    let few = nat_le (length columns) 32 in
    let keeps = and_parts (nat_le 1 (length columns)) (keep_rules stamp columns) good in
    let front = and_parts (few && kinds && narrow) (are_distinct (stamp ∷ names_of columns)) keeps.1 in
    let middle = and_parts (few && kinds) narrow front.0 in
    (and_parts few kinds middle.0).1

-- bytes of a row that isn't hidden are those of its values
pub seen_values : (stamp : List ℕ) (columns given : List Column) (bytes : List ℕ) (row : Row) → IsTrue (is_row_type stamp columns) →
    given ≡ columns → AreSeenBytes columns bytes row → values_in given bytes ≡ Some row.values
seen_values stamp columns given bytes row rules same seen =
    ap (λ l. values_in l bytes) same
    ∙ values_seen columns bytes row (kinds_may_be stamp columns rules) seen.fits seen.seen seen.is

-- and its place is that of its value
pub seen_place : (column : ℕ) (row : Row) → row.hidden ≡ false → place_of column row ≡ place_if_any (value_at column row.values)
seen_place column row seen = rw seen refl

-- the number that the bytes of a column are, unless they are NULL's
abbrev filled : ColumnKind → List ℕ → Option ℤ
filled kind cell = if get_or cell 0 0 == 1 then Some (number_in kind (drop 1 cell)) else None

number_read : (kind : ColumnKind) (bytes : List ℕ) → fold.number_of (read_value kind bytes) ≡ number_in kind bytes
number_read SmallInt bytes = refl
number_read Integer bytes = refl
number_read BigInt bytes = refl
number_read (Decimal digits scale) bytes = refl
number_read (VarChar most) bytes = refl

-- a value's place
pub place_told : (kind : ColumnKind) (cell : List ℕ) (v : Value) → is_kind kind ≡ true → value_in kind cell ≡ Some v →
    filled kind cell ≡ place_if_any v
place_told kind cell v good is = by_value (told kind cell v good is) where
  by_value : IsNone cell v ⊎ IsSome kind cell v → filled kind cell ≡ place_if_any v
  by_value (inl none) = rw (none.flag, none.none) refl
  by_value (inr some) =
      rw (some.flag, some.is.some) (ap Some (sym (ap fold.number_of some.is.value ∙ number_read kind (drop 1 cell))))

-- it is small
pub small_told : (kind : ColumnKind) (cell : List ℕ) (v : Value) (z : ℤ) → is_kind kind ≡ true → value_in kind cell ≡ Some v →
    filled kind cell ≡ Some z → unsigned_abs z < 10 ^ 28
small_told kind cell v z good is found = by_value (told kind cell v good is) where
  by_value : IsNone cell v ⊎ IsSome kind cell v → unsigned_abs z < 10 ^ 28
  by_value (inl none) = absurd (let no = rw none.flag at found in cc)
  by_value (inr some) =
      let same : number_in kind (drop 1 cell) ≡ z = let yes = rw some.flag at found in cc in
      ltb-true (unsigned_abs z) (10 ^ 28) (ap is_small (sym same) ∙ some.is.small)

pub small_fits : (z : ℤ) → unsigned_abs z < 10 ^ 28 → FitsSigned w128 z
small_fits z small = fits_signed_from_abs w128 z (omega (arith, small))

-- an expression's number: a text has none
pub operand_told : (kind : ColumnKind) (cell : List ℕ) (v : Value) → is_kind kind ≡ true → value_in kind cell ≡ Some v →
    ((most : ℕ) → kind ≡ VarChar most → ⊥) → filled kind cell ≡ number_if_any v
operand_told kind cell v good is number = by_value (told kind cell v good is) where
  by_kind : (kind : ColumnKind) (bytes : List ℕ) → ((most : ℕ) → kind ≡ VarChar most → ⊥) →
      Some (number_in kind bytes) ≡ number_if_any (read_value kind bytes)
  by_kind SmallInt bytes number = refl
  by_kind Integer bytes number = refl
  by_kind BigInt bytes number = refl
  by_kind (Decimal digits scale) bytes number = refl
  by_kind (VarChar most) bytes number = absurd (number most refl)

  by_value : IsNone cell v ⊎ IsSome kind cell v → filled kind cell ≡ number_if_any v
  by_value (inl none) = rw (none.flag, none.none) refl
  by_value (inr some) = rw some.flag (by_kind kind (drop 1 cell) number ∙ ap number_if_any (sym some.is.value))

pub text_told : (kind : ColumnKind) (most : ℕ) (cell : List ℕ) (v : Value) → kind ≡ VarChar most → is_kind kind ≡ true →
    value_in kind cell ≡ Some v → None ≡ number_if_any v
text_told kind most cell v text good is = by_value (told kind cell v good is) where
  by_value : IsNone cell v ⊎ IsSome kind cell v → None ≡ number_if_any v
  by_value (inl none) = ap number_if_any (sym none.none)
  by_value (inr some) =
      ap number_if_any (sym (some.is.value ∙ ap (λ (k : ColumnKind). read_value k (drop 1 cell)) text))

-- without columns there are no values
pub no_values : (columns : List Column) (bytes : List ℕ) (values : Values) → columns ≡ [] → values_in columns bytes ≡ Some values →
    values ≡ []
no_values [] bytes values none is =
    elim (length bytes == 0) as (λ b. (if b then Some [] else None) ≡ Some values → values ≡ []) [
      | true ↦ λ there. cc
      | false ↦ λ not_there. absurd (cc)
    ] is
no_values (c ∷ cs) bytes values none is = absurd (cc)

-- the first column, and the others
module _ (columns cs : List Column) (c : Column) (bytes cell rest : List ℕ) (values : Values) (split : columns ≡ c ∷ cs)
    (front : cell ≡ take (column_width c.kind) bytes) (back : rest ≡ drop (column_width c.kind) bytes)
    (is : values_in columns bytes ≡ Some values) where
  parts : AreParts c cs (take (column_width c.kind) bytes) (drop (column_width c.kind) bytes) values
  parts = cut c cs bytes values (ap (λ l. values_in l bytes) (sym split) ∙ is)

  first_in : value_in c.kind cell ≡ Some parts.first
  first_in = ap (value_in c.kind) front ∙ parts.first_in

  others_in : values_in cs rest ≡ Some parts.others
  others_in = ap (values_in cs) back ∙ parts.others_in

  pub place_first : (k : ℕ) (found : Option ℤ) → k ≡ 0 → ((v : Value) → value_in c.kind cell ≡ Some v → found ≡ place_if_any v) →
      found ≡ place_if_any (value_at k values)
  place_first k found first tells =
      tells parts.first first_in ∙ ap (λ (l : Values). place_if_any (value_at 0 l)) (sym parts.are)
      ∙ ap (λ n. place_if_any (value_at n values)) (sym first)

  pub place_more : (k : ℕ) (found : Option ℤ) → 0 < k →
      ((others : Values) → values_in cs rest ≡ Some others → found ≡ place_if_any (value_at (k - 1) others)) →
      found ≡ place_if_any (value_at k values)
  place_more zero found more tells = absurd (omega (arith, more))
  place_more (suc k) found more tells =
      let before : suc k - 1 ≡ k = omega arith in
      tells parts.others others_in ∙ ap (λ n. place_if_any (value_at n parts.others)) before
      ∙ ap (λ (l : Values). place_if_any (value_at (suc k) l)) (sym parts.are)

  pub numbers_more : (number : Option ℤ) (old mid new : List (Option ℤ)) →
      ((v : Value) → value_in c.kind cell ≡ Some v → number ≡ number_if_any v) → mid ≡ old ++ number ∷ [] →
      ((others : Values) → values_in cs rest ≡ Some others → new ≡ mid ++ numbers_of others) → new ≡ old ++ numbers_of values
  numbers_more number old mid new tells one more =
      more parts.others others_in ∙ ap (λ (l : List (Option ℤ)). l ++ numbers_of parts.others) one
      ∙ append_assoc old (number ∷ []) (numbers_of parts.others)
      ∙ ap (λ x. old ++ (x ∷ numbers_of parts.others)) (tells parts.first first_in)
      ∙ ap (λ (l : Values). old ++ numbers_of l) (sym parts.are)

pub no_numbers : (columns : List Column) (bytes : List ℕ) (values : Values) (old : List (Option ℤ)) → columns ≡ [] →
    values_in columns bytes ≡ Some values → old ≡ old ++ numbers_of values
no_numbers columns bytes values old none is =
    sym (append-nil old) ∙ ap (λ (l : Values). old ++ numbers_of l) (sym (no_values columns bytes values none is))
