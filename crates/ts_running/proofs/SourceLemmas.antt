-- The column that a running value takes its values from.
use Rattle.std.proofs.Common.{◌≡◌, ℕ, ◌+◌, ◌≤◌, ◌&&◌, Bool, true, false, nat_le, List, [], ◌∷◌, length, Option, Some, None, Result, Ok, Err, IsTrue, refl, sym, ap, ◌∙◌, arith}
use Rattle.std.specs.List.{list_all}
use Rattle.std.specs.Prelude.{if◌then◌else◌}
use Rattle.std.specs.Str.{bytes_eq}
use Rattle.std.proofs.lemmas.Bool.{and_parts}
use Rattle.std.proofs.lemmas.Bool.Decides.{nat_tests}
use Rattle.ts_base.specs.declared.refusal.Refusal.{Refusal}
use Rattle.ts_row.specs.declared.kind.ColumnKind.{ColumnKind}
use Rattle.ts_row.specs.declared.kind.ColumnKind.TheVariants.{SmallInt, Integer, BigInt, Decimal, VarChar}
use Rattle.ts_row.specs.declared.kind.Column.{Column}
use Rattle.ts_row.specs.Row.{is_kind, scale_of, width_of, names_of, are_distinct, keep_rules, is_row_type}
use Rattle.ts_expr.specs.declared.function.Function.{Function}
use Rattle.ts_expr.specs.declared.function.Function.TheVariants.{Sum, Avg, Count, Min, Max, First, Last}
use Rattle.ts_expr.specs.declared.item.BoundItem.{BoundItem}
use Rattle.ts_expr.specs.Aggregates.{item, column_from, bound, bound_to, made_scale}
use Rattle.ts_running.specs.declared.bind.Source.{Source}
use Rattle.ts_running.specs.Binding.{with_one, source_of, source_named}
use Rattle.ts_running.specs.Places.{is_running}

-- the digits after the point of a running value of numbers with so many
abbrev running_scale : Function → ℕ → ℕ
running_scale Avg scale = scale + 6
running_scale function scale = scale

abbrev sourced : Function → Source → BoundItem
sourced function s = record { function = function; column = s.column; scale = running_scale function s.scale }

by_kind : (function : Function) → IsTrue (is_running function) → (n : ℕ) (kind : ColumnKind) →
    bound_to function (Some (n, kind)) ≡ with_one (sourced function) (source_of (Some (n, kind)))
by_kind Sum running n SmallInt = refl
by_kind Sum running n Integer = refl
by_kind Sum running n BigInt = refl
by_kind Sum running n (Decimal digits scale) = refl
by_kind Sum running n (VarChar most) = refl
by_kind Avg running n SmallInt = refl
by_kind Avg running n Integer = refl
by_kind Avg running n BigInt = refl
by_kind Avg running n (Decimal digits scale) = refl
by_kind Avg running n (VarChar most) = refl
by_kind Count running n kind = absurd (cc)
by_kind Min running n kind = absurd (cc)
by_kind Max running n kind = absurd (cc)
by_kind First running n kind = absurd (cc)
by_kind Last running n kind = absurd (cc)

-- an item is bound where its column is found
bound_found : (function : Function) → IsTrue (is_running function) → (found : Option (ℕ × ColumnKind)) →
    bound_to function found ≡ with_one (sourced function) (source_of found)
bound_found function running None = refl
bound_found function running (Some c) = by_kind function running c.0 c.1

pub bound_as : (function : Function) → IsTrue (is_running function) → (columns : List Column) (name : List ℕ) →
    bound columns (item function name) ≡ with_one (sourced function) (source_named columns name)
bound_as function running columns name = bound_found function running (column_from 0 name columns)

-- a column that is found has few digits after the point
kind_scale : (kind : ColumnKind) → is_kind kind ≡ true → scale_of kind ≤ 28
kind_scale SmallInt good = omega arith
kind_scale Integer good = omega arith
kind_scale BigInt good = omega arith
kind_scale (VarChar most) good = omega arith
kind_scale (Decimal digits scale) good =
    let parts = and_parts (nat_le 1 digits && nat_le digits 28) (nat_le scale digits) good in
    let more = and_parts (nat_le 1 digits) (nat_le digits 28) parts.0 in
    let a = more.1 in
    let b = parts.1 in
    grind (arith, nat_tests)

-- the columns of a row type are of kinds that may be
kinds_may_be : (stamp : List ℕ) (columns : List Column) → IsTrue (is_row_type stamp columns) →
    list_all (λ c. is_kind c.kind) columns ≡ true
kinds_may_be stamp columns good =
    let kinds = list_all (λ c. is_kind c.kind) columns in
    let narrow = nat_le (width_of columns) 1000 in
    let few = nat_le (length columns) 32 in
    let keeps = and_parts (nat_le 1 (length columns)) (keep_rules stamp columns) good in
    let front = and_parts (few && kinds && narrow) (are_distinct (stamp ∷ names_of columns)) keeps.1 in
    let middle = and_parts (few && kinds) narrow front.0 in
    (and_parts few kinds middle.0).1

abbrev IsGood : Option (ℕ × ColumnKind) → Type 0
IsGood None = Unit {0}
IsGood (Some c) = is_kind c.1 ≡ true

good_from : (first : ℕ) (name : List ℕ) (columns : List Column) → list_all (λ c. is_kind c.kind) columns ≡ true →
    IsGood (column_from first name columns)
good_from first name [] good = tt
good_from first name (c ∷ columns) good = by (bytes_eq c.name name) (good_from (first + 1) name columns kinds.1) where
  kinds : (is_kind c.kind ≡ true) × (list_all (λ x. is_kind x.kind) columns ≡ true)
  kinds = and_parts (is_kind c.kind) (list_all (λ x. is_kind x.kind) columns) good

  by : (same : Bool) → IsGood (column_from (first + 1) name columns) →
      IsGood (if same then Some (first, c.kind) else column_from (first + 1) name columns)
  by true others = kinds.0
  by false others = others

scale_by : (kind : ColumnKind) (n : ℕ) (s : Source) → is_kind kind ≡ true → source_of (Some (n, kind)) ≡ Ok s → s.scale ≤ 28
scale_by SmallInt n s good is = let same : s.scale ≡ 0 = cc in omega (arith, same)
scale_by Integer n s good is = let same : s.scale ≡ 0 = cc in omega (arith, same)
scale_by BigInt n s good is = let same : s.scale ≡ 0 = cc in omega (arith, same)
scale_by (VarChar most) n s good is = absurd (cc)
scale_by (Decimal digits scale) n s good is =
    let same : s.scale ≡ scale = cc in omega (arith, same, kind_scale (Decimal digits scale) good)

scale_found : (found : Option (ℕ × ColumnKind)) (s : Source) → IsGood found → source_of found ≡ Ok s → s.scale ≤ 28
scale_found None s good is = absurd (cc)
scale_found (Some c) s good is = scale_by c.1 c.0 s good is

pub small_scale : (stamp : List ℕ) (columns : List Column) (name : List ℕ) (s : Source) →
    IsTrue (is_row_type stamp columns) → source_named columns name ≡ Ok s → s.scale ≤ 28
small_scale stamp columns name s good is =
    scale_found (column_from 0 name columns) s (good_from 0 name columns (kinds_may_be stamp columns good)) is

-- no mean: the scale is the column's
same_scale : (function : Function) → IsTrue (is_running function) → (function ≡ Avg → ⊥) → (s : Source) →
    sourced function s ≡ record { function = function; column = s.column; scale = s.scale }
same_scale Sum running other s = refl
same_scale Avg running other s = absurd (other refl)
same_scale Count running other s = absurd (cc)
same_scale Min running other s = absurd (cc)
same_scale Max running other s = absurd (cc)
same_scale First running other s = absurd (cc)
same_scale Last running other s = absurd (cc)

pub other_sourced : (function : Function) → IsTrue (is_running function) → (function ≡ Avg → ⊥) → (columns : List Column) →
    (name : List ℕ) (s : Source) → source_named columns name ≡ Ok s →
    bound columns (item function name) ≡ Ok (record { function = function; column = s.column; scale = s.scale })
other_sourced function running other columns name s is =
    bound_as function running columns name ∙ ap (with_one (sourced function)) is
    ∙ ap (λ (i : BoundItem). let r : Result BoundItem Refusal = Ok i in r) (same_scale function running other s)
