-- The values of a column: their sums, and what is kept of them.
use Rattle.std.proofs.Common.{◌≡◌, ℕ, ◌+◌, Bool, true, false, ℤ, pos, ◌+ℤ◌, List, [], ◌∷◌, length, fold, map, refl, sym, ap, ◌∙◌, arith}
use Rattle.std.proofs.lemmas.Int.{ints}
use Rattle.std.proofs.lemmas.List.{length-map}
use Rattle.ts_row.specs.declared.kind.ColumnKind.{ColumnKind}
use Rattle.ts_row.specs.declared.kind.ColumnKind.TheVariants.{SmallInt, Integer, BigInt, Decimal, VarChar}
use Rattle.ts_row.specs.declared.value.Value.{Value}
use Rattle.ts_row.specs.declared.value.Value.TheVariants.{Null, Number, Text}
use Rattle.ts_row.specs.Decoding.{number_in}
use Rattle.ts_expr.specs.declared.tally.Tally.TheVariants as tally
use Rattle.ts_expr.specs.Aggregates.{is_text_kind, number_of, total, earlier, later}
use Rattle.ts_expr.specs.Sums.{Sums}
use Rattle.ts_expr.specs.Running.{with_value, with_sums}
use Rattle.ts_expr.proofs.CallerLemmas.{counted_at_once, summed_at_once, mean_at_once}
use Rattle.ts_aggregate.specs.Column.{read_value, text_of, better}

-- a column isn't one of texts
abbrev pub HasNumbers : ColumnKind → Type 0
HasNumbers kind = (most : ℕ) → kind ≡ VarChar most → ⊥

-- where it isn't, its values are numbers
each_number : (kind : ColumnKind) → HasNumbers kind → (bytes : List ℕ) → read_value kind bytes ≡ Number (number_in kind bytes)
each_number SmallInt numbers bytes = refl
each_number Integer numbers bytes = refl
each_number BigInt numbers bytes = refl
each_number (Decimal digits scale) numbers bytes = refl
each_number (VarChar most) numbers bytes = absurd (numbers most refl)

pub all_numbers : (kind : ColumnKind) → HasNumbers kind → (found : List (List ℕ))
    → map (read_value kind) found ≡ map (λ z. Number z) (map (number_in kind) found)
all_numbers kind numbers [] = refl
all_numbers kind numbers (bytes ∷ found) =
    ap (λ (v : Value). v ∷ map (read_value kind) found) (each_number kind numbers bytes)
    ∙ ap (λ (l : List Value). Number (number_in kind bytes) ∷ l) (all_numbers kind numbers found)

-- texts have none
fold_texts : (most : ℕ) (z : ℤ) (found : List (List ℕ)) → fold ◌+ℤ◌ z (map number_of (map (read_value (VarChar most)) found)) ≡ z
fold_texts most z [] = refl
fold_texts most z (bytes ∷ found) =
    let same : z +ℤ pos 0 ≡ z = omega (arith, ints) in
    fold_texts most (z +ℤ pos 0) found ∙ same

total_texts : (most : ℕ) (found : List (List ℕ)) → total (map (read_value (VarChar most)) found) ≡ pos 0
total_texts most found = fold_texts most (pos 0) found

-- the values of a column of texts
pub text_total : (kind : ColumnKind) → is_text_kind kind ≡ true → (found : List (List ℕ)) → total (map (read_value kind) found) ≡ pos 0
text_total SmallInt texts found = absurd (cc)
text_total Integer texts found = absurd (cc)
text_total BigInt texts found = absurd (cc)
text_total (Decimal digits scale) texts found = absurd (cc)
text_total (VarChar most) texts found = total_texts most found

each_text : (most : ℕ) (found : List (List ℕ)) → map (read_value (VarChar most)) found ≡ map (λ t. Text t) (map text_of found)
each_text most [] = refl
each_text most (bytes ∷ found) = ap (λ (l : List Value). Text (text_of bytes) ∷ l) (each_text most found)

pub all_texts : (kind : ColumnKind) → is_text_kind kind ≡ true → (found : List (List ℕ)) → map (read_value kind) found ≡ map (λ t. Text t) (map text_of found)
all_texts SmallInt texts found = absurd (cc)
all_texts Integer texts found = absurd (cc)
all_texts BigInt texts found = absurd (cc)
all_texts (Decimal digits scale) texts found = absurd (cc)
all_texts (VarChar most) texts found = each_text most found

-- a number stays where texts come
one_number : (most : Bool) (z : ℤ) (text : List ℕ) → better most (Number z) (Text text) ≡ Number z
one_number true z text = refl
one_number false z text = refl

pub number_stays : (most : Bool) (z : ℤ) (texts : List (List ℕ)) → fold (better most) (Number z) (map (λ t. Text t) texts) ≡ Number z
number_stays most z [] = refl
number_stays most z (text ∷ texts) = ap (λ (v : Value). fold (better most) v (map (λ t. Text t) texts)) (one_number most z text)
    ∙ number_stays most z texts

-- what was first stays
pub first_stays : (kept : Value) (values : List Value) → (kept ≡ Null → ⊥) → fold earlier kept values ≡ kept
first_stays Null values some = absurd (some refl)
first_stays (Number z) [] some = refl
first_stays (Number z) (v ∷ values) some = first_stays (Number z) values some
first_stays (Text text) [] some = refl
first_stays (Text text) (v ∷ values) some = first_stays (Text text) values some

never_null : (kind : ColumnKind) (bytes : List ℕ) → read_value kind bytes ≡ Null → ⊥
never_null SmallInt bytes is = cc
never_null Integer bytes is = cc
never_null BigInt bytes is = cc
never_null (Decimal digits scale) bytes is = cc
never_null (VarChar most) bytes is = cc

pub first_is : (kind : ColumnKind) (bytes : List ℕ) (others : List (List ℕ))
    → fold earlier Null (map (read_value kind) (bytes ∷ others)) ≡ read_value kind bytes
first_is kind bytes others = first_stays (read_value kind bytes) (map (read_value kind) others) (never_null kind bytes)

-- what tallies keep
pub least_all : (kept : Value) (values : List Value) → tally.Min (fold (better false) kept values) ≡ fold with_value (tally.Min kept) values
least_all kept [] = refl
least_all kept (v ∷ values) = least_all (better false kept v) values

pub greatest_all : (kept : Value) (values : List Value)
    → tally.Max (fold (better true) kept values) ≡ fold with_value (tally.Max kept) values
greatest_all kept [] = refl
greatest_all kept (v ∷ values) = greatest_all (better true kept v) values

pub first_all : (kept : Value) (values : List Value) → tally.First (fold earlier kept values) ≡ fold with_value (tally.First kept) values
first_all kept [] = refl
first_all kept (v ∷ values) = first_all (earlier kept v) values

pub last_all : (kept : Value) (values : List Value) → tally.Last (fold later kept values) ≡ fold with_value (tally.Last kept) values
last_all kept [] = refl
last_all kept (v ∷ values) = last_all (later kept v) values

-- values are counted
pub count_all : (n : ℕ) (kind : ColumnKind) (found : List (List ℕ)) (sum : ℤ)
    → with_sums (tally.Count n) (length found) sum ≡ fold with_value (tally.Count n) (map (read_value kind) found)
count_all n kind found sum =
    ap (λ (k : ℕ). tally.Count (n + k)) (sym (length-map found (read_value kind))) ∙ counted_at_once n (map (read_value kind) found)

-- and summed up
pub sums_all : (s : Sums) (kind : ColumnKind) (found : List (List ℕ))
    → with_sums (tally.Sum s) (length found) (total (map (read_value kind) found)) ≡ fold with_value (tally.Sum s)
    (map (read_value kind) found)
sums_all s kind found =
    ap (λ (k : ℕ). with_sums (tally.Sum s) k (total (map (read_value kind) found))) (sym (length-map found (read_value kind)))
    ∙ summed_at_once s (map (read_value kind) found)

pub means_all : (s : Sums) (kind : ColumnKind) (found : List (List ℕ))
    → with_sums (tally.Avg s) (length found) (total (map (read_value kind) found)) ≡ fold with_value (tally.Avg s)
    (map (read_value kind) found)
means_all s kind found =
    ap (λ (k : ℕ). with_sums (tally.Avg s) k (total (map (read_value kind) found))) (sym (length-map found (read_value kind)))
    ∙ mean_at_once s (map (read_value kind) found)

-- numbers of which this is known
pub numbers_counted : (n : ℕ) (zs : List ℤ) (sum : ℤ) → with_sums (tally.Count n) (length zs) sum ≡ fold with_value (tally.Count n) (map (λ z. Number z) zs)
numbers_counted n zs sum =
    ap (λ (k : ℕ). tally.Count (n + k)) (sym (length-map zs (λ (z : ℤ). Number z))) ∙ counted_at_once n (map (λ z. Number z) zs)

same_numbers : (zs : List ℤ) → map number_of (map (λ z. Number z) zs) ≡ zs
same_numbers [] = refl
same_numbers (z ∷ zs) = ap (λ (l : List ℤ). z ∷ l) (same_numbers zs)

pub numbers_summed : (s : Sums) (zs : List ℤ)
    → with_sums (tally.Sum s) (length zs) (fold ◌+ℤ◌ (pos 0) zs) ≡ fold with_value (tally.Sum s) (map (λ z. Number z) zs)
numbers_summed s zs =
    ap (λ (k : ℕ). with_sums (tally.Sum s) k (fold ◌+ℤ◌ (pos 0) zs)) (sym (length-map zs (λ (z : ℤ). Number z)))
    ∙ ap (λ (l : List ℤ). with_sums (tally.Sum s) (length (map (λ z. Number z) zs)) (fold ◌+ℤ◌ (pos 0) l)) (sym (same_numbers zs))
    ∙ summed_at_once s (map (λ z. Number z) zs)

pub numbers_meant : (s : Sums) (zs : List ℤ)
    → with_sums (tally.Avg s) (length zs) (fold ◌+ℤ◌ (pos 0) zs) ≡ fold with_value (tally.Avg s) (map (λ z. Number z) zs)
numbers_meant s zs =
    ap (λ (k : ℕ). with_sums (tally.Avg s) k (fold ◌+ℤ◌ (pos 0) zs)) (sym (length-map zs (λ (z : ℤ). Number z)))
    ∙ ap (λ (l : List ℤ). with_sums (tally.Avg s) (length (map (λ z. Number z) zs)) (fold ◌+ℤ◌ (pos 0) l)) (sym (same_numbers zs))
    ∙ mean_at_once s (map (λ z. Number z) zs)
