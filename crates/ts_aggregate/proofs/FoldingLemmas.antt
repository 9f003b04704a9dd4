-- Tallies of items, each of which takes the values of its column.
use Rattle.std.proofs.Common.{◌≡◌, ℕ, zero, suc, ◌+◌, ◌-◌, ◌*◌, ◌/◌, ◌<◌, ◌≤◌, ◌^◌, Option, List, [], ◌∷◌, ◌++◌, length, length-take, map, take, fold, get_or, set, IsTrue, All, refl, sym, subst, inl, inr, ap, ◌∙◌, arith}
use Rattle.std.specs.List.{list_all}
use Rattle.std.proofs.lemmas.List.{length-map, map-append, get_or-map, get_or-set_other, get_or-set_same, get_or_read, same_lists, take_more}
use Rattle.std.proofs.lemmas.List.Elements.{All-map}
use Rattle.std.proofs.lemmas.List.Sums.{sum_by_more_le}
use Rattle.std.proofs.lemmas.Bool.{cases_lt}
use Rattle.std.proofs.Math.Nat.{mul-div_cancel, suc-mul}
use Rattle.ts_row.specs.declared.kind.Column.{Column}
use Rattle.ts_row.specs.declared.value.Value.{Value}
use Rattle.ts_row.specs.Row.{column_width, width_of, is_kind, Row}
use Rattle.ts_row.specs.Decoding.{number_in}
use Rattle.ts_row.proofs.ValueBytesLemmas.{column_width-positive}
use Rattle.ts_entry.specs.Rows.{AreCellsWith, rows_in}
use Rattle.ts_expr.specs.declared.function.Function.TheVariants.{Sum}
use Rattle.ts_expr.specs.declared.item.BoundItem.{BoundItem}
use Rattle.ts_expr.specs.declared.tally.Tally.{Tally}
use Rattle.ts_expr.specs.Aggregates.{values_of}
use Rattle.ts_expr.specs.Running.{tally_of, after, count_of, value_of, with_value}
use Rattle.ts_expr.proofs.CallerLemmas.{tally_all, values_all, values_few, count_few}
use Rattle.ts_aggregate.specs.declared.cells.ValuePosition.{ValuePosition}
use Rattle.ts_aggregate.specs.Fold.{Fold, AreTallies, Takes}
use Rattle.ts_aggregate.specs.Takes.{none_taken}
use Rattle.ts_aggregate.specs.Column.{found_in, read_value, is_small}
use Rattle.ts_aggregate.proofs.RowLemmas.{IsValuePosition, Reads, all_read, no_cell}

-- what an item knows of rows
abbrev pub known : BoundItem → List Row → Tally
known i rows = tally_of i.function (values_of i.column rows)

-- from one tally to another an item takes the rows in cells
abbrev pub ItemTakes : List Column → ℕ → List ℕ → BoundItem → Tally → Tally → Type 0
ItemTakes cs front bytes i old new =
    (found : List (Option Row)) → IsTrue (list_all (λ c. is_kind c.kind) cs) → AreCellsWith cs front bytes found → (before : List Row)
    → length before + length (rows_in found) ≤ 2 ^ 32
    → old ≡ known i before → new ≡ known i (before ++ rows_in found)

-- so it does where it takes the values that its column has in them
pub item_takes : (cs : List Column) (front : ℕ) (c : Column) (s : ValuePosition) (n : ℕ) (bytes : List ℕ) (i : BoundItem)
    (old new : Tally) → IsValuePosition cs front i.column c s → 0 < s.size
    → length bytes ≡ n * s.size
    → (IsTrue (list_all is_small (map (number_in c.kind) (found_in s n bytes))) → count_of old + length (found_in s n bytes) ≤ 2 ^ 32
    → new ≡ fold with_value old (map (read_value c.kind) (found_in s n bytes)))
    → ItemTakes cs front bytes i old new
item_takes cs front c s n bytes i old new position some whole took = λ found kinds are before few was.
    let rows : List Row = rows_in found in
    let reads : Reads i.column c.kind s n bytes rows = all_read cs front i.column c s found n bytes kinds position some whole are in
    let values : List Value = values_of i.column rows in
    let many : length (found_in s n bytes) ≡ length values = sym (length-map (found_in s n bytes) (read_value c.kind))
    ∙ ap length reads.values in
    let counted : count_of old ≤ length before = omega
    (arith, ap count_of was, count_few i.function (values_of i.column before), values_few i.column before) in
    took reads.small (omega (arith, many, counted, few, values_few i.column rows))
    ∙ ap (fold with_value old) reads.values
    ∙ ap (λ (t : Tally). fold with_value t values) was
    ∙ sym (tally_all i.function (values_of i.column before) values)
    ∙ ap (tally_of i.function) (sym (values_all i.column before rows))

-- some item
abbrev pub an_item : BoundItem
an_item = record { function = Sum; column = 0; scale = 0 }

-- where each item knows of these rows, all do
pub all_known : (items : List BoundItem) (tallies : List Tally) (rows : List Row) → length tallies ≡ length items
    → ((k : ℕ) (d : Tally) → k < length items → get_or tallies k d ≡ known (get_or items k an_item) rows) → tallies ≡ after items rows
all_known items tallies rows size each =
    same_lists tallies (after items rows) (size ∙ sym (length-map items (λ (i : BoundItem). known i rows)))
    (λ k d within.
    let inside : k < length items = omega (arith, within, size) in
    each k d inside ∙ sym (get_or-map (λ (i : BoundItem). known i rows) items k an_item d inside))

-- where each item takes the rows in cells, all do
pub all_take : (cs : List Column) (front : ℕ) (bytes : List ℕ) (items : List BoundItem) (old new : List Tally) → length new ≡ length items
    → ((k : ℕ) (d : Tally) → k < length items → ItemTakes cs front bytes (get_or items k an_item) (get_or old k d) (get_or new k d))
    → (found : List (Option Row)) → IsTrue (list_all (λ c. is_kind c.kind) cs) → AreCellsWith cs front bytes found → (before : List Row)
    → length before + length (rows_in found) ≤ 2 ^ 32
    → old ≡ after items before → new ≡ after items (before ++ rows_in found)
all_take cs front bytes items old new size each found kinds are before few was =
    all_known items new (before ++ rows_in found) size
    (λ k d inside. each k d inside found kinds are before few
    (ap (λ (l : List Tally). get_or l k d) was ∙ get_or-map (λ (i : BoundItem). known i before) items k an_item d inside))

-- one more tally is known after those before it
pub each_more : (R : ℕ → Tally → Tally → Type 0) (old now : List Tally) (n : ℕ) (was new : Tally) → n < length now → was ≡ get_or now n was
    → ((k : ℕ) (d : Tally) → k < n → R k (get_or old k d) (get_or now k d))
    → ((k : ℕ) (d : Tally) → n ≤ k → get_or now k d ≡ get_or old k d) → R n was new
    → (k : ℕ) (d : Tally) → k < n + 1 → R k (get_or old k d) (get_or (set now n new) k d)
each_more R old now n was new within is known rest one k d lt = elim (cases_lt k n) [
  | inl below ↦ subst (R k (get_or old k d)) (sym (get_or-set_other now n k new d (λ same. omega (arith, same, below)))) (known k d below)
  | inr above ↦
      let same : n ≡ k = omega (arith, lt, above) in
      let first : was ≡ get_or old n d = get_or_read now n was within is d ∙ rest n d (omega arith) in
      subst (λ m. R m (get_or old m d) (get_or (set now n new) m d)) same
      (subst (R n (get_or old n d)) (sym (get_or-set_same now n new d within)) (subst (λ t. R n t new) first one))
]

-- those behind it are as they were
pub rest_more : (old now : List Tally) (n : ℕ) (new : Tally) → ((k : ℕ) (d : Tally) → n ≤ k → get_or now k d ≡ get_or old k d)
    → (k : ℕ) (d : Tally) → n + 1 ≤ k → get_or (set now n new) k d ≡ get_or old k d
rest_more old now n new rest k d le = get_or-set_other now n k new d (λ same. omega (arith, same, le)) ∙ rest k d (omega (arith, le))

-- the values of the tallies, one after the other
pub values_more : (old now : List Tally) (n : ℕ) (was : Tally) → n < length now → length old ≡ length now → was ≡ get_or now n was
    → ((k : ℕ) (d : Tally) → n ≤ k → get_or now k d ≡ get_or old k d)
    → map value_of (take n old) ++ value_of was ∷ [] ≡ map value_of (take (n + 1) old)
values_more old now n was within size is rest =
    let first : was ≡ get_or old n was = is ∙ rest n was (omega arith) in
    ap (λ (t : Tally). map value_of (take n old) ++ value_of t ∷ []) first
    ∙ sym (map-append value_of (take n old) (get_or old n was ∷ []))
    ∙ ap (map value_of) (sym (take_more old n was (omega (arith, within, size))))

-- where the column of an item stands
pub position_of : (cs : List Column) (front k place w : ℕ) (c : Column) (size : ℕ) → k < length cs → c ≡ get_or cs k c
    → size ≡ front + width_of cs → place ≡ width_of (take k cs)
    → w ≡ column_width c.kind → IsValuePosition cs front k c (record { size = size; front = front; place = front + place; width = w - 1 })
position_of cs front k place w c size within is size_is place_is w_is = record {
  within = within;
  column = sym is;
  size = size_is;
  front_is = refl;
  place = omega (arith, place_is);
  width = omega (arith, w_is, column_width-positive c.kind);
}

-- it stands within a cell
pub position_within : (cs : List Column) (front k place w : ℕ) (c : Column) (size : ℕ) → k < length cs → c ≡ get_or cs k c
    → size ≡ front + width_of cs → place ≡ width_of (take k cs)
    → w ≡ column_width c.kind → (front < size) × (front + place + (w - 1) < size)
position_within cs front k place w c size within is size_is place_is w_is =
    let more : width_of (take k cs) + column_width (get_or cs k c).kind ≤ width_of cs = sum_by_more_le
    (λ (x : Column). column_width x.kind) cs k c within in
    let same : column_width (get_or cs k c).kind ≡ column_width c.kind = ap (λ (x : Column). column_width x.kind) (sym is) in (
      omega (arith, more, same, size_is, column_width-positive c.kind),
      omega
          (arith, more, same, size_is, place_is, w_is, column_width-positive c.kind),
    )

-- what is known of no rows has counted none
pub none_known : (items : List BoundItem) (tallies : List Tally) → tallies ≡ after items [] → AreTallies items tallies
none_known items tallies is = record {
  size = ap length is ∙ length-map items (λ (i : BoundItem). known i []);
  few = subst (λ (l : List Tally). All (λ t. count_of t ≤ 2 ^ 32) l) (sym is)
      (All-map (λ (t : Tally). count_of t ≤ 2 ^ 32) (λ (i : BoundItem). known i []) items
      (λ k d within. omega (arith, count_few (get_or items k d).function [])));
}

-- no bytes are the cells of no rows
pub no_rows : (cs : List Column) (front : ℕ) (cells : List ℕ) (found : List (Option Row)) → length cells ≡ 0
    → AreCellsWith cs front cells found → rows_in found ≡ []
no_rows cs front cells [] none are = refl
no_rows cs front cells (f ∷ found) none are = absurd
    (no_cell cs front (take (front + width_of cs) cells) f (omega (arith, length-take (front + width_of cs) cells, none)) are.0)

pub none_there : (cs : List Column) (front : ℕ) (cells : List ℕ) (found : List (Option Row)) (v : Fold) → length cells ≡ 0
    → AreCellsWith cs front cells found → Takes cs v (rows_in found) v
none_there cs front cells found v none are = subst (λ rows. Takes cs v rows v) (sym (no_rows cs front cells found none are))
    (none_taken cs v)

-- cells of so many bytes are as many as their length tells
pub row_cells_of : (n size len : ℕ) → 0 < size → len ≡ n * size → len ≡ len / size * size
row_cells_of n size len some whole = whole ∙ ap (λ k. k * size) (sym (mul-div_cancel n some) ∙ ap (λ l. l / size) (sym whole))

-- where there are bytes, one cell fits
pub one_there : (n size len : ℕ) → 0 < len → len ≡ n * size → size ≤ len
one_there zero size len some whole = absurd (omega (arith, some, whole))
one_there (suc n) size len some whole = omega (arith, whole, suc-mul n size)
