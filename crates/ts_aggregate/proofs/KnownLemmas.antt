-- What is known of a column, from one item to the next.
use Rattle.std.proofs.Common.{◌≡◌, ℕ, ◌+◌, ◌-◌, ◌*◌, ◌<◌, ◌≤◌, ◌^◌, ℤ, Bool, true, false, if◌then◌else◌, IsTrue, List, length, map, take, fold, get_or, refl, sym, ap, subst, ◌∙◌, arith}
use Rattle.std.proofs.lemmas.List.{get_or_read, get_or_default, length-map}
use Rattle.ts_row.specs.declared.kind.Column.{Column}
use Rattle.ts_row.specs.declared.kind.ColumnKind.{ColumnKind}
use Rattle.ts_row.specs.declared.value.Value.TheVariants.{Number}
use Rattle.ts_row.specs.Row.{column_width, width_of}
use Rattle.ts_row.specs.Decoding.{number_in}
use Rattle.ts_expr.specs.declared.item.BoundItem.{BoundItem}
use Rattle.ts_expr.specs.declared.tally.Tally.{Tally}
use Rattle.ts_expr.specs.Aggregates.{is_text_kind}
use Rattle.ts_expr.specs.Running.{count_of, with_value}
use Rattle.ts_aggregate.specs.declared.cells.RowCells.{RowCells}
use Rattle.ts_aggregate.specs.declared.cells.ValuePosition.{ValuePosition}
use Rattle.ts_aggregate.specs.declared.totals.Totals.{Totals}
use Rattle.ts_aggregate.specs.Column.{found_in}
use Rattle.ts_aggregate.specs.Totals.{AreKnown, AreTotals}
use Rattle.ts_aggregate.specs.KnownColumns.{a_column, kind_at, position_at, numbers_at, IsKnown}
use Rattle.ts_aggregate.proofs.ColumnLemmas.{HasNumbers, all_numbers}
use Rattle.ts_aggregate.proofs.FoldingLemmas.{ItemTakes, item_takes, position_of}

-- where a column stands, by what was found of it
abbrev position : RowCells → ℕ → ℕ → ValuePosition
position r place w = record { size = r.size; front = r.front; place = r.front + place; width = w - 1 }

-- the kind of a column
pub same_kind : (cs : List Column) (column : ℕ) (c : Column) → column < length cs → c ≡ get_or cs column c → c.kind ≡ kind_at cs column
same_kind cs column c within is = ap (λ (x : Column). x.kind) (get_or_read cs column c within is a_column)

pub same_read : (cs : List Column) (r : RowCells) (column place w : ℕ) (c : Column) → column < length cs → c ≡ get_or cs column c
    → place ≡ width_of (take column cs) → w ≡ column_width c.kind
    → map (number_in c.kind) (found_in (position r place w) r.left r.bytes.now) ≡ numbers_at cs r column
same_read cs r column place w c within is place_is w_is =
    let kind : c.kind ≡ kind_at cs column = same_kind cs column c within is in
    ap (λ (k : ColumnKind). map (number_in k) (found_in (position r place w) r.left r.bytes.now)) kind
    ∙ ap (λ (n : ℕ). map (number_in (kind_at cs column)) (found_in (position r n w) r.left r.bytes.now)) place_is
    ∙ ap (λ (n : ℕ). map (number_in (kind_at cs column)) (found_in (position r (width_of (take column cs)) n) r.left r.bytes.now))
    (w_is ∙ ap column_width kind)

-- what was told of a column is known, or else what was known before
pub known_again : (cs : List Column) (r : RowCells) (column before after : ℕ) (told : Bool) (old new : Totals) (kind : ColumnKind) (zs : List ℤ)
    → after ≡ (if told then column else before)
    → (before < length cs → IsKnown cs r before old)
    → (IsTrue told → AreKnown zs new) → (IsTrue told → is_text_kind kind ≡ false) → (told ≡ false → new ≡ old)
    → kind ≡ kind_at cs column → zs ≡ numbers_at cs r column
    → after < length cs → IsKnown cs r after new
known_again cs r column before after true old new kind zs is was known numbers same kind_is zs_is within =
    subst (λ (n : ℕ). IsKnown cs r n new) (sym is)
    (record {
      numbers = ap is_text_kind (sym kind_is) ∙ numbers refl;
      known = subst (λ (l : List ℤ). AreKnown l new) zs_is (known refl);
    })
known_again cs r column before after false old new kind zs is was known numbers same kind_is zs_is within =
    subst (λ (n : ℕ). IsKnown cs r n new) (sym is)
    (subst (λ (t : Totals). IsKnown cs r before t) (sym (same refl)) (was (subst (λ (n : ℕ). n < length cs) is within)))

has_numbers : (kind : ColumnKind) → is_text_kind kind ≡ false → HasNumbers kind
has_numbers kind numbers = λ most is.
    let both : true ≡ false = sym (ap is_text_kind is) ∙ numbers in
    cc

-- an item takes the rows in cells where it takes the numbers of its column, which are known
pub item_known : (cs : List Column) (r : RowCells) (i : BoundItem) (old new : Tally) (totals : Totals) → i.column < length cs
    → r.size ≡ r.front + width_of cs → 0 < r.size → length r.bytes.now ≡ r.left * r.size
    → IsKnown cs r i.column totals
    → ((zs : List ℤ) → AreTotals zs totals → count_of old + length zs ≤ 2 ^ 32 → new ≡ fold with_value old (map (λ z. Number z) zs))
    → ItemTakes cs r.front r.bytes.now i old new
item_known cs r i old new totals within size some whole is took =
    let column : Column = get_or cs i.column a_column in
    let kind : ColumnKind = kind_at cs i.column in
    let s : ValuePosition = position_at cs r i.column in
    let values : List (List ℕ) = found_in s r.left r.bytes.now in
    item_takes cs r.front column s r.left r.bytes.now i old new
    (position_of cs r.front i.column (width_of (take i.column cs)) (column_width kind) column r.size within
    (get_or_default cs i.column a_column column within) size refl refl)
    some whole
    (λ small few. took (map (number_in kind) values) (is.known.exact small) (omega (arith, few, length-map values (number_in kind)))
    ∙ ap (fold with_value old) (sym (all_numbers kind (has_numbers kind is.numbers) values)))
