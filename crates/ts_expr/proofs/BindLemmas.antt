-- Items that are bound one after the other.
use Rattle.std.proofs.Common.{◌≡◌, List, [], ◌∷◌, ◌++◌, Result, Ok, Err, refl, sym, ◌∙◌, ap, append_assoc}
use Rattle.ts_base.specs.declared.refusal.Refusal.{Refusal}
use Rattle.ts_row.specs.declared.kind.Column.{Column}
use Rattle.ts_expr.specs.declared.item.Item.{Item}
use Rattle.ts_expr.specs.declared.item.BoundItem.{BoundItem}
use Rattle.ts_expr.specs.Aggregates.{Binding, bound, with_item, bound_items, with_columns, binding}
use Rattle.ts_expr.specs.Laws.{AreBoundAs}

-- items before others, if these are bound
abbrev pub before_items : List BoundItem → Result (List BoundItem) Refusal → Result (List BoundItem) Refusal
before_items front (Ok others) = Ok (front ++ others)
before_items front (Err why) = Err why

-- one more item is bound
pub before_more : (columns : List Column) (front : List BoundItem) (i : Item) (items : List Item) (one : BoundItem) → bound columns i ≡ Ok one →
    before_items front (bound_items columns (i ∷ items)) ≡ before_items (front ++ one ∷ []) (bound_items columns items)
before_more columns front i items one is = ap (λ r. before_items front (with_item r (bound_items columns items))) is ∙ by_others (bound_items columns items) where
  by_others : (others : Result (List BoundItem) Refusal) → before_items front (with_item (Ok one) others) ≡ before_items (front ++ one ∷ []) others
  by_others (Ok items) = ap (λ (l : List BoundItem). Ok l) (sym (append_assoc front (one ∷ []) items))
  by_others (Err why) = refl

-- an item is refused
pub before_refused : (columns : List Column) (front : List BoundItem) (i : Item) (items : List Item) (why : Refusal) → bound columns i ≡ Err why →
    before_items front (bound_items columns (i ∷ items)) ≡ Err why
before_refused columns front i items why is = ap (λ r. before_items front (with_item r (bound_items columns items))) is

-- each item is bound

-- where no item is refused, there is one bound item for each
pub bound_each : (columns : List Column) (items : List Item) (ones : List BoundItem) → AreBoundAs columns items ones →
    bound_items columns items ≡ Ok ones
bound_each columns [] [] is = refl
bound_each columns [] (one ∷ ones) is = absurd (cc)
bound_each columns (i ∷ items) [] is = absurd (cc)
bound_each columns (i ∷ items) (one ∷ ones) is =
    let here : bound columns i ≡ Ok one = cc in
    let others : bound_items columns items ≡ Ok ones = bound_each columns items ones (cc) in
    rw (here, others) refl

-- a list whose first item that can't be bound is this one
pub refused_first : (columns : List Column) (front : List Item) (ones : List BoundItem) (i : Item) (back : List Item) (why : Refusal) →
    AreBoundAs columns front ones → bound columns i ≡ Err why → bound_items columns (front ++ i ∷ back) ≡ Err why
refused_first columns [] ones i back why are refused = rw refused refl
refused_first columns (j ∷ front) [] i back why are refused = absurd (cc)
refused_first columns (j ∷ front) (one ∷ ones) i back why are refused =
    let here : bound columns j ≡ Ok one = cc in
    let others : bound_items columns (front ++ i ∷ back) ≡ Err why = refused_first columns front ones i back why (cc) refused in
    rw (here, others) refl

pub refused : (columns : List Column) (front : List Item) (ones : List BoundItem) (i : Item) (back : List Item) (why : Refusal) →
    AreBoundAs columns front ones → bound columns i ≡ Err why → binding columns (front ++ i ∷ back) ≡ Err why
refused columns front ones i back why are is = ap (with_columns columns) (refused_first columns front ones i back why are is)

pub bound_all : (columns : List Column) (items : List Item) (ones : List BoundItem) → AreBoundAs columns items ones →
    binding columns items ≡ Ok (record { columns = columns; items = ones })
bound_all columns items ones are = ap (with_columns columns) (bound_each columns items ones are)

-- and the other way round

record IsItemBefore (r : Result BoundItem Refusal) (rest : Result (List BoundItem) Refusal) (ones : List BoundItem) : Type 0 where
  one : BoundItem
  others : List BoundItem
  here : r ≡ Ok one
  behind : rest ≡ Ok others
  whole : ones ≡ one ∷ others

before_parts : (r : Result BoundItem Refusal) (rest : Result (List BoundItem) Refusal) (ones : List BoundItem) →
    with_item r rest ≡ Ok ones → IsItemBefore r rest ones
before_parts (Err why) rest ones is = absurd (cc)
before_parts (Ok one) (Err why) ones is = absurd (cc)
before_parts (Ok one) (Ok others) ones is = record { one = one; others = others; here = refl; behind = refl; whole = cc }

-- one more
bound_more : (columns : List Column) (i : Item) (items : List Item) (one : BoundItem) (others ones : List BoundItem) →
    bound columns i ≡ Ok one → AreBoundAs columns items others → ones ≡ one ∷ others → AreBoundAs columns (i ∷ items) ones
bound_more columns i items one others ones here behind whole =
    rw (whole, here) (ap (λ (l : List (Result BoundItem Refusal)). Ok one ∷ l) behind)

each_bound : (columns : List Column) (items : List Item) (ones : List BoundItem) → bound_items columns items ≡ Ok ones →
    AreBoundAs columns items ones
each_bound columns [] ones is = let none : ones ≡ [] = cc in rw none refl
each_bound columns (i ∷ items) ones is =
    let parts : IsItemBefore (bound columns i) (bound_items columns items) ones =
    before_parts (bound columns i) (bound_items columns items) ones is in
    bound_more columns i items parts.one parts.others ones parts.here (each_bound columns items parts.others parts.behind) parts.whole

made_parts : (columns : List Column) (items : Result (List BoundItem) Refusal) (made : Binding) → with_columns columns items ≡ Ok made →
    (items ≡ Ok made.items) × (made.columns ≡ columns)
made_parts columns (Err why) made is = absurd (cc)
made_parts columns (Ok ones) made is =
    let same : made ≡ record { columns = columns; items = ones } = cc in
    rw same (refl, refl)

pub each : (columns : List Column) (items : List Item) (made : Binding) → binding columns items ≡ Ok made →
    AreBoundAs columns items made.items × (made.columns ≡ columns)
each columns items made is =
    let parts : (bound_items columns items ≡ Ok made.items) × (made.columns ≡ columns) =
    made_parts columns (bound_items columns items) made is in
    (each_bound columns items made.items parts.0, parts.1)
