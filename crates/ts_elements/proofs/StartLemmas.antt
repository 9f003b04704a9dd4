-- Elements at offsets that have on starts: one more, and those that are left.
use Rattle.std.proofs.Common.{ℕ, Bool, IsSome, List, [], ◌∷◌, filter}
use Rattle.std.specs.Ordering.{nat_cmp}
use Rattle.std.specs.declared.cmp.Ordering.{Ordering}
use Rattle.std.specs.declared.cmp.Ordering.TheVariants.{Less, Equal, Greater}
use Rattle.std.specs.FinMap.Entries.{by_order}
use Rattle.std.proofs.lemmas.List.Elements.{All-cons, All-head, All-tail, All-filter}
use Rattle.ts_row.specs.Row.{Row}
use Rattle.ts_offset.specs.Grid.{GridPlan, stamp_of}
use Rattle.ts_regular.specs.RegularPage as offsets
use Rattle.ts_regular.specs.RegularPage.{OffsetElement}
use Rattle.ts_sheets.specs.Stamped.{HaveStarts}
use Rattle.ts_shelf.proofs.StartLemmas.{HasStart}

-- an element more at an offset with a start, and elements left
by_each : (grid : GridPlan) (r : Ordering) (a b c : List OffsetElement) → HaveStarts grid a → HaveStarts grid b → HaveStarts grid c → HaveStarts grid (by_order r a b c)
by_each grid Less a b c x y z = x
by_each grid Equal a b c x y z = y
by_each grid Greater a b c x y z = z

pub starts_put : (grid : GridPlan) (n : ℕ) (row : Row) (es : List OffsetElement) → IsSome (stamp_of grid n) → HaveStarts grid es → HaveStarts grid (offsets.with_element n row es)
starts_put grid n row [] some starts = All-cons (HasStart grid) (n, row) [] some starts
starts_put grid n row (e ∷ es) some starts =
    let first = All-head (HasStart grid) e es starts in
    let others = All-tail (HasStart grid) e es starts in
    by_each grid (nat_cmp n e.0) ((n, row) ∷ e ∷ es) ((e.0, row) ∷ es) (e ∷ offsets.with_element n row es)
    (All-cons (HasStart grid) (n, row) (e ∷ es) some starts) (All-cons (HasStart grid) (e.0, row) es first others)
    (All-cons (HasStart grid) e (offsets.with_element n row es) first (starts_put grid n row es some others))

pub starts_left : (grid : GridPlan) (f : OffsetElement → Bool) (es : List OffsetElement) → HaveStarts grid es → HaveStarts grid (filter f es)
starts_left grid f es starts = All-filter f (HasStart grid) es starts
