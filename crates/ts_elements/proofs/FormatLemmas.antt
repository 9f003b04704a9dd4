-- Elements of which none is hidden, with a visible row more, or with some of them gone.
use Rattle.std.proofs.Common.{◌≡◌, ℤ, Bool, true, false, ◌||◌, List, [], ◌∷◌, filter, refl}
use Rattle.std.specs.Prelude.{if◌then◌else◌}
use Rattle.std.specs.Ordering.{int_cmp}
use Rattle.std.specs.declared.cmp.Ordering.{Ordering}
use Rattle.std.specs.declared.cmp.Ordering.TheVariants.{Less, Equal, Greater}
use Rattle.std.specs.FinMap.Entries.{by_order}
use Rattle.ts_row.specs.Row.{Row, Element, has_hidden}
use Rattle.ts_irregular.specs.Edit.{with_element}

neither : (a b : Bool) → (a || b) ≡ false → (a ≡ false) × (b ≡ false)
neither false b none = (refl, none)
neither true b none = absurd (cc)

none_of : (a b : Bool) → a ≡ false → b ≡ false → (a || b) ≡ false
none_of a b one other = (λ i. one i || other i)

by_order_visible : (r : Ordering) (a b c : List Element) → has_hidden a ≡ false → has_hidden b ≡ false → has_hidden c ≡ false → has_hidden (by_order r a b c) ≡ false
by_order_visible Less a b c x y z = x
by_order_visible Equal a b c x y z = y
by_order_visible Greater a b c x y z = z

pub with_visible : (stamp : ℤ) (row : Row) (es : List Element) → has_hidden es ≡ false → row.hidden ≡ false → has_hidden (with_element stamp row es) ≡ false
with_visible stamp row [] none new = none_of row.hidden false new refl
with_visible stamp row (e ∷ es) none new =
    let parts = neither e.1.hidden (has_hidden es) none in
    by_order_visible (int_cmp stamp e.0) ((stamp, row) ∷ e ∷ es) ((e.0, row) ∷ es) (e ∷ with_element stamp row es)
    (none_of row.hidden (has_hidden (e ∷ es)) new none) (none_of row.hidden (has_hidden es) new parts.1) (none_of e.1.hidden (has_hidden (with_element stamp row es)) parts.0 (with_visible stamp row es parts.1 new))

-- the elements that a test keeps
kept_visible : (b : Bool) (e : Element) (left : List Element) → e.1.hidden ≡ false → has_hidden left ≡ false → has_hidden (if b then e ∷ left else left) ≡ false
kept_visible true e left one others = none_of e.1.hidden (has_hidden left) one others
kept_visible false e left one others = others

pub left_visible : (f : Element → Bool) (es : List Element) → has_hidden es ≡ false → has_hidden (filter f es) ≡ false
left_visible f [] none = refl
left_visible f (e ∷ es) none =
    let parts = neither e.1.hidden (has_hidden es) none in
    kept_visible (f e) e (filter f es) parts.0 (left_visible f es parts.1)
