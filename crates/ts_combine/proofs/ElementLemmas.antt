-- Elements in order of their stamps, by their indices.
use Rattle.std.proofs.Common.{◌≡◌, ◌∙◌, ℕ, zero, suc, ◌<◌, Bool, true, false, cond, ℤ, ◌<ℤ◌, Some, List, [], ◌∷◌, filter, slice_get, sym, ap, subst, arith}
use Rattle.std.proofs.lemmas.Int.{by_lt_z, ints}
use Rattle.std.proofs.lemmas.Option.{same_Some}
use Rattle.ts_row.specs.Row.{Row, Element}
use Rattle.ts_cells.specs.IrregularPage.{AreRising}
use Rattle.ts_irregular.specs.Edit.{element_at}
use Rattle.ts_irregular.proofs.EditLemmas.{AreRising-tail, element_at-lower, element_at-higher, element_at-same}
use Rattle.ts_calendar.specs.Calendars.{CalendarPlan}
use Rattle.ts_offset.specs.Grid.{IsOnStart, on_starts, GridPlan}
use Rattle.ts_offset.specs.declared.shape.Shape.{Shape}
use Rattle.ts_offset.specs.declared.shape.Shape.TheVariants.{Irregular, Regular}
use Rattle.ts_offset.proofs.ListedLemmas.{start-listed}
use Rattle.ts_combine.specs.Combine.{Side}
use Rattle.ts_combine.specs.Series.{IsStartOf, AreOnStarts, IsSeries}
use Rattle.ts_combine.specs.Reach.{IsOnCalendar}
use Rattle.ts_combine.proofs.OrderLemmas.{AreLater, later-rising}

later-at : (s : ℤ) (es : List Element) (i : ℕ) (e : Element) → AreLater s es → slice_get es i ≡ Some e → s <ℤ e.0
later-at s [] i e later there = absurd (cc)
later-at s (x ∷ es) zero e later there = let same : x ≡ e = same_Some x e there in subst (λ (y : Element). s <ℤ y.0) same later.0
later-at s (x ∷ es) (suc i) e later there = later-at s es i e later.1 there

-- an element is found at its stamp
pub found-there : (es : List Element) (i : ℕ) (e : Element) → AreRising es → slice_get es i ≡ Some e → element_at e.0 es ≡ Some e.1
found-there [] i e rising there = absurd (cc)
found-there (x ∷ es) zero e rising there =
    let same : x ≡ e = same_Some x e there in
    let at : x.0 ≡ e.0 = ap (λ (y : Element). y.0) same in
    element_at-same e.0 x es (omega (arith, ints, at)) (omega (arith, ints, at)) ∙ ap (λ (y : Element). Some y.1) same
found-there (x ∷ es) (suc i) e rising there =
    element_at-lower e.0 x es (later-at x.0 es i e (later-rising x es rising) there) ∙ found-there es i e (AreRising-tail x es rising) there

-- what is found at a stamp has an index
pub there-found : (es : List Element) (stamp : ℤ) (row : Row) → element_at stamp es ≡ Some row → (i : ℕ) × (slice_get es i ≡ Some (stamp, row))
there-found [] stamp row found = absurd (cc)
there-found (x ∷ es) stamp row found = by_lt_z x.0 stamp
    (λ low. let w = there-found es stamp row (sym (element_at-lower stamp x es low) ∙ found) in (suc w.0, w.1))
    (λ high. by_lt_z stamp x.0
    (λ above. let w = there-found es stamp row (sym (element_at-higher stamp x es above) ∙ found) in (suc w.0, w.1))
    (λ below.
    let at : x.0 ≡ stamp = omega (arith, ints, high, below) in
    let same : x.1 ≡ row = same_Some x.1 row (sym (element_at-same stamp x es high below) ∙ found) in
    (zero, ap (λ (s : ℤ). Some (s, x.1)) at ∙ ap (λ (r : Row). Some (stamp, r)) same)))

-- a later index has a later stamp
pub rising-at : (es : List Element) (i j : ℕ) (e f : Element) → AreRising es → i < j → slice_get es i ≡ Some e → slice_get es j ≡ Some f → e.0 <ℤ f.0
rising-at [] i j e f rising lt a b = absurd (cc)
rising-at (x ∷ es) i zero e f rising lt a b = absurd (omega arith)
rising-at (x ∷ es) zero (suc j) e f rising lt a b =
    let same : x ≡ e = same_Some x e a in
    subst (λ (y : Element). y.0 <ℤ f.0) same (later-at x.0 es j f (later-rising x es rising) b)
rising-at (x ∷ es) (suc i) (suc j) e f rising lt a b = rising-at es i j e f (AreRising-tail x es rising) (omega arith) a b

-- what is kept of a list was in it
was-there : (p : ℤ → Bool) (xs : List ℤ) (n : ℕ) (s : ℤ) → slice_get (filter p xs) n ≡ Some s → (m : ℕ) × (slice_get xs m ≡ Some s)
was-there p [] n s at = absurd (cc)
was-there p (x ∷ xs) n s at = by (p x) n at (λ k e. was-there p xs k s e) where
  by : (b : Bool) (n : ℕ) → slice_get (cond b (x ∷ filter p xs) (filter p xs)) n ≡ Some s
      → ((k : ℕ) → slice_get (filter p xs) k ≡ Some s → (m : ℕ) × (slice_get xs m ≡ Some s)) → (m : ℕ) × (slice_get (x ∷ xs) m ≡ Some s)
  by true zero at more = (zero, at)
  by true (suc k) at more = let w = more k at in (suc w.0, w.1)
  by false n at more = let w = more n at in (suc w.0, w.1)

-- an element of a series on a calendar stands at an on start
start-of : (grid : GridPlan) (stamp : ℤ) → IsStartOf grid stamp → IsOnStart grid.calendar stamp
start-of grid stamp start =
    let w = was-there _ (on_starts grid.calendar) start.0 stamp start.1 in
    start-listed grid.calendar stamp w.0 w.1

pub stands-on : (s : Side) (c : CalendarPlan) (i : ℕ) (e : Element) → IsSeries s → IsOnCalendar s.shape c → slice_get s.elements i ≡ Some e → IsOnStart c e.0
stands-on s c i e series on there = by s.shape series.on_starts on where
  by : (shape : Shape) → AreOnStarts shape s.elements → IsOnCalendar shape c → IsOnStart c e.0
  by Irregular starts on = absurd on
  by (Regular grid) starts on = subst (λ (d : CalendarPlan). IsOnStart d e.0) (sym on) (start-of grid e.0 (starts e.0 e.1 (found-there s.elements i e series.rising there)))
