-- The elements that the pages of a series have: in the order of their stamps, and so many.
use Rattle.std.proofs.Common.{◌≡◌, ℕ, zero, suc, ◌<◌, ◌≤◌, ◌^◌, inl, inr, ℤ, Bool, true, false, cond, Some, IsSome, List, [], ◌∷◌, length, refl, sym, ap, subst, ◌∙◌, arith}
use Rattle.std.specs.Prelude.{filter, not, int_lt}
use Rattle.std.specs.List.{slice_get}
use Rattle.std.proofs.lemmas.List.Elements.{All-head, All-tail}
use Rattle.std.proofs.lemmas.Option.{same_Some}
use Rattle.std.proofs.lemmas.List.Filters.{length-filter_both}
use Rattle.ts_base.specs.Moment.{IsStamp}
use Rattle.ts_space.specs.declared.place.Place.{Place}
use Rattle.ts_space.specs.Place.{IsRising, count_of}
use Rattle.ts_row.specs.declared.kind.Column.{Column}
use Rattle.ts_row.specs.Row.{Element}
use Rattle.ts_cells.specs.IrregularPage.{AreInOrder, AreElements}
use Rattle.ts_cells.specs.IrregularPage as cells
use Rattle.ts_sheets.specs.Stamped.{AreLater, stamped, HaveStarts}
use Rattle.ts_sheets.proofs.OrderLemmas.{later_of, pages_in_order, rising_tail}
use Rattle.ts_regular.specs.RegularPage.{OffsetElement, AreRising}
use Rattle.ts_regular.specs.Places as regular
use Rattle.ts_regular.proofs.OffsetLemmas.{AreMore}
use Rattle.ts_regular.proofs.PlaceLemmas.{pages_rise}
use Rattle.ts_regular.proofs.CutsLemmas.{told_count}
use Rattle.ts_series.proofs.ChainLemmas.{counted}
use Rattle.ts_calendar.specs.Calendars.{IsLaid}
use Rattle.ts_offset.specs.Grid.{on_starts, GridPlan, stamp_of}
use Rattle.ts_offset.specs.declared.shape.Shape.{Shape}
use Rattle.ts_offset.specs.declared.shape.Shape.TheVariants.{Irregular, Regular}
use Rattle.ts_offset.proofs.StartLemmas.{on-line}
use Rattle.ts_offset.proofs.ListedLemmas.{start-listed}
use Rattle.ts_regular_edits.proofs.StampLemmas.{some_start, stamped_cons}
use Rattle.ts_sheets.proofs.StartLemmas.{stamps_rise}
use Rattle.ts_clip.specs.Series.{HaveElements}
use Rattle.ts_offset.specs.Shape.{IsLaidOut}
use Rattle.ts_aggregate.specs.Groups.{AreOrdered, AreGiven}
use Rattle.ts_aggregate.proofs.GroupLemmas.{IsOneOf}
use Rattle.ts_aggregate.proofs.StartLemmas.{at_one}

-- elements of pages with stamps
ordered_pages : (columns : List Column) (es : List Element) → AreElements columns es → cells.AreRising es → AreOrdered es
ordered_pages columns [] each rising = tt
ordered_pages columns (e ∷ es) each rising = (each.0.stamp, later_of e es rising, ordered_pages columns es each.1 (rising_tail e es rising))

-- an offset's start is a stamp
start_kept : (g : GridPlan) (s : ℤ) (xs : List ℤ) (n : ℕ) → slice_get (filter (λ x. not (int_lt x g.origin)) xs) n ≡ Some s → IsOneOf s xs
start_kept g s [] n is = absurd (cc)
start_kept g s (x ∷ xs) n is = by (not (int_lt x g.origin)) n is (λ m found. start_kept g s xs m found)
  where
    by : (b : Bool) (n : ℕ) → slice_get (cond b (x ∷ filter (λ x. not (int_lt x g.origin)) xs)
        (filter (λ x. not (int_lt x g.origin)) xs)) n ≡ Some s
        → ((m : ℕ) → slice_get (filter (λ x. not (int_lt x g.origin)) xs) m ≡ Some s → IsOneOf s xs) → IsOneOf s (x ∷ xs)
    by true zero found rest = inl (same_Some x s found)
    by true (suc n) found rest = inr (rest n found)
    by false n found rest = inr (rest n found)

stamp_told : (g : GridPlan) → IsLaid g.calendar → (n : ℕ) (s : ℤ) → stamp_of g n ≡ Some s → IsStamp s
stamp_told g laid n s is =
    let w = at_one (on_starts g.calendar) s (start_kept g s (on_starts g.calendar) n is) in
    let on = start-listed g.calendar s w.0 w.1 in
    (on-line g.calendar on.interval s laid on.start).1

-- elements at the on starts of rising offsets
module _ (g : GridPlan) where
  start_at : (e : OffsetElement) (es : List OffsetElement) → HaveStarts g (e ∷ es) → (t : ℤ) × (stamp_of g e.0 ≡ Some t)
  start_at e es starts = some_start (stamp_of g e.0) (All-head (λ (e : OffsetElement). IsSome (stamp_of g e.0)) e es starts)

  starts_rest : (e : OffsetElement) (es : List OffsetElement) → HaveStarts g (e ∷ es) → HaveStarts g es
  starts_rest e es starts = All-tail (λ (e : OffsetElement). IsSome (stamp_of g e.0)) e es starts

  pub count_stamped : (es : List OffsetElement) → HaveStarts g es → length (stamped g es) ≡ length es
  count_stamped [] starts = refl
  count_stamped (e ∷ es) starts =
      let t = start_at e es starts in
      ap length (stamped_cons g e.0 e.1 t.0 es t.1) ∙ ap suc (count_stamped es (starts_rest e es starts))

module _ (g : GridPlan) (laid : IsLaid g.calendar) where
  rest_rising : (e : OffsetElement) (es : List OffsetElement) → AreRising (e ∷ es) → AreRising es
  rest_rising e [] rising = tt
  rest_rising e (f ∷ es) rising = rising.1

  -- each of them behind an offset is later than its start
  later_stamped : (n : ℕ) (s : ℤ) → stamp_of g n ≡ Some s → (es : List OffsetElement) → AreMore n es → HaveStarts g es
      → AreLater s (stamped g es)
  later_stamped n s is [] more starts = tt
  later_stamped n s is (f ∷ es) more starts =
      let t = start_at g f es starts in
      let first = stamps_rise g laid n f.0 s t.0 more.0 is t.1 in
      subst (AreLater s) (sym (stamped_cons g f.0 f.1 t.0 es t.1)) (first, later_stamped n s is es more.1 (starts_rest g f es starts))

  more_rising : (n : ℕ) (e : OffsetElement) (es : List OffsetElement) → n ≤ e.0 → AreRising (e ∷ es) → AreMore n es
  more_rising n e [] low rising = tt
  more_rising n e (f ∷ es) low rising = let lt = rising.0 in (omega (arith, lt, low), more_rising n f es (omega (arith, lt, low)) rising.1)

  pub ordered_stamped : (es : List OffsetElement) → AreRising es → HaveStarts g es → AreOrdered (stamped g es)
  ordered_stamped [] rising starts = tt
  ordered_stamped (e ∷ es) rising starts =
      let t = start_at g e es starts in
      let rest = starts_rest g e es starts in
      subst AreOrdered (sym (stamped_cons g e.0 e.1 t.0 es t.1)) (
        stamp_told g laid e.0 t.0 t.1,
        later_stamped e.0 t.0 t.1 es (more_rising e.0 e es (omega arith) rising) rest,
        ordered_stamped es
            (rest_rising e es rising) rest,
      )

-- a filter keeps elements in order
later_kept : (q : Element → Bool) (s : ℤ) (es : List Element) → AreLater s es → AreLater s (filter q es)
later_kept q s [] later = tt
later_kept q s (e ∷ es) later = by (q e) (later_kept q s es later.1)
  where
    by : (b : Bool) → AreLater s (filter q es) → AreLater s (cond b (e ∷ filter q es) (filter q es))
    by true rest = (later.0, rest)
    by false rest = rest

ordered_kept : (q : Element → Bool) (es : List Element) → AreOrdered es → AreOrdered (filter q es)
ordered_kept q [] ordered = tt
ordered_kept q (e ∷ es) ordered = by (q e) (ordered_kept q es ordered.2)
  where
    by : (b : Bool) → AreOrdered (filter q es) → AreOrdered (cond b (e ∷ filter q es) (filter q es))
    by true rest = (ordered.0, later_kept q e.0 es ordered.1, rest)
    by false rest = rest

pub few_kept : (q : Element → Bool) (es : List Element) → length (filter q es) ≤ length es
few_kept q es = omega (arith, length-filter_both q (λ (e : Element). not (q e)) (λ e. refl) es)

pub given_kept : (q : Element → Bool) (es : List Element) → AreGiven es → AreGiven (filter q es)
given_kept q es given = record { ordered = ordered_kept q es given.ordered; few = omega (arith, few_kept q es, given.few) }

-- how many elements the pages have
pub count_told : (shape : Shape) (slot : ℕ) (columns : List Column) (pages : ℕ → List ℕ) (places : List Place) (es : List Element)
    → HaveElements shape slot columns pages places es → length es ≡ count_of places
count_told Irregular slot columns pages places es have = sym (ap length have.all) ∙ counted slot columns pages places have.chain have.on
count_told (Regular grid) slot columns pages places es have =
    sym (ap length have.all) ∙ count_stamped grid (regular.all_in have.cells) have.starts
    ∙ told_count slot columns pages places have.cells have.on

pub given_told : (shape : Shape) (slot : ℕ) (columns : List Column) (pages : ℕ → List ℕ) (places : List Place) (es : List Element)
    → IsLaidOut shape → IsRising places → count_of places < 2 ^ 32
    → HaveElements shape slot columns pages places es → AreGiven es
given_told Irregular slot columns pages places es laid rising few have =
    let order = subst (AreInOrder columns) have.all (pages_in_order columns have.chain have.is.pages) in
    record {
      ordered = ordered_pages columns es order.each order.rising;
      few = omega
          (arith, few, count_told Irregular slot columns pages places es have);
    }
given_told (Regular grid) slot columns pages places es laid rising few have = record {
  ordered = subst AreOrdered have.all (ordered_stamped grid laid (regular.all_in have.cells)
      (pages_rise slot columns pages places have.cells have.on rising) have.starts);
  few = omega (arith, few, count_told (Regular grid) slot columns pages places es have);
}
