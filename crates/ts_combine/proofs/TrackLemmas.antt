-- The reach of an element while a line is gone along, and the row that is held there.
use Rattle.std.proofs.Common.{◌≡◌, ◌∙◌, inl, inr, ℕ, zero, suc, ◌+◌, ◌<◌, ◌≤◌, Bool, true, false, cond, ℤ, ◌<ℤ◌, ◌≤ℤ◌, Option, Some, None, option_map, List, [], ◌∷◌, option_and_then, length, slice_get, refl, sym, ap, subst, arith}
use Rattle.std.specs.Prelude.{int_lt, not, ◌&&◌}
use Rattle.std.proofs.lemmas.Bool.{cases_lt}
use Rattle.std.proofs.lemmas.Int.{by_lt_z, ints}
use Rattle.std.proofs.lemmas.Option.{same_Some, slice_get-map, slice_get_within}
use Rattle.ts_row.specs.declared.row.Elem.{Elem}
use Rattle.ts_row.specs.Row.{Row, Element}
use Rattle.ts_irregular.specs.Edit.{element_at}
use Rattle.ts_calendar.specs.Calendars.{CalendarPlan, start_at}
use Rattle.ts_calendar.proofs.StampLemmas.{int_lt_yes, int_lt_no}
use Rattle.ts_offset.specs.Grid.{IsOnStart, held_start}
use Rattle.ts_offset.proofs.OwnLemmas.{from-held}
use Rattle.ts_combine.specs.Series.{side_of, IsSeries}
use Rattle.ts_entry.specs.Entry.{element_in, elements_in}
use Rattle.ts_combine.specs.Call.{row_at, IsIndex}
use Rattle.ts_combine.specs.Reach.{IsOnCalendar, IsReach, IsNext, row_held, reach_end, index_at}
use Rattle.ts_combine.specs.declared.reach.Reach.{Reach}
use Rattle.ts_combine.specs.declared.side.Side as given
use Rattle.ts_combine.proofs.ElementLemmas.{found-there, there-found, rising-at, stands-on}

-- no element before one holds a start of the line from a number on
pub record IsTracked (c line : CalendarPlan) (limit : ℤ) (elems : List Elem) (r : Reach) (at : ℤ) : Type 0 where
  pub reach : IsReach c line limit elems r
  pub passed : (i : ℕ) (e : Elem) → i < r.index → slice_get elems i ≡ Some e → IsOnStart c e.stamp
      → (k s : ℤ) → at ≤ℤ k → k <ℤ limit → start_at line k ≡ Some s → held_start c s ≡ Some e.stamp → ⊥

pub tracked-first : (c line : CalendarPlan) (limit : ℤ) (elems : List Elem) (r : Reach) (at : ℤ) → IsReach c line limit elems r → r.index ≡ 0 → IsTracked c line limit elems r at
tracked-first c line limit elems r at reach none = record { reach = reach; passed = λ i e lt there own k s from to start held. omega (arith, lt, none) }

-- an element as a pair
pair-of : (elems : List Elem) (i : ℕ) (e : Elem) → slice_get elems i ≡ Some e → slice_get (elements_in elems) i ≡ Some (e.stamp, e.row)
pair-of elems i e there = slice_get-map element_in elems i ∙ ap (option_map element_in) there

of-pair : (elems : List Elem) (i : ℕ) (x : Element) → slice_get (elements_in elems) i ≡ Some x → (e : Elem) × (slice_get elems i ≡ Some e) × (e.stamp ≡ x.0)
of-pair elems i x there = by (slice_get elems i) refl (sym (slice_get-map element_in elems i) ∙ there) where
  by : (o : Option Elem) → slice_get elems i ≡ o → ◌≡◌ {A = Option Element} (option_map element_in o) (Some x) → (e : Elem) × (slice_get elems i ≡ Some e) × (e.stamp ≡ x.0)
  by (Some e) is same = (e, is, ap (λ (y : Element). y.0) (same_Some (e.stamp, e.row) x same))
  by None is same = absurd (cc)

an-element : (elems : List Elem) (i : ℕ) → i < length elems → (e : Elem) × (slice_get elems i ≡ Some e)
an-element [] i lt = absurd (omega arith)
an-element (e ∷ elems) zero lt = (e, refl)
an-element (e ∷ elems) (suc i) lt = an-element elems i (omega arith)

index-none : (r : Reach) (at : ℤ) → at <ℤ r.low → index_at r at ≡ None
index-none r at lt = rw (int_lt_yes at r.low lt) refl

index-some : (r : Reach) (at : ℤ) → r.low ≤ℤ at → at <ℤ r.high → index_at r at ≡ Some r.index
index-some r at le lt = rw (int_lt_no at r.low le, int_lt_yes at r.high lt) refl

index-past : (r : Reach) (at : ℤ) → r.high ≤ℤ at → index_at r at ≡ None
index-past r at le = rw (int_lt_no at r.high le) (no-both (not (int_lt at r.low)) r.index)
  where
    no-both : (b : Bool) (i : ℕ) → cond (b && false) (Some i) None ≡ None
    no-both true i = refl
    no-both false i = refl

end-low : (r : Reach) (at : ℤ) → at <ℤ r.low → reach_end r at ≡ r.low
end-low r at lt = rw (int_lt_yes at r.low lt) refl

end-high : (r : Reach) (at : ℤ) → r.low ≤ℤ at → reach_end r at ≡ r.high
end-high r at le = rw (int_lt_no at r.low le) refl

-- an index that holds a start is that of an element
pub index-there : (c line : CalendarPlan) (limit : ℤ) (elems : List Elem) (r : Reach) (at : ℤ) → IsReach c line limit elems r → at <ℤ limit → IsIndex (length elems) (index_at r at)
index-there c line limit elems r at reach less = by_lt_z at r.low
    (λ low. subst (IsIndex (length elems)) (sym (index-none r at low)) tt)
    (λ from. by_lt_z at r.high
    (λ to. subst (IsIndex (length elems)) (sym (index-some r at from to)) (elim (cases_lt r.index (length elems)) [
      | inl within ↦ within
      | inr past ↦ absurd (let over = reach.over past in omega (arith, ints, over.0, from, less))
    ]))
    (λ high. subst (IsIndex (length elems)) (sym (index-past r at high)) tt))

module _ (side : given.Side) (c line : CalendarPlan) (limit : ℤ) (r : Reach) (at : ℤ) (series : IsSeries (side_of side)) (on : IsOnCalendar side.shape.now c)
    (track : IsTracked c line limit side.elems.now r at) where
  abbrev elems : List Elem
  elems = side.elems.now

  abbrev es : List Element
  es = elements_in side.elems.now

  stands : (i : ℕ) (e : Elem) → slice_get elems i ≡ Some e → IsOnStart c e.stamp
  stands i e there = stands-on (side_of side) c i (e.stamp, e.row) series on (pair-of elems i e there)

  -- a start that the reach holds has its element's row
  held-here : (k s : ℤ) → at ≤ℤ k → k <ℤ limit → start_at line k ≡ Some s → r.low ≤ℤ at → k <ℤ r.high → row_held c es s ≡ row_at es (index_at r at)
  held-here k s from less start low high =
      let over : length elems ≤ r.index → ⊥ = (λ past. let over = track.reach.over past in omega (arith, ints, over.0, from, less, low)) in
      let within : r.index < length elems = elim (cases_lt r.index (length elems)) [ inl lt ↦ lt | inr past ↦ absurd (over past) ] in
      let w = an-element elems r.index within in
      let e : Elem = w.0 in
      let held = (track.reach.here e w.1 (stands r.index e w.1)).held k s less (omega (arith, ints, from, low)) high start in
      let index = index-some r at low (omega (arith, ints, from, high)) in
      ap (option_and_then (λ t. element_at t es)) held ∙ found-there es r.index (e.stamp, e.row) series.rising (pair-of elems r.index e w.1)
      ∙ sym (ap (row_at es) index ∙ ap (option_map (λ x. x.1)) (pair-of elems r.index e w.1))

  -- before it no element holds a start
  none-before : (k s : ℤ) → at ≤ℤ k → k <ℤ limit → start_at line k ≡ Some s → k <ℤ r.low → (o : Option ℤ) → held_start c s ≡ o → option_and_then (λ t. element_at t es) o ≡ None
  none-before k s from less start low None held = refl
  none-before k s from less start low (Some t) held = by (element_at t es) refl where
    not-one : (row : Row) → element_at t es ≡ Some row → ⊥
    not-one row found =
        let x = there-found es t row found in
        let e = of-pair elems x.0 (t, row) x.1 in
        let own = stands x.0 e.0 e.1 in
        let held_by : held_start c s ≡ Some (e.0).stamp = held ∙ ap Some (sym e.2) in
        elim (cases_lt x.0 r.index) [
          | inl earlier ↦ track.passed x.0 e.0 earlier e.1 own k s from less start held_by
          | inr later ↦
              let within = slice_get_within elems x.0 e.0 e.1 in
              let w = an-element elems r.index (omega (arith, later, within)) in
              let here = track.reach.here w.0 w.1 (stands r.index w.0 w.1) in
              let early = here.early k s low start in
              let after = (from-held c s t held).held.after in
              let from_is = same_Some (from-held c s t held).held.from t (sym (from-held c s t held).held.exists_from ∙ (from-held c s t held).start) in
              elim (cases_lt r.index x.0) [
                | inl behind ↦
                    let rise = rising-at es r.index x.0 ((w.0).stamp, (w.0).row) (t, row) series.rising behind (pair-of elems r.index w.0 w.1) x.1 in
                    omega (arith, ints, early, after, from_is, rise)
                | inr same ↦
                    let one : r.index ≡ x.0 = omega (arith, later, same) in
                    let only = here.only k s less start (held ∙ ap Some (sym (ap (λ (y : Elem). y.stamp) (same_Some w.0 e.0 (sym w.1 ∙ ap (slice_get elems) one ∙ e.1)) ∙ e.2))) in
                    omega (arith, ints, only.0, low)
              ]
        ]

    by : (o : Option Row) → element_at t es ≡ o → element_at t es ≡ None
    by None is = is
    by (Some row) is = absurd (not-one row is)

  pub held-row : (k s : ℤ) → at ≤ℤ k → k <ℤ reach_end r at → k <ℤ limit → start_at line k ≡ Some s → row_held c es s ≡ row_at es (index_at r at)
  held-row k s from end less start = by_lt_z at r.low
      (λ low.
      let end_is = end-low r at low in
      none-before k s from less start (omega (arith, ints, end, end_is)) (held_start c s) refl ∙ sym (ap (row_at es) (index-none r at low)))
      (λ low.
      let end_is = end-high r at low in
      held-here k s from less start low (omega (arith, ints, end, end_is)))

-- a number further on
pub tracked-next : (c line : CalendarPlan) (limit : ℤ) (elems : List Elem) (r next : Reach) (at end : ℤ) → IsTracked c line limit elems r at → at ≤ℤ end
    → IsReach c line limit elems next → IsNext elems end r next → IsTracked c line limit elems next end
tracked-next c line limit elems r next at end track le reach (inl step) = record {
  reach = reach;
  passed = λ i e lt there own k s from to start held. elim (cases_lt i r.index) [
    | inl earlier ↦ track.passed i e earlier there own k s (omega (arith, ints, le, from)) to start held
    | inr last ↦
        let over = step.0 in
        let index = step.2 in
        let same : i ≡ r.index = omega (arith, lt, index, last) in
        let only = (track.reach.here e (sym (ap (slice_get elems) same) ∙ there) own).only k s to start held in
        omega (arith, ints, only.1, over, from)
  ];
}
tracked-next c line limit elems r next at end track le reach (inr stay) = record {
  reach = reach;
  passed = λ i e lt there own k s from to start held.
      track.passed i e (subst (λ (x : Reach). i < x.index) stay.1 lt) there own k s (omega (arith, ints, le, from)) to start held;
}

-- where the same element goes on to the number itself, the next one comes
pub reach-over : (c line : CalendarPlan) (limit : ℤ) (elems : List Elem) (r next : Reach) (at : ℤ) → IsReach c line limit elems r → at <ℤ limit → reach_end r at ≤ℤ at
    → IsNext elems at r next → (r.index < length elems) × (next.index ≡ r.index + 1)
reach-over c line limit elems r next at reach less over step = by_lt_z at r.low
    (λ low. let end = end-low r at low in absurd (omega (arith, ints, end, over, low)))
    (λ low. let end = end-high r at low in by_step (omega (arith, ints, end, over)) low step) where
      by_step : r.high ≤ℤ at → r.low ≤ℤ at → IsNext elems at r next → (r.index < length elems) × (next.index ≡ r.index + 1)
      by_step high low (inl step) = (step.1, step.2)
      by_step high low (inr (inl before, same)) = absurd (omega (arith, ints, before, high))
      by_step high low (inr (inr past, same)) = absurd (let end = reach.over past in omega (arith, ints, end.0, low, less))

-- it never goes back
pub reach-on : (elems : List Elem) (r next : Reach) (at : ℤ) → IsNext elems at r next → r.index ≤ next.index
reach-on elems r next at (inl step) = let index = step.2 in omega (arith, index)
reach-on elems r next at (inr stay) = let same = ap (λ (x : Reach). x.index) stay.1 in omega (arith, same)
