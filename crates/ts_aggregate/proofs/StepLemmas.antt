-- One step of one that groups elements.
use Rattle.std.proofs.Common.{◌≡◌, ℕ, ◌+◌, ◌<◌, ◌≤◌, ◌^◌, ℤ, ◌<ℤ◌, Bool, Option, Some, None, List, [], ◌∷◌, ◌++◌, length, refl, sym, ap, subst, ◌∙◌, arith, append_assoc, length-append, cond, true, false, map}
use Rattle.std.specs.Prelude.{filter, not}
use Rattle.std.proofs.lemmas.Int.{ints}
use Rattle.std.proofs.lemmas.List.{map-append, length-map}
use Rattle.std.proofs.lemmas.List.Elements.{filter-append}
use Rattle.std.proofs.lemmas.List.Filters.{length-filter_both}
use Rattle.std.proofs.lemmas.Option.{same_Some}
use Rattle.ts_base.specs.Moment.{IsStamp}
use Rattle.ts_row.specs.declared.kind.Column.{Column}
use Rattle.ts_row.specs.Row.{Row, Element, seen}
use Rattle.ts_row.specs.declared.value.Value.{Value}
use Rattle.ts_calendar.specs.Calendars.{CalendarPlan, IsBefore}
use Rattle.ts_sheets.specs.Stamped.{AreEarlier, AreLater}
use Rattle.ts_sheets.proofs.OrderLemmas.{earlier_both, earlier_than, earlier_back}
use Rattle.ts_offset.specs.Grid.{held_start}
use Rattle.ts_offset.proofs.OwnLemmas.{from-held}
use Rattle.ts_entry.specs.Entry.{Group}
use Rattle.ts_base.specs.Answer.{most_rows}
use Rattle.ts_expr.specs.Aggregates.{Binding, folded_row, values_of, value_at, is_null}
use Rattle.ts_expr.specs.Running.{after, tally_of}
use Rattle.ts_expr.specs.declared.item.BoundItem.{BoundItem}
use Rattle.ts_expr.proofs.CallerLemmas.{values_all}
use Rattle.ts_clip.proofs.ChainCellLemmas.{seen_hidden}
use Rattle.ts_aggregate.specs.declared.span.Span.{Span}
use Rattle.ts_aggregate.specs.Fold.{Fold, HasTaken, most_folded}
use Rattle.ts_aggregate.specs.Groups.{WantedPlan, Grouping, grouping, IsBound, IsSpan, AreWithin, IsGoingOn, AreHeldBy, MayBeOpen, open_group, IsFilled, open_count, closed, rows_of, made_of, AreOrdered, AreGiven, AreBefore, MayTake, Stands, Waits, AreMade, AreGrouped, IsClosed, IsReady}
use Rattle.ts_aggregate.specs.GroupLaws.{given_front, made_same}
use Rattle.ts_aggregate.proofs.GroupLemmas.{Each}
use Rattle.ts_aggregate.proofs.ToldLemmas.{given_kept}
use Rattle.ts_aggregate.proofs.StartLemmas.{passed_over, closed_same, open_more, closed_all, open_none, closed_last, group_held, none_grouped}

-- the last of ordered elements
last_earlier : (es : List Element) (e : Element) → AreOrdered (es ++ e ∷ []) → AreEarlier e.0 es
last_earlier [] e ordered = tt
last_earlier (f ∷ es) e ordered = (last_of f.0 es ordered.1, last_earlier es e ordered.2)
  where
    last_of : (t : ℤ) (es : List Element) → AreLater t (es ++ e ∷ []) → t <ℤ e.0
    last_of t [] later = later.0
    last_of t (f ∷ es) later = last_of t es later.1

last_stamp : (es : List Element) (e : Element) → AreOrdered (es ++ e ∷ []) → IsStamp e.0
last_stamp [] e ordered = ordered.0
last_stamp (f ∷ es) e ordered = last_stamp es e ordered.2

-- elements before a stamp stand before an end behind it
within_by : (at : ℤ) (end : Option ℤ) (es : List Element) → IsBefore at end → AreEarlier at es → AreWithin end es
within_by at None es here earlier = tt
within_by at (Some end) es here earlier = earlier_than at end es (omega (arith, ints, here)) earlier

within_more : (end : Option ℤ) (es : List Element) (e : Element) → IsBefore e.0 end → AreWithin end es → AreWithin end (es ++ e ∷ [])
within_more None es e here within = tt
within_more (Some end) es e here within = earlier_both end es (e ∷ []) within (here, tt)

few_kept : (test : Element → Bool) (es : List Element) → length (filter test es) ≤ length es
few_kept test es = omega (arith, length-filter_both test (λ (e : Element). not (test e)) (λ e. refl) es)

-- an element whose span goes on
pub waits_on : (v : Grouping) (at : ℤ) (given : List Element) → IsBefore at v.span.end → AreEarlier at given → Stands v given
    → Waits v at given
waits_on v at given here earlier stands = record {
  within = stands.going.within;
  span = record {
    laid = stands.going.laid;
    here = here;
    inside = λ t stamp after before. stands.going.inside t stamp (earlier_than at t given after earlier) before;
    bound = stands.going.bound;
  };
  group = stands.group;
  folded = stands.folded;
  number = stands.number;
  few = omega (arith, stands.few);
}

module _ {V : Type 0} (took : V → List Element → V → Type 0) (none : (x : V) → took x [] x) where
  pub ready_on : (v : Grouping) (x : V) (at : ℤ) → IsBefore at v.span.end → IsReady took v x at v x
  ready_on v x at here = record {
    same = record { wanted = refl; binding = refl; more = omega arith };
    taken = λ given are earlier stands. (
      waits_on v at given here earlier stands,
      made_same took none v.fold.binding.items (closed v.wanted v.span.start given) (closed v.wanted v.span.start given) v.count x refl,
    );
  }

  -- no group is open
  pub closed_none : (v : Grouping) (x : V) → v.span.start ≡ None → IsClosed took v x v x
  closed_none v x start = record {
    same = record { wanted = refl; binding = refl; more = omega arith };
    taken = λ given are stands. (
      record {
        folded = subst (λ (o : Option ℤ). HasTaken v.fold (rows_of (open_group v.wanted o given))) start stands.folded;
        number = stands.number ∙ ap (λ (o : Option ℤ). length (closed v.wanted o given)) start;
        few = omega (arith, stands.few);
      },
      made_same took none v.fold.binding.items (closed v.wanted v.span.start given) (closed v.wanted None given) v.count x
          (sym (ap (λ (o : Option ℤ). closed v.wanted o given) start)),
    );
  }

-- one is open, which is handed on
module _ {V : Type 0} (took : V → List Element → V → Type 0) where
  closing : (wanted : WantedPlan) (s : ℤ) (end : Option ℤ) (fold fold' : Fold) (count count' : ℕ) (row : Row) (x y : V)
      → ((rows : List Row) → HasTaken fold rows → length rows ≤ most_folded → row ≡ folded_row fold.binding.items rows) → HasTaken fold' []
      → (count + 1 < 2 ^ 64 → count' ≡ count + 1) → (count' ≤ most_rows → took x ((s, row) ∷ []) y)
      → (given : List Element) → AreGiven given → Stands (grouping wanted (record { start = Some s; end = end }) fold count) given
      → (count' ≡ length (closed wanted None given)) × (count' ≤ length given)
      × AreMade took fold.binding.items (closed wanted (Some s) given) (closed wanted None given) count' x y
  closing wanted s end fold fold' count count' row x y made empty more handed given are stands =
      let group : List Element = open_group wanted (Some s) given in
      let last : closed wanted None given ≡ closed wanted (Some s) given ++
      (s, group) ∷ [] = closed_last wanted s given stands.group stands.filled in
      let fewer : length group ≤ length given = few_kept _ given in
      let few : count + 1 ≤ length given = omega (arith, stands.few) in
      let one : count' ≡ count + 1 = more (omega (arith, few, are.few)) in
      let rows : length (rows_of group) ≡ length group = length-map group (λ (e : Element). e.1) in
      let is : row ≡ folded_row fold.binding.items (rows_of group) = made (rows_of group) stands.folded
      (omega (arith, rows, fewer, are.few)) in (
        one ∙ omega (arith, stands.number, ap length last, length-append (closed wanted (Some s) given) ((s, group) ∷ [])),
        omega (arith, one, few),
        record {
          rows = (s, row) ∷ [];
          behind = ap (made_of fold.binding.items) last
              ∙ map-append (λ (g : Group). (g.0, folded_row fold.binding.items (rows_of g.1))) (closed wanted (Some s) given)
              ((s, group) ∷ [])
              ∙ ap (λ (r : Row). made_of fold.binding.items (closed wanted (Some s) given) ++ (s, r) ∷ []) (sym is);
          taken = handed;
        },
      )

  pub closed_some : (v w : Grouping) (x y : V) (s : ℤ) (row : Row) → v.span.start ≡ Some s → w.wanted ≡ v.wanted
      → w.fold.binding ≡ v.fold.binding
      → ((rows : List Row) → HasTaken v.fold rows → length rows ≤ most_folded → row ≡ folded_row v.fold.binding.items rows)
      → HasTaken w.fold []
      → (v.count + 1 < 2 ^ 64 → w.count ≡ v.count + 1) → v.count ≤ w.count → (w.count ≤ most_rows → took x ((s, row) ∷ []) y)
      → IsClosed took v x w y
  closed_some v w x y s row start wanted binding made empty more order handed = record {
    same = record { wanted = wanted; binding = binding; more = order };
    taken = λ given are stands.
        let same : v ≡ grouping v.wanted (record { start = Some s; end = v.span.end }) v.fold v.count = ap
        (λ (o : Option ℤ). grouping v.wanted (record { start = o; end = v.span.end }) v.fold v.count) start in
        let c = closing v.wanted s v.span.end v.fold w.fold v.count w.count row x y made empty more handed given are
        (subst (λ (u : Grouping). Stands u given) same stands) in (
          record {
            folded = empty;
            number = c.0 ∙ ap (λ (a : WantedPlan). length (closed a None given)) (sym wanted);
            few = c.1;
          },
          subst (λ (o : Option ℤ). AreMade took v.fold.binding.items (closed v.wanted o given) (closed v.wanted None given) w.count x y)
              (sym start) c.2,
        );
  }

-- each of the elements before an end is held by an interval before the one that holds a stamp behind it
lower_all : (calendar : CalendarPlan) (end : Option ℤ) (at s : ℤ) → IsBound calendar end → (IsBefore at end → ⊥)
    → held_start calendar at ≡ Some s → (es : List Element) → AreWithin end es
    → Each (λ e. (z : ℤ) → held_start calendar e.0 ≡ Some z → z <ℤ s) es
lower_all calendar end at s bound behind held [] within = tt
lower_all calendar None at s bound behind held (e ∷ es) within = absurd (behind tt)
lower_all calendar (Some end) at s bound behind held (e ∷ es) within =
    (λ z own. bound e.0 at z s within.0 behind own held, lower_all calendar (Some end) at s bound behind held es within.1)

held_by : (calendar : CalendarPlan) (s : ℤ) (es : List Element) → Each (λ e. (z : ℤ) → held_start calendar e.0 ≡ Some z → z <ℤ s) es
    → AreHeldBy calendar s es
held_by calendar s [] lower = tt
held_by calendar s (e ∷ es) lower = (λ z own. let lt = lower.0 z own in omega (arith, ints, lt), held_by calendar s es lower.1)

-- the span of an element that begins one
turning : (wanted : WantedPlan) (old : Option ℤ) (at : ℤ) (start end : Option ℤ) (fold : Fold) (count : ℕ) (given : List Element)
    → IsStamp at → IsBound wanted.calendar old → (IsBefore at old → ⊥) → AreWithin old given → AreEarlier at given
    → IsSpan wanted at (record { start = start; end = end }) → HasTaken fold [] → count ≡ length (closed wanted None given)
    → count ≤ length given
    → Waits (grouping wanted (record { start = start; end = end }) fold count) at given
    × (closed wanted start given ≡ closed wanted None given)
turning wanted old at None end fold count given stamp bound behind within earlier span empty number few = (
  record {
    within = within_by at end given span.here earlier;
    span = span;
    group = tt;
    folded = empty;
    number = number;
    few = few;
  },
  refl,
)
turning wanted old at (Some s) end fold count given stamp bound behind within earlier span empty number few =
    let own = group_held wanted (held_start wanted.calendar at) s (span.inside at stamp (omega (arith, ints)) span.here) in
    let lower = lower_all wanted.calendar old at s bound behind own.0 given within in
    let from = from-held wanted.calendar at s own.0 in
    let same : closed wanted (Some s) given ≡ closed wanted None given = closed_all wanted s given lower in (
      record {
        within = within_by at end given span.here earlier;
        span = span;
        group = record {
          laid = span.laid;
          on = record { interval = from.interval; on = from.on; start = from.start };
          asked = own.1;
          last = held_by wanted.calendar s given lower;
        };
        folded = subst (λ (l : List Element). HasTaken fold (rows_of l)) (sym (open_none wanted s given lower)) empty;
        number = number ∙ ap length (sym same);
        few = few;
      },
      same,
    )

pub ready_turned : {V : Type 0} (took : V → List Element → V → Type 0) (v u : Grouping) (span : Span) (x y : V) (at : ℤ) → IsStamp at
    → (IsBefore at v.span.end → ⊥) → IsClosed took v x u y → IsSpan u.wanted at span
    → IsReady took v x at (grouping u.wanted span u.fold u.count) y
ready_turned took v u span x y at stamp behind p is = record {
  same = record { wanted = p.same.wanted; binding = p.same.binding; more = p.same.more };
  taken = λ given are earlier stands.
      let c = p.taken given are stands in
      let bound = subst (λ (a : WantedPlan). IsBound a.calendar v.span.end) (sym p.same.wanted) stands.going.bound in
      let t = turning u.wanted v.span.end at span.start span.end u.fold u.count given stamp bound behind
      stands.going.within earlier is c.0.folded c.0.number c.0.few in (
        t.0,
        subst (λ (l : List Group). AreMade took v.fold.binding.items (closed v.wanted v.span.start given) l u.count x y)
            (sym (ap (λ (a : WantedPlan). closed a span.start given) (sym p.same.wanted) ∙ t.1
            ∙ ap (λ (a : WantedPlan). closed a None given) p.same.wanted)) c.1,
      );
}

-- an element that was awaited is taken
held_more : (calendar : CalendarPlan) (s : ℤ) (es : List Element) (e : Element) → held_start calendar e.0 ≡ Some s
    → AreHeldBy calendar s es → AreHeldBy calendar s (es ++ e ∷ [])
held_more calendar s [] e own by_ = (λ z held. let same : s ≡ z = same_Some s z (sym own ∙ held) in omega (arith, ints, same), tt)
held_more calendar s (f ∷ es) e own by_ = (by_.0, held_more calendar s es e own by_.1)

going_more : (wanted : WantedPlan) (span : Span) (given : List Element) (e : Element) → AreWithin span.end given → IsSpan wanted e.0 span
    → IsGoingOn wanted span (given ++ e ∷ [])
going_more wanted span given e within is = record {
  laid = is.laid;
  within = within_more span.end given e is.here within;
  inside = λ t stamp earlier before.
      let last = earlier_back t given (e ∷ []) earlier in
      is.inside t stamp (let lt = last.0 in omega (arith, ints, lt)) before;
  bound = is.bound;
}

-- of some elements those that belong to an open group
abbrev own_of : Option ℤ → List Element → List Element
own_of None es = []
own_of (Some s) es = es

own_both : (start : Option ℤ) (es fs : List Element) → own_of start es ++ own_of start fs ≡ own_of start (es ++ fs)
own_both None es fs = refl
own_both (Some s) es fs = refl

-- elements of the open group, or of none, were given behind others
record IsTaken (wanted : WantedPlan) (start end : Option ℤ) (count : ℕ) (given es : List Element) : Type 0 where
  stands : (fold : Fold) → HasTaken fold (rows_of (open_group wanted start (given ++ es)))
      → Stands (grouping wanted (record { start = start; end = end }) fold count) (given ++ es)
  same : closed wanted start (given ++ es) ≡ closed wanted start given
  more : open_group wanted start (given ++ es) ≡ open_group wanted start given ++ own_of start es

taking : (wanted : WantedPlan) (start end : Option ℤ) (fold : Fold) (count : ℕ) (given : List Element) (e : Element) → AreGiven (given ++ e ∷ [])
    → Waits (grouping wanted (record { start = start; end = end }) fold count) e.0 given → IsTaken wanted start end count given (e ∷ [])
taking wanted None end fold count given e are waits =
    let here = waits.span.inside e.0 (last_stamp given e are.ordered) (omega (arith, ints)) waits.span.here in
    let same : closed wanted None (given ++ e ∷ []) ≡ closed wanted None given = passed_over wanted given e here in
    record {
      stands = λ now taken. record {
        going = going_more wanted (record { start = None; end = end }) given e waits.within waits.span;
        group = tt;
        filled = tt;
        folded = taken;
        number = waits.number ∙ ap length (sym same);
        few = omega (arith, waits.few, length-append given (e ∷ []));
      };
      same = same;
      more = refl;
    }
taking wanted (Some s) end fold count given e are waits =
    let here = group_held wanted (held_start wanted.calendar e.0) s
    (waits.span.inside e.0 (last_stamp given e are.ordered) (omega (arith, ints)) waits.span.here) in
    let same : closed wanted (Some s) (given ++ e ∷ []) ≡ closed wanted (Some s) given = closed_same wanted s given e here.0 in
    let more : open_group wanted (Some s) (given ++ e ∷ []) ≡ open_group wanted
    (Some s) given ++ e ∷ [] = open_more wanted s given e here.0 in
    let group : List Element = open_group wanted (Some s) given in
    let all : length (given ++ e ∷ []) ≡ length given + 1 = length-append given (e ∷ []) in
    record {
      stands = λ now taken. record {
        going = going_more wanted (record { start = Some s; end = end }) given e waits.within waits.span;
        group = record {
          laid = waits.group.laid;
          on = waits.group.on;
          asked = waits.group.asked;
          last = held_more wanted.calendar s given e here.0 waits.group.last;
        };
        filled = subst (λ (l : List Element). 1 ≤ length l) (sym more) (omega (arith, length-append group (e ∷ [])));
        folded = taken;
        number = waits.number ∙ ap length (sym same);
        few = omega (arith, waits.few, all);
      };
      same = same;
      more = more;
    }

-- a fold that has taken these rows
abbrev after_rows : Binding → List Row → Fold
after_rows binding rows = record { binding = binding; tallies = after binding.items rows }

-- elements that stand before the end of the span of the first of them
taking_all : (wanted : WantedPlan) (start end : Option ℤ) (fold : Fold) (count : ℕ) (given : List Element) (e : Element) (more : List Element)
    → AreGiven (given ++ e ∷ more) → AreBefore end more
    → Waits (grouping wanted (record { start = start; end = end }) fold count) e.0 given → IsTaken wanted start end count given (e ∷ more)
taking_all wanted start end fold count given e [] are before waits = taking wanted start end fold count given e are waits
taking_all wanted start end fold count given e (f ∷ more) are before waits =
    let front : List Element = given ++ e ∷ [] in
    let assoc : front ++ f ∷ more ≡ given ++ e ∷ f ∷ more = append_assoc given (e ∷ []) (f ∷ more) in
    let all : AreGiven (front ++ f ∷ more) = subst AreGiven (sym assoc) are in
    let own : AreGiven (front ++ f ∷ []) = given_front (front ++ f ∷ []) more (subst AreGiven (sym (append_assoc front (f ∷ []) more)) all) in
    let first = taking wanted start end fold count given e (given_front front (f ∷ more) all) waits in
    let now : Fold = after_rows fold.binding (rows_of (open_group wanted start front)) in
    let stands = first.stands now refl in
    let next = waits_on (grouping wanted (record { start = start; end = end }) now count) f.0 front before.0 (last_earlier front f own.ordered) stands in
    let rest = taking_all wanted start end now count front f more all before.1 next in
    record {
      stands = λ last taken. subst (Stands (grouping wanted (record { start = start; end = end }) last count)) assoc
          (rest.stands last (subst (λ (l : List Element). HasTaken last (rows_of (open_group wanted start l))) (sym assoc) taken));
      same = ap (closed wanted start) (sym assoc) ∙ rest.same ∙ first.same;
      more = ap (open_group wanted start) (sym assoc) ∙ rest.more ∙ ap (λ (l : List Element). l ++ own_of start (f ∷ more)) first.more
          ∙ append_assoc (open_group wanted start given) (own_of start (e ∷ [])) (own_of start (f ∷ more))
          ∙ ap (λ (l : List Element). open_group wanted start given ++ l) (own_both start (e ∷ []) (f ∷ more));
    }

-- of some rows those that aren't hidden: the others leave a fold as it is
abbrev shown : List Row → List Row
shown rows = filter (λ r. not r.hidden) rows

shown_rows : (es : List Element) → filter (λ r. not r.hidden) (rows_of es) ≡ filter (λ r. not r.hidden) (rows_of (seen es))
shown_rows [] = refl
shown_rows (e ∷ es) = by e.1.hidden refl (shown_rows es)
  where
    by : (b : Bool) → e.1.hidden ≡ b → shown (rows_of es) ≡ shown (rows_of (seen es)) → shown (rows_of (e ∷ es)) ≡ shown (rows_of (seen (e ∷ es)))
    by true is rest =
        ap (λ k. cond (not k) (e.1 ∷ shown (rows_of es)) (shown (rows_of es))) is ∙ rest
        ∙ ap (λ k. shown (rows_of (cond (not k) (e ∷ seen es) (seen es)))) (sym is)
    by false is rest =
        ap (λ k. cond (not k) (e.1 ∷ shown (rows_of es)) (shown (rows_of es))) is ∙ ap (λ (l : List Row). e.1 ∷ l) rest
        ∙ ap (λ k. cond (not k) (e.1 ∷ shown (rows_of (seen es))) (shown (rows_of (seen es)))) (sym is)
        ∙ ap (λ k. shown (rows_of (cond (not k) (e ∷ seen es) (seen es)))) (sym is)

values_shown : (column : ℕ) (es : List Element) → values_of column (rows_of es) ≡ values_of column (rows_of (seen es))
values_shown column es = ap (λ (l : List Row). filter (λ v. not (is_null v)) (map (λ r. value_at column r.values) l)) (shown_rows es)

after_shown : (items : List BoundItem) (before : List Row) (es : List Element)
    → after items (before ++ rows_of es) ≡ after items (before ++ rows_of (seen es))
after_shown items before es = λ j. map (λ (i : BoundItem). tally_of i.function (same i.column j)) items
  where
    same : (column : ℕ) → values_of column (before ++ rows_of es) ≡ values_of column (before ++ rows_of (seen es))
    same column =
        values_all column before (rows_of es) ∙ ap (λ (l : List Value). values_of column before ++ l) (values_shown column es)
        ∙ sym (values_all column before (rows_of (seen es)))

-- a fold takes the rows of elements, hidden ones too, where a group is open
fold_taken : (wanted : WantedPlan) (start : Option ℤ) (columns : List Column) (fold fold' : Fold) (given es own : List Element)
    → columns ≡ fold.binding.columns → MayTake start columns fold (rows_of es) fold' → HasTaken fold (rows_of (open_group wanted start given))
    → seen es ≡ own → length given + length es ≤ most_folded
    → HasTaken fold' (rows_of (open_group wanted start given ++ own_of start own))
fold_taken wanted None columns fold fold' given es own are takes was shown few = subst (λ (f : Fold). HasTaken f []) (sym takes) was
fold_taken wanted (Some s) columns fold fold' given es own are takes was shown few =
    let group : List Element = open_group wanted (Some s) given in
    let rows : length (rows_of group) ≡ length group = length-map group (λ (e : Element). e.1) in
    let others : length (rows_of es) ≡ length es = length-map es (λ (e : Element). e.1) in
    let fewer : length group ≤ length given = few_kept _ given in
    takes.taken are (rows_of group) (omega (arith, few, rows, others, fewer)) was
    ∙ after_shown fold'.binding.items (rows_of group) es
    ∙ ap (λ (l : List Element). after fold'.binding.items (rows_of group ++ rows_of l)) shown
    ∙ ap (after fold'.binding.items) (sym (map-append (λ (e : Element). e.1) group own))

taken_binding : (start : Option ℤ) (columns : List Column) (v w : Fold) (rows : List Row) → MayTake start columns v rows w → w.binding ≡ v.binding
taken_binding None columns v w rows takes = ap (λ (f : Fold). f.binding) takes
taken_binding (Some s) columns v w rows takes = takes.same

-- one that isn't hidden, with those that come behind it
shown_first : (given : List Element) (e : Element) (more : List Element) → e.1.hidden ≡ false → seen (given ++ e ∷ more) ≡ seen given ++ e ∷ seen more
shown_first given e more shown =
    filter-append (λ (e : Element). not e.1.hidden) given (e ∷ more)
    ∙ ap (λ k. seen given ++ cond (not k) (e ∷ seen more) (seen more)) shown

before_kept : (end : Option ℤ) (es : List Element) → AreBefore end es → AreBefore end (seen es)
before_kept end [] before = tt
before_kept end (e ∷ es) before = by (not e.1.hidden) (before_kept end es before.1)
  where
    by : (b : Bool) → AreBefore end (seen es) → AreBefore end (cond b (e ∷ seen es) (seen es))
    by true rest = (before.0, rest)
    by false rest = rest

ordered_back : (es fs : List Element) → AreOrdered (es ++ fs) → AreOrdered fs
ordered_back [] fs ordered = ordered
ordered_back (e ∷ es) fs ordered = ordered_back es fs ordered.2

pub group_taken : {V : Type 0} (took : V → List Element → V → Type 0) (columns : List Column) (v u : Grouping) (fold : Fold) (x y : V)
    (e : Element) (more : List Element) → IsReady took v x e.0 u y → e.1.hidden ≡ false → (AreOrdered (e ∷ more) → AreBefore u.span.end more)
    → MayTake u.span.start columns u.fold (rows_of (e ∷ more)) fold
    → AreGrouped took columns v x (e ∷ more) (grouping u.wanted u.span fold u.count) y
group_taken took columns v u fold x y e more p shown before takes = record {
  same = record {
    wanted = p.same.wanted;
    binding = taken_binding u.span.start columns u.fold fold (rows_of (e ∷ more)) takes ∙ p.same.binding;
    more = p.same.more;
  };
  taken = λ own given are stands.
      let gs : List Element = seen given in
      let ms : List Element = seen more in
      let parts : seen (given ++ e ∷ more) ≡ gs ++ e ∷ ms = shown_first given e more shown in
      let all : AreGiven (gs ++ e ∷ ms) = subst AreGiven parts (given_kept (λ e. not e.1.hidden) (given ++ e ∷ more) are) in
      let first : AreGiven (gs ++ e ∷ []) = given_front (gs ++ e ∷ []) ms (subst AreGiven (sym (append_assoc gs (e ∷ []) ms)) all) in
      let w = p.taken gs (given_front gs (e ∷ ms) all) (last_earlier gs e first.ordered) stands in
      let t = taking_all u.wanted u.span.start u.span.end u.fold u.count gs e ms all
      (before_kept u.span.end more (before (ordered_back given (e ∷ more) are.ordered))) w.0 in
      let few : length gs + length (e ∷ more) ≤ most_folded = omega
      (arith, are.few, length-append given (e ∷ more), few_kept (λ e. not e.1.hidden) given) in
      let folds : HasTaken fold (rows_of (open_group u.wanted u.span.start gs ++ own_of u.span.start (e ∷ ms))) =
      fold_taken u.wanted u.span.start columns u.fold fold gs (e ∷ more) (e ∷ ms)
      (own ∙ ap (λ (b : Binding). b.columns) (sym p.same.binding)) takes w.0.folded (shown_first [] e more shown) few in (
        subst (Stands (grouping u.wanted u.span fold u.count)) (sym parts)
            (t.stands fold (subst (λ (l : List Element). HasTaken fold (rows_of l)) (sym t.more) folds)),
        subst (λ (l : List Group). AreMade took v.fold.binding.items (closed v.wanted v.span.start gs) l u.count x y)
            (sym (ap (closed v.wanted u.span.start) parts
            ∙ ap (λ (a : WantedPlan). closed a u.span.start (gs ++ e ∷ ms)) (sym p.same.wanted) ∙ t.same
            ∙ ap (λ (a : WantedPlan). closed a u.span.start gs) p.same.wanted)) w.1,
      );
}

-- the same, as the parts of one that groups elements tell
pub piece_grouped : {V : Type 0} (took : V → List Element → V → Type 0) (columns : List Column) (v u w : Grouping) (x y z : V) (e : Element)
    (more : List Element) → IsReady took v x e.0 u y → e.1.hidden ≡ false → (AreOrdered (e ∷ more) → AreBefore u.span.end more) → w.wanted ≡ u.wanted → w.span ≡ u.span
    → w.count ≡ u.count → z ≡ y
    → MayTake u.span.start columns u.fold (rows_of (e ∷ more)) w.fold → AreGrouped took columns v x (e ∷ more) w z
piece_grouped {V} took columns v u w x y z e more ready shown before wanted span count out takes =
    let one = group_taken took columns v u w.fold x y e more ready shown before takes in
    let same : grouping u.wanted u.span w.fold u.count ≡ w = λ j. grouping (sym wanted j) (sym span j) w.fold (sym count j) in
    subst (λ (s : V). AreGrouped took columns v x (e ∷ more) w s) (sym out)
    (subst (λ (a : Grouping). AreGrouped took columns v x (e ∷ more) a y) same one)

-- one that is hidden is passed over
pub hidden_passed : {V : Type 0} (took : V → List Element → V → Type 0) (none : (x : V) → took x [] x) (columns : List Column) (v : Grouping)
    (x : V) (e : Element) → e.1.hidden ≡ true → AreGrouped took columns v x (e ∷ []) v x
hidden_passed took none columns v x e hidden = record {
  same = record { wanted = refl; binding = refl; more = omega arith };
  taken = λ own given are stands.
      let same : seen (given ++ e ∷ []) ≡ seen given = seen_hidden given e hidden in (
        subst (Stands v) (sym same) stands,
        made_same took none v.fold.binding.items (closed v.wanted v.span.start (seen given))
            (closed v.wanted v.span.start (seen (given ++ e ∷ []))) v.count x
            (ap (closed v.wanted v.span.start) same),
      );
}

-- before any element
pub stands_none : (wanted : WantedPlan) (span : Span) (fold : Fold) → span.start ≡ None → IsGoingOn wanted span [] → HasTaken fold []
    → Stands (grouping wanted span fold 0) []
stands_none wanted span fold start going empty = record {
  going = going;
  group = subst (λ (o : Option ℤ). MayBeOpen wanted o []) (sym start) tt;
  filled = subst (λ (o : Option ℤ). IsFilled wanted o []) (sym start) tt;
  folded = subst (λ (o : Option ℤ). HasTaken fold (rows_of (open_group wanted o []))) (sym start) empty;
  number = sym (ap (λ (o : Option ℤ). length (closed wanted o [])) start ∙ ap length (none_grouped wanted));
  few = subst (λ (o : Option ℤ). 0 + open_count o ≤ 0) (sym start) (omega arith);
}
