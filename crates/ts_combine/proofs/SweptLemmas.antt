-- A line that is gone along: the rows of its starts so far.
use Rattle.std.proofs.Common.{◌≡◌, ◌∙◌, ℕ, zero, suc, ◌+◌, ◌-◌, ◌<◌, ◌≤◌, Bool, true, false, cond, ◌⊎◌, inl, inr, ℤ, pos, ◌+ℤ◌, ◌≤ℤ◌, ◌<ℤ◌, Option, Some, None, is_some, option_map, List, [], ◌∷◌, ◌++◌, All, length, map, filter_map, slice_get, refl, sym, ap, subst, arith}
use Rattle.std.specs.List.{cons_option}
use Rattle.std.proofs.lemmas.Int.{by_lt_z, ints}
use Rattle.std.proofs.lemmas.List.{map-append}
use Rattle.std.proofs.lemmas.List.Elements.{All-append, All-nil, All-map, filter_map-append}
use Rattle.ts_row.specs.declared.row.Elem.{Elem}
use Rattle.ts_row.specs.Row.{visible, Element}
use Rattle.ts_calendar.specs.Calendars.{CalendarPlan, start_at}
use Rattle.ts_offset.specs.Grid.{gap}
use Rattle.ts_offset.proofs.ListLemmas.{taken-zero, taken-suc, taken-append}
use Rattle.ts_offset.proofs.WindowLemmas.{gap-none}
use Rattle.ts_offset.proofs.CountLemmas.{gap-le}
use Rattle.ts_pattern.specs.declared.junction.Junction.{Junction}
use Rattle.ts_combine.specs.Combine.{is_kept, joined_at, values_or_nulls}
use Rattle.ts_combine.specs.Series.{side_of, IsSeries}
use Rattle.ts_entry.specs.Entry.{elements_in}
use Rattle.ts_combine.specs.Rows.{Gathers}
use Rattle.ts_combine.specs.Call.{row_at, joined_row, IsIndex, HasElements, GathersJoined}
use Rattle.ts_combine.specs.Line.{starts_of_next, starts_up_to}
use Rattle.ts_combine.specs.Reach.{IsOnCalendar, IsReach, IsNext, row_held, rows_held, rows_with, reach_end, index_at}
use Rattle.ts_combine.specs.declared.joined.Joined.{Joined}
use Rattle.ts_combine.specs.declared.reach.Reach.{Reach}
use Rattle.ts_combine.specs.declared.rows.Rows.{Rows}
use Rattle.ts_combine.specs.declared.side.Side as given
use Rattle.ts_combine.proofs.TrackLemmas.{IsTracked, tracked-first, tracked-next, held-row, index-there, reach-over, reach-on}
use Rattle.ts_combine.proofs.MergedLemmas.{kept-same}

-- up to a number all rows were gathered, and both reaches are tracked
pub record IsSwept (junction : Junction) (line : CalendarPlan) (low limit : ℤ) (a : given.Side) (c : CalendarPlan) (b : given.Side) (d : CalendarPlan)
    (rows : Rows Joined) (at : ℤ) (here there : Reach) : Type 0 where
  pub from : low ≤ℤ at
  pub to : gap low at ≤ gap low limit
  pub few : rows.count ≤ gap low at
  pub first : IsTracked c line limit a.elems.now here at
  pub second : IsTracked d line limit b.elems.now there at
  pub all : List Joined
  pub gathers : Gathers rows all
  pub elements : All (HasElements (length a.elems.now) (length b.elems.now)) all
  pub are : IsSeries (side_of a) → IsSeries (side_of b)
      → map (joined_row (side_of a) (side_of b)) all ≡ rows_held junction (side_of a) c (side_of b) d (starts_up_to line low at)

-- starts in two parts
starts-append : (line : CalendarPlan) (low at end : ℤ) → low ≤ℤ at → at ≤ℤ end → starts_up_to line low end ≡ starts_up_to line low at ++ starts_up_to line at end
starts-append line low at end from to =
    let whole : gap low end ≡ gap low at + gap at end = omega (arith, ints, gap-le low end (omega (arith, ints, from, to)), gap-le low at from, gap-le at end to) in
    let there : low +ℤ pos (gap low at) ≡ at = omega (arith, ints, gap-le low at from) in
    ap (λ n. starts_of_next line low n) whole ∙ taken-append (start_at line) low (gap low at) (gap at end)
    ∙ ap (λ k. starts_of_next line low (gap low at) ++ starts_of_next line k (gap at end)) there

-- what two functions give of starts is the same where they agree at each
same-at : (line : CalendarPlan) (f g : ℤ → Option Element) (k : ℤ) (n : ℕ) → ((i : ℕ) (s : ℤ) → i < n → start_at line (k +ℤ pos i) ≡ Some s → f s ≡ g s)
    → filter_map f (starts_of_next line k n) ≡ filter_map g (starts_of_next line k n)
same-at line f g k zero same = ap (filter_map f) (taken-zero (start_at line) k) ∙ sym (ap (filter_map g) (taken-zero (start_at line) k))
same-at line f g k (suc n) same =
    let rest = starts_of_next line (k +ℤ pos 1) n in
    let tail : filter_map f rest ≡ filter_map g rest =
    same-at line f g (k +ℤ pos 1) n (λ i s lt start.
    let on : k +ℤ pos 1 +ℤ pos i ≡ k +ℤ pos (suc i) = omega (arith, ints) in
    same (suc i) s (omega (arith, lt)) (sym (ap (start_at line) on) ∙ start)) in
    let zero_is : k +ℤ pos 0 ≡ k = omega (arith, ints) in
    ap (filter_map f) (taken-suc (start_at line) k n) ∙ by (start_at line k) refl tail (λ s start. same zero s (omega arith) (ap (start_at line) zero_is ∙ start)) ∙ sym (ap (filter_map g) (taken-suc (start_at line) k n))
  where
    by : (o : Option ℤ) → start_at line k ≡ o → filter_map f (starts_of_next line (k +ℤ pos 1) n) ≡ filter_map g (starts_of_next line (k +ℤ pos 1) n)
        → ((s : ℤ) → start_at line k ≡ Some s → f s ≡ g s)
        → filter_map f (cons_option o (starts_of_next line (k +ℤ pos 1) n)) ≡ filter_map g (cons_option o (starts_of_next line (k +ℤ pos 1) n))
    by None is tail here = tail
    by (Some s) is tail here = ap (λ o. cons_option o (filter_map f (starts_of_next line (k +ℤ pos 1) n))) (here s is) ∙ ap (cons_option (g s)) tail

-- an index of an element gives a row
there-row : (elems : List Elem) (i : ℕ) → i < length elems → is_some (option_map (λ e. e.1) (slice_get (elements_in elems) i)) ≡ true
there-row [] i lt = absurd (omega arith)
there-row (e ∷ elems) zero lt = refl
there-row (e ∷ elems) (suc i) lt = there-row elems i (omega arith)

some-row : (elems : List Elem) (u : Option ℕ) → IsIndex (length elems) u → is_some (row_at (elements_in elems) u) ≡ is_some u
some-row elems None index = refl
some-row elems (Some i) lt = there-row elems i lt

-- the row of two others at each of some stamps
module _ (junction : Junction) (a b : given.Side) (u v : Option ℕ) (u_is : IsIndex (length a.elems.now) u) (v_is : IsIndex (length b.elems.now) v) where
  constant : (stamps : List ℤ) → filter_map (λ s. joined_at junction (side_of a) (side_of b) s (row_at (elements_in a.elems.now) u) (row_at (elements_in b.elems.now) v)) stamps
      ≡ map (joined_row (side_of a) (side_of b)) (cond (is_kept junction u v) (rows_with u v stamps) [])
  constant stamps =
      let kept = kept-same junction (row_at (elements_in a.elems.now) u) (row_at (elements_in b.elems.now) v) u v (some-row a.elems.now u u_is) (some-row b.elems.now v v_is) in
      ap (λ k. filter_map (λ s. cond k (Some (s, visible (values_or_nulls a.columns (row_at (elements_in a.elems.now) u) ++ values_or_nulls b.columns (row_at (elements_in b.elems.now) v)))) None) stamps) kept
      ∙ by (is_kept junction u v) stamps
    where
      by : (k : Bool) (stamps : List ℤ)
          → filter_map (λ s. cond k (Some (s, visible (values_or_nulls a.columns (row_at (elements_in a.elems.now) u) ++ values_or_nulls b.columns (row_at (elements_in b.elems.now) v)))) None) stamps
          ≡ map (joined_row (side_of a) (side_of b)) (cond k (rows_with u v stamps) [])
      by true [] = refl
      by true (s ∷ stamps) = ap (λ l. (s, visible (values_or_nulls a.columns (row_at (elements_in a.elems.now) u) ++ values_or_nulls b.columns (row_at (elements_in b.elems.now) v))) ∷ l) (by true stamps)
      by false [] = refl
      by false (s ∷ stamps) = by false stamps

-- the rows of a stretch in which no row changes
stretch : (junction : Junction) (line : CalendarPlan) (limit : ℤ) (a : given.Side) (c : CalendarPlan) (b : given.Side) (d : CalendarPlan) (here there : Reach) (at end : ℤ)
    → IsSeries (side_of a) → IsSeries (side_of b) → IsOnCalendar a.shape.now c → IsOnCalendar b.shape.now d
    → IsTracked c line limit a.elems.now here at → IsTracked d line limit b.elems.now there at
    → at <ℤ limit → end ≤ℤ limit → (at <ℤ end → (end ≤ℤ reach_end here at) × (end ≤ℤ reach_end there at)) → at ≤ℤ end
    → rows_held junction (side_of a) c (side_of b) d (starts_up_to line at end)
    ≡ map (joined_row (side_of a) (side_of b)) (cond (is_kept junction (index_at here at) (index_at there at)) (rows_with (index_at here at) (index_at there at) (starts_up_to line at end)) [])
stretch junction line limit a c b d here there at end a_series b_series a_on b_on first second less to within le =
    let u = index_at here at in
    let v = index_at there at in
    let es = elements_in a.elems.now in
    let fs = elements_in b.elems.now in
    let size = gap-le at end le in
    same-at line (λ s. joined_at junction (side_of a) (side_of b) s (row_held c es s) (row_held d fs s)) (λ s. joined_at junction (side_of a) (side_of b) s (row_at es u) (row_at fs v)) at (gap at end)
    (λ i s lt start.
    let inside : (at +ℤ pos i) <ℤ end = omega (arith, ints, lt, size, le) in
    let up : at ≤ℤ (at +ℤ pos i) = omega (arith, ints) in
    let ends = within (omega (arith, ints, inside, up)) in
    let x = held-row a c line limit here at a_series a_on first (at +ℤ pos i) s up (omega (arith, ints, inside, ends.0)) (omega (arith, ints, inside, to)) start in
    let y = held-row b d line limit there at b_series b_on second (at +ℤ pos i) s up (omega (arith, ints, inside, ends.1)) (omega (arith, ints, inside, to)) start in
    ap (λ o. joined_at junction (side_of a) (side_of b) s o (row_held d fs s)) x ∙ ap (λ o. joined_at junction (side_of a) (side_of b) s (row_at es u) o) y)
    ∙ constant junction a b u v (index-there c line limit a.elems.now here at first.reach less) (index-there d line limit b.elems.now there at second.reach less) (starts_up_to line at end)

all-with : (n m : ℕ) (junction : Junction) (u v : Option ℕ) (stamps : List ℤ) → IsIndex n u → IsIndex m v → All (HasElements n m) (cond (is_kept junction u v) (rows_with u v stamps) [])
all-with n m junction u v stamps u_is v_is = by (is_kept junction u v) where
  each : All (HasElements n m) (rows_with u v stamps)
  each = All-map (HasElements n m) (λ (s : ℤ). record { stamp = s; first = u; second = v }) stamps (λ k d lt. record { first_is = u_is; second_is = v_is })

  by : (k : Bool) → All (HasElements n m) (cond k (rows_with u v stamps) [])
  by true = each
  by false = All-nil (HasElements n m)

-- at the beginning
pub swept-first : (junction : Junction) (line : CalendarPlan) (low limit : ℤ) (a : given.Side) (c : CalendarPlan) (b : given.Side) (d : CalendarPlan) (rows : Rows Joined) (here there : Reach)
    → Gathers rows [] → IsReach c line limit a.elems.now here → here.index ≡ 0 → IsReach d line limit b.elems.now there → there.index ≡ 0
    → IsSwept junction line low limit a c b d rows low here there
swept-first junction line low limit a c b d rows here there gathers first first_is second second_is =
    let none = gap-none low low (omega (arith, ints)) in
    let number = gathers.number in
    record {
      from = omega (arith, ints);
      to = omega (arith, none);
      few = omega (arith, none, number);
      first = tracked-first c line limit a.elems.now here low first first_is;
      second = tracked-first d line limit b.elems.now there low second second_is;
      all = [];
      gathers = gathers;
      elements = All-nil (HasElements (length a.elems.now) (length b.elems.now));
      are = λ _ _. sym (ap (rows_held junction (side_of a) c (side_of b) d) (ap (starts_of_next line low) none ∙ taken-zero (start_at line) low));
    }

-- a stretch on
pub swept-on : (junction : Junction) (line : CalendarPlan) (low limit : ℤ) (a : given.Side) (c : CalendarPlan) (b : given.Side) (d : CalendarPlan) (rows more : Rows Joined)
    (at end : ℤ) (here there next other : Reach) → IsOnCalendar a.shape.now c → IsOnCalendar b.shape.now d
    → IsSwept junction line low limit a c b d rows at here there → at <ℤ limit → at ≤ℤ end → end ≤ℤ limit
    → (at <ℤ end → (end ≤ℤ reach_end here at) × (end ≤ℤ reach_end there at))
    → ((all : List Joined) → Gathers rows all
    → Gathers more (all ++ cond (is_kept junction (index_at here at) (index_at there at)) (rows_with (index_at here at) (index_at there at) (starts_up_to line at end)) []))
    → more.count ≤ rows.count + gap at end
    → IsReach c line limit a.elems.now next → IsNext a.elems.now end here next → IsReach d line limit b.elems.now other → IsNext b.elems.now end there other
    → IsSwept junction line low limit a c b d more end next other
swept-on junction line low limit a c b d rows more at end here there next other a_on b_on swept less le to within gathers count next_is next_step other_is other_step =
    let u = index_at here at in
    let v = index_at there at in
    let new = cond (is_kept junction u v) (rows_with u v (starts_up_to line at end)) [] in
    let from = swept.from in
    let few = swept.few in
    let whole : gap low end ≡ gap low at + gap at end = omega (arith, ints, gap-le low end (omega (arith, ints, from, le)), gap-le low at from, gap-le at end le) in
    let both = starts-append line low at end from le in
    record {
      from = omega (arith, ints, from, le);
      to = omega (arith, ints, gap-le low end (omega (arith, ints, from, le)), gap-le low limit (omega (arith, ints, from, less)), from, le, to);
      few = omega (arith, whole, few, count);
      first = tracked-next c line limit a.elems.now here next at end swept.first le next_is next_step;
      second = tracked-next d line limit b.elems.now there other at end swept.second le other_is other_step;
      all = swept.all ++ new;
      gathers = gathers swept.all swept.gathers;
      elements = All-append (HasElements (length a.elems.now) (length b.elems.now)) swept.all new swept.elements
          (all-with (length a.elems.now) (length b.elems.now) junction u v (starts_up_to line at end)
          (index-there c line limit a.elems.now here at swept.first.reach less) (index-there d line limit b.elems.now there at swept.second.reach less));
      are = λ a_series b_series.
          map-append (joined_row (side_of a) (side_of b)) swept.all new
          ∙ ap (λ l. l ++ map (joined_row (side_of a) (side_of b)) new) (swept.are a_series b_series)
          ∙ ap (λ l. rows_held junction (side_of a) c (side_of b) d (starts_up_to line low at) ++ l)
          (sym (stretch junction line limit a c b d here there at end a_series b_series a_on b_on swept.first swept.second less to within le))
          ∙ sym (ap (rows_held junction (side_of a) c (side_of b) d) both
          ∙ filter_map-append (λ s. joined_at junction (side_of a) (side_of b) s (row_held c (elements_in a.elems.now) s) (row_held d (elements_in b.elems.now) s)) (starts_up_to line low at) (starts_up_to line at end));
    }

-- at the end
pub all-swept : (junction : Junction) (line : CalendarPlan) (low limit : ℤ) (a : given.Side) (c : CalendarPlan) (b : given.Side) (d : CalendarPlan) (rows : Rows Joined) (at : ℤ) (here there : Reach)
    → IsSwept junction line low limit a c b d rows at here there → limit ≤ℤ at
    → GathersJoined a b (rows_held junction (side_of a) c (side_of b) d (starts_up_to line low limit)) rows
all-swept junction line low limit a c b d rows at here there swept over =
    let from = swept.from in
    let to = swept.to in
    let same : gap low at ≡ gap low limit = by_lt_z low limit
    (λ lt. omega (arith, ints, to, gap-le low at from, gap-le low limit (omega (arith, ints, lt)), over, lt))
    (λ ge. omega (arith, to, gap-none low limit ge)) in
    record {
      all = swept.all;
      gathers = swept.gathers;
      within = swept.elements;
      are = λ a_series b_series. swept.are a_series b_series ∙ ap (λ n. rows_held junction (side_of a) c (side_of b) d (starts_of_next line low n)) same;
    }

-- a stretch is not empty, or one of the reaches goes on
pub sweep-ends : (c d line : CalendarPlan) (limit : ℤ) (elems others : List Elem) (here there next other : Reach) (at end : ℤ)
    → IsReach c line limit elems here → IsReach d line limit others there → IsReach c line limit elems next → IsReach d line limit others other
    → at <ℤ limit → at ≤ℤ end → end ≤ℤ limit → (end ≤ℤ at → (reach_end here at ≤ℤ at) ⊎ (reach_end there at ≤ℤ at))
    → IsNext elems end here next → IsNext others end there other
    → gap end limit + (length elems - next.index) + (length others - other.index) < gap at limit + (length elems - here.index) + (length others - there.index)
sweep-ends c d line limit elems others here there next other at end here_is there_is next_is other_is less le to over first second =
    let up = reach-on elems here next end first in
    let down = reach-on others there other end second in
    let now = gap-le at limit (omega (arith, ints, less)) in
    let then_ = gap-le end limit to in
    by_lt_z at end
    (λ lt. omega (arith, ints, up, down, now, then_, lt, to))
    (λ ge.
    let same : end ≡ at = omega (arith, ints, ge, le) in
    elim (over ge) [
      | inl first_over ↦
          let step = reach-over c line limit elems here next at here_is less first_over (subst (λ k. IsNext elems k here next) same first) in
          omega (arith, ints, down, now, then_, same, step.0, step.1)
      | inr second_over ↦
          let step = reach-over d line limit others there other at there_is less second_over (subst (λ k. IsNext others k there other) same second) in
          omega (arith, ints, up, now, then_, same, step.0, step.1)
    ])
