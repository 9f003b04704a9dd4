-- The starts of the grid that two calendars have in common are those of intervals of one of them.
use Rattle.std.proofs.Common.{◌≡◌, ◌∙◌, ◌⊎◌, inl, inr, ◌-◌, ◌%◌, ◌<◌, Bool, true, false, ◌&&◌, not, cond, ℤ, pos, negsuc, neg_ℤ, ◌+ℤ◌, ◌-ℤ◌, ◌≤ℤ◌, ◌<ℤ◌, unsigned_abs, Some, None, Ok, [], ◌∷◌, is_some, refl, sym, ap, subst, arith}
use Rattle.std.specs.Prelude.{int_lt}
use Rattle.std.specs.Int.{int_max}
use Rattle.std.proofs.lemmas.Bool.{and_parts}
use Rattle.std.proofs.lemmas.Int.{by_lt_z, ints, clamps}
use Rattle.ts_base.specs.Moment.{IsStamp}
use Rattle.ts_pattern.specs.Patterns.{flag}
use Rattle.ts_pattern.proofs.RunLemmas.{lt_yes}
use Rattle.ts_calendar.specs.Calendars.{CalendarPlan, IsEarly, IsLaid, start_in, start_at, is_on, starts_from, common_grid, reach, near_count}
use Rattle.ts_calendar.specs.Line.{line_at}
use Rattle.ts_calendar.specs.declared.grid.CommonGrid.{CommonGrid}
use Rattle.ts_calendar.proofs.StampLemmas.{int_lt_no, int_lt-false, stamp-some}
use Rattle.ts_calendar.proofs.LineLemmas.{line-start}
use Rattle.ts_calendar.proofs.HeldLemmas.{line-order}
use Rattle.ts_calendar.proofs.StepLemmas.{from-some}
use Rattle.ts_calendar.proofs.LawLemmas.{starts-rise, start-near, steps-lead}
use Rattle.ts_calendar.proofs.JoinedLemmas.{grid-parts}
use Rattle.ts_offset.specs.Grid.{IsFirstFrom, gap, on_start, on_starts, starts_between}
use Rattle.ts_offset.proofs.WindowLemmas.{on-start, gap-up, gap-none}
use Rattle.ts_combine.specs.Combine.{every_start}
use Rattle.ts_combine.specs.Line.{starts_up_to, AllExist}
use Rattle.ts_combine.proofs.MovedLemmas.{start-moved}
use Rattle.ts_combine.proofs.RisingLemmas.{IsOneOf, starts-risen, same-risen, risen-taken, risen-kept, one-kept, kept-one, one-taken, taken-one}

-- intervals of a calendar, so many behind those of the grid that two have in common
pub record IsLineOf (a b : CalendarPlan) (grid : CommonGrid) (line : CalendarPlan) : Type 0 where
  pub laid : IsLaid line
  pub grid_laid : IsLaid (every_start a b grid)
  pub shift : ℤ
  pub same : (k : ℤ) → start_at line k ≡ start_at (every_start a b grid) (k +ℤ shift)

-- the first calendar, where it has the smaller unit
pub line-first : (a b : CalendarPlan) (grid : CommonGrid) → IsLaid a → IsEarly grid.unit a.patt_start → a.pattern.unit ≡ grid.unit → IsLineOf a b grid a
line-first a b grid laid early same = record {
  laid = laid;
  grid_laid = record { stamp = laid.stamp; early = early };
  shift = pos 0;
  same = λ k. let here : k ≡ k +ℤ pos 0 = omega (arith, ints) in ap (λ u. start_in u a.patt_start k) same ∙ ap (start_in grid.unit a.patt_start) here;
}

-- the second one, where that has
pub line-second : (a b : CalendarPlan) (grid : CommonGrid) → IsLaid a → IsLaid b → IsEarly grid.unit a.patt_start → common_grid a b ≡ Ok grid → b.pattern.unit ≡ grid.unit
    → IsLineOf a b grid b
line-second a b grid laid b_laid early is same = record {
  laid = b_laid;
  grid_laid = record { stamp = laid.stamp; early = early };
  shift = grid.steps;
  same = λ k.
      let lead = steps-lead grid.unit a.patt_start b.patt_start grid.steps (grid-parts a b grid is).1 in
      let there : grid.steps +ℤ k ≡ k +ℤ grid.steps = omega (arith, ints) in
      ap (λ u. start_in u b.patt_start k) same ∙ start-moved grid.unit a.patt_start grid.steps k b.patt_start laid.stamp early lead ∙ ap (start_in grid.unit a.patt_start) there;
}

-- each interval is on, but for those before the later start
always : (k : ℤ) → flag (record { on = true; count = 1 } ∷ []) k ≡ true
always (pos n) = let small : n % 1 < 1 = omega arith in ap (λ t. cond t true false) (lt_yes (n % 1) 1 small)
always (negsuc n) = let small : 1 - 1 - n % 1 < 1 = omega arith in ap (λ t. cond t true false) (lt_yes (1 - 1 - n % 1) 1 small)

module _ (a b line : CalendarPlan) (grid : CommonGrid) (is : IsLineOf a b grid line) (from to low limit : ℤ)
    (first : IsFirstFrom line (int_max from (int_max a.start b.start)) low) (end : IsFirstFrom line (to +ℤ pos 1) limit) where
  abbrev every : CalendarPlan
  every = every_start a b grid

  abbrev test : ℤ → Bool
  test s = not (int_lt s from) && not (int_lt to s)

  not-true : (p : Bool) → not p ≡ true → p ≡ false
  not-true true h = sym h
  not-true false h = refl

  -- a start in the range is one of the line's
  to-line : (s : ℤ) → IsOneOf s (starts_between every from to) → IsOneOf s (starts_up_to line low limit)
  unfolding on_starts
  to-line s one =
      let kept = kept-one test s (on_starts every) one in
      let w = taken-one (on_start every) (neg_ℤ (pos reach)) near_count s kept.0 in
      let k = neg_ℤ (pos reach) +ℤ pos w.0 in
      let on = on-start every k s w.2 in
      let tests = and_parts (not (int_lt s from)) (not (int_lt to s)) kept.1 in
      let above = int_lt-false s from (not-true (int_lt s from) tests.0) in
      let below = int_lt-false to s (not-true (int_lt to s) tests.1) in
      let late = from-some every.start (start_at every k) (and_parts (starts_from every.start (start_at every k)) (flag every.pattern.runs k) on.0).0 in
      let same_start : late.0 ≡ s = (let both = sym late.1 ∙ on.1 in cc) in
      let late_is = late.2 in
      let j = k -ℤ is.shift in
      let back : j +ℤ is.shift ≡ k = omega (arith, ints) in
      let start : start_at line j ≡ Some s = is.same j ∙ ap (start_at every) back ∙ on.1 in
      let low_is : low ≤ℤ j = by_lt_z j low (λ lt. let early = first.earlier j s lt start in absurd (omega (arith, ints, clamps, early, above, late_is, same_start))) (λ ge. ge) in
      let limit_is : j <ℤ limit = by_lt_z j limit (λ lt. lt) (λ ge. let later = end.later j s ge start in absurd (omega (arith, ints, later, below))) in
      let d = unsigned_abs (j -ℤ low) in
      let there : low +ℤ pos d ≡ j = omega (arith, ints, low_is) in
      let size = gap-up low limit (omega (arith, ints, low_is, limit_is)) in
      one-taken (start_at line) low (gap low limit) d s (omega (arith, ints, size, low_is, limit_is)) (ap (start_at line) there ∙ start)

  -- and the other way round
  from-line : (s : ℤ) → IsOneOf s (starts_up_to line low limit) → IsOneOf s (starts_between every from to)
  unfolding on_starts
  from-line s one =
      let w = taken-one (start_at line) low (gap low limit) s one in
      let j = low +ℤ pos w.0 in
      let lt = w.1 in
      let less : low <ℤ limit = by_lt_z low limit (λ lt. lt) (λ ge. let none = gap-none low limit ge in absurd (omega (arith, lt, none))) in
      let size = gap-up low limit less in
      let late = first.later j s (omega (arith, ints)) w.2 in
      let early = end.earlier j s (omega (arith, ints, lt, size, less)) w.2 in
      let k = j +ℤ is.shift in
      let start : start_at every k ≡ Some s = sym (is.same j) ∙ w.2 in
      let from_is : every.start ≤ℤ s = omega (arith, ints, clamps, late) in
      let on : is_on every k ≡ true =
      ap (λ o. starts_from every.start o && flag every.pattern.runs k) start ∙ ap (λ t. not t && flag every.pattern.runs k) (int_lt_no s every.start from_is) ∙ always k in
      let near = start-near grid.unit a.patt_start k s is.grid_laid.stamp is.grid_laid.early start in
      let d = unsigned_abs (k -ℤ neg_ℤ (pos reach)) in
      let there : neg_ℤ (pos reach) +ℤ pos d ≡ k = omega (arith, ints, near.0) in
      one-kept test s (on_starts every)
      (one-taken (on_start every) (neg_ℤ (pos reach)) near_count d s (omega (arith, ints, near.0, near.1)) (ap (on_start every) there ∙ ap (λ p. cond p (start_at every k) None) on ∙ start))
      (ap (λ t. not t && not (int_lt to s)) (int_lt_no s from (omega (arith, ints, clamps, late))) ∙ ap not (int_lt_no to s (omega (arith, ints, early))))

  pub common-starts : starts_between every from to ≡ starts_up_to line low limit
  common-starts = same-risen (λ t. t) (starts_between every from to) (starts_up_to line low limit) (risen-kept (λ t. t) test (on_starts every) (starts-risen every is.grid_laid))
      (risen-taken (start_at line) low (gap low limit) (λ i j s t lt x y. starts-rise line i j s t is.laid lt x y)) to-line from-line

-- intervals that start between two stamps exist
pub all-exist : (line : CalendarPlan) (s t low limit : ℤ) → IsLaid line → IsStamp s → IsStamp t → s ≤ℤ line_at line.pattern.unit line.patt_start low
    → line_at line.pattern.unit line.patt_start (limit -ℤ pos 1) ≤ℤ t → AllExist line low limit
all-exist line s t low limit laid from to after before k le lt =
    let up = line-order line.pattern.unit line.patt_start low k laid.stamp laid.early le in
    let down = line-order line.pattern.unit line.patt_start k (limit -ℤ pos 1) laid.stamp laid.early (omega (arith, ints, lt)) in
    let there : IsStamp (line_at line.pattern.unit line.patt_start k) = (omega (arith, ints, up, after, from.0), omega (arith, ints, down, before, to.1)) in
    ap is_some (line-start line.pattern.unit line.patt_start k laid.stamp laid.early ∙ stamp-some (line_at line.pattern.unit line.patt_start k) there)

-- the calendar with the smaller unit
pub line-is : (a b line : CalendarPlan) (grid : CommonGrid) → IsLaid a → IsLaid line → IsEarly grid.unit a.patt_start → common_grid a b ≡ Ok grid
    → (((line ≡ b) × (b.pattern.unit ≡ grid.unit)) ⊎ ((line ≡ a) × (a.pattern.unit ≡ grid.unit))) → IsLineOf a b grid line
line-is a b line grid laid line_laid early is (inl second) =
    subst (IsLineOf a b grid) (sym second.0) (line-second a b grid laid (subst IsLaid second.0 line_laid) early is second.1)
line-is a b line grid laid line_laid early is (inr first) = subst (IsLineOf a b grid) (sym first.0) (line-first a b grid laid early first.1)
