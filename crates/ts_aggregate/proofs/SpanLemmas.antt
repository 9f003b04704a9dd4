-- Stamps that belong to one group, by the intervals of a calendar.
use Rattle.std.proofs.Common.{◌≡◌, inl, inr, ℕ, zero, suc, ◌<◌, Bool, true, false, cond, not, Option, Some, None, List, [], ◌∷◌, refl, sym, ap, subst, ◌∙◌, arith, ℤ, pos, ◌+ℤ◌, ◌≤ℤ◌, ◌<ℤ◌}
use Rattle.std.specs.Prelude.{filter, int_lt, is_some, IsSome}
use Rattle.std.specs.List.{slice_get}
use Rattle.std.proofs.lemmas.Int.{by_lt_z, ints}
use Rattle.std.proofs.lemmas.Bool.{and_parts}
use Rattle.std.proofs.lemmas.Option.{same_Some}
use Rattle.ts_base.specs.Moment.{IsStamp}
use Rattle.ts_calendar.specs.Calendars.{CalendarPlan, IsLaid, IsAround, IsBefore, start_at, starts_from, is_on}
use Rattle.ts_calendar.proofs.StampLemmas.{int_lt-true, int_lt-false}
use Rattle.ts_calendar.proofs.LawLemmas.{starts-rise, starts-whole, starts-around}
use Rattle.ts_offset.specs.Grid.{on_starts, held_start, IsHeldFrom, cal_stamp}
use Rattle.ts_offset.proofs.HeldLemmas.{held-off, on-exists}
use Rattle.ts_offset.proofs.OwnLemmas.{held-from, from-held}
use Rattle.ts_offset.proofs.ListedLemmas.{listed-start, start-listed, listed-rise}
use Rattle.ts_aggregate.specs.Groups.{WantedPlan, asked_start, IsBound, IsSpan, IsGoingOn}
use Rattle.ts_aggregate.proofs.GroupLemmas.{IsOneOf}
use Rattle.ts_aggregate.proofs.StartLemmas.{at_one}

-- what exists
there : (o : Option ℤ) (s : ℤ) → o ≡ Some s → IsSome o
there o s is = ap is_some is

some_there : (o : Option ℤ) → IsSome o → (s : ℤ) × (o ≡ Some s)
some_there None is = absurd (cc)
some_there (Some s) is = (s, refl)

-- the interval that holds a stamp starts no later
pub held_low : (c : CalendarPlan) (t s : ℤ) → held_start c t ≡ Some s → s ≤ℤ t
held_low c t s held =
    let w = from-held c t s held in
    let same : w.held.from ≡ s = same_Some w.held.from s (sym w.held.exists_from ∙ w.start) in
    let after = w.held.after in
    omega (arith, ints, same, after)

-- an interval that holds a stamp which isn't before a start doesn't start before it
module _ (c : CalendarPlan) (laid : IsLaid c) (n end : ℤ) (start : start_at c n ≡ Some end) where
  held_high : (u s : ℤ) → end ≤ℤ u → held_start c u ≡ Some s → end ≤ℤ s
  held_high u s behind held = by_lt_z s end low (λ ge. ge)
    where
      w : IsHeldFrom c u s
      w = from-held c u s held

      order : (j : ℤ) → start_at c j ≡ Some s → s <ℤ end → j <ℤ n
      order j is lt = by_lt_z j n (λ less. less) (λ ge. by_lt_z n j
          (λ less. let up = starts-rise c n j end s laid less start is in absurd (omega (arith, ints, up, lt)))
          (λ le. let same : j ≡ n = omega (arith, ints, ge, le) in let one : s ≡ end = same_Some s end
          (sym is ∙ ap (start_at c) same ∙ start) in absurd (omega (arith, ints, one, lt))))

      next : (j t : ℤ) → start_at c j ≡ Some t → j ≤ℤ n → t ≤ℤ end
      next j t is le = by_lt_z j n
          (λ less. let up = starts-rise c j n t end laid less is start in omega (arith, ints, up))
          (λ ge. let same : j ≡ n = omega (arith, ints, ge, le) in let one : t ≡ end = same_Some t end
          (sym is ∙ ap (start_at c) same ∙ start) in omega (arith, ints, one))

      low : s <ℤ end → end ≤ℤ s
      low lt =
          let j = w.interval in
          let less = order j w.start lt in
          let has = some_there (start_at c (j +ℤ pos 1))
          (starts-whole c j n (j +ℤ pos 1) laid (omega (arith, ints)) (omega (arith, ints, less)) (there (start_at c j) s w.start)
          (there (start_at c n) end start)) in
          let before : u <ℤ has.0 = subst (IsBefore u) has.1 w.held.before in
          let up = next (j +ℤ pos 1) has.0 has.1 (omega (arith, ints, less)) in
          absurd (omega (arith, ints, before, up, behind))

  pub bound_at : IsBound c (Some end)
  bound_at t u s v before behind held later =
      let low = held_low c t s held in
      let high = held_high u v (by_lt_z u end (λ lt. absurd (behind lt)) (λ ge. ge)) later in
      omega (arith, ints, low, high, before)

-- no stamp is behind an end that isn't there
bound_none : (c : CalendarPlan) → IsBound c None
bound_none c t u s v before behind held later = absurd (behind tt)

-- an interval has an end
bound_next : (c : CalendarPlan) → IsLaid c → (k : ℤ) → IsBound c (start_at c (k +ℤ pos 1))
bound_next c laid k = by (start_at c (k +ℤ pos 1)) refl
  where
    by : (o : Option ℤ) → start_at c (k +ℤ pos 1) ≡ o → IsBound c o
    by None is = bound_none c
    by (Some end) is = bound_at c laid (k +ℤ pos 1) end is

-- from its start up to its end it holds the stamps, where it is on
held_on : (c : CalendarPlan) → IsLaid c → (k s : ℤ) → start_at c k ≡ Some s → is_on c k ≡ true → (t : ℤ) → IsStamp t → s ≤ℤ t
    → IsBefore t (start_at c (k +ℤ pos 1)) → held_start c t ≡ start_at c k
held_on c laid k s start on t stamp after before =
    held-from c t s laid stamp (record {
      interval = k;
      on = on;
      start = start;
      held = record { from = s; exists_from = start; after = after; before = before };
    }) ∙ sym start

-- a stamp stands before the end of the interval around it
before_next : (c : CalendarPlan) (at k : ℤ) → IsAround c at k → IsBefore at (start_at c (k +ℤ pos 1))
before_next c at k around = by (start_at c (k +ℤ pos 1)) refl
  where
    by : (o : Option ℤ) → start_at c (k +ℤ pos 1) ≡ o → IsBefore at o
    by None is = tt
    by (Some end) is = around.late (k +ℤ pos 1) end (omega (arith, ints)) is

-- an on interval that starts no later than a stamp, and ends behind it
pub span_in : (wanted : WantedPlan) (at k s : ℤ) (start : Option ℤ) → IsLaid wanted.calendar → start_at wanted.calendar k ≡ Some s → s ≤ℤ at
    → IsBefore at (start_at wanted.calendar (k +ℤ pos 1))
    → is_on wanted.calendar k ≡ true → start ≡ asked_start wanted (start_at wanted.calendar k)
    → IsSpan wanted at (record { start = start; end = start_at wanted.calendar (k +ℤ pos 1) })
span_in wanted at k s start laid from low here on is = record {
  laid = laid;
  here = here;
  inside = λ t stamp after before.
      ap (asked_start wanted) (held_on wanted.calendar laid k s from on t stamp (omega (arith, ints, low, after)) before) ∙ sym is;
  bound = bound_next wanted.calendar laid k;
}

-- the interval around it, if it is on
pub span_on : (wanted : WantedPlan) (at k : ℤ) (start : Option ℤ) → IsLaid wanted.calendar → IsAround wanted.calendar at k
    → is_on wanted.calendar k ≡ true → start ≡ asked_start wanted (start_at wanted.calendar k)
    → IsSpan wanted at (record { start = start; end = start_at wanted.calendar (k +ℤ pos 1) })
span_on wanted at k start laid around on is =
    let f = on-exists wanted.calendar k on in
    span_in wanted at k f.0 start laid f.1 (around.early k f.0 (omega (arith, ints)) f.1) (before_next wanted.calendar at k around) on is

-- the first of the starts behind a stamp
first_of : (xs : List ℤ) (at s : ℤ) → slice_get (filter (λ x. int_lt at x) xs) 0 ≡ Some s → (at <ℤ s) × IsOneOf s xs
first_of [] at s is = absurd (cc)
first_of (x ∷ xs) at s is = by (int_lt at x) refl is (first_of xs at s)
  where
    by : (b : Bool) → int_lt at x ≡ b → slice_get (cond b (x ∷ filter (λ x. int_lt at x) xs) (filter (λ x. int_lt at x) xs)) 0 ≡ Some s
        → (slice_get (filter (λ x. int_lt at x) xs) 0 ≡ Some s → (at <ℤ s) × IsOneOf s xs) → (at <ℤ s) × IsOneOf s (x ∷ xs)
    by true lt found rest = let same : x ≡ s = same_Some x s found in (subst (λ (z : ℤ). at <ℤ z) same (int_lt-true at x lt), inl same)
    by false ge found rest = let w = rest found in (w.0, inr w.1)

-- none stands between, where they rise
module _ (at : ℤ) where
  none_between : (s : ℤ) (xs : List ℤ) → ((m n : ℕ) (s t : ℤ) → m < n → slice_get xs m ≡ Some s → slice_get xs n ≡ Some t → s <ℤ t)
      → slice_get (filter (λ x. int_lt at x) xs) 0 ≡ Some s → (n : ℕ) (z : ℤ) → slice_get xs n ≡ Some z → at <ℤ z → s ≤ℤ z
  none_between s [] rises is n z there_ lt = absurd (cc)
  none_between s (x ∷ xs) rises is n z there_ lt = by (int_lt at x) refl is n there_
      (λ found m at_m. none_between s xs (λ i j a b less p q. rises (suc i) (suc j) a b (omega (arith, less)) p q) found m z at_m lt)
    where
      by : (b : Bool) → int_lt at x ≡ b → slice_get (cond b (x ∷ filter (λ x. int_lt at x) xs) (filter (λ x. int_lt at x) xs)) 0 ≡ Some s
          → (n : ℕ) → slice_get (x ∷ xs) n ≡ Some z
          → (slice_get (filter (λ x. int_lt at x) xs) 0 ≡ Some s → (m : ℕ) → slice_get xs m ≡ Some z → s ≤ℤ z) → s ≤ℤ z
      by true less found zero there_ rest = let one : x ≡ s = same_Some x s found in let two : x ≡ z = same_Some x z there_ in omega
          (arith, ints, one, two)
      by true less found (suc n) there_ rest = let one : x ≡ s = same_Some x s found in let up = rises zero (suc n) x z
          (omega arith) refl there_ in omega (arith, ints, one, up)
      by false ge found zero there_ rest = let two : x ≡ z = same_Some x z there_ in let no_ = int_lt-false at x ge in absurd
          (omega (arith, ints, two, no_, lt))
      by false ge found (suc n) there_ rest = rest found n there_

  none_behind : (xs : List ℤ) → slice_get (filter (λ x. int_lt at x) xs) 0 ≡ None → (n : ℕ) (z : ℤ) → slice_get xs n ≡ Some z → at <ℤ z → ⊥
  none_behind [] is n z there_ lt = absurd (cc)
  none_behind (x ∷ xs) is n z there_ lt = by (int_lt at x) refl is n there_ (λ found m at_m. none_behind xs found m z at_m lt)
    where
      by : (b : Bool) → int_lt at x ≡ b → slice_get (cond b (x ∷ filter (λ x. int_lt at x) xs) (filter (λ x. int_lt at x) xs)) 0 ≡ None
          → (n : ℕ) → slice_get (x ∷ xs) n ≡ Some z
          → (slice_get (filter (λ x. int_lt at x) xs) 0 ≡ None → (m : ℕ) → slice_get xs m ≡ Some z → ⊥) → ⊥
      by true less found n there_ rest = absurd (cc)
      by false ge found zero there_ rest = let two : x ≡ z = same_Some x z there_ in let no_ = int_lt-false at x ge in absurd
          (omega (arith, ints, two, no_, lt))
      by false ge found (suc n) there_ rest = rest found n there_

-- no on interval holds a stamp that is off, nor one behind it before the next on start
module _ (c : CalendarPlan) (laid : IsLaid c) (at k : ℤ) (stamp : IsStamp at) (around : IsAround c at k) (off : is_on c k ≡ false) where
  off_here : held_start c at ≡ None
  off_here = held-off c at k laid stamp (starts-around c at k laid stamp around) off

  -- an on interval that holds a later stamp starts behind it
  starts_behind : (t s : ℤ) → at ≤ℤ t → held_start c t ≡ Some s → at <ℤ s
  starts_behind t s after held = by_lt_z at s (λ lt. lt) (λ ge. absurd (none ge))
    where
      none : s ≤ℤ at → ⊥
      none le =
          let w = from-held c t s held in
          let low : IsBefore at (start_at c (w.interval +ℤ pos 1)) = before (start_at c (w.interval +ℤ pos 1)) w.held.before in
          let same = held-from c at s laid stamp (record {
            interval = w.interval;
            on = w.on;
            start = w.start;
            held = record { from = s; exists_from = w.start; after = le; before = low };
          }) in
          let none_ = off_here in
          absurd (cc)
        where
          before : (o : Option ℤ) → IsBefore t o → IsBefore at o
          before None is = tt
          before (Some end) is = omega (arith, ints, is, after)

  none_held : (t : ℤ) (o : Option ℤ) → held_start c t ≡ o → ((z : ℤ) → held_start c t ≡ Some z → ⊥) → held_start c t ≡ None
  none_held t None is none = is
  none_held t (Some z) is none = absurd (none z is)

  pub next_is : (o : Option ℤ) → cal_stamp c at 1 ≡ o → IsBefore at o × IsBound c o
      × ((t : ℤ) → at ≤ℤ t → IsBefore t o → held_start c t ≡ None)
  next_is (Some s) is =
      let first = first_of (on_starts c) at s is in
      let listed = at_one (on_starts c) s first.1 in
      let on = start-listed c s listed.0 listed.1 in (
        first.0,
        bound_at c laid on.interval s on.start,
        λ t after before. none_held t (held_start c t) refl (λ z held.
            let behind = starts_behind t z after held in
            let w = from-held c t z held in
            let own = listed-start c z laid (record { interval = w.interval; on = w.on; start = w.start }) in
            let late = none_between at s (on_starts c) (λ m n a b lt p q. listed-rise c m n a b laid lt p q) is own.0 z own.1 behind in
            let low = held_low c t z held in
            omega (arith, ints, late, low, before)),
      )
  next_is None is = (
    tt,
    bound_none c,
    λ t after before. none_held t (held_start c t) refl (λ z held.
        let behind = starts_behind t z after held in
        let w = from-held c t z held in
        let own = listed-start c z laid (record { interval = w.interval; on = w.on; start = w.start }) in
        none_behind at (on_starts c) is own.0 z own.1 behind),
  )

pub span_off : (wanted : WantedPlan) (at k : ℤ) → IsLaid wanted.calendar → IsStamp at → IsAround wanted.calendar at k
    → is_on wanted.calendar k ≡ false
    → IsSpan wanted at (record { start = None; end = cal_stamp wanted.calendar at 1 })
span_off wanted at k laid stamp around off =
    let next = next_is wanted.calendar laid at k stamp around off (cal_stamp wanted.calendar at 1) refl in
    record {
      laid = laid;
      here = next.0;
      inside = λ t is after before. ap (asked_start wanted) (next.2 t after before);
      bound = next.1;
    }

-- no on interval starts before the calendar does
on_late : (c : CalendarPlan) (k s : ℤ) → is_on c k ≡ true → start_at c k ≡ Some s → c.start ≤ℤ s
on_late c k s on start =
    let parts = and_parts (starts_from c.start (start_at c k)) _ on in
    let late : not (int_lt s c.start) ≡ true = sym (ap (starts_from c.start) start) ∙ parts.0 in
    int_lt-false s c.start (turned (int_lt s c.start) late)
  where
    turned : (b : Bool) → not b ≡ true → b ≡ false
    turned true is = sym is
    turned false is = refl

none_early : (c : CalendarPlan) (t : ℤ) → t <ℤ c.start → held_start c t ≡ None
none_early c t early = by (held_start c t) refl
  where
    by : (o : Option ℤ) → held_start c t ≡ o → held_start c t ≡ None
    by None is = is
    by (Some s) is =
        let w = from-held c t s is in
        let late = on_late c w.interval s w.on w.start in
        let low = held_low c t s is in
        absurd (omega (arith, ints, late, low, early))

pub first_going : (wanted : WantedPlan) → IsLaid wanted.calendar
    → IsGoingOn wanted (record { start = None; end = Some wanted.calendar.start }) []
first_going wanted laid = record {
  laid = laid;
  within = tt;
  inside = λ t stamp earlier before. ap (asked_start wanted) (none_early wanted.calendar t before);
  bound = λ t u s v before behind held later. let none = none_early wanted.calendar t before in absurd (cc);
}

-- behind the end of the interval that holds the last start asked for, or behind that stamp where none does, elements belong to later groups
pub last_on : (c : CalendarPlan) (to k last : ℤ) → IsLaid c → IsAround c to k → is_on c k ≡ true
    → ((t : ℤ) → IsStamp t → last <ℤ t → IsBefore t (start_at c (k +ℤ pos 1)) → ⊥)
    → (t s : ℤ) → IsStamp t → last <ℤ t → held_start c t ≡ Some s → to <ℤ s
last_on c to k last laid around on behind t s stamp late held =
    let f = on-exists c k on in
    by (start_at c (k +ℤ pos 1)) refl
  where
    by : (o : Option ℤ) → start_at c (k +ℤ pos 1) ≡ o → to <ℤ s
    by None is = absurd (behind t stamp late (subst (IsBefore t) (sym is) tt))
    by (Some end) is =
        let high = held_high c laid (k +ℤ pos 1) end is t s
        (by_lt_z t end (λ lt. absurd (behind t stamp late (subst (IsBefore t) (sym is) lt))) (λ ge. ge)) held in
        let next = around.late (k +ℤ pos 1) end (omega (arith, ints)) is in
        omega (arith, ints, high, next)

pub last_off : (c : CalendarPlan) (to k : ℤ) → IsLaid c → IsStamp to → IsAround c to k → is_on c k ≡ false → (t s : ℤ) → IsStamp t
    → to <ℤ t → held_start c t ≡ Some s → to <ℤ s
last_off c to k laid stamp around off t s own late held = starts_behind c laid to k stamp around off t s (omega (arith, ints, late)) held
