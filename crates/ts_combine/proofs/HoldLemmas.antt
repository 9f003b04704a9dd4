-- Which starts of a line an interval of a calendar holds.
use Rattle.std.proofs.Common.{◌≡◌, ◌∙◌, sym, subst, arith, ℤ, pos, ◌+ℤ◌, ◌≤ℤ◌, ◌<ℤ◌, Some, None}
use Rattle.std.proofs.lemmas.Int.{by_lt_z, ints}
use Rattle.std.proofs.lemmas.Option.{same_Some}
use Rattle.ts_calendar.specs.Calendars.{CalendarPlan, IsLaid, IsBefore, start_at}
use Rattle.ts_offset.specs.Grid.{IsFirstFrom, IsOnStart, held_start}
use Rattle.ts_offset.proofs.StartLemmas.{IsAt, on-line, at-around}
use Rattle.ts_offset.proofs.OwnLemmas.{held-from, from-held}
use Rattle.ts_combine.specs.Line.{AreHeldFrom}

module _ (c line : CalendarPlan) (stamp k low : ℤ) (laid : IsLaid c) (line_laid : IsLaid line) (around : IsAt c stamp k) (from : IsFirstFrom line stamp low) (own : IsOnStart c stamp) where
  -- the interval around the stamp is the one that starts there
  same-interval : (j : ℤ) → start_at c j ≡ Some stamp → j ≡ k
  same-interval j start = at-around c k j stamp laid around start

  is-held : (j s : ℤ) → start_at line j ≡ Some s → stamp ≤ℤ s → IsBefore s (start_at c (k +ℤ pos 1)) → held_start c s ≡ Some stamp
  is-held j s start after before =
      let same = same-interval own.interval own.start in
      held-from c s stamp laid (on-line line j s line_laid start).1 (record {
        interval = own.interval;
        on = own.on;
        start = own.start;
        held = record {
          from = stamp;
          exists_from = own.start;
          after = after;
          before = subst (λ i. IsBefore s (start_at c (i +ℤ pos 1))) (sym same) before;
        };
      })

  -- what is held comes from the stamp on, before the next start
  held-is : (s : ℤ) → held_start c s ≡ Some stamp → (stamp ≤ℤ s) × IsBefore s (start_at c (k +ℤ pos 1))
  held-is s held =
      let w = from-held c s stamp held in
      let same = same-interval w.interval w.start in
      let start : w.held.from ≡ stamp = same_Some w.held.from stamp (sym w.held.exists_from ∙ w.start) in
      let after = w.held.after in
      (omega (arith, ints, start, after), subst (λ i. IsBefore s (start_at c (i +ℤ pos 1))) same w.held.before)

  -- where the next interval exists
  pub held-some : (limit end high : ℤ) → start_at c (k +ℤ pos 1) ≡ Some end → IsFirstFrom line end high → AreHeldFrom c line limit stamp low high
  held-some limit end high next to = record {
    held = λ j s lt le less start.
        is-held j s start (from.later j s le start) (subst (IsBefore s) (sym next) (to.earlier j s less start));
    only = λ j s lt start held.
        let is = held-is s held in
        let before : s <ℤ end = subst (IsBefore s) next is.1 in
        let after = is.0 in (
          by_lt_z j low (λ less. let early = from.earlier j s less start in absurd (omega (arith, ints, early, after))) (λ ge. ge),
          by_lt_z j high (λ less. less) (λ ge. let late = to.later j s ge start in absurd (omega (arith, ints, late, before))),
        );
    early = λ j s lt start. from.earlier j s lt start;
  }

  -- where it doesn't
  pub held-none : (limit : ℤ) → start_at c (k +ℤ pos 1) ≡ None → AreHeldFrom c line limit stamp low limit
  held-none limit next = record {
    held = λ j s lt le less start. is-held j s start (from.later j s le start) (subst (IsBefore s) (sym next) tt);
    only = λ j s lt start held.
        let is = held-is s held in
        let after = is.0 in
        (by_lt_z j low (λ less. let early = from.earlier j s less start in absurd (omega (arith, ints, early, after))) (λ ge. ge), lt);
    early = λ j s lt start. from.earlier j s lt start;
  }
