-- On starts, counted from an interval whose counts are known.
use Rattle.std.proofs.Common.{◌≡◌, ℕ, ◌+◌, ◌-◌, ◌<◌, ◌≤◌, true, List, length, drop, sym, ap, ◌∙◌, arith, ℤ, pos, ◌+ℤ◌, ◌≤ℤ◌, subst}
use Rattle.std.proofs.lemmas.Int.{by_lt_z, ints}
use Rattle.ts_pattern.specs.Patterns.{later_flag}
use Rattle.ts_calendar.specs.Calendars.{CalendarPlan}
use Rattle.ts_offset.specs.declared.counted.Counted.{Counted}
use Rattle.ts_offset.specs.declared.span.Span.{Span}
use Rattle.ts_offset.specs.Grid.{gap, on_start, starts_among}
use Rattle.ts_offset.specs.Spans.{on_until}
use Rattle.ts_offset.specs.Sums.{IsSummed, IsKnown, IsCounted, starts_left}
use Rattle.ts_offset.proofs.ListLemmas.{taken-zero}
use Rattle.ts_offset.proofs.WindowLemmas.{gap-up, gap-none}
use Rattle.ts_offset.proofs.SpanLemmas.{until-rises}
use Rattle.ts_offset.proofs.SumLemmas.{cut, summed}
use Rattle.ts_offset.proofs.OnwardLemmas.{left-from}

-- no more come before an earlier interval
known-rises : (c : CalendarPlan) (spans : List Span) (round each place existing : ℕ) (first k j : ℤ) (low high : ℕ) → IsSummed c spans round each place existing first
    → IsKnown first existing k low → IsKnown first existing j high → k ≤ℤ j → low ≤ high
known-rises c spans round each place existing first k j low high s a b le =
    let steps = gap k j in
    let end : k +ℤ pos steps ≡ j =
    by_lt_z k j (λ lt. let width = gap-up k j lt in omega (arith, ints, width)) (λ ge. let width = gap-none k j ge in omega (arith, ints, width)) in
    (cut c spans round each place existing first k steps low high s a (subst (λ x. IsKnown first existing x high) (sym end) b)).0

-- the on starts from it up to another interval
pub counted-to : (c : CalendarPlan) (spans : List Span) (round each place existing : ℕ) (first : ℤ) (n : Counted) (to : ℤ) (high : ℕ) → IsSummed c spans round each place existing first
    → IsCounted c place existing first n → IsKnown first existing to high
    → on_until c.pattern.runs (place + high) - n.before ≡ length (starts_among c n.interval (gap n.interval to))
counted-to c spans round each place existing first n to high s a b =
    let rs = c.pattern.runs in
    let from = n.interval in
    let steps = gap from to in
    by_lt_z from to
    (λ lt.
    let width = gap-up from to lt in
    let end : from +ℤ pos steps ≡ to = omega (arith, ints, width) in
    let w = cut c spans round each place existing first from steps a.known high s a.is_known (subst (λ x. IsKnown first existing x high) (sym end) b) in
    let sum = summed c spans round each place existing first from steps a.known high s w.0 b.few w.1 in
    less (length (starts_among c from steps)) (on_until rs (place + a.known)) (on_until rs (place + high)) n.before a.before_is sum)
    (λ ge.
    let le = known-rises c spans round each place existing first to from high a.known s b a.is_known ge in
    let rises = until-rises rs (place + high) (place + a.known) (omega (arith, s.whole, s.round_is)) (omega (arith, le)) in
    let none = ap (λ m. length (starts_among c from m)) (gap-none from to ge) ∙ ap length (taken-zero (on_start c) from) in
    over (length (starts_among c from steps)) (on_until rs (place + a.known)) (on_until rs (place + high)) n.before a.before_is none rises)
  where
    less : (l u v b : ℕ) → b ≡ u → l + u ≡ v → v - b ≡ l
    less l u v b p q = omega arith

    over : (l u v b : ℕ) → b ≡ u → l ≡ 0 → v ≤ u → v - b ≡ l
    over l u v b p q r = omega arith

-- those that are left at an interval are the ones behind as many as are skipped
pub counted-left : (c : CalendarPlan) (spans : List Span) (round each place existing : ℕ) (first : ℤ) (n : Counted) (skip many at : ℕ) → IsSummed c spans round each place existing first
    → IsCounted c place existing first n → later_flag c.pattern.runs at ≡ true → on_until c.pattern.runs at ≡ n.before + many
    → (skip < n.left → many ≡ skip) → (n.left ≤ skip → many ≡ n.left)
    → (place ≤ at) × (starts_left c first place existing at ≡ drop skip (starts_among c n.interval (gap n.interval (first +ℤ pos existing))))
counted-left c spans round each place existing first n skip many at s a on number few over =
    left-from c spans round each place existing first n.interval a.known skip many at s a.is_known on (omega (arith, number, a.before_is))
    (λ lt. few (omega (arith, lt, a.before_is, a.left_is)))
    (λ ge. let m = over (omega (arith, ge, a.before_is, a.left_is)) in omega (arith, m, a.before_is, a.left_is))
