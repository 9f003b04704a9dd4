use Rattle.std.proofs.Common.{◌≡◌, ◌+◌, ◌<◌, ◌≤◌, sym, arith, subst, to_z, of_z, to_z-of_z, w64, pos, ◌+ℤ◌, ◌≤ℤ◌, ◌<ℤ◌}
use Rattle.std.proofs.lemmas.Int.{by_lt_z, ints}
use Rattle.jiff_core.proofs.SignedLemmas.{signed_casts}
use Rattle.ts_calendar.specs.Calendars.{is_on}
use Rattle.ts_offset.specs.Spans.{on_until}
use Rattle.ts_offset.specs.Sums.{IsKnown}
use Rattle.ts_offset.proofs.MakeLemmas.{off-outside, on-grows, on-more, on-same}
use Rattle.ts_offset.proofs.sums.Sums.is_on.Goals as goal

pub returns-then-k-self : goal.returns-then-k-self
returns-then-k-self c =
    let s = c.args.self.now in
    let lt : c.args.k <ℤ s.first = omega (arith, signed_casts, c.if-k-self.true, c.requires, s.facts.near) in
    sym (off-outside s.calendar c.args.k (s.facts.early c.args.k lt))

pub returns-then-known-self : goal.returns-then-known-self
returns-then-known-self c =
    let s = c.args.self.now in
    let f = s.facts in
    let k = c.args.k in
    let k_is : to_z w64 (of_z w64 k) ≡ k = to_z-of_z c.ranges.k in
    let ge : s.first ≤ℤ k = omega (arith, signed_casts, c.if-k-self.false, c.requires, f.near) in
    let known : IsKnown s.first s.existing k c.known-known.result = subst (λ j. IsKnown s.first s.existing j c.known-known.result) k_is c.known-known.ensures in
    let over : (s.first +ℤ pos s.existing) ≤ℤ k = by_lt_z k (s.first +ℤ pos s.existing)
    (λ lt. let at = known.inside ge (omega (arith, ints)) in omega (arith, ints, at, c.if-known-self.true))
    (λ le. le) in
    sym (off-outside s.calendar k (f.late k over))

pub returns-then-before-until : goal.returns-then-before-until
returns-then-before-until c =
    let s = c.args.self.now in
    let f = s.facts in
    let k = c.args.k in
    let k_is : to_z w64 (of_z w64 k) ≡ k = to_z-of_z c.ranges.k in
    let ge : s.first ≤ℤ k = omega (arith, signed_casts, c.if-k-self.false, c.requires, f.near) in
    let known : IsKnown s.first s.existing k c.known-known.result = subst (λ j. IsKnown s.first s.existing j c.known-known.result) k_is c.known-known.ensures in
    let n = c.known-known.result in
    let le : k ≤ℤ (s.first +ℤ pos s.existing) = by_lt_z (s.first +ℤ pos s.existing) k
    (λ lt. let all = known.late (omega (arith, ints)) in absurd (omega (arith, all, c.if-known-self.false)))
    (λ le. le) in
    let grows = on-grows s.calendar s.spans.items s.round s.each s.place s.existing s.first n k f (omega (arith, c.if-known-self.false)) (known.inside ge le) in
    let rs = s.calendar.pattern.runs in
    let lt : on_until rs (s.place + n) < on_until rs (s.place + (n + 1)) =
    omega (arith, c.until-before.ensures.value, c.until.ensures.value, c.if-before-until.true) in
    sym (on-more (is_on s.calendar k) (on_until rs (s.place + n)) (on_until rs (s.place + (n + 1))) grows lt)

pub returns : goal.returns
returns c =
    let s = c.args.self.now in
    let f = s.facts in
    let k = c.args.k in
    let k_is : to_z w64 (of_z w64 k) ≡ k = to_z-of_z c.ranges.k in
    let ge : s.first ≤ℤ k = omega (arith, signed_casts, c.if-k-self.false, c.requires, f.near) in
    let known : IsKnown s.first s.existing k c.known-known.result = subst (λ j. IsKnown s.first s.existing j c.known-known.result) k_is c.known-known.ensures in
    let n = c.known-known.result in
    let le : k ≤ℤ (s.first +ℤ pos s.existing) = by_lt_z (s.first +ℤ pos s.existing) k
    (λ lt. let all = known.late (omega (arith, ints)) in absurd (omega (arith, all, c.if-known-self.false)))
    (λ le. le) in
    let grows = on-grows s.calendar s.spans.items s.round s.each s.place s.existing s.first n k f (omega (arith, c.if-known-self.false)) (known.inside ge le) in
    let rs = s.calendar.pattern.runs in
    let ge_sum : on_until rs (s.place + (n + 1)) ≤ on_until rs (s.place + n) =
    omega (arith, c.until-before.ensures.value, c.until.ensures.value, c.if-before-until.false) in
    sym (on-same (is_on s.calendar k) (on_until rs (s.place + n)) (on_until rs (s.place + (n + 1))) grows ge_sum)
