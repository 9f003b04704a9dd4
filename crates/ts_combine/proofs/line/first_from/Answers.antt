-- The interval around a stamp, where it starts there, or the one behind it.
use Rattle.std.proofs.Common.{◌≡◌, ◌∙◌, ap, arith, ℤ, pos, ◌+ℤ◌, ◌≤ℤ◌, to_z, of_z, w64, subst}
use Rattle.std.proofs.lemmas.Int.{ints}
use Rattle.ts_calendar.specs.Calendars.{start_at}
use Rattle.ts_calendar.proofs.LawLemmas.{starts-around}
use Rattle.ts_offset.specs.Grid.{IsFirstFrom}
use Rattle.ts_offset.proofs.StartLemmas.{first-at, first-from-next, on-line, line}
use Rattle.ts_combine.proofs.line.first_from.Goals as goal

pub returns-then-starts_at-clause-first : goal.returns-then-starts_at-clause-first
returns-then-starts_at-clause-first c =
    let plan = c.args.calendar.now in
    let k = c.interval_around-k.result in
    let e = c.interval_around-k.ensures in
    first-at plan (to_z w64 (of_z w64 k)) c.args.stamp e.laid
    (omega (arith, ints, e.near), omega (arith, ints, e.near)) (c.starts_at.ensures.0 c.if-starts_at.true)

pub returns-clause-first : goal.returns-clause-first
returns-clause-first c =
    let plan = c.args.calendar.now in
    let k = c.interval_around-k.result in
    let e = c.interval_around-k.ensures in
    let same : to_z w64 (of_z w64 k) ≡ k = omega (arith, ints, e.near) in
    let next : k +ℤ pos 1 ≡ to_z w64 (of_z w64 (to_z w64 (of_z w64 k) +ℤ pos 1)) = omega (arith, ints, e.near) in
    subst (IsFirstFrom plan c.args.stamp) next
    (first-from-next plan k c.args.stamp e.laid (starts-around plan c.args.stamp k e.laid e.stamp e.around)
    (omega (arith, ints, e.near), omega (arith, ints, e.near))
    (λ start. let yes_ = c.starts_at.ensures.1 (ap (start_at plan) same ∙ start) in let no_ = c.if-starts_at.false in absurd (cc)))

pub returns-then-starts_at-clause-line : goal.returns-then-starts_at-clause-line
returns-then-starts_at-clause-line c =
    let plan = c.args.calendar.now in
    let e = c.interval_around-k.ensures in
    let here = on-line plan (to_z w64 (of_z w64 c.interval_around-k.result)) c.args.stamp e.laid (c.starts_at.ensures.0 c.if-starts_at.true) in
    omega (arith, ints, here.0)

pub returns-clause-line : goal.returns-clause-line
returns-clause-line c =
    let plan = c.args.calendar.now in
    let k = c.interval_around-k.result in
    let e = c.interval_around-k.ensures in
    let next : k +ℤ pos 1 ≡ to_z w64 (of_z w64 (to_z w64 (of_z w64 k) +ℤ pos 1)) = omega (arith, ints, e.near) in
    let around = starts-around plan c.args.stamp k e.laid e.stamp e.around in
    let before = around.before in
    subst (λ (j : ℤ). c.args.stamp ≤ℤ line plan j) next (omega (arith, ints, before))
