-- A stretch that goes on ends by both reaches; where it doesn't, one of them is over.
use Rattle.std.proofs.Common.{◌≡◌, inl, inr, arith, to_z-of_z}
use Rattle.std.proofs.lemmas.Int.{ints}
use Rattle.ts_combine.specs.Reach.{reach_end}
use Rattle.ts_combine.proofs.sweep.stretch_end.Goals as goal

pub returns-else-end-at-clause-within : goal.returns-else-end-at-clause-within
returns-else-end-at-clause-within c = λ lt.
    let a : c.end.result ≡ reach_end c.args.first.now c.args.at = rw (to_z-of_z c.ranges.at) at c.end.ensures in
    let b : c.end-2.result ≡ reach_end c.args.second.now c.args.at = rw (to_z-of_z c.ranges.at) at c.end-2.ensures in
    let x = c.earlier-end.ensures in
    let y = c.earlier.ensures in
    (omega (arith, ints, a, x.first, y.first), omega (arith, ints, b, x.second, y.first))

pub returns-else-end-at-clause-over : goal.returns-else-end-at-clause-over
returns-else-end-at-clause-over c = λ le.
    let before = c.requires in
    elim c.earlier.ensures.one [
      | inl e ↦ absurd (omega (arith, ints, e, le))
      | inr e ↦ absurd (omega (arith, ints, e, le, before))
    ]
