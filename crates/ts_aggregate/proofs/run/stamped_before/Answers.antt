use Rattle.std.proofs.Common.{to_z, of_z, w64, ◌≡◌, ◌+◌, ◌-◌, ◌*◌, ◌<◌, ℕ, ℤ, Some, length, drop, subst, arith}
use Rattle.std.proofs.lemmas.Int.{ints}
use Rattle.std.proofs.Math.Nat.{mul_comm}
use Rattle.ts_aggregate.specs.Groups.{HasBefore}
use Rattle.ts_aggregate.proofs.PieceLemmas.{first_before, more_fit, all_before}
use Rattle.ts_aggregate.proofs.run.stamped_before.Goals as goal

pub returns-then-cells-lt-FRONT-clause-before : goal.returns-then-cells-lt-FRONT-clause-before
returns-then-cells-lt-FRONT-clause-before c = λ number columns found is are stamped first ordered. first_before (Some c.args.end) found first

pub is_stamped_before-requires-clause-within : goal.is_stamped_before-requires-clause-within
is_stamped_before-requires-clause-within c =
    let r = c.args.cells in
    let i = c.loop-low.invariant in
    let number : ℕ = c.loop-low.low + c.step_within.result - 1 in
    let below : number < r.left = omega (arith, c.step_within.ensures.within, c.loop-low-test.true, i.one, i.within) in
    omega (arith, more_fit number r.left r.size (length r.bytes.now) below c.requires.whole, mul_comm r.size number)

pub returns-clause-before : goal.returns-clause-before
returns-clause-before c = λ number columns found is are stamped first ordered.
    let r = c.args.cells in
    let i = c.loop-low.invariant in
    let low : ℕ = c.loop-low.low in
    let fits = c.units-limit.type_inv in
    let value = c.units-limit.ensures.value in
    let limit : to_z w64 (of_z w64 c.units-limit.result) ≡ c.args.end = omega (arith, ints, fits, value) in
    all_before c.args.end columns r.front r.size low number r.bytes.now found is (omega (arith, c.if-cells-lt-FRONT.false)) i.one
    (λ more. subst (λ (z : ℤ). HasBefore z (drop (r.size * (low - 1)) r.bytes.now)) limit (i.has more)) are stamped first ordered
