use Rattle.std.proofs.Common.{◌-◌, ◌<◌, ℕ, length, arith}
use Rattle.std.proofs.Math.Nat.{mul_comm}
use Rattle.ts_aggregate.proofs.PieceLemmas.{more_fit}
use Rattle.ts_aggregate.proofs.run.first_low.Goals as goal

pub is_stamped_before-requires-clause-within : goal.is_stamped_before-requires-clause-within
is_stamped_before-requires-clause-within c =
    let r = c.args.cells in
    let number : ℕ = c.args.mostly - 1 in
    let below : number < r.left = omega arith in
    omega (arith, more_fit number r.left r.size (length r.bytes.now) below c.requires.whole, mul_comm r.size number)
