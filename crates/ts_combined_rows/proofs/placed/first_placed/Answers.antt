use Rattle.std.proofs.Common.{◌≡◌, pos, ◌+ℤ◌, arith}
use Rattle.std.proofs.lemmas.Int.{ints}
use Rattle.ts_combined_rows.proofs.PlacedLemmas.{none_earliest, none_before, none_at}
use Rattle.ts_combined_rows.proofs.placed.first_placed.Goals as goal

pub returns-then-by-ge0-clause-some : goal.returns-then-by-ge0-clause-some
returns-then-by-ge0-clause-some c = none_earliest c.args.grid.now c.requires c.args.by c.origin.result c.origin.ensures.value

pub returns-clause-some : goal.returns-clause-some
returns-clause-some c =
    let zero : pos c.unsigned_abs.result +ℤ c.args.by ≡ pos 0 = omega (arith, ints, c.unsigned_abs.ensures.value, c.if-by-ge0.false) in
    none_before c.args.grid.now c.requires c.args.by c.unsigned_abs.result c.stamp_of.result c.stamp_of.ensures.value zero

pub returns-clause-none : goal.returns-clause-none
returns-clause-none c =
    let zero : pos c.unsigned_abs.result +ℤ c.args.by ≡ pos 0 = omega (arith, ints, c.unsigned_abs.ensures.value, c.if-by-ge0.false) in
    none_at c.args.grid.now c.requires c.args.by c.unsigned_abs.result c.stamp_of.result c.stamp_of.ensures.fewer zero
