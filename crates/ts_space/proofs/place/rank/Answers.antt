use Rattle.std.proofs.Common.{arith, rules, w64}
use Rattle.std.proofs.lemmas.Int.{to_z-of_z}
use Rattle.ts_space.proofs.PlaceLemmas.{rank_above, rank_below, rank_within, lower_read, higher_read}
use Rattle.ts_space.proofs.place.rank.Goals as goal

pub loop-low-init : goal.loop-low-init
loop-low-init c = rw (to_z-of_z w64 c.args.at c.ranges.at) (record { from = omega arith; to = rank_within c.args.places.now c.args.at; within = omega arith })

pub loop-low-preserved-then-places-middle : goal.loop-low-preserved-then-places-middle
loop-low-preserved-then-places-middle c =
    let i = c.loop-low.invariant in
    let lower = lower_read _ c.args.at (search rules) c.ranges.at c.if-places-middle.true in
    let above = rank_above c.args.places.now c.args.at _ _ c.requires (omega arith) lower in
    rw (to_z-of_z w64 c.args.at c.ranges.at) (record { from = omega (arith, above); to = rw (to_z-of_z w64 c.args.at c.ranges.at) at i.to; within = i.within })

pub loop-low-preserved : goal.loop-low-preserved
loop-low-preserved c =
    let i = c.loop-low.invariant in
    let higher = higher_read _ c.args.at (search rules) c.ranges.at c.if-places-middle.false in
    let below = rank_below c.args.places.now c.args.at _ _ (omega arith) higher in
    rw (to_z-of_z w64 c.args.at c.ranges.at) (record { from = rw (to_z-of_z w64 c.args.at c.ranges.at) at i.from; to = below; within = omega arith })
