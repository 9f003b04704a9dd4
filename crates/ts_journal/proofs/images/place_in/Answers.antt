use Rattle.std.proofs.Common.{◌+◌, ◌-◌, ◌/◌, ◌^◌, map, arith, ap}
use Rattle.ts_journal.specs.Journal.{Entry}
use Rattle.ts_journal.specs.Stored.{entry_of}
use Rattle.ts_journal.proofs.BatchLemmas.{no_entry, place_above, place_below, place_within}
use Rattle.ts_journal.proofs.StoredLemmas.{kept_length, kept_at}
use Rattle.ts_journal.proofs.images.place_in.Goals as goal

pub loop-low-init : goal.loop-low-init
loop-low-init c =
    let es = map entry_of c.args.items.now in
    record { from = omega arith; to = omega (arith, place_within es c.args.no, kept_length c.args.items.now); within = omega arith }

pub loop-low-preserved-then-items-middle : goal.loop-low-preserved-then-items-middle
loop-low-preserved-then-items-middle c =
    let xs = c.args.items.now in
    let middle = c.loop-low.low + (c.loop-low.high - c.loop-low.low) / 2 in
    let is = ap (λ (e : Entry). e.0) (kept_at xs middle c.index-items-middle.result no_entry (omega arith)) in
    let above = place_above (map entry_of xs) 0 (2 ^ 32) c.args.no middle no_entry c.requires (omega (arith, kept_length xs)) (omega (arith, is, c.if-items-middle.true)) in
    record { from = omega (arith, above); to = c.loop-low.invariant.to; within = c.loop-low.invariant.within }

pub loop-low-preserved : goal.loop-low-preserved
loop-low-preserved c =
    let xs = c.args.items.now in
    let middle = c.loop-low.low + (c.loop-low.high - c.loop-low.low) / 2 in
    let is = ap (λ (e : Entry). e.0) (kept_at xs middle c.index-items-middle.result no_entry (omega arith)) in
    let below = place_below (map entry_of xs) c.args.no middle no_entry (omega (arith, kept_length xs)) (omega (arith, is, c.if-items-middle.false)) in
    record { from = c.loop-low.invariant.from; to = below; within = omega arith }
