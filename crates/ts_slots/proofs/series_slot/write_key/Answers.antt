use Rattle.std.proofs.Common.{arith, ◌∙◌, ap, sym}
use Rattle.ts_layout.specs.Slot.{padded}
use Rattle.ts_slots.proofs.PartLemmas.{parts, front}
use Rattle.ts_slots.proofs.series_slot.write_key.Goals as goal

pub slice_bounds-pad-end-2 : goal.slice_bounds-pad-end-2
slice_bounds-pad-end-2 c = front 64 c.args.into.now (omega arith)

pub pad-requires : goal.pad-requires
pad-requires c = omega (arith, front 64 c.args.into.now (omega arith))

pub returns : goal.returns
returns c =
    let first = c.pad.ensures ∙ ap (λ n. padded n c.args.key.now) (sym (front 64 c.args.into.now (omega arith))) in
    parts 64 c.args.into.now c.pad.new.into c.write_container.new.into _ _ first c.write_container.ensures c.pad.auto.into c.write_container.auto.into (omega arith)
