use Rattle.std.proofs.Common.{◌-◌, length, sym, ◌∙◌, arith}
use Rattle.std.specs.List.{flat_map}
use Rattle.std.specs.Int.{w16, to_be_bytes}
use Rattle.ts_layout.specs.Slot.{run_bytes}
use Rattle.ts_slots.proofs.PartLemmas.{parts_padded, padded-append}
use Rattle.ts_slots.proofs.plan.write_counted.Goals as goal

pub returns : goal.returns
returns c =
    parts_padded 2 (length c.args.into.now - 2) c.args.into.now c.copy_from_slice.new.self c.write_runs.new.into
    (to_be_bytes w16 (length c.args.runs.now)) (flat_map run_bytes c.args.runs.now)
    (c.copy_from_slice.ensures.after ∙ c.to_be_bytes.ensures) c.write_runs.ensures c.copy_from_slice.auto.self c.write_runs.auto.into (omega arith)
    ∙ sym (padded-append (length c.args.into.now) (to_be_bytes w16 (length c.args.runs.now)) (flat_map run_bytes c.args.runs.now))
