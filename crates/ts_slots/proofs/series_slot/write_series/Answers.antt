use Rattle.std.proofs.Common.{arith, ◌∙◌, ◌++◌, ◌∷◌, List, ℕ, length}
use Rattle.ts_layout.specs.Slot.{padded, regular_bytes, series_bytes}
use Rattle.ts_slots.proofs.PartLemmas.{behind_two}
use Rattle.ts_slots.proofs.series_slot.write_series.Goals as goal

pub returns : goal.returns
unfolding series_bytes
returns c =
    let rest : List ℕ = c.args.container ∷ padded 27 (regular_bytes c.args.regular.now) in
    behind_two c.code.result (length c.as_slice-key.result.now) c.args.slot.now c.write_key.new.into _ c.write_key.ensures c.write_key.auto.into (omega arith)
    ∙ (λ i. c.code.ensures i ∷ (length (c.as_slice-key.ensures.value i) ∷ (padded 64 (c.as_slice-key.ensures.value i) ++ rest)))
