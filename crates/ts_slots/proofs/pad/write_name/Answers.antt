use Rattle.std.proofs.Common.{◌∷◌, length, ap, ◌∙◌}
use Rattle.ts_layout.specs.Slot.{padded}
use Rattle.ts_slots.proofs.PartLemmas.{behind_padded}
use Rattle.ts_layout.proofs.CallerLemmas.{length-name}
use Rattle.ts_slots.proofs.pad.write_name.Goals as goal

pub returns-clause-bytes : goal.returns-clause-bytes
returns-clause-bytes c =
    let same = c.as_slice-bytes.ensures.value in
    behind_padded (length c.as_slice-bytes.result.now) 32 c.args.into.now c.pad.new.into c.as_slice-bytes.result.now c.args.name.now
    c.pad.ensures same c.pad.auto.into c.requires
    ∙ ap (λ n. n ∷ padded 32 c.args.name.now) (ap length same)

pub returns-clause-short : goal.returns-clause-short
returns-clause-short c = length-name c.args.name.now c.as_slice-bytes.ensures.form
