use Rattle.ts_regular_edits.proofs.RangeLemmas.{offsets_of}
use Rattle.ts_clip.proofs.GridOffsetLemmas.{offsets_least}
use Rattle.ts_clip.proofs.grid_offsets.offsets_of.Goals as goal

pub returns-clause-offsets : goal.returns-clause-offsets
returns-clause-offsets c =
    offsets_least c.args.grid.now c.args.from c.args.to c.offset_from.result c.offset_after-upper.result c.min-lower.result c.min-lower.ensures
    (offsets_of c.args.grid.now c.args.from c.args.to c.offset_from.result c.offset_after-upper.result c.offset_from.ensures c.offset_after-upper.ensures.after)
