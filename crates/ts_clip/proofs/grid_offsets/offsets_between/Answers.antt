use Rattle.std.proofs.Common.{min, ap, sym, ◌∙◌}
use Rattle.ts_clip.proofs.GridOffsetLemmas.{clipped_between}
use Rattle.ts_clip.proofs.grid_offsets.offsets_between.Goals as goal

pub returns-clause-entries : goal.returns-clause-entries
returns-clause-entries c = λ entries at count.
    let all = c.offsets_of-all.result in
    clipped_between c.args.grid.now c.requires.laid entries at c.args.from c.args.to all.lower all.upper c.min-lower.result c.min-upper.result c.offsets_of-all.ensures.offsets
    (c.min-upper.ensures ∙ ap (min all.upper) (sym count)) c.min-lower.ensures
