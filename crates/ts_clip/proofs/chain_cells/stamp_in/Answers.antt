use Rattle.std.proofs.Common.{◌∙◌}
use Rattle.ts_clip.proofs.ChainCellLemmas.{stamp_read}
use Rattle.ts_clip.proofs.chain_cells.stamp_in.Goals as goal

pub returns : goal.returns
returns c = λ e is same. c.of.ensures ∙ stamp_read c.args.kind.now.columns e c.args.cell.now is same c.cell_size.result c.units_at.result c.units_at.ensures
