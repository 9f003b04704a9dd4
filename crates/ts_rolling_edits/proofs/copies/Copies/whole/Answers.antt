use Rattle.std.proofs.Common.{refl}
use Rattle.ts_rolling_edits.proofs.copies.Copies.whole.Goals as goal

pub returns : goal.returns
returns c = (c.in_ok-defs.ensures.ok, refl)
