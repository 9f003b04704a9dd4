-- The offsets of the two stamps are those of the range that is cleared.
use Rattle.std.proofs.lemmas.Result.{IfOk-weaker}
use Rattle.ts_regular_edits.proofs.RangeLemmas.{offsets_of}
use Rattle.ts_regular_edits.proofs.range.clear_at.Goals as goal

pub returns-clause-ok : goal.returns-clause-ok
returns-clause-ok g c =
    IfOk-weaker c.regular_clear.result _ _
    (λ r is. record {
      lower = c.offset_from-lower.result;
      upper = c.offset_after-upper.result;
      offsets = offsets_of c.args.grid.now c.args.from c.args.to c.offset_from-lower.result c.offset_after-upper.result c.offset_from-lower.ensures c.offset_after-upper.ensures.after;
      cleared = is;
    }) c.regular_clear.ensures.ok
