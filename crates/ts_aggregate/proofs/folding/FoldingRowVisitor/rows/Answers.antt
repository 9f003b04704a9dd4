use Rattle.std.proofs.Common.{List, map, subst}
use Rattle.std.proofs.lemmas.Result.{on_ok_weaker}
use Rattle.ts_row.specs.Row.{Row}
use Rattle.ts_entry.specs.Rows.{row_if_any}
use Rattle.ts_entry.proofs.CallerLemmas.{rows_held}
use Rattle.ts_aggregate.specs.Fold.{Takes}
use Rattle.ts_aggregate.proofs.folding.FoldingRowVisitor.rows.Goals as goal

pub returns : goal.returns
returns c = record {
  took = on_ok_weaker c.take.result
      (λ took found are. subst (λ (l : List Row). Takes c.args.kind.now.columns c.args.self.now l c.take.new.self) (rows_held found)
      (took (map row_if_any found) are.rows))
      c.take.ensures.took;
}
