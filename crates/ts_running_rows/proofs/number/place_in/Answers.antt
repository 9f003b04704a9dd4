-- The bytes are those of the values, whose place it is.
use Rattle.std.proofs.Common.{◌∙◌, sym}
use Rattle.ts_running_rows.proofs.NumberLemmas.{seen_values, seen_place}
use Rattle.ts_running_rows.proofs.number.place_in.Goals as goal

pub returns-clause-value : goal.returns-clause-value
returns-clause-value c = λ r seen.
    c.place_at.ensures.value r.values (seen_values c.args.kind.now.stamp c.args.kind.now.columns c.columns.result.now c.args.row.now r c.columns.ensures.rules c.columns.ensures.value seen)
    ∙ sym (seen_place c.args.column r seen.seen)
