-- The bytes are those of the values, whose numbers they are.
use Rattle.std.proofs.Common.{◌∙◌, ◌++◌, ap, List, Option}
use Rattle.std.specs.Prelude.{ℤ}
use Rattle.std.proofs.lemmas.Result.{on_ok_weaker}
use Rattle.ts_running.specs.Binding.{numbers_of}
use Rattle.ts_running_rows.proofs.NumberLemmas.{seen_values}
use Rattle.ts_running_rows.proofs.number.numbers_in.Goals as goal

pub returns : goal.returns
returns c =
    on_ok_weaker c.put_numbers.result
    (λ is r seen. is r.values (seen_values c.args.kind.now.stamp c.args.kind.now.columns c.columns.result.now c.args.row.now r c.columns.ensures.rules c.columns.ensures.value seen)
    ∙ ap (λ (l : List (Option ℤ)). l ++ numbers_of r.values) c.clear.ensures.items)
    c.put_numbers.ensures
