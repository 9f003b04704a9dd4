use Rattle.std.proofs.Common.{List, fold, sym, ap, ◌∙◌}
use Rattle.ts_row.specs.declared.value.Value.{Value}
use Rattle.ts_expr.specs.declared.tally.Tally.{Tally}
use Rattle.ts_expr.specs.declared.tally.Tally.TheVariants as tally
use Rattle.ts_expr.specs.Running.{with_value}
use Rattle.ts_aggregate.specs.Column.{read_values}
use Rattle.ts_aggregate.proofs.ColumnLemmas.{first_all, last_all}
use Rattle.ts_aggregate.proofs.column.take_column.Goals as goal

pub returns-in_ok-keep_first-in-First-clause-value : goal.returns-in_ok-keep_first-in-First-clause-value
returns-in_ok-keep_first-in-First-clause-value c = λ small few.
    let values : List Value = read_values c.args.kind c.args.cells in
    ap (λ (v : Value). tally.First v) c.in_ok-keep_first-in-First.ensures ∙ first_all c.in-First.kept values
    ∙ ap (λ (t : Tally). fold with_value t values) (sym c.in-First.is)

pub returns-in_ok-keep_last-in-Last-clause-value : goal.returns-in_ok-keep_last-in-Last-clause-value
returns-in_ok-keep_last-in-Last-clause-value c = λ small few.
    let values : List Value = read_values c.args.kind c.args.cells in
    ap (λ (v : Value). tally.Last v) c.in_ok-keep_last-in-Last.ensures ∙ last_all c.in-Last.kept values
    ∙ ap (λ (t : Tally). fold with_value t values) (sym c.in-Last.is)
