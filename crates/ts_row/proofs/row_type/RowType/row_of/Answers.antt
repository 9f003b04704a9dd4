-- The visible row of the values that are given.
use Rattle.std.proofs.Common.{◌≡◌, ◌++◌, IsOkAnd, List, ap, subst, ◌∙◌}
use Rattle.ts_row.specs.declared.kind.Column.{Column}
use Rattle.ts_row.specs.Row.{Heading, values_from}
use Rattle.ts_row.proofs.RowLemmas.{given_fits, row_of-put}
use Rattle.ts_row.proofs.row_type.RowType.row_of.Goals as goal

pub returns-clause-fits : goal.returns-clause-fits
returns-clause-fits c =
    let columns : List Column = c.args.self.now.columns in
    let read : c.as_slice.result.now ≡ columns = c.as_slice.ensures.value ∙ ap (λ (h : Heading). h.columns) c.self.view_is in
    given_fits columns c.args.values.now c.of.result
    (row_of-put columns c.args.values.now c.in_ok-given.given.items c.read_values.new.given.items c.of.result c.in_ok-given.ensures.items
    (subst (λ (cs : List Column). IsOkAnd (values_from 1 cs c.args.values.now) (λ all. c.read_values.new.given.items ≡ c.in_ok-given.given.items ++ all)) read c.in_ok-read_values.ensures.ok) c.of.ensures)
