use Rattle.std.proofs.Common.{◌≡◌, true, false, List, sym, ◌∙◌, arith}
use Rattle.std.proofs.lemmas.Result.{IfOk-weaker}
use Rattle.ts_row.specs.declared.kind.Column.{Column}
use Rattle.ts_irregular.proofs.BytesLemmas.{part}
use Rattle.ts_irregular.proofs.CellLemmas.{element_is}
use Rattle.ts_clip.proofs.ChainCellLemmas.{none_next, first_here}
use Rattle.ts_clip.proofs.chain_cells.first_among.Goals as goal

pub returns-then-not-is_hidden_cell-clause-first : goal.returns-then-not-is_hidden_cell-clause-first
returns-then-not-is_hidden_cell-clause-first c =
    let columns : List Column = c.args.kind.now.columns in
    let index = c.loop-index.index in
    let test = c.loop-index-test.true in
    IfOk-weaker c.element_in.result _ _
    (λ found is es are count same.
    let p = part columns index es c.args.behind.now are (omega (arith, test, count)) same in
    let cell = c.cell_at-cell.ensures.bytes es p.element are (element_is columns index es c.args.behind.now p) same in
    let shown : p.element.1.hidden ≡ false = sym (c.is_hidden_cell.ensures p.element p.is cell) ∙ c.if-not-is_hidden_cell.true in
    is p.element p.is cell ∙ first_here columns index es c.args.behind.now p (c.loop-index.invariant es are count same) shown)
    c.element_in.ensures.found

pub loop-index-preserved : goal.loop-index-preserved
loop-index-preserved c = λ es are count same.
    let columns : List Column = c.args.kind.now.columns in
    let index = c.loop-index.index in
    let test = c.loop-index-test.true in
    let p = part columns index es c.args.behind.now are (omega (arith, test, count)) same in
    let cell = c.cell_at-cell.ensures.bytes es p.element are (element_is columns index es c.args.behind.now p) same in
    let hidden : p.element.1.hidden ≡ true = sym (c.is_hidden_cell.ensures p.element p.is cell) ∙ c.if-not-is_hidden_cell.false in
    none_next columns index es c.args.behind.now p (c.loop-index.invariant es are count same) hidden
