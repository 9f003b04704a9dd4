use Rattle.std.proofs.Common.{◌-◌, List, length, take, drop, refl, sym, ap, ◌∙◌, arith}
use Rattle.ts_row.specs.declared.kind.Column.{Column}
use Rattle.ts_row.specs.Row.{Element, seen}
use Rattle.ts_irregular.proofs.BytesLemmas.{part}
use Rattle.ts_irregular.proofs.CellLemmas.{element_is}
use Rattle.ts_clip.proofs.ChainCellLemmas.{cells_next, cells_none, seen_hidden, seen_shown}
use Rattle.ts_clip.proofs.chain_cells.count_cells.Goals as goal
use Rattle.ts_clip.proofs.chain_cells.count_cells.Goals.{then-not-is_hidden_cell, else-not-is_hidden_cell}

pub loop-index-init : goal.loop-index-init
loop-index-init c = record {
  stays = λ none. refl;
  few = omega arith;
  counted = λ es are within same. ap length (cells_none c.args.first es);
}

pub loop-index-preserved : goal.loop-index-preserved
loop-index-preserved c =
    let columns : List Column = c.args.kind.now.columns in
    let index = c.loop-index.index in
    let i = c.loop-index.invariant in
    let low = c.loop-index.auto.index in
    let test = c.loop-index-test.true in
    record {
      stays = λ none. absurd (omega (arith, none, low, test));
      few = elim c.if-not-is_hidden_cell.branch [
        | then-not-is_hidden_cell w ↦ omega (arith, w.count-is, i.few, low)
        | else-not-is_hidden_cell w ↦ omega (arith, w.count-is, i.few, low)
      ];
      counted = λ es are within same.
          let p = part columns index es c.args.behind.now are (omega (arith, test, within)) same in
          let front : List Element = take (index - c.args.first) (drop c.args.first es) in
          let hidden = c.is_hidden_cell.ensures p.element p.is (c.cell_at.ensures.bytes es p.element are (element_is columns index es c.args.behind.now p) same) in
          let next = cells_next columns c.args.first index es c.args.behind.now p low in
          let before = i.counted es are within same in
          elim c.if-not-is_hidden_cell.branch [
            | then-not-is_hidden_cell w ↦ omega (arith, w.count-is, before, ap (λ (l : List Element). length (seen l)) next, seen_shown front p.element (sym hidden ∙ w.if-not-is_hidden_cell.true))
            | else-not-is_hidden_cell w ↦ omega (arith, w.count-is, before, ap (λ (l : List Element). length (seen l)) next, ap length (seen_hidden front p.element (sym hidden ∙ w.if-not-is_hidden_cell.false)))
          ];
    }
