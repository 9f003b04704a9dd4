-- The cells are judged one by one, and what stands behind them is zero.
use Rattle.std.proofs.Common.{◌≡◌, ◌-◌, ◌*◌, ℕ, true, false, List, length, take, drop, sym, ap, ◌∙◌}
use Rattle.ts_page.specs.Pages.{are_zero}
use Rattle.ts_row.specs.declared.kind.Column.{Column}
use Rattle.ts_cells.specs.IrregularPage.{cell_size, behind_head}
use Rattle.ts_cells.proofs.CellLemmas.{if_some_weaker, if_none_weaker}
use Rattle.ts_cells.proofs.HeadLemmas.{is_zero, front_cells, behind_cells, behind_again}
use Rattle.ts_cells.proofs.extent.extent_in.Goals as goal

pub returns-then-not-is_zero-clause-none : goal.returns-then-not-is_zero-clause-none
returns-then-not-is_zero-clause-none c = λ es order count same.
    let columns : List Column = c.args.kind.now.columns in
    let n : ℕ = c.args.count in
    let rest : c.split_at.result.1.now ≡ drop (cell_size columns * n) (behind_head columns es) =
    c.split_at.ensures.back ∙ (λ j. drop (c.cell_size.ensures.value j * n) (same j)) in
    let zeros : are_zero c.split_at.result.1.now ≡ true = ap are_zero (rest ∙ behind_cells columns es n order.each count) ∙ is_zero (4064 - cell_size columns * length es) in
    let other : are_zero c.split_at.result.1.now ≡ false = sym c.is_zero.ensures.ok ∙ c.if-not-is_zero.true in
    absurd (cc)

pub returns-clause-none : goal.returns-clause-none
returns-clause-none c =
    if_none_weaker c.extent_of_cells.result _ _
    (λ none es order count same.
    let columns : List Column = c.args.kind.now.columns in
    none es order count
    (c.split_at.ensures.front ∙ (λ j. take (c.cell_size.ensures.value j * c.args.count) (same j)) ∙ front_cells columns es c.args.count order.each count)) c.extent_of_cells.ensures.none

pub returns-clause-found : goal.returns-clause-found
returns-clause-found c =
    if_some_weaker c.extent_of_cells.result _ _
    (λ extent found.
    let columns : List Column = c.args.kind.now.columns in
    let n : ℕ = c.args.count in
    let cells : take (cell_size columns * n) c.args.behind.now ≡ c.split_at.result.0.now =
    (λ j. take (sym c.cell_size.ensures.value j * n) c.args.behind.now) ∙ sym c.split_at.ensures.front in
    let zeros : are_zero (drop (cell_size columns * n) c.args.behind.now) ≡ true =
    ap are_zero ((λ j. drop (sym c.cell_size.ensures.value j * n) c.args.behind.now) ∙ sym c.split_at.ensures.back) ∙ sym c.is_zero.ensures.ok ∙ c.if-not-is_zero.false in
    (found.0, found.1, found.2, found.3, behind_again columns found.0 n c.args.behind.now c.requires.size found.3 (cells ∙ found.4) zeros)) c.extent_of_cells.ensures.found
