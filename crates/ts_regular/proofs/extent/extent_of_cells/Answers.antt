-- Each cell more is judged by itself.
use Rattle.std.proofs.Common.{◌≡◌, ◌+◌, ◌<◌, ◌||◌, Bool, ℕ, List, length, refl, sym, ap, subst, ◌∙◌, arith}
use Rattle.ts_row.specs.declared.kind.Column.{Column}
use Rattle.ts_regular.specs.RegularPage.{regular_room}
use Rattle.ts_regular.specs.OnePage.{cell_at}
use Rattle.ts_regular.proofs.JudgeLemmas.{SoFar, cell_there, cell_range, so_far_few, so_far_more, so_far_empty, so_far_as, none_filled, if_none_any}
use Rattle.ts_regular.proofs.extent.extent_of_cells.Goals as goal
use Rattle.ts_regular.proofs.extent.extent_of_cells.Goals.{then-branch+then-hidden, then-branch+else-hidden, else-branch}

pub returns-in_err-is_filled_cell-clause-none : goal.returns-in_err-is_filled_cell-clause-none
returns-in_err-is_filled_cell-clause-none c =
    if_none_any c.from_residual.result _ (λ cells fill same.
    let columns : List Column = c.args.kind.now.columns in
    let below : c.loop-i.i < length cells = omega (arith, fill.room, c.regular_room-i-end.ensures.value, c.loop-i-test.true) in
    let there = cell_there columns c.args.cells.now c.loop-i.i cells fill.each below same in
    c.in_err-is_filled_cell.ensures.none (cell_at cells c.loop-i.i) there.0
    (cell_range columns c.loop-i.i c.cell_size-size.result c.args.cells.now c.cell_size-size.ensures.value ∙ there.1))

pub overflow_add-count : goal.overflow_add-count
overflow_add-count c =
    let few = so_far_few c.args.kind.now.columns c.args.cells.now c.loop-i.i c.loop-i.count c.loop-i.last c.loop-i.hidden c.loop-i.invariant in
    omega (arith, few, c.loop-i-test.true, c.regular_room-i-end.ensures.bound)

pub loop-i-preserved : goal.loop-i-preserved
loop-i-preserved c =
    let columns : List Column = c.args.kind.now.columns in
    let bytes : List ℕ = c.args.cells.now in
    let found = c.in_ok-is_filled_cell.ensures.found in
    let range = cell_range columns c.loop-i.i c.cell_size-size.result bytes c.cell_size-size.ensures.value in
    elim c.if-branch.branch [
      | then-branch+then-hidden w ↦
          so_far_as columns bytes (c.loop-i.i + 1) (c.loop-i.count + 1) c.loop-i.i c.if-branch.count c.if-branch.last c.if-branch.hidden c.if-branch.hidden w.count-is w.last-is refl
          (so_far_more columns bytes c.loop-i.i c.loop-i.count c.loop-i.last c.loop-i.hidden c.in_ok-is_filled_cell.field-0 c.if-branch.hidden found.0 c.loop-i.invariant found.1 (sym range ∙ found.2) found.3 w.if-branch.true
          (λ row fit cell. w.hidden-is ∙ w.if-hidden.true ∙ ap (λ (b : Bool). b || row.hidden) (sym w.if-hidden.true)))
      | then-branch+else-hidden w ↦
          so_far_as columns bytes (c.loop-i.i + 1) (c.loop-i.count + 1) c.loop-i.i c.if-branch.count c.if-branch.last c.if-branch.hidden c.if-branch.hidden w.count-is w.last-is refl
          (so_far_more columns bytes c.loop-i.i c.loop-i.count c.loop-i.last c.loop-i.hidden c.in_ok-is_filled_cell.field-0 c.if-branch.hidden found.0 c.loop-i.invariant found.1 (sym range ∙ found.2) found.3 w.if-branch.true
          (λ row fit cell. w.hidden-is ∙ w.is_hidden_cell-hidden.ensures row fit (range ∙ cell) ∙ ap (λ (b : Bool). b || row.hidden) (sym w.if-hidden.false)))
      | else-branch w ↦
          so_far_as columns bytes (c.loop-i.i + 1) c.loop-i.count c.loop-i.last c.if-branch.count c.if-branch.last c.loop-i.hidden c.if-branch.hidden w.count-is w.last-is w.hidden-is
          (so_far_empty columns bytes c.loop-i.i c.loop-i.count c.loop-i.last c.loop-i.hidden c.in_ok-is_filled_cell.field-0 found.0 c.loop-i.invariant (sym range ∙ found.2) found.3 w.if-branch.false)
    ]

pub returns-then-count-eq0-clause-none : goal.returns-then-count-eq0-clause-none
returns-then-count-eq0-clause-none c = λ cells fill same.
    let columns : List Column = c.args.kind.now.columns in
    let end : c.loop-i.i ≡ regular_room columns = omega (arith, c.loop-i.auto.i-end, c.loop-i-test.false, c.regular_room-i-end.ensures.value) in
    none_filled columns c.args.cells.now c.loop-i.i c.loop-i.last c.loop-i.hidden cells (subst (λ (n : ℕ). SoFar columns c.args.cells.now c.loop-i.i n c.loop-i.last c.loop-i.hidden) c.if-count-eq0.true c.loop-i.invariant) end c.requires.size fill same
