-- Each cell more is judged against the one before it.
use Rattle.std.proofs.Common.{◌≡◌, Bool, ◌||◌, ◌+◌, ℕ, List, take, sym, ap, subst, ◌∙◌, arith}
use Rattle.std.proofs.lemmas.Int.{ints}
use Rattle.std.proofs.lemmas.Bool.Decides.{nat_tests}
use Rattle.ts_row.specs.declared.kind.Column.{Column}
use Rattle.ts_row.proofs.RowBytesLemmas.{valid}
use Rattle.ts_cells.specs.IrregularPage.{cell_bytes}
use Rattle.ts_cells.proofs.JudgeLemmas.{cell_in, SoFar, so_far_first, so_far_more, no_cell, not_later, cell_range, first_range}
use Rattle.ts_cells.proofs.extent.extent_of_cells.Goals as goal
use Rattle.ts_cells.proofs.extent.extent_of_cells.Goals.{then-hidden, else-hidden}

pub returns-in_default-clause-none : goal.returns-in_default-clause-none
returns-in_default-clause-none c = λ es order count same.
    let columns : List Column = c.args.kind.now.columns in
    let first : take c.cell_size-size.result c.args.cells.now ≡ cell_in columns 0 c.args.cells.now =
    ap (λ (n : ℕ). take n c.args.cells.now) c.cell_size-size.ensures.value ∙ first_range columns c.args.cells.now in
    no_cell columns c.args.cells.now 0 es order.each (omega arith) same (λ e is cell. c.in_default.ensures.none e is (first ∙ cell))

pub loop-i-init : goal.loop-i-init
loop-i-init c =
    let columns : List Column = c.args.kind.now.columns in
    let found = c.in-Some.ensures.found in
    let range : take c.cell_size-size.result c.args.cells.now ≡ cell_bytes columns (c.in-Some.first, found.0) = found.2 in
    let told : c.is_hidden_cell-hidden.result ≡ found.0.hidden = c.is_hidden_cell-hidden.ensures (c.in-Some.first, found.0) found.1 range in
    subst (λ (b : Bool). SoFar columns c.args.cells.now 1 c.in-Some.first c.in-Some.first b) (sym told)
    (so_far_first columns c.args.cells.now (c.in-Some.first, found.0) found.1 (ap (λ (n : ℕ). take n c.args.cells.now) (sym c.cell_size-size.ensures.value) ∙ range))

pub returns-in_default-stamp_of_cell-clause-none : goal.returns-in_default-stamp_of_cell-clause-none
returns-in_default-stamp_of_cell-clause-none c = λ es order count same.
    let columns : List Column = c.args.kind.now.columns in
    let range = cell_range columns c.loop-i.i c.cell_size-size.result c.args.cells.now c.cell_size-size.ensures.value in
    no_cell columns c.args.cells.now c.loop-i.i es order.each (omega arith) same (λ e is cell. c.in_default-stamp_of_cell.ensures.none e is (range ∙ cell))

pub returns-then-units-clause-none : goal.returns-then-units-clause-none
returns-then-units-clause-none c = λ es order count same.
    let columns : List Column = c.args.kind.now.columns in
    let found = c.in-Some-stamp_of_cell.ensures.found in
    let range = cell_range columns c.loop-i.i c.cell_size-size.result c.args.cells.now c.cell_size-size.ensures.value in
    let kinds : valid columns = grind (arith, nat_tests, c.columns-columns.ensures.rules) in
    not_later columns c.args.cells.now c.loop-i.i c.in-Some.first c.loop-i.last c.loop-i.hidden (c.in-Some-stamp_of_cell.stamp, found.0) es kinds c.loop-i.invariant found.1 (sym range ∙ found.2)
    order (omega arith) same (omega (arith, ints))

pub loop-i-preserved : goal.loop-i-preserved
loop-i-preserved c =
    let columns : List Column = c.args.kind.now.columns in
    let found = c.in-Some-stamp_of_cell.ensures.found in
    let range = cell_range columns c.loop-i.i c.cell_size-size.result c.args.cells.now c.cell_size-size.ensures.value in
    let told : c.if-hidden.hidden ≡ (c.loop-i.hidden || found.0.hidden) = elim c.if-hidden.branch [
      | then-hidden w ↦ w.hidden-is ∙ w.if-hidden.true ∙ ap (λ (b : Bool). b || found.0.hidden) (sym w.if-hidden.true)
      | else-hidden w ↦
          w.hidden-is ∙ w.is_hidden_cell-hidden-else-hidden.ensures (c.in-Some-stamp_of_cell.stamp, found.0) found.1 found.2
          ∙ ap (λ (b : Bool). b || found.0.hidden) (sym w.if-hidden.false)
    ] in
    subst (λ (b : Bool). SoFar columns c.args.cells.now (c.loop-i.i + 1) c.in-Some.first c.in-Some-stamp_of_cell.stamp b) (sym told)
    (so_far_more columns c.args.cells.now c.loop-i.i c.in-Some.first c.loop-i.last c.loop-i.hidden (c.in-Some-stamp_of_cell.stamp, found.0) c.loop-i.invariant found.1 (sym range ∙ found.2) (omega (arith, ints)))
