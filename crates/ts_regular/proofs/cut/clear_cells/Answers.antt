use Rattle.std.proofs.Common.{◌≡◌, ◌+◌, ◌<◌, ◌≤◌, ℕ, List, length, refl, sym, ap, ◌∙◌, arith}
use Rattle.ts_regular.specs.RegularPage.{Cell, behind_head, filled_count}
use Rattle.ts_regular.specs.OnePage.{without_row}
use Rattle.ts_regular.specs.Cut.{cells_outside}
use Rattle.ts_regular.proofs.RangeLemmas.{outside_long, outside_fit, outside_next, cells_begin, cells_next, cells_end}
use Rattle.ts_regular.proofs.cut.clear_cells.Goals as goal

pub loop-index-init : goal.loop-index-init
loop-index-init c = record {
  few = omega arith;
  cleared = λ cells are room count same.
      let begin : cells_outside c.args.from (c.args.base + c.cells_before-index.result) c.args.base cells ≡ cells =
      cells_begin c.args.from c.args.base c.regular_room-room.result c.cells_before-index.result cells c.cells_before-index.ensures (room ∙ sym c.regular_room-room.ensures.value) in
      (ap filled_count begin ∙ count, same ∙ ap (behind_head c.args.kind.now.columns) (sym begin));
}

pub loop-index-preserved : goal.loop-index-preserved
loop-index-preserved c = record {
  few = let one = c.take_cell-left.ensures.fewer in let more = c.loop-index.invariant.few in omega (arith, one, more);
  cleared = λ cells are room count same.
      let so = c.loop-index.invariant.cleared cells are room count same in
      let from : ℕ = c.args.from in
      let base : ℕ = c.args.base in
      let i : ℕ = c.loop-index.index in
      let now : List Cell = cells_outside from (base + i) base cells in
      let long : length now ≡ length cells = outside_long from (base + i) base cells in
      let small : i < length cells = omega (arith, room, c.regular_room-room.ensures.value, c.loop-index-test.true, c.cells_before-index-end.ensures) in
      let low : from ≤ base + i = cells_next from base c.regular_room-room.result c.cells_before-index.result i c.cells_before-index.ensures c.loop-index.auto.index (omega (arith, small, room, c.regular_room-room.ensures.value)) in
      let next : cells_outside from (base + (i + 1)) base cells ≡ without_row i now =
      ap (λ (n : ℕ). cells_outside from n base cells) (let sum : base + (i + 1) ≡ base + i + 1 = omega arith in sum) ∙ outside_next from (base + i) base i cells small low refl in
      let taken = c.take_cell-left.ensures.taken now (outside_fit c.args.kind.now.columns from (base + i) base cells are) (omega (arith, long, small)) so.0 so.1 in
      (ap filled_count next ∙ taken.0, taken.1 ∙ ap (behind_head c.args.kind.now.columns) (sym next));
}

pub returns-clause-cleared : goal.returns-clause-cleared
returns-clause-cleared c = λ cells are room count same.
    let so = c.loop-index.invariant.cleared cells are room count same in
    let end : cells_outside c.args.from (c.args.base + c.loop-index.index) c.args.base cells ≡ cells_outside c.args.from c.args.to c.args.base cells =
    cells_end c.args.from c.args.to c.args.base c.regular_room-room.result c.cells_before-index-end.result c.loop-index.index cells c.cells_before-index-end.ensures
    (let first = c.loop-index.auto.index-end in omega (arith, first, c.loop-index-test.false, c.cells_before-index.ensures, c.cells_before-index-end.ensures, c.requires.order)) (room ∙ sym c.regular_room-room.ensures.value) in
    (ap filled_count (sym end) ∙ so.0, so.1 ∙ ap (behind_head c.args.kind.now.columns) end)
