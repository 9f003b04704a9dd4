use Rattle.std.proofs.Common.{◌≡◌, ◌+◌, ◌*◌, ◌/◌, ◌<◌, ◌++◌, ℕ, List, length, take, drop, refl, sym, ap, subst, ◌∙◌, arith}
use Rattle.std.proofs.lemmas.Bool.Decides.{nat_tests}
use Rattle.ts_row.specs.declared.kind.Column.{Column}
use Rattle.ts_row.specs.Row.{width_of}
use Rattle.ts_entry.specs.Rows.{elements_in}
use Rattle.ts_aggregate.proofs.FoldingLemmas.{one_there, row_cells_of}
use Rattle.ts_aggregate.proofs.TurnLemmas.{few_cells, less_cells, none_left}
use Rattle.ts_dump.specs.Placed.{ArePut}
use Rattle.ts_dump.specs.Elements.{texts_of_elements, one_of, TextsPut}
use Rattle.ts_dump.proofs.CellLemmas.{turn_first, turn_next, turn_last}
use Rattle.ts_dump.proofs.element_texts.ElementTextsRowVisitor.rows.Goals as goal

pub returns-then-is_empty : goal.returns-then-is_empty
returns-then-is_empty c =
    let v = c.args.self.now in
    let is = c.is_empty.ensures in
    let test = c.if-is_empty.true in
    let none : length c.args.cells.now ≡ 0 = grind (arith, nat_tests) in
    record {
      took = λ found are.
          turn_last v.key.now c.args.kind.now.columns c.args.front c.args.stamps.now found v.grouping v.text 0 c.args.cells.now v.grouping v.text none
          (turn_first v.key.now c.args.kind.now.columns c.args.front c.args.stamps.now found v.grouping v.text c.args.cells.now are);
    }

pub overflow_add-size : goal.overflow_add-size
overflow_add-size c =
    let n : ℕ = c.requires.whole.0 in
    let len : ℕ = length c.args.cells.now in
    let size : ℕ = c.args.front + c.width.result in
    let is = c.is_empty.ensures in
    let test = c.if-is_empty.false in
    let some : 0 < len = grind (arith, nat_tests) in
    let whole : len ≡ n * size = c.requires.whole.1 ∙ ap (λ (w : ℕ). n * (c.args.front + w)) (sym c.width.ensures.value) in
    omega (arith, one_there n size len some whole, c.requires.few)

pub loop-left-init : goal.loop-left-init
loop-left-init c =
    let v = c.args.self.now in
    let n : ℕ = c.requires.whole.0 in
    let len : ℕ = length c.args.cells.now in
    let size : ℕ = c.args.front + c.width.result in
    let some : 0 < size = omega (arith, c.requires.front) in
    let whole : len ≡ n * size = c.requires.whole.1 ∙ ap (λ (w : ℕ). n * (c.args.front + w)) (sym c.width.ensures.value) in
    let all = row_cells_of n size len some whole in
    record {
      whole = all;
      bound = omega (arith, few_cells (len / size) size len some all, c.requires.few);
      key = refl;
      taken = λ found are. turn_first v.key.now c.args.kind.now.columns c.args.front c.args.stamps.now found v.grouping v.text c.args.cells.now are;
    }

pub loop-left-preserved : goal.loop-left-preserved
loop-left-preserved c =
    let i = c.loop-left.invariant in
    let v = c.args.self.now in
    let columns : List Column = c.args.kind.now.columns in
    let size : ℕ = c.args.front + c.width.result in
    let rest = c.loop-left.rest.now in
    let len : ℕ = length rest in
    let left = c.loop-left.left in
    let cell = c.split_at.result.0.now in
    let behind = c.split_at.result.1.now in
    let here = c.loop-left.self.grouping in
    let there = c.take.new.self.grouping in
    let now = c.loop-left.self.text in
    let next = c.take.new.self.text in
    let wide : size ≡ c.args.front + width_of columns = ap (λ (w : ℕ). c.args.front + w) c.width.ensures.value in
    let more = c.loop-left-test.true in
    let some : 0 < size = omega (arith, c.requires.front) in
    let one : 1 * size ≡ size = omega arith in
    record {
      whole = less_cells 1 left size len (length behind) (omega (arith, more)) i.whole (omega (arith, one, c.split_at.ensures.back_len));
      bound = omega (arith, i.bound, more);
      key = c.in_ok-take.ensures.key ∙ i.key;
      taken = λ found are. turn_next v.key.now columns c.args.front c.args.stamps.now found v.grouping v.text c.loop-left.number rest cell behind here there now next
          (c.split_at.ensures.front ∙ ap (λ (n : ℕ). take n rest) wide) (c.split_at.ensures.back ∙ ap (λ (n : ℕ). drop n rest) wide)
          (omega (arith, few_cells left size len some i.whole, more))
          (λ f is has. subst (λ (key : List ℕ). ArePut here (texts_of_elements key columns (one_of f)) there now next) i.key (c.in_ok-take.ensures.took f is has))
          (i.taken found are);
    }

pub returns : goal.returns
returns c =
    let i = c.loop-left.invariant in
    let v = c.args.self.now in
    let size : ℕ = c.args.front + c.width.result in
    let rest = c.loop-left.rest.now in
    let over : c.loop-left.left ≡ 0 = omega (arith, c.loop-left-test.false) in
    record {
      took = λ found are.
          subst (λ (key : List ℕ). TextsPut c.args.kind.now.columns v.key.now v.grouping v.text (elements_in found) key c.loop-left.self.grouping c.loop-left.self.text) (sym i.key)
          (turn_last v.key.now c.args.kind.now.columns c.args.front c.args.stamps.now found v.grouping v.text c.loop-left.number rest c.loop-left.self.grouping c.loop-left.self.text
          (none_left c.loop-left.left size (length rest) over i.whole) (i.taken found are));
    }
