use Rattle.std.proofs.Common.{◌≡◌, ◌+◌, ◌*◌, ◌<◌, ℕ, length, sym, ap, ◌∙◌, arith}
use Rattle.std.proofs.lemmas.Bool.Decides.{nat_tests}
use Rattle.ts_aggregate.proofs.FoldingLemmas.{none_there, one_there, row_cells_of}
use Rattle.ts_aggregate.proofs.folding.Folding.take.Goals as goal

pub returns-then-is_empty : goal.returns-then-is_empty
returns-then-is_empty c =
    let is = c.is_empty.ensures in
    let test = c.if-is_empty.true in
    let none : length c.args.cells.now ≡ 0 = grind (arith, nat_tests) in
    record { took = λ found are. none_there c.args.kind.now.columns c.args.front c.args.cells.now found c.args.self.now none are }

pub take_cells-requires : goal.take_cells-requires
take_cells-requires c =
    let is = c.is_empty.ensures in
    let test = c.if-is_empty.false in
    let n : ℕ = c.requires.whole.0 in
    let len : ℕ = length c.args.cells.now in
    let size : ℕ = c.args.front + c.width.result in
    let some : 0 < len = grind (arith, nat_tests) in
    let whole : len ≡ n * size = c.requires.whole.1 ∙ ap (λ w. n * (c.args.front + w)) (sym c.width.ensures.value) in
    record {
      some = c.requires.front;
      size = ap (λ (w : ℕ). c.args.front + w) c.width.ensures.value;
      whole = row_cells_of n size len (omega (arith, c.requires.front)) whole;
      narrow = omega (arith, c.width.ensures.value, c.width.ensures.bound);
      small = omega (arith, one_there n size len some whole);
      few = c.requires.few;
    }
