use Rattle.std.proofs.Common.{◌≡◌, ◌+◌, ◌-◌, ◌*◌, ℕ, List, refl, ap, ◌∙◌, arith}
use borrow.Rule.Slice.PartMut.{put_mid}
use Rattle.ts_row.specs.declared.kind.Column.{Column}
use Rattle.ts_chain.proofs.CellsLemmas.{appended}
use Rattle.ts_chain.proofs.cells.append_cells.Goals as goal

pub returns : goal.returns
returns c = λ es fs are1 are2 count1 count2 same1 same2.
    let columns : List Column = c.args.kind.now.columns in
    let size : ℕ = c.cell_size-size.result in
    let n : ℕ = c.args.count in
    let m : ℕ = c.args.more in
    let product : size * (n + m) ≡ size * n + size * m = grind arith in
    ap (put_mid (size * n) (size * (n + m) - size * n) c.args.behind.now) c.copy_from_slice.ensures.after
    ∙ appended columns size n m (size * n) (size * m) (size * (n + m) - size * n) es fs c.args.behind.now c.args.others.now are1 are2 c.cell_size-size.ensures.value count1 count2 c.requires.room refl refl (omega (arith, product)) same1 same2
