use Rattle.std.proofs.Common.{◌≡◌, ◌+◌, ◌-◌, ◌*◌, ℕ, List, refl, ◌∙◌, arith}
use borrow.Rule.Slice.PartMut.{put_mid}
use Rattle.ts_row.specs.declared.kind.Column.{Column}
use Rattle.ts_irregular.proofs.BytesLemmas.{replaced}
use Rattle.ts_irregular.proofs.cells.replace_cell.Goals as goal

pub returns : goal.returns
returns c = λ es are within same.
    let columns : List Column = c.args.kind.now.columns in
    let size : ℕ = c.cell_size-size.result in
    let at : ℕ = size * c.args.index in
    let old : List ℕ = c.args.behind.now in
    (λ j. put_mid at (at + size - at) old (c.write_cell.ensures j))
    ∙ replaced columns size c.args.index at (at + size - at) (c.args.stamp, c.args.row.now) es old are within
    c.cell_size-size.ensures.value refl (let k : at + size - at ≡ size = omega arith in k) same
