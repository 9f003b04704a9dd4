use Rattle.std.proofs.Common.{◌≡◌, ◌+◌, ◌-◌, ◌*◌, ℕ, List, drop, refl, ◌∙◌, arith}
use borrow.Rule.Slice.PartMut.{put_mid}
use lib.Seq.{paste}
use Rattle.ts_row.specs.declared.kind.Column.{Column}
use Rattle.ts_irregular.proofs.BytesLemmas.{inserted}
use Rattle.ts_irregular.proofs.cells.insert_cell.Goals as goal

pub returns : goal.returns
returns c = λ es are count same.
    let columns : List Column = c.args.kind.now.columns in
    let size : ℕ = c.cell_size-size.result in
    let at : ℕ = size * c.args.index in
    let old : List ℕ = c.args.behind.now in
    let moved : c.copy_within.new.self ≡ paste old (at + size) (drop at old) (size * c.args.count - at) = c.copy_within.ensures.after in
    (λ j. put_mid at (at + size - at) (moved j) (c.write_cell.ensures j))
    ∙ inserted columns size c.args.index c.args.count at (size * c.args.count - at) (at + size - at) (c.args.stamp, c.args.row.now) es old are count c.requires.index c.requires.room
    c.cell_size-size.ensures.value refl refl (let k : at + size - at ≡ size = omega arith in k) same
