use Rattle.std.proofs.Common.{◌≡◌, ◌+◌, ◌-◌, ◌*◌, ℕ, List, refl, ◌∙◌, arith}
use Rattle.std.proofs.lemmas.Option.{slice_get_within}
use borrow.Rule.Slice.PartMut.{put_mid}
use Rattle.ts_row.specs.Row.{marked}
use Rattle.ts_row.specs.declared.kind.Column.{Column}
use Rattle.ts_irregular.proofs.BytesLemmas.{replaced}
use Rattle.ts_irregular.proofs.CellLemmas.{element_among, cell_of}
use Rattle.ts_irregular.proofs.cell.mark_at.Goals as goal

pub returns : goal.returns
returns c = λ es e are here same.
    let columns : List Column = c.args.kind.now.columns in
    let size : ℕ = c.cell_size-size.result in
    let at : ℕ = size * c.args.index in
    let old : List ℕ = c.args.behind.now in
    let made = c.mark_cell.ensures.marked e (element_among columns c.args.index es e are here) (cell_of columns size c.args.index es e old are here same c.cell_size-size.ensures.value) in
    (λ j. put_mid at (at + size - at) old (made j))
    ∙ replaced columns size c.args.index at (at + size - at) (e.0, marked c.args.hidden e.1) es old are (slice_get_within es c.args.index e here)
    c.cell_size-size.ensures.value refl (let k : at + size - at ≡ size = omega arith in k) same
