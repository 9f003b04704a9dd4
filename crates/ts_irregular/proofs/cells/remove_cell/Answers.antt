use Rattle.std.proofs.Common.{◌≡◌, ◌+◌, ◌-◌, ◌*◌, ◌≤◌, ℕ, List, length, take, drop, replicate, refl, sym, ap, subst, ◌∙◌, arith, length-drop}
use Rattle.std.proofs.lemmas.List.{length-take-le}
use Rattle.std.proofs.Math.Nat.{mul-le-mul_left}
use borrow.Rule.Slice.PartMut.{put_mid}
use lib.Seq.{paste}
use Rattle.ts_row.specs.declared.kind.Column.{Column}
use Rattle.ts_cells.proofs.HeadLemmas.{cells_fit}
use Rattle.ts_irregular.proofs.BytesLemmas.{removed}
use Rattle.ts_irregular.proofs.cells.remove_cell.Goals as goal

pub returns : goal.returns
returns c = λ es are count same.
    let columns : List Column = c.args.kind.now.columns in
    let size : ℕ = c.cell_size-size.result in
    let at : ℕ = size * c.args.index in
    let end : ℕ = size * c.args.count in
    let top : ℕ = end - size in
    let old : List ℕ = c.args.behind.now in
    let moved : c.copy_within.new.self ≡ paste old at (drop (at + size) old) (end - (at + size)) = c.copy_within.ensures.after in
    let fit : end ≤ 4064 = subst (λ (s : ℕ). s * c.args.count ≤ 4064) (sym c.cell_size-size.ensures.value) (cells_fit columns c.args.count c.requires.room) in
    let one : size * 1 ≤ end = mul-le-mul_left size (let some : 1 ≤ c.args.count = omega (arith, c.requires.index) in some) in
    let wide : size ≤ end = omega (arith, one) in
    let k : end - top ≡ size = omega (arith, wide) in
    let part : length (take (end - top) (drop top c.copy_within.new.self)) ≡ end - top =
    length-take-le (end - top) (drop top c.copy_within.new.self) (omega (arith, length-drop top c.copy_within.new.self, c.copy_within.ensures.len, c.requires.size, fit)) in
    let zeros : c.clear.new.bytes ≡ replicate (end - top) 0 = c.clear.ensures ∙ ap (λ (n : ℕ). replicate n 0) part in
    (λ j. put_mid top (end - top) (moved j) (zeros j))
    ∙ removed columns size c.args.index c.args.count at (end - (at + size)) top (end - top) es old are count c.requires.index c.requires.room
    c.cell_size-size.ensures.value refl refl refl k same
