use Rattle.std.proofs.Common.{◌≡◌, ◌-◌, ◌*◌, ◌≤◌, ℕ, List, length, take, drop, replicate, refl, ap, sym, subst, ◌∙◌, arith, length-drop}
use Rattle.std.proofs.lemmas.List.{length-take-le}
use Rattle.std.proofs.Math.Nat.{mul-le-mul_left}
use borrow.Rule.Slice.PartMut.{put_mid}
use lib.Seq.{paste}
use Rattle.ts_row.specs.declared.kind.Column.{Column}
use Rattle.ts_cells.proofs.HeadLemmas.{cells_fit}
use Rattle.ts_chain.proofs.CellsLemmas.{kept_others}
use Rattle.ts_chain.proofs.cells.keep_others.Goals as goal

pub returns : goal.returns
returns c = λ es are count same.
    let columns : List Column = c.args.kind.now.columns in
    let size : ℕ = c.cell_size-size.result in
    let at : ℕ = size * c.args.first in
    let end : ℕ = size * c.args.count in
    let top : ℕ = end - at in
    let k : ℕ = end - top in
    let old : List ℕ = c.args.behind.now in
    let moved : c.copy_within.new.self ≡ paste old 0 (drop at old) (end - at) = c.copy_within.ensures.after in
    let fit : end ≤ 4064 = subst (λ (s : ℕ). s * c.args.count ≤ 4064) (sym c.cell_size-size.ensures.value) (cells_fit columns c.args.count c.requires.room) in
    let below : at ≤ end = mul-le-mul_left size c.requires.first in
    let part : length (take k (drop top c.copy_within.new.self)) ≡ k =
    length-take-le k (drop top c.copy_within.new.self) (omega (arith, length-drop top c.copy_within.new.self, c.copy_within.ensures.len, c.requires.size, fit, below)) in
    let zeros : c.clear.new.bytes ≡ replicate k 0 = c.clear.ensures ∙ ap (λ (n : ℕ). replicate n 0) part in
    (λ j. put_mid top k (moved j) (zeros j))
    ∙ kept_others columns size es are c.cell_size-size.ensures.value old same c.args.count count c.requires.room c.args.first at (end - at) top k c.requires.first refl refl refl refl
