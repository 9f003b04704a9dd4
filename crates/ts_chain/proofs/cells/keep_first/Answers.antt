use Rattle.std.proofs.Common.{◌≡◌, ◌-◌, ◌*◌, ◌≤◌, ℕ, List, length, take, drop, replicate, refl, ap, sym, subst, ◌∙◌, arith, length-drop}
use Rattle.std.proofs.lemmas.List.{length-take-le}
use Rattle.std.proofs.Math.Nat.{mul-le-mul_left}
use borrow.Rule.Slice.PartMut.{put_mid}
use Rattle.ts_row.specs.declared.kind.Column.{Column}
use Rattle.ts_cells.proofs.HeadLemmas.{cells_fit}
use Rattle.ts_chain.proofs.CellsLemmas.{kept_first}
use Rattle.ts_chain.proofs.cells.keep_first.Goals as goal

pub returns : goal.returns
returns c = λ es are count same.
    let columns : List Column = c.args.kind.now.columns in
    let size : ℕ = c.cell_size-size.result in
    let at : ℕ = size * c.args.keep in
    let k : ℕ = size * c.args.count - at in
    let old : List ℕ = c.args.behind.now in
    let fit : size * c.args.count ≤ 4064 = subst (λ (s : ℕ). s * c.args.count ≤ 4064) (sym c.cell_size-size.ensures.value) (cells_fit columns c.args.count c.requires.room) in
    let below : at ≤ size * c.args.count = mul-le-mul_left size c.requires.keep in
    let part : length (take k (drop at old)) ≡ k = length-take-le k (drop at old) (omega (arith, length-drop at old, c.requires.size, fit, below)) in
    let zeros : c.clear.new.bytes ≡ replicate k 0 = c.clear.ensures ∙ ap (λ (n : ℕ). replicate n 0) part in
    ap (put_mid at k old) zeros ∙ kept_first columns size es are c.cell_size-size.ensures.value old same c.args.count count c.requires.room c.args.keep at k c.requires.keep refl refl
