use Rattle.std.proofs.Common.{◌≡◌, ℕ, ◌-◌, ◌∷◌, Some, List, length, take, drop, refl, sym, ap, subst, ◌∙◌, arith, length-drop}
use Rattle.std.proofs.Math.Seq.{take-length, drop-cons}
use Rattle.ts_row.specs.declared.kind.Column.{Column}
use Rattle.ts_row.specs.Encoding.{AreRowBytes}
use Rattle.ts_regular.proofs.cell.is_filled_cell.Goals as goal

pub returns-in-1-clause-found : goal.returns-in-1-clause-found
returns-in-1-clause-found c =
    let columns : List Column = c.args.kind.now.columns in
    let cell : List ℕ = c.args.cell.now in
    let all : take (length cell - 1) (drop 1 cell) ≡ drop 1 cell = ap (λ (n : ℕ). take n (drop 1 cell)) (sym (length-drop 1 cell)) ∙ take-length (drop 1 cell) in
    let row : AreRowBytes columns (drop 1 cell) = subst (λ (l : List ℕ). AreRowBytes columns l) all (c.is_row.ensures.0 c.if-is_row.true) in
    let first : cell ≡ 1 ∷ drop 1 cell = drop-cons cell 0 0 (omega (arith, c.requires)) ∙ ap (λ (b : ℕ). b ∷ drop 1 cell) c.in-1.is in
    (Some row.0, row.1, first ∙ ap (λ (l : List ℕ). 1 ∷ l) (sym row.2), refl)
