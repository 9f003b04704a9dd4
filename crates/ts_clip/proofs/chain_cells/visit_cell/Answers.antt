use Rattle.std.proofs.Common.{◌≡◌, ℤ, false, Some, List, [], ◌∷◌, sym, subst, ◌∙◌, arith}
use Rattle.ts_row.specs.declared.kind.Column.{Column}
use Rattle.ts_irregular.proofs.SeeLemmas.{some_one}
use Rattle.ts_clip.proofs.ChainPassedLemmas.{passed_over, passed_one, passed_shown}
use Rattle.ts_clip.proofs.ChainCellLemmas.{row_read}
use Rattle.ts_clip.proofs.chain_cells.visit_cell.Goals as goal

pub returns-then-want-gt0-clause-passed : goal.returns-then-want-gt0-clause-passed
returns-then-want-gt0-clause-passed g c = λ e is same.
    passed_shown _ _ _ e (sym (c.is_hidden_cell.ensures e is same) ∙ c.if-is_hidden_cell.false)
    (passed_over _ c.args.want e (g.met.V.EntryVisitor.none c.args.kind.now.columns c.args.visitor.now) c.if-want-gt0.true)

pub returns-clause-passed : goal.returns-clause-passed
returns-clause-passed g c = λ e is same.
    let columns : List Column = c.args.kind.now.columns in
    let shown : e.1.hidden ≡ false = sym (c.is_hidden_cell.ensures e is same) ∙ c.if-is_hidden_cell.false in
    let stamp : c.in-Some.stamp ≡ e.0 = some_one (c.in-Some.ensures e is same) in
    passed_shown _ _ _ e shown
    (passed_one _ c.args.want e
    (subst (λ (z : ℤ). g.V.EntryVisitor.took columns c.args.visitor.now ((z, Some e.1) ∷ []) c.element.new.self) stamp
    (c.in_ok-element.ensures.took e.1 (row_read columns e c.args.cell.now is same shown)))
    (omega (arith, c.if-want-gt0.false)) c.requires.some)
