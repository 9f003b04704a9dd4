use Rattle.std.proofs.Common.{◌-◌, ◌<◌, List, [], ◌∷◌, length, take, drop, refl, sym, ap, ◌∙◌, arith}
use Rattle.ts_row.specs.declared.kind.Column.{Column}
use Rattle.ts_row.specs.Row.{Element, seen}
use Rattle.ts_irregular.proofs.BytesLemmas.{part}
use Rattle.ts_irregular.proofs.CellLemmas.{element_is}
use Rattle.ts_clip.proofs.ChainPassedLemmas.{passed_none, passed_full, passed_both, passed_same}
use Rattle.ts_clip.proofs.ChainCellLemmas.{cells_both, cells_next, cells_none, cells_end, seen_both}
use Rattle.ts_clip.proofs.chain_cells.visit_cells.Goals as goal

pub loop-index-init : goal.loop-index-init
loop-index-init g c = record {
  stays = λ none. refl;
  fewer = omega arith;
  passed = λ es are within same. passed_same _ _ _ [] _ (cells_none c.args.first es) (passed_none _ c.args.want (g.met.V.EntryVisitor.none c.args.kind.now.columns c.args.visitor.now));
}

pub loop-index-preserved : goal.loop-index-preserved
loop-index-preserved g c =
    let columns : List Column = c.args.kind.now.columns in
    let i = c.loop-index.invariant in
    record {
      stays = λ none. absurd (omega (arith, none, c.loop-index.auto.index, c.loop-index-test.true));
      fewer = omega (arith, i.fewer, c.in_ok-left.ensures.fewer);
      passed = λ es are within same.
          let below : c.loop-index.index < length es = omega (arith, c.loop-index-test.true, within) in
          let p = part columns c.loop-index.index es c.args.behind.now are below same in
          let cell = c.cell_at.ensures.bytes es p.element are (element_is columns c.loop-index.index es c.args.behind.now p) same in
          passed_same _ _ _ _ _ (sym (ap seen (cells_next columns c.args.first c.loop-index.index es c.args.behind.now p c.loop-index.auto.index) ∙ seen_both (take (c.loop-index.index - c.args.first) (drop c.args.first es)) (p.element ∷ [])))
          (passed_both _ _ _ _ _ _ _ _ (g.met.V.EntryVisitor.«then» columns c.args.visitor.now c.loop-index.visitor c.visit_cell.new.visitor)
          (i.passed es are within same) (c.in_ok-left.ensures.passed p.element p.is cell));
    }

pub returns-then-left-eq0-clause-passed : goal.returns-then-left-eq0-clause-passed
returns-then-left-eq0-clause-passed g c = λ es are within same.
    let columns : List Column = c.args.kind.now.columns in
    let rest : List Element = take (c.args.last - c.loop-index.index) (drop c.loop-index.index es) in
    passed_same _ _ _ _ _
    (sym (ap seen (cells_both c.args.first c.loop-index.index c.args.last es c.loop-index.auto.index (omega (arith, c.loop-index-test.true))) ∙ seen_both (take (c.loop-index.index - c.args.first) (drop c.args.first es)) rest))
    (passed_both _ _ _ _ _ _ _ (seen rest) (g.met.V.EntryVisitor.«then» columns c.args.visitor.now c.loop-index.visitor c.loop-index.visitor)
    (c.loop-index.invariant.passed es are within same)
    (passed_full _ c.loop-index.left (seen rest) (g.met.V.EntryVisitor.none columns c.loop-index.visitor) c.if-left-eq0.true))

pub returns-clause-passed : goal.returns-clause-passed
returns-clause-passed g c = λ es are within same.
    passed_same _ _ _ _ _ (ap seen (cells_end c.args.first c.loop-index.index c.args.last es c.loop-index.auto.index (omega (arith, c.loop-index-test.false)) c.loop-index.auto.index-end c.loop-index.invariant.stays))
    (c.loop-index.invariant.passed es are within same)
