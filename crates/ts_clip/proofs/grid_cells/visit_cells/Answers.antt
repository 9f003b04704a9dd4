use Rattle.std.proofs.Common.{◌≡◌, ℕ, suc, ◌+◌, ◌-◌, ◌<◌, ℤ, List, [], ◌∷◌, ◌++◌, length, take, drop, sym, ap, subst, ◌∙◌, arith}
use Rattle.std.specs.List.{slice_get}
use Rattle.std.proofs.lemmas.List.{length-take-le}
use Rattle.ts_regular.specs.OnePage.{cell_at}
use Rattle.ts_regular.proofs.BytesLemmas.{around}
use Rattle.ts_entry.specs.Entry.{Entry}
use Rattle.ts_clip.specs.Numbered.{numbered, seen_in}
use Rattle.ts_clip.proofs.GridStartLemmas.{next_left, next_taken, next_within, none_left, over_left}
use Rattle.ts_clip.proofs.GridNumberLemmas.{numbered_both}
use Rattle.ts_clip.proofs.grid_cells.visit_cells.Goals as goal

pub returns-in_default-clause-left : goal.returns-in_default-clause-left
returns-in_default-clause-left g c =
    let k = c.loop-index.index - c.args.first in
    let starts = c.args.starts.now in
    let left = c.loop-index.invariant.left in
    let all = none_left starts k (c.in_default.ensures.start ∙ ap (λ (l : List ℤ). slice_get l 0) left) in
    c.in_default.ensures.left ∙ ap (drop 1) left ∙ over_left starts k (c.args.stop - c.args.first) all (omega (arith, c.loop-index-test.true))

pub loop-index-preserved : goal.loop-index-preserved
loop-index-preserved g c =
    let first = c.args.first in
    let index = c.loop-index.index in
    let k = index - first in
    let n = index + 1 - first in
    let columns = c.args.kind.now.columns in
    let starts = c.args.starts.now in
    let s = c.in-Some.start in
    let more : n ≡ suc k = omega (arith, c.loop-index.auto.index) in
    let left = c.loop-index.invariant.left in
    let next = c.in-Some.ensures.start ∙ ap (λ (l : List ℤ). slice_get l 0) left in
    let within = next_within starts k s (sym next) in
    let number : index ≡ first + length (take k starts) = omega (arith, length-take-le k starts (omega (arith, within)), c.loop-index.auto.index) in
    record {
      left = c.in-Some.ensures.left ∙ ap (drop 1) left ∙ next_left starts k n more;
      took = λ cells are room same.
          let row_of = λ (i : ℕ). seen_in (cell_at cells i) in
          let again : numbered row_of first (take n starts) ≡ numbered row_of first (take k starts) ++ (s, row_of index) ∷ [] =
          ap (numbered row_of first) (next_taken starts k n s more next) ∙ numbered_both row_of first index (take k starts) (s ∷ []) number in
          let small : index < length cells = omega (arith, room, c.requires.within, c.loop-index-test.true) in
          let a = around columns index cells are small in
          subst (λ (l : List Entry). g.V.EntryVisitor.took columns c.args.visitor.now l c.visit_cell.new.visitor) (sym again)
          (g.met.V.EntryVisitor.«then» columns c.args.visitor.now c.loop-index.visitor c.visit_cell.new.visitor (numbered row_of first (take k starts)) ((s, row_of index) ∷ [])
          (c.loop-index.invariant.took cells are room same) (c.in_ok-visit_cell.ensures (cell_at cells index) a.fit (c.cell_of.ensures.bytes cells are small same)));
    }

pub returns-clause-took : goal.returns-clause-took
returns-clause-took g c = λ cells are room same.
    let one : c.loop-index.index - c.args.first ≡ c.args.stop - c.args.first = omega (arith, c.loop-index-test.false, c.loop-index.auto.index-end c.requires.order) in
    subst (λ (n : ℕ). g.V.EntryVisitor.took c.args.kind.now.columns c.args.visitor.now (numbered (λ i. seen_in (cell_at cells i)) c.args.first (take n c.args.starts.now)) c.loop-index.visitor) one
    (c.loop-index.invariant.took cells are room same)

pub returns-clause-left : goal.returns-clause-left
returns-clause-left g c =
    let one : c.loop-index.index - c.args.first ≡ c.args.stop - c.args.first = omega (arith, c.loop-index-test.false, c.loop-index.auto.index-end c.requires.order) in
    c.loop-index.invariant.left ∙ ap (λ (n : ℕ). drop n c.args.starts.now) one
