use Rattle.std.proofs.Common.{◌≡◌, suc, ◌+◌, ℤ, None, List, [], ◌∷◌, ◌++◌, map, take, drop, sym, ap, subst, ◌∙◌, arith}
use Rattle.std.specs.List.{slice_get}
use Rattle.std.proofs.lemmas.List.{map-append}
use Rattle.ts_entry.specs.Entry.{Entry}
use Rattle.ts_clip.proofs.GridStartLemmas.{next_left, next_taken, none_left, over_left}
use Rattle.ts_clip.proofs.grid_cells.visit_blanks.Goals as goal

pub returns-in_default-clause-left : goal.returns-in_default-clause-left
returns-in_default-clause-left g c =
    let k = c.loop-index._index in
    let starts = c.args.starts.now in
    let left = c.loop-index.invariant.left in
    let all = none_left starts k (c.in_default.ensures.start ∙ ap (λ (l : List ℤ). slice_get l 0) left) in
    c.in_default.ensures.left ∙ ap (drop 1) left ∙ over_left starts k c.args.count all (omega (arith, c.loop-index-test.true))

pub loop-index-preserved : goal.loop-index-preserved
loop-index-preserved g c =
    let k = c.loop-index._index in
    let starts = c.args.starts.now in
    let s = c.in-Some.start in
    let more : k + 1 ≡ suc k = omega arith in
    let left = c.loop-index.invariant.left in
    let entry = λ (start : ℤ). let e : Entry = (start, None) in e in
    let again : map entry (take (k + 1) starts) ≡ map entry (take k starts) ++ (s, None) ∷ [] = ap (map entry) (next_taken starts k (k + 1) s more (c.in-Some.ensures.start ∙ ap (λ (l : List ℤ). slice_get l 0) left)) ∙ map-append entry (take k starts) (s ∷ []) in
    record {
      left = c.in-Some.ensures.left ∙ ap (drop 1) left ∙ next_left starts k (k + 1) more;
      took = subst (λ (l : List Entry). g.V.EntryVisitor.took c.args.kind.now.columns c.args.visitor.now l c.blank.new.self) (sym again)
          (g.met.V.EntryVisitor.«then» c.args.kind.now.columns c.args.visitor.now c.loop-index.visitor c.blank.new.self (map entry (take k starts)) ((s, None) ∷ []) c.loop-index.invariant.took c.in_ok-blank.ensures.took);
    }
