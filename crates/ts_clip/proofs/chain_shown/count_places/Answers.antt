use Rattle.std.proofs.Common.{◌≡◌, ◌+◌, ◌-◌, ℕ, take, drop, length, ap, sym, ◌∙◌, arith}
use Rattle.std.proofs.Math.Seq.{take-add, take-length}
use Rattle.std.proofs.lemmas.List.{length-drop}
use Rattle.std.proofs.lemmas.List.Sums.{sum_by-append, sum_by-take-drop}
use Rattle.ts_space.specs.declared.place.Place.{Place}
use Rattle.ts_space.specs.Place.{count_of}
use Rattle.ts_clip.proofs.chain_shown.count_places.Goals as goal

pub loop-passed-preserved : goal.loop-passed-preserved
loop-passed-preserved c =
    let passed = c.loop-passed.passed in
    let places = c.args.places.now in
    let more = ap count_of (take-add passed 64 places) ∙ sum_by-append (λ (p : Place). p.count) (take passed places) (take 64 (drop passed places)) in
    let size : (passed + 64) - passed ≡ 64 = omega (arith) in
    let block = c.count_block.ensures ∙ ap (λ (n : ℕ). count_of (take n (drop passed places))) size in
    record {
      within = omega (arith, c.loop-passed-test.true);
      counted = omega (arith, more, block, c.loop-passed.invariant.counted, c.saturating_add-count.ensures);
    }

pub returns : goal.returns
returns c =
    let passed = c.loop-passed.passed in
    let places = c.args.places.now in
    let all = sum_by-take-drop (λ (p : Place). p.count) places passed in
    let whole : take (length places - passed) (drop passed places) ≡ drop passed places =
    ap (λ (n : ℕ). take n (drop passed places)) (sym (length-drop passed places)) ∙ take-length (drop passed places) in
    let block = c.count_block-2.ensures ∙ ap count_of whole in
    omega (arith, all, block, c.loop-passed.invariant.counted, c.saturating_add.ensures)
