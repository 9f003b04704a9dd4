use Rattle.std.proofs.Common.{◌≡◌, ◌+◌, ◌-◌, ℕ, take, drop, ap, ◌∙◌, arith}
use Rattle.std.proofs.Math.Seq.{take-add}
use Rattle.std.proofs.lemmas.List.Sums.{sum_by-append}
use Rattle.ts_space.specs.declared.place.Place.{Place}
use Rattle.ts_space.specs.Place.{count_of}
use Rattle.ts_clip.proofs.chain_shown.block_of_number.Goals as goal

pub loop-passed-preserved : goal.loop-passed-preserved
loop-passed-preserved c =
    let passed = c.loop-passed.passed in
    let places = c.args.places.now in
    let more = ap count_of (take-add passed 64 places) ∙ sum_by-append (λ (p : Place). p.count) (take passed places) (take 64 (drop passed places)) in
    let size : (passed + 64) - passed ≡ 64 = omega (arith) in
    let block = c.count_block-many.ensures ∙ ap (λ (n : ℕ). count_of (take n (drop passed places))) size in
    record {
      within = omega (arith, c.loop-passed-test.true);
      counted = omega (arith, more, block, c.loop-passed.invariant.counted, c.if-left-many.false);
    }
