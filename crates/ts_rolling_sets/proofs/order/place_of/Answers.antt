use Rattle.std.proofs.Common.{◌≡◌, ℕ, ◌+◌, ◌-◌, ◌/◌, ◌<◌, ◌++◌, List, true, false, length, get_or, ap, sym, ◌∙◌, arith}
use Rattle.ts_model.specs.Definitions.{Definitions}
use Rattle.ts_rolling_sets.specs.InMemory.{in_order}
use Rattle.ts_rolling_sets.specs.Order.{is_below}
use Rattle.ts_rolling_sets.proofs.SearchLemmas.{below_earlier, behind_later}
use Rattle.ts_rolling_sets.proofs.order.place_of.Goals as goal

pub loop-low-preserved-then-is_below : goal.loop-low-preserved-then-is_below
loop-low-preserved-then-is_below c =
    let d : Definitions = c.args.defs.now.definitions in
    let text : List ℕ = c.args.front.now ++ c.args.rest.now in
    let m : ℕ = c.loop-low.low + (c.loop-low.high - c.loop-low.low) / 2 in
    let same = c.in_order-order.ensures.value in
    let size : length c.in_order-order.result.now ≡ length (in_order d) = ap length same in
    let most = c.loop-low.invariant.within in
    let inside : m < length (in_order d) = omega (arith, size, most) in
    let here : is_below d text (get_or (in_order d) m 0) ≡ true = ap (λ (ss : List ℕ). is_below d text (get_or ss m 0)) (sym same) ∙ sym c.is_below.ensures ∙ c.if-is_below.true in
    record {
      order = omega arith;
      within = most;
      before = λ k lt. below_earlier d text k m (omega (arith, lt)) inside here;
      behind = c.loop-low.invariant.behind;
    }

pub loop-low-preserved : goal.loop-low-preserved
loop-low-preserved c =
    let d : Definitions = c.args.defs.now.definitions in
    let text : List ℕ = c.args.front.now ++ c.args.rest.now in
    let m : ℕ = c.loop-low.low + (c.loop-low.high - c.loop-low.low) / 2 in
    let same = c.in_order-order.ensures.value in
    let most = c.loop-low.invariant.within in
    let here : is_below d text (get_or (in_order d) m 0) ≡ false = ap (λ (ss : List ℕ). is_below d text (get_or ss m 0)) (sym same) ∙ sym c.is_below.ensures ∙ c.if-is_below.false in
    record {
      order = omega arith;
      within = omega (arith, most);
      before = c.loop-low.invariant.before;
      behind = λ k ge inside. behind_later d text m k ge inside here;
    }
