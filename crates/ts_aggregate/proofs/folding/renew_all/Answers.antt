use Rattle.std.proofs.Common.{◌≡◌, ◌≤◌, ◌^◌, ◌∷◌, ◌++◌, ℕ, List, [], get_or, length, length-set, length-take, map, take, refl, sym, ap, ◌∙◌, arith}
use Rattle.std.proofs.Math.Seq.{take-length}
use Rattle.std.proofs.lemmas.List.Elements.{All-set}
use Rattle.ts_row.specs.declared.value.Value.{Value}
use Rattle.ts_expr.specs.declared.item.BoundItem.{BoundItem}
use Rattle.ts_expr.specs.declared.tally.Tally.{Tally}
use Rattle.ts_expr.specs.Running.{count_of, value_of}
use Rattle.ts_expr.proofs.CallerLemmas.{count_few}
use Rattle.ts_aggregate.proofs.FoldingLemmas.{known, an_item, all_known, each_more, rest_more, values_more}
use Rattle.ts_aggregate.proofs.folding.renew_all.Goals as goal

pub loop-number-init : goal.loop-number-init
loop-number-init c = record {
  size = c.requires.size;
  few = c.requires.few;
  values = refl;
  there = omega arith;
  most = omega (arith, ap length c.truncate.ensures.items, length-take (length c.args.items.now) c.args.values.now.items);
  none = λ k d before. absurd (omega (arith, before));
  rest = λ k d behind. refl;
}

pub loop-number-preserved : goal.loop-number-preserved
loop-number-preserved c =
    let n = c.loop-number.number in
    let v = c.loop-number.invariant in
    let items : List BoundItem = c.args.items.now in
    let old : List Tally = c.args.tallies.now in
    let now : List Tally = c.loop-number.tallies in
    let was : Tally = c.index-tallies-number.result in
    let new : Tally = c.renew-value.new.self in
    record {
      size = length-set now n new ∙ v.size;
      few = All-set (λ (t : Tally). count_of t ≤ 2 ^ 32) now n new
          (omega (arith, ap count_of c.renew-value.ensures.none, count_few (get_or items n an_item).function [])) v.few;
      values = c.in_ok-put.ensures.items ∙ ap (λ (w : Value). take n c.loop-number.values.items ++ w ∷ []) c.renew-value.ensures.value
          ∙ ap (λ (t : Tally). take n c.loop-number.values.items ++ value_of t ∷ []) (sym c.index-tallies-number.is)
          ∙ ap (λ (l : List Value). l ++ value_of was ∷ []) v.values
          ∙ values_more old now n was (omega (arith, c.loop-number-test.true, v.size))
          (c.requires.size ∙ sym v.size) c.index-tallies-number.is v.rest;
      there = c.in_ok-put.ensures.there;
      most = c.in_ok-put.ensures.most (length items) v.most (omega (arith, c.loop-number-test.true));
      none = each_more (λ k t u. u ≡ known (get_or items k an_item) []) old now n was new
          (omega (arith, c.loop-number-test.true, v.size)) c.index-tallies-number.is v.none v.rest c.renew-value.ensures.none;
      rest = rest_more old now n new v.rest;
    }

pub returns-clause-none : goal.returns-clause-none
returns-clause-none c =
    let v = c.loop-number.invariant in
    all_known c.args.items.now c.loop-number.tallies [] v.size (λ k d within. v.none k d (omega (arith, within, c.loop-number-test.false)))

pub returns-clause-value : goal.returns-clause-value
returns-clause-value c =
    let v = c.loop-number.invariant in
    let n = c.loop-number.number in
    let same : n ≡ length c.loop-number.values.items = omega (arith, v.there, v.most, c.loop-number-test.false) in
    let many : n ≡ length c.args.tallies.now = omega (arith, same, v.there, v.most, c.loop-number-test.false, c.requires.size) in
    sym (ap (λ (k : ℕ). take k c.loop-number.values.items) same ∙ take-length c.loop-number.values.items) ∙ v.values
    ∙ ap (map value_of) (ap (λ (k : ℕ). take k c.args.tallies.now) many ∙ take-length c.args.tallies.now)
