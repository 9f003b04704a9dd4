use Rattle.std.proofs.Common.{ℕ, ◌≡◌, ◌≤◌, ◌<◌, ◌^◌, ◌∙◌, ap, sym, subst, arith, length, take, get_or, set, List}
use Rattle.std.proofs.lemmas.List.{length-take, get_or_read}
use Rattle.ts_row.specs.declared.value.Value.TheVariants.{Null}
use Rattle.ts_expr.specs.declared.function.Function.TheVariants.{Sum}
use Rattle.ts_expr.specs.declared.item.BoundItem.{BoundItem}
use Rattle.ts_expr.specs.declared.tally.Tally.{Tally}
use Rattle.ts_expr.specs.Running.{count_of, taken_into}
use Rattle.ts_expr.proofs.FoldLemmas.{all_taken_rest, all_taken_more}
use Rattle.ts_expr.proofs.fold.take_values.Goals as goal

pub take-requires-clause-few : goal.take-requires-clause-few
take-requires-clause-few c =
    let n = c.loop-number.number in
    let d = c.index-tallies-number.result in
    let items = c.args.items.now in
    let few : length (take n items) ≤ n = omega (arith, length-take n items) in
    let same : get_or c.loop-number.tallies n d ≡ get_or c.args.tallies.now n d = ap (λ (l : List Tally). get_or l n d) c.loop-number.invariant ∙ all_taken_rest (take n items) c.args.values.now c.args.tallies.now n d few in
    subst (λ (t : Tally). count_of t < 2 ^ 32) (sym same) (c.requires.few n d (omega (arith, c.loop-number-test.true, c.requires.items)))

pub loop-number-preserved : goal.loop-number-preserved
loop-number-preserved c =
    let n = c.loop-number.number in
    let d = c.index-tallies-number.result in
    let items = c.args.items.now in
    let values = c.args.values.now in
    let tallies = c.args.tallies.now in
    let e : BoundItem = record { function = Sum; column = 0; scale = 0 } in
    let column : ℕ = (get_or items n e).column in
    let few : length (take n items) ≤ n = omega (arith, length-take n items) in
    let inside : n < length tallies = omega (arith, c.loop-number-test.true, c.requires.items) in
    let same : get_or c.loop-number.tallies n d ≡ get_or tallies n d = ap (λ (l : List Tally). get_or l n d) c.loop-number.invariant ∙ all_taken_rest (take n items) values tallies n d few in
    let value = get_or_read values column c.index-values-item.result (c.requires.places n e c.loop-number-test.true) c.index-values-item.is Null in
    let new : c.take.new.self ≡ taken_into (get_or tallies n d) (get_or values column Null) = c.in_ok-take.ensures ∙ ap (λ (t : Tally). taken_into t c.index-values-item.result) same ∙ ap (taken_into (get_or tallies n d)) value in
    ap (λ (t : Tally). set c.loop-number.tallies n t) new
    ∙ ap (λ (l : List Tally). set l n (taken_into (get_or tallies n d) (get_or values column Null))) c.loop-number.invariant
    ∙ all_taken_more items values tallies n d e c.loop-number-test.true inside
