use Rattle.std.proofs.Common.{ℕ, ◌-◌, List, length, drop, ap, ◌∙◌, arith}
use Rattle.std.proofs.lemmas.List.{take_all, length-drop}
use Rattle.ts_rolling_sets.proofs.order.series_from.Goals as goal

pub returns-clause-rest : goal.returns-clause-rest
returns-clause-rest c =
    let place : ℕ = c.args.place in
    let order : List ℕ = c.in_order-order.result.now in
    let long = length-drop place order in
    take_all (length order - place) (drop place order) (omega (arith, long)) ∙ ap (drop place) c.in_order-order.ensures.value
