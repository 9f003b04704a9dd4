use Rattle.std.proofs.Common.{◌≤◌, ◌-◌, length, ℕ, List, get_or, take, drop, ap, ◌∙◌, arith}
use Rattle.std.proofs.lemmas.List.{take_all, length-drop}
use Rattle.std.specs.List.{filter_map}
use Rattle.ts_model.specs.Definitions.{Definitions}
use Rattle.ts_rolling_sets.specs.InMemory.{in_order}
use Rattle.ts_rolling_sets.proofs.PickedLemmas.{picked_between}
use Rattle.ts_rolling_sets.proofs.order.series_before.Goals as goal

pub returns-clause-picked : goal.returns-clause-picked
returns-clause-picked c pick before behind =
    let d : Definitions = c.args.defs.now.definitions in
    let same = c.in_order.ensures.value in
    let start = c.place_of-start.result in
    let end = c.args.end in
    let m = c.min.result in
    let within = c.requires in
    let least = c.min.ensures in
    let low : m ≤ start = omega (arith, least) in
    let high : m ≤ end = omega (arith, least) in
    let below : List ℕ = take end c.in_order.result.now in
    let long = length-drop m below in
    ap (filter_map pick) (take_all (length below - m) (drop m below) (omega (arith, long)))
    ∙ ap (λ (ss : List ℕ). filter_map pick (drop m (take end ss))) same
    ∙ picked_between pick (in_order d) start end m low high within (λ k lt inside. before (get_or (in_order d) k 0) (c.place_of-start.ensures.before k lt)) behind
