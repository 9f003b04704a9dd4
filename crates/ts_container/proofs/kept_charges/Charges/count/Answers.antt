use Rattle.std.proofs.Common.{ℕ, List, length, ap, ◌∙◌, arith}
use Rattle.std.specs.List.{sum_by}
use Rattle.std.proofs.lemmas.List.{take_all}
use Rattle.ts_container.specs.KeptCharges.{charged_to}
use Rattle.ts_container.proofs.ChargedLemmas.{order_few, all_charged}
use Rattle.ts_container.proofs.kept_charges.Charges.count.Goals as goal

pub add-requires-clause-room : goal.add-requires-clause-room
add-requires-clause-room c container =
    let few = order_few c.args.defs.now.definitions c.requires.rules in
    let same = ap (λ (l : List ℕ). length l) c.in_order-slot-items.ensures.value in
    let small = c.loop-slot.invariant.small container in
    let before = c.loop-slot-test.true in
    omega (arith, few, same, small, before)

pub returns : goal.returns
returns c container within =
    let d = c.args.defs.now.definitions in
    let space = c.args.space.now in
    let past = c.loop-slot-test.false in
    c.loop-slot.invariant.sums container within
    ∙ ap (sum_by (charged_to d space container)) (take_all c.loop-slot.slot-index c.in_order-slot-items.result.now (omega (arith, past)) ∙ c.in_order-slot-items.ensures.value)
    ∙ all_charged d space container c.requires.rules
