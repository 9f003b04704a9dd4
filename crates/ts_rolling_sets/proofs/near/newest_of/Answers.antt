use Rattle.std.proofs.Common.{ℕ, ◌-◌, List, Option, take, sym, ap, subst, ◌∙◌, arith}
use Rattle.std.specs.List.{filter_map}
use Rattle.std.specs.List.Sorted.{IsStrictlyIncreasing}
use Rattle.ts_rolling_sets.specs.InMemory.{window_at}
use Rattle.ts_rolling_sets.specs.Near.{newest}
use Rattle.ts_rolling_sets.proofs.PickedLemmas.{picked_last, picked_nothing}
use Rattle.ts_rolling_sets.proofs.NearLemmas.{newest_last}
use Rattle.ts_rolling_sets.proofs.near.newest_of.Goals as goal

pub returns-in-Some-clause-value : goal.returns-in-Some-clause-value
returns-in-Some-clause-value c =
    let f : ℕ → Option ℕ = window_at c.args.defs.now.definitions c.args.set.now c.args.container in
    let slots : List ℕ = c.args.slots.now in
    let end : ℕ = c.loop-end.end - 1 in
    let within = c.loop-end.invariant.within in
    let number = c.in-Some.window.number in
    let parts = picked_last f slots end number (omega (arith, within)) (sym c.in-Some.ensures.value) (λ k behind inside. c.loop-end.invariant.none k (omega (arith, behind)) inside) in
    sym (ap newest parts ∙ newest_last (filter_map f (take end slots)) number (subst IsStrictlyIncreasing parts c.requires.rising))

pub returns-clause-value : goal.returns-clause-value
returns-clause-value c =
    let f : ℕ → Option ℕ = window_at c.args.defs.now.definitions c.args.set.now c.args.container in
    let done = c.loop-end-test.false in
    sym (ap newest (picked_nothing f c.args.slots.now (λ k inside. c.loop-end.invariant.none k (omega (arith, done)) inside)))
