use Rattle.std.proofs.Common.{◌≡◌, ℕ, ◌++◌, List, Option, take, filter, option_to_list, sym, ap, subst, ◌∙◌}
use Rattle.std.proofs.lemmas.List.Elements.{filter-append}
use Rattle.std.specs.List.{filter_map}
use Rattle.ts_rolling.specs.Sets.{is_old}
use Rattle.ts_rolling_sets.specs.InMemory.{window_at}
use Rattle.ts_rolling_sets.proofs.OrderLemmas.{picked_next}
use Rattle.ts_rolling_sets.proofs.PickedLemmas.{picked_here}
use Rattle.ts_rolling_sets.proofs.NearLemmas.{old_in_front, one_kept, none_kept}
use Rattle.ts_rolling_sets.proofs.near.old_of.Goals as goal

pub returns-then-is_kept : goal.returns-then-is_kept
returns-then-is_kept c =
    let f : ℕ → Option ℕ = window_at c.args.defs.now.definitions c.args.set.now c.args.container in
    let slots : List ℕ = c.args.slots.now in
    let all = c.loop-slot.invariant.all in
    let kept = one_kept c.args.n c.args.top c.window_at-window.result (sym c.is_kept.ensures ∙ c.if-is_kept.true) in
    let here = picked_here f slots c.loop-slot.slot-index kept.0 c.loop-slot-test.true (sym c.window_at-window.ensures ∙ kept.1) in
    let old = subst (λ (ks : List ℕ). filter (is_old c.args.n c.args.top) ks ≡ ks) all c.loop-slot.invariant.old in
    all ∙ old_in_front c.args.n c.args.top (filter_map f slots) (filter_map f (take c.loop-slot.slot-index slots)) here.0 kept.0 c.requires.rising here.1 old kept.2

pub loop-slot-preserved : goal.loop-slot-preserved
loop-slot-preserved c =
    let f : ℕ → Option ℕ = window_at c.args.defs.now.definitions c.args.set.now c.args.container in
    let q = is_old c.args.n c.args.top in
    let o : Option ℕ = c.window_at-window.result in
    let old : List ℕ = c.loop-slot.old.items in
    let more : c.add_window.new.live.items ≡ old ++ option_to_list o = c.in_ok-add_window.ensures in
    let none = none_kept c.args.n c.args.top o (sym c.is_kept.ensures ∙ c.if-is_kept.false) in
    record {
      all = picked_next f c.args.slots.now c.loop-slot.slot-index old c.add_window.new.live.items o c.loop-slot-test.true c.loop-slot.invariant.all c.window_at-window.ensures more;
      old = ap (filter q) more ∙ filter-append q old (option_to_list o) ∙ (λ i. c.loop-slot.invariant.old i ++ none i) ∙ sym more;
    }
