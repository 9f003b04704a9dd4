use Rattle.std.proofs.Common.{◌≡◌, ℕ, ◌==◌, not, List, Option, Result, Ok, filter, sym, ap, subst, ◌∙◌}
use Rattle.std.specs.Option.{option_copied}
use Rattle.std.specs.List.{list_any}
use Rattle.std.specs.List.Sorted.{IsStrictlyIncreasing}
use Rattle.ts_model.specs.Definitions.{Definitions}
use Rattle.ts_base.specs.declared.refusal.Refusal.{Refusal}
use Rattle.ts_rolling.specs.Sets.{Planned, a_plan, is_old, later}
use Rattle.ts_rolling_sets.specs.InMemory.{live_in}
use Rattle.ts_rolling_sets.specs.Near.{newest, key_if}
use Rattle.ts_rolling_sets.proofs.SearchLemmas.{all_windows}
use Rattle.ts_rolling_sets.proofs.NearLemmas.{plan_first, plan_gone, plan_made, attached, own_key}
use Rattle.ts_rolling_sets.proofs.near.plan_at.Goals as goal

pub series_before-slots-requires : goal.series_before-slots-requires
series_before-slots-requires c = c.requires.place.within

pub newest_of-requires-clause-rising : goal.newest_of-requires-clause-rising
newest_of-requires-clause-rising c =
    let all = all_windows c.args.defs.now.definitions c.args.set.now c.args.place c.requires.place c.args.container c.series_before-slots.result.now c.as_slice.result.now c.as_slice.ensures.value c.series_before-slots.ensures.picked in
    subst IsStrictlyIncreasing (sym all) c.requires.rising

pub returns-in_default : goal.returns-in_default
returns-in_default c =
    let live : List ℕ = live_in c.args.defs.now.definitions c.args.set.now c.args.container in
    let all = all_windows c.args.defs.now.definitions c.args.set.now c.args.place c.requires.place c.args.container c.series_before-slots.result.now c.as_slice.result.now c.as_slice.ensures.value c.series_before-slots.ensures.picked in
    let first = plan_first c.args.n c.args.window live (sym (ap newest all) ∙ sym c.in_default.ensures.value) in
    let e = c.plan_of-first.ensures in
    record {
      ok = first ∙ (λ i. let p : Result Planned Refusal = Ok (a_plan (sym e.window i) (sym e.attach i) ((sym c.new-none.ensures.items ∙ sym e.purge) i)) in p);
      window = e.window;
      own = e.own ∙ (λ i. key_if c.args.set.now (sym e.window i) (not (sym e.attach i)));
      cause = tt;
    }

pub returns-then-is_old-clause-cause : goal.returns-then-is_old-clause-cause
returns-then-is_old-clause-cause c =
    let live : List ℕ = live_in c.args.defs.now.definitions c.args.set.now c.args.container in
    let all = all_windows c.args.defs.now.definitions c.args.set.now c.args.place c.requires.place c.args.container c.series_before-slots.result.now c.as_slice.result.now c.as_slice.ensures.value c.series_before-slots.ensures.picked in
    plan_gone c.args.n c.args.window live c.in-Some.newest.number (sym (ap newest all) ∙ sym c.in-Some.ensures.value) (sym c.is_old.ensures ∙ c.if-is_old.true)

pub old_of-requires-clause-rising : goal.old_of-requires-clause-rising
old_of-requires-clause-rising c =
    let all = all_windows c.args.defs.now.definitions c.args.set.now c.args.place c.requires.place c.args.container c.series_before-slots.result.now c.as_slice.result.now c.as_slice.ensures.value c.series_before-slots.ensures.picked in
    subst IsStrictlyIncreasing (sym all) c.requires.rising

pub own_of-requires-clause-newest : goal.own_of-requires-clause-newest
own_of-requires-clause-newest c =
    let all = all_windows c.args.defs.now.definitions c.args.set.now c.args.place c.requires.place c.args.container c.series_before-slots.result.now c.as_slice.result.now c.as_slice.ensures.value c.series_before-slots.ensures.picked in
    sym (ap newest all) ∙ sym c.in-Some.ensures.value

pub returns : goal.returns
returns c =
    let d : Definitions = c.args.defs.now.definitions in
    let set : List ℕ = c.args.set.now in
    let w = c.args.window in
    let n = c.args.n in
    let g = c.in-Some.newest.number in
    let live : List ℕ = live_in d set c.args.container in
    let all = all_windows d set c.args.place c.requires.place c.args.container c.series_before-slots.result.now c.as_slice.result.now c.as_slice.ensures.value c.series_before-slots.ensures.picked in
    let e = c.plan_of-made.ensures in
    let own = c.in_ok-own.ensures in
    let there = list_any (λ k. k == w) live in
    let key : Option (List ℕ) = option_copied c.in_ok-own.own in
    let top : c.later.result ≡ later g w = c.later.ensures in
    let purge : c.plan_of-made.result.plan.purge.items ≡ filter (is_old n (later g w)) live =
    e.purge ∙ c.in_ok-purge.ensures ∙ (λ i. filter (is_old n (top i)) (all i)) in
    record {
      ok = plan_made n w live g (sym (ap newest all) ∙ sym c.in-Some.ensures.value) (sym c.is_old.ensures ∙ c.if-is_old.false) c.plan_of-made.result.plan.attach c.plan_of-made.result.plan.purge.items (e.attach ∙ attached set w there key own) purge
          ∙ ap (λ (m : ℕ). let p : Result Planned Refusal = Ok (a_plan m c.plan_of-made.result.plan.attach c.plan_of-made.result.plan.purge.items) in p) (sym e.window);
      window = e.window;
      own = e.own ∙ own_key set w there c.plan_of-made.result.plan.attach key own e.attach ∙ ap (λ (m : ℕ). key_if set m (not c.plan_of-made.result.plan.attach)) (sym e.window);
      cause = tt;
    }
