use Rattle.std.proofs.Common.{ℕ, ℤ, List, refl, sym, ap, ◌∙◌}
use Rattle.ts_base.specs.declared.fault.Trouble.{Trouble}
use Rattle.ts_offset.specs.Grid.{GridPlan}
use Rattle.ts_model.specs.declared.kind.Kind.TheVariants as kinds
use Rattle.ts_model.specs.Catalogue.{Series}
use Rattle.ts_layout.specs.Meaning.{Layout, catalogue_of}
use Rattle.ts_rolling.specs.Sets.{planned, live}
use Rattle.ts_answer.specs.Slots.{Stands}
use Rattle.ts_answer.specs.Tried.{IsRefusedAs}
use Rattle.ts_answer.specs.View.{View, view, IsViewOf}
use Rattle.ts_rolling_sets.specs.InMemory.{live_in}
use Rattle.ts_rolling_sets.proofs.OrderLemmas.{live_in_rises}
use Rattle.ts_rolling_sets.proofs.ControlLemmas.{short_set}
use Rattle.ts_rolling_sets.proofs.HomeLemmas.{err_says, fails_as, series_filled, home_found, live_seen, container_seen, few_going}
use Rattle.ts_rolling_sets.proofs.plan.plan_under.Goals as goal

-- what an error says
abbrev Says : View → List ℕ → List ℕ → ℕ → GridPlan → ℕ → ℤ → Trouble → Type 0
Says x set key slot grid kept stamp trouble =
    (l : Layout) (series : Series) → IsViewOf x l → Stands kinds.Series key l slot series → IsRefusedAs trouble (planned grid kept (live set series.container (catalogue_of l)) stamp)

pub home_of-slot-requires-clause-filled : goal.home_of-slot-requires-clause-filled
home_of-slot-requires-clause-filled g c =
    let x = view c.args.defs.now.definitions c.args._space.now (g.P.Pages.contents c.args._pages.now) in
    series_filled x c.requires.seen.kept c.args.control.now.shelf.series c.args.control.now.key.now c.requires.there

pub plan_near-requires : goal.plan_near-requires
plan_near-requires g c =
    let x = view c.args.defs.now.definitions c.args._space.now (g.P.Pages.contents c.args._pages.now) in
    let kept = c.requires.seen.kept in
    let home = c.home_of-slot in
    let is = home_found x kept c.args.control.now.shelf.series c.args.control.now.key.now c.requires.there home.result.0 home.ensures.container home.result.1.now home.ensures.name in
    record { short = short_set c.args.set.now c.requires.set; place = c.requires.place; rising = live_in_rises x kept c.args.set.now home.result.1.now home.result.0 is }

pub returns-in_err-near-clause-err : goal.returns-in_err-near-clause-err
returns-in_err-near-clause-err g c =
    let x = view c.args.defs.now.definitions c.args._space.now (g.P.Pages.contents c.args._pages.now) in
    let kept = c.requires.seen.kept in
    let home = c.home_of-slot in
    let set : List ℕ = c.args.set.now in
    let control = c.args.control.now in
    let trouble = c.in_err-near.field-0.0 in
    let is = home_found x kept control.shelf.series control.key.now c.requires.there home.result.0 home.ensures.container home.result.1.now home.ensures.name in
    err_says c.from_residual.result trouble (Says x set control.key.now control.shelf.series control.grid control.kept c.args.stamp) c.from_residual.ensures.1 (λ l series held stands.
    let own = container_seen x l held control.key.now control.shelf.series home.result.0 home.result.1.now series home.ensures.container home.ensures.name stands in
    fails_as trouble (planned control.grid control.kept (live_in x.definitions set home.result.0) c.args.stamp) (planned control.grid control.kept (live set series.container (catalogue_of l)) c.args.stamp)
    (ap (λ (js : List ℕ). planned control.grid control.kept js c.args.stamp)
    (sym (live_seen x l held set home.result.1.now home.result.0 is) ∙ ap (λ (n : List ℕ). live set n (catalogue_of l)) (sym own)))
    c.in_err-near.ensures.cause)

pub returns-clause-few : goal.returns-clause-few
returns-clause-few g c =
    let x = view c.args.defs.now.definitions c.args._space.now (g.P.Pages.contents c.args._pages.now) in
    let kept = c.requires.seen.kept in
    let home = c.home_of-slot in
    let control = c.args.control.now in
    let plan = c.in_ok-near.near.plan in
    let is = home_found x kept control.shelf.series control.key.now c.requires.there home.result.0 home.ensures.container home.result.1.now home.ensures.name in
    few_going x kept c.args.set.now home.result.1.now home.result.0 is control.grid control.kept (live_in x.definitions c.args.set.now home.result.0) c.args.stamp plan.window plan.attach plan.purge.items refl c.in_ok-near.ensures.ok

pub returns-clause-container : goal.returns-clause-container
returns-clause-container g c l series held stands =
    let x = view c.args.defs.now.definitions c.args._space.now (g.P.Pages.contents c.args._pages.now) in
    let home = c.home_of-slot in
    let control = c.args.control.now in
    container_seen x l held control.key.now control.shelf.series home.result.0 home.result.1.now series home.ensures.container home.ensures.name stands

pub returns-clause-ok : goal.returns-clause-ok
returns-clause-ok g c l held =
    let x = view c.args.defs.now.definitions c.args._space.now (g.P.Pages.contents c.args._pages.now) in
    let kept = c.requires.seen.kept in
    let home = c.home_of-slot in
    let set : List ℕ = c.args.set.now in
    let control = c.args.control.now in
    let is = home_found x kept control.shelf.series control.key.now c.requires.there home.result.0 home.ensures.container home.result.1.now home.ensures.name in
    ap (λ (js : List ℕ). planned control.grid control.kept js c.args.stamp) (live_seen x l held set home.result.1.now home.result.0 is)
    ∙ c.in_ok-near.ensures.ok
