use Rattle.std.proofs.Common.{◌≡◌, ℕ, List, sym, ap, subst, ◌∙◌}
use Rattle.ts_base.specs.declared.fault.Trouble.{Trouble}
use Rattle.ts_model.specs.declared.kind.Kind.TheVariants.{Series}
use Rattle.ts_layout.specs.Meaning.{Layout, catalogue_of}
use Rattle.ts_answer.specs.Slots.{Stands}
use Rattle.ts_rolling.specs.Sets.{live}
use Rattle.ts_answer.specs.Elements.{roll_drop}
use Rattle.ts_answer.specs.Tried.{IsRefusedAs}
use Rattle.ts_answer.specs.View.{View, view, IsViewOf}
use Rattle.ts_rolling_sets.proofs.HomeLemmas.{err_says, home_found, live_seen, container_seen, few_live, as_many}
use Rattle.ts_rolling_sets.proofs.ControlLemmas.{on_its_grid, drop_ungridded, drop_comes}
use Rattle.ts_rolling_sets.proofs.plan.plan_drop_of.Goals as goal

-- what an error says
abbrev Says : View → List ℕ → Trouble → Type 0
Says x set trouble = (l : Layout) → IsViewOf x l → IsRefusedAs trouble (roll_drop set (catalogue_of l))

pub returns-in_err-found-clause-err : goal.returns-in_err-found-clause-err
returns-in_err-found-clause-err g c =
    let x = view c.args.defs.now.definitions c.args.space.now (g.P.Pages.contents c.args.pages.now) in
    let set : List ℕ = c.args.set.now in
    let trouble = c.in_err-found.field-0.0 in
    err_says c.from_residual.result trouble (Says x set) c.from_residual.ensures.1 (λ l held. drop_ungridded set (catalogue_of l) trouble (c.in_err-found.ensures.err l held))

pub returns-clause-few : goal.returns-clause-few
returns-clause-few g c =
    let x = view c.args.defs.now.definitions c.args.space.now (g.P.Pages.contents c.args.pages.now) in
    let kept = c.requires.seen.kept in
    let home = c.home_of-slot in
    let control = c.in_ok-found.found in
    let is = home_found x kept control.shelf.series control.key.now c.in_ok-found.ensures.found.named home.result.0 home.ensures.container home.result.1.now home.ensures.name in
    few_live x kept c.args.set.now home.result.1.now home.result.0 is c.in_ok-windows.windows.items c.in_ok-windows.ensures

pub returns-clause-ok : goal.returns-clause-ok
returns-clause-ok g c l held =
    let x = view c.args.defs.now.definitions c.args.space.now (g.P.Pages.contents c.args.pages.now) in
    let kept = c.requires.seen.kept in
    let home = c.home_of-slot in
    let set : List ℕ = c.args.set.now in
    let control = c.in_ok-found.found in
    let cat = catalogue_of l in
    let has = c.in_ok-found.ensures.ok l held in
    let key = c.in_ok-found.ensures.key in
    let is = home_found x kept control.shelf.series control.key.now c.in_ok-found.ensures.found.named home.result.0 home.ensures.container home.result.1.now home.ensures.name in
    let own : has.series.container ≡ home.result.1.now =
    container_seen x l held control.key.now control.shelf.series home.result.0 home.result.1.now has.series home.ensures.container home.ensures.name
    (subst (λ (k : List ℕ). Stands Series k l control.shelf.series has.series) (sym key) has.shelf.stands) in
    drop_comes set cat control.kept has.series control.grid has.is (on_its_grid set cat control.kept has.series has.is control.grid has.shelf.lies) c.in_ok-control.control c.in_ok-windows.windows.items (c.in_ok-control.ensures ∙ key)
    (c.in_ok-windows.ensures ∙ sym (live_seen x l held set home.result.1.now home.result.0 is) ∙ ap (λ (n : List ℕ). live set n cat) (sym own)) (as_many set has.series.container cat)
