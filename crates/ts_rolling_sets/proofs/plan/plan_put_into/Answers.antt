use Rattle.std.proofs.Common.{◌≡◌, ℕ, ℤ, List, sym, ap, subst, ◌∙◌}
use Rattle.ts_base.specs.declared.fault.Trouble.{Trouble}
use Rattle.ts_row.specs.declared.kind.Column.{Column}
use Rattle.ts_row.specs.declared.value.Literal.{Literal}
use Rattle.ts_model.specs.declared.kind.Kind.TheVariants.{Series}
use Rattle.ts_layout.specs.Meaning.{Layout, catalogue_of}
use Rattle.ts_rolling.specs.Sets.{a_plan, planned, live}
use Rattle.ts_answer.specs.Answer.{a_row}
use Rattle.ts_answer.specs.Elements.{roll_put, put_planned}
use Rattle.ts_answer.specs.Slots.{Stands}
use Rattle.ts_answer.specs.Tried.{IsRefusedAs}
use Rattle.ts_answer.specs.View.{View, view, IsViewOf}
use Rattle.ts_rolling_sets.proofs.HomeLemmas.{err_says}
use Rattle.ts_rolling_sets.proofs.ControlLemmas.{on_its_grid, put_ungridded, put_misfits, put_unplanned, put_as_planned}
use Rattle.ts_rolling_sets.proofs.plan.plan_put_into.Goals as goal

-- what an error says
abbrev Says : View → List ℕ → ℤ → List Literal → Trouble → Type 0
Says x set stamp literals trouble = (l : Layout) → IsViewOf x l → IsRefusedAs trouble (roll_put set stamp literals (catalogue_of l))

pub returns-in_err-control-clause-err : goal.returns-in_err-control-clause-err
returns-in_err-control-clause-err g c =
    let x = view c.args.defs.now.definitions c.args.space.now (g.P.Pages.contents c.args.pages.now) in
    let set : List ℕ = c.args.set.now in
    let trouble = c.in_err-control.field-0.0 in
    err_says c.from_residual.result trouble (Says x set c.args.stamp c.args.values.now) c.from_residual.ensures.1 (λ l held.
    put_ungridded set c.args.stamp c.args.values.now (catalogue_of l) trouble (c.in_err-control.ensures.err l held))

pub returns-in_err-fit-clause-err : goal.returns-in_err-fit-clause-err
returns-in_err-fit-clause-err g c =
    let x = view c.args.defs.now.definitions c.args.space.now (g.P.Pages.contents c.args.pages.now) in
    let set : List ℕ = c.args.set.now in
    let control = c.in_ok-control.control in
    let trouble = c.in_err-fit.field-0.0 in
    err_says c.from_residual-in_err-fit.result trouble (Says x set c.args.stamp c.args.values.now) c.from_residual-in_err-fit.ensures.1 (λ l held.
    let cat = catalogue_of l in
    let has = c.in_ok-control.ensures.ok l held in
    put_misfits set c.args.stamp c.args.values.now cat control.kept has.series control.grid has.is (on_its_grid set cat control.kept has.series has.is control.grid has.shelf.lies) trouble
    (subst (λ (cs : List Column). IsRefusedAs trouble (a_row cs c.args.values.now)) (sym has.shelf.columns) c.in_err-fit.ensures.err))

pub returns-in_err-planned-clause-err : goal.returns-in_err-planned-clause-err
returns-in_err-planned-clause-err g c =
    let x = view c.args.defs.now.definitions c.args.space.now (g.P.Pages.contents c.args.pages.now) in
    let set : List ℕ = c.args.set.now in
    let control = c.in_ok-control.control in
    let trouble = c.in_err-planned.field-0.0 in
    err_says c.from_residual-in_err-planned.result trouble (Says x set c.args.stamp c.args.values.now) c.from_residual-in_err-planned.ensures.1 (λ l held.
    let cat = catalogue_of l in
    let has = c.in_ok-control.ensures.ok l held in
    let fits = c.in_ok-fit.ensures.ok in
    put_unplanned set c.args.stamp c.args.values.now cat control.kept has.series control.grid has.is (on_its_grid set cat control.kept has.series has.is control.grid has.shelf.lies) fits.0
    (ap (λ (cs : List Column). a_row cs c.args.values.now) has.shelf.columns ∙ fits.1) trouble
    (c.in_err-planned.ensures.err l has.series held (subst (λ (k : List ℕ). Stands Series k l control.shelf.series has.series) (sym c.in_ok-control.ensures.key) has.shelf.stands)))

pub returns-clause-ok : goal.returns-clause-ok
returns-clause-ok g c l held =
    let set : List ℕ = c.args.set.now in
    let control = c.in_ok-control.control in
    let cat = catalogue_of l in
    let has = c.in_ok-control.ensures.ok l held in
    let fits = c.in_ok-fit.ensures.ok in
    let p = c.in_ok-planned.planned in
    let plan = a_plan p.plan.window p.plan.attach p.plan.purge.items in
    let home : has.series.container ≡ p.container.now =
    c.in_ok-planned.ensures.container l has.series held (subst (λ (k : List ℕ). Stands Series k l control.shelf.series has.series) (sym c.in_ok-control.ensures.key) has.shelf.stands) in
    put_as_planned set c.args.stamp c.args.values.now cat control.kept has.series control.grid has.is (on_its_grid set cat control.kept has.series has.is control.grid has.shelf.lies) fits.0
    (ap (λ (cs : List Column). a_row cs c.args.values.now) has.shelf.columns ∙ fits.1) plan
    (ap (λ (n : List ℕ). planned control.grid control.kept (live set n cat) c.args.stamp) home ∙ c.in_ok-planned.ensures.ok l held)
    ∙ ap (λ (n : List ℕ). put_planned set n plan c.args.stamp c.args.values.now cat) home
