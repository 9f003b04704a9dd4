use Rattle.std.proofs.Common.{◌≡◌, ℕ, List, Ok, Result, refl, sym, ap, subst, ◌∙◌}
use Rattle.ts_base.specs.declared.refusal.Refusal.{Refusal}
use Rattle.ts_base.specs.declared.fault.Trouble.TheVariants.{Refused}
use Rattle.ts_command.specs.declared.command.Command.TheVariants.{RollingClip}
use Rattle.ts_sheets.specs.Stamped.{within_range}
use Rattle.ts_model.specs.declared.kind.Kind.TheVariants.{Series}
use Rattle.ts_layout.specs.Meaning.{catalogue_of}
use Rattle.ts_rolling.specs.Sets.{window_elements}
use Rattle.ts_answer.specs.Slots.{Stands}
use Rattle.ts_answer.specs.View.{view}
use Rattle.ts_answer.proofs.CallerLemmas.{read_stopped_first, tried_stopped}
use Rattle.ts_shelf.proofs.ReadingLemmas.{failed_out, trouble_out, said_out}
use Rattle.ts_rolling_sets.specs.Windows.{seen_in, AreSaid}
use Rattle.ts_rolling_sets.proofs.HomeLemmas.{series_filled, home_found, container_seen}
use Rattle.ts_rolling_sets.proofs.ControlLemmas.{on_its_grid}
use Rattle.ts_rolling_sets.proofs.WindowLemmas.{each_slot, few_found, home_columns, seen_held}
use Rattle.ts_rolling_sets.proofs.SaidLemmas.{clip_ungridded, clip_refused, clip_said}
use Rattle.ts_rolling_sets.proofs.clip.clip_set.Goals as goal

pub home_of-container-requires-clause-filled : goal.home_of-container-requires-clause-filled
home_of-container-requires-clause-filled g c =
    let x = view c.args.defs.now.definitions c.args.space.now (g.P.Pages.contents c.args.pages.now) in
    series_filled x c.requires.seen.kept c.in_ok-control.control.shelf.series c.in_ok-control.control.key.now c.in_ok-control.ensures.found.named

pub say_all-requires-clause-windows : goal.say_all-requires-clause-windows
say_all-requires-clause-windows g c =
    let x = view c.args.defs.now.definitions c.args.space.now (g.P.Pages.contents c.args.pages.now) in
    each_slot x c.requires.seen.kept c.args.set.now c.home_of-container.result.0 c.deref.result.now (c.deref.ensures.value ∙ c.in_ok-slots.ensures)

pub say_all-requires-clause-few : goal.say_all-requires-clause-few
say_all-requires-clause-few g c =
    let x = view c.args.defs.now.definitions c.args.space.now (g.P.Pages.contents c.args.pages.now) in
    few_found x c.requires.seen.kept c.args.set.now c.home_of-container.result.0 c.deref.result.now (c.deref.ensures.value ∙ c.in_ok-slots.ensures)

pub returns-in_err-control-clause-read : goal.returns-in_err-control-clause-read
returns-in_err-control-clause-read g c =
    let x = view c.args.defs.now.definitions c.args.space.now (g.P.Pages.contents c.args.pages.now) in
    let command = RollingClip c.args.set.now c.args.from c.args.to in
    let trouble = c.in_err-control.field-0.0 in
    read_stopped_first g.P.Pages.tells command c.args.out.now x c.from_residual.result _ c.from_residual.ensures.1
    (tried_stopped g.P.Pages.tells command c.args.out.now x trouble (λ l held. clip_ungridded c.args.set.now c.args.from c.args.to (catalogue_of l) trouble (c.in_err-control.ensures.err l held)))

pub returns-in_err-slots-clause-read : goal.returns-in_err-slots-clause-read
returns-in_err-slots-clause-read g c =
    let x = view c.args.defs.now.definitions c.args.space.now (g.P.Pages.contents c.args.pages.now) in
    read_stopped_first g.P.Pages.tells (RollingClip c.args.set.now c.args.from c.args.to) c.args.out.now x c.from_residual-in_err-slots.result _ c.from_residual-in_err-slots.ensures.1 refl

pub returns-in_err-say_all-clause-read : goal.returns-in_err-say_all-clause-read
returns-in_err-say_all-clause-read g c =
    let x = view c.args.defs.now.definitions c.args.space.now (g.P.Pages.contents c.args.pages.now) in
    failed_out g.P.Pages.tells (RollingClip c.args.set.now c.args.from c.args.to) _ x _ _ c.in_err-say_all.field-0.0 c.from_residual-in_err-say_all.ensures.1 c.in_err-say_all.ensures.call

pub returns-in-Ok-clause-read : goal.returns-in-Ok-clause-read
returns-in-Ok-clause-read g c =
    let tells = g.P.Pages.tells in
    let x = view c.args.defs.now.definitions c.args.space.now (g.P.Pages.contents c.args.pages.now) in
    let kept = c.requires.seen.kept in
    let set : List ℕ = c.args.set.now in
    let control = c.in_ok-control.control in
    let found = c.in_ok-control.ensures.found in
    let home = c.home_of-container in
    let slots : List ℕ = c.deref.result.now in
    let are = c.deref.ensures.value ∙ c.in_ok-slots.ensures in
    let is = home_found x kept control.shelf.series control.key.now found.named home.result.0 home.ensures.container home.result.1.now home.ensures.name in
    said_out tells (RollingClip set c.args.from c.args.to) c.say_all.new.out x _ c.in_ok-say_all.field-0 c.in_ok-say_all.ensures.call (λ told l shows.
    let cat = catalogue_of l in
    let held = shows.kept in
    let has = c.in_ok-control.ensures.ok l held in
    let es = seen_in l c.args.from c.args.to slots in
    let columns = control.shelf.kind.now.columns in
    let own : has.series.container ≡ home.result.1.now =
    container_seen x l held control.key.now control.shelf.series home.result.0 home.result.1.now has.series home.ensures.container home.ensures.name
    (subst (λ (k : List ℕ). Stands Series k l control.shelf.series has.series) (sym c.in_ok-control.ensures.key) has.shelf.stands) in
    let said : AreSaid columns es (Ok tt) c.say_all.new.out =
    subst (λ (r : Result (Unit {0}) Refusal). AreSaid columns es r c.say_all.new.out) c.in-Ok.is
    (c.in_ok-say_all.ensures.said told columns l (home_columns x kept set home.result.0 slots are control.shelf.series control.key.now found.named home.ensures.container control.shelf.kind.now found.columns) shows) in
    clip_said set c.args.from c.args.to cat control.kept has.series control.grid has.is (on_its_grid set cat control.kept has.series has.is control.grid has.shelf.lies) es
    (ap (λ (n : List ℕ). within_range c.args.from c.args.to (window_elements set n cat)) own ∙ seen_held x l held c.args.from c.args.to set home.result.1.now home.result.0 slots is are)
    columns c.say_all.new.out has.shelf.columns said.0 said.1)

pub returns-clause-read : goal.returns-clause-read
returns-clause-read g c =
    let tells = g.P.Pages.tells in
    let x = view c.args.defs.now.definitions c.args.space.now (g.P.Pages.contents c.args.pages.now) in
    let kept = c.requires.seen.kept in
    let set : List ℕ = c.args.set.now in
    let control = c.in_ok-control.control in
    let found = c.in_ok-control.ensures.found in
    let home = c.home_of-container in
    let slots : List ℕ = c.deref.result.now in
    let are = c.deref.ensures.value ∙ c.in_ok-slots.ensures in
    let is = home_found x kept control.shelf.series control.key.now found.named home.result.0 home.ensures.container home.result.1.now home.ensures.name in
    trouble_out tells (RollingClip set c.args.from c.args.to) _ x _ _ c.in_ok-say_all.field-0 (Refused c.in-Err.refusal) refl c.in_ok-say_all.ensures.call (λ told l shows.
    let cat = catalogue_of l in
    let held = shows.kept in
    let has = c.in_ok-control.ensures.ok l held in
    let es = seen_in l c.args.from c.args.to slots in
    let columns = control.shelf.kind.now.columns in
    let own : has.series.container ≡ home.result.1.now =
    container_seen x l held control.key.now control.shelf.series home.result.0 home.result.1.now has.series home.ensures.container home.ensures.name
    (subst (λ (k : List ℕ). Stands Series k l control.shelf.series has.series) (sym c.in_ok-control.ensures.key) has.shelf.stands) in
    clip_refused set c.args.from c.args.to cat control.kept has.series control.grid has.is (on_its_grid set cat control.kept has.series has.is control.grid has.shelf.lies) es
    (ap (λ (n : List ℕ). within_range c.args.from c.args.to (window_elements set n cat)) own ∙ seen_held x l held c.args.from c.args.to set home.result.1.now home.result.0 slots is are)
    c.in-Err.refusal
    (subst (λ (r : Result (Unit {0}) Refusal). AreSaid columns es r c.say_all.new.out) c.in-Err.is
    (c.in_ok-say_all.ensures.said told columns l (home_columns x kept set home.result.0 slots are control.shelf.series control.key.now found.named home.ensures.container control.shelf.kind.now found.columns) shows)))
