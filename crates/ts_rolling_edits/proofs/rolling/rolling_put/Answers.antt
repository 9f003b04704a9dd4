use Rattle.std.proofs.Common.{ℕ, List, refl, sym, ap, ◌∙◌}
use Rattle.ts_command.specs.declared.command.Command.TheVariants.{RollingPut, PutElemNoDups}
use Rattle.ts_rolling.specs.Sets.{a_plan}
use Rattle.ts_layout.specs.Meaning.{catalogue_of}
use Rattle.ts_answer.specs.Answer.{outcome, carried_out, put_no_dups}
use Rattle.ts_answer.specs.Elements.{put_planned}
use Rattle.ts_answer.specs.View.{view}
use Rattle.ts_answer.proofs.CallerLemmas.{stopped_first, tried_stopped}
use Rattle.ts_rolling_edits.proofs.PartLemmas.{carried_as, carried_whole}
use Rattle.ts_rolling_edits.proofs.RollingLemmas.{own_window, put_alone}
use Rattle.ts_rolling_sets.proofs.CallerLemmas.{short_set}
use Rattle.ts_rolling_edits.proofs.rolling.rolling_put.Goals as goal

pub returns-in_err-planned-clause-carried : goal.returns-in_err-planned-clause-carried
unfolding outcome carried_out
returns-in_err-planned-clause-carried g c =
    let x = view c.args.defs.now.definitions c.args.space.now (g.P.Pages.contents c.args.pages.now) in
    let command = RollingPut c.args.set.now c.args.stamp c.args.values.now in
    stopped_first g.P.Pages.tells command c.args.out.now x c.from_residual.result _ c.from_residual.ensures.1
    (tried_stopped g.P.Pages.tells command c.args.out.now x c.in_err-planned.field-0.0 (λ l kept. c.in_err-planned.ensures.err l kept))

-- an edit of the window alone
pub returns-in-Some-clause-carried : goal.returns-in-Some-clause-carried
unfolding outcome carried_out
returns-in-Some-clause-carried g c =
    let tells = g.P.Pages.tells in
    let set = c.args.set.now in
    let stamp = c.args.stamp in
    let values = c.args.values.now in
    let planned = c.in_ok-planned.planned in
    let plan = planned.plan in
    let key = c.in-Some.key.now in
    let x = view c.args.defs.now.definitions c.args.space.now (g.P.Pages.contents c.args.pages.now) in
    let w = g.P.Pages.contents c.edit_element.new.pages in
    let own = own_window set plan.window plan.attach key (c.in-Some.ensures.own refl ∙ c.in_ok-planned.ensures.own) in
    carried_as tells (RollingPut set stamp values) c.edit_element.new.out x w refl refl refl (PutElemNoDups key stamp values) c.edit_element.result refl
    (λ told l shows.
    c.in_ok-planned.ensures.ok l shows.kept
    ∙ put_alone set planned.container.now plan.window stamp values plan.attach plan.purge.items (catalogue_of l) own.0 (c.in-Some.ensures.none refl)
    ∙ ap (λ (k : List ℕ). put_no_dups k stamp values (catalogue_of l)) (sym own.1)) c.edit_element.ensures.carried

-- all on copies
pub window_key-requires-clause-short : goal.window_key-requires-clause-short
window_key-requires-clause-short g c = short_set c.args.set.now c.requires.set

pub returns-clause-carried : goal.returns-clause-carried
unfolding outcome carried_out
returns-clause-carried g c =
    let tells = g.P.Pages.tells in
    let set = c.args.set.now in
    let stamp = c.args.stamp in
    let values = c.args.values.now in
    let planned = c.in_ok-planned.planned in
    let plan = planned.plan in
    let x = view c.args.defs.now.definitions c.args.space.now (g.P.Pages.contents c.args.pages.now) in
    let w = g.P.Pages.contents c.put_on_copies.new.pages in
    carried_whole tells (RollingPut set stamp values) c.put_on_copies.new.out x w refl refl refl (put_planned set planned.container.now (a_plan plan.window plan.attach plan.purge.items) stamp values) c.put_on_copies.result
    (λ told l shows. c.in_ok-planned.ensures.ok l shows.kept) c.put_on_copies.ensures.done c.put_on_copies.ensures.stopped c.put_on_copies.ensures.count
