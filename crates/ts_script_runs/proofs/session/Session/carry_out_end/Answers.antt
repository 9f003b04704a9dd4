use Rattle.std.proofs.Common.{[], ◌∷◌, codes, sym, ◌∙◌, Ok, Err}
use Rattle.ts_base.specs.declared.refusal.Refusal.TheVariants as refusals
use Rattle.ts_items.specs.Items.{is_unended_at}
use Rattle.ts_script_runs.specs.Script.{requests_at_end}
use Rattle.ts_script_runs.proofs.ItemLemmas.{steady, line_ran, refused_step, unended_line}
use Rattle.ts_carriers.proofs.CallerLemmas.{ran_none}
use Rattle.ts_script_runs.proofs.FeedLemmas.{ran_of, end_none, end_some}
use Rattle.ts_script_runs.specs.Script.{script, by_engine}
use Rattle.ts_script_runs.proofs.session.Session.carry_out_end.Goals as goal

pub returns-in-None-clause-ran : goal.returns-in-None-clause-ran
returns-in-None-clause-ran g c =
    let place = c.args.self.now.reader.place in
    let e = c.args.self.now.engine in
    let v = g.S.Volume.device c.args.site.now in
    ran_of g.S.Volume.tells [] (requests_at_end place) (Ok (tt {0})) e e v v (sym (end_none (is_unended_at place) (sym c.finish.ensures.unended ∙ c.in-None.is)))
    (ran_none (by_engine g.S.Volume.tells) script (steady g.S.Volume.tells) (tt {0}) e v (g.met.S.Volume.lawful c.args.site.now) c.requires.ready)

pub returns-in-Some-clause-ran : goal.returns-in-Some-clause-ran
returns-in-Some-clause-ran g c =
    let place = c.args.self.now.reader.place in
    let e = c.args.self.now.engine in
    let v = g.S.Volume.device c.args.site.now in
    let w = g.S.Volume.device c.say.new.site in
    ran_of g.S.Volume.tells (Err refusals.Unended ∷ []) (requests_at_end place) c.say.result e e v w (sym (end_some (is_unended_at place) _ (sym c.finish.ensures.unended ∙ c.in-Some.is)))
    (line_ran g.S.Volume.tells (Err refusals.Unended) (codes "error 3 Unended\n") e v w c.say.result (g.met.S.Volume.lawful c.args.site.now) c.requires.ready
    (refused_step refusals.Unended (codes "error 3 Unended\n") unended_line) c.say.ensures.says c.say.ensures.output)
