use Rattle.std.proofs.Common.{ap, ◌∙◌, arith}
use Rattle.ts_store.proofs.CallerLemmas.{commit_bytes}
use Rattle.ts_model.specs.Catalogue.{newest_format}
use Rattle.ts_model.specs.Definitions.{Tables, with_format}
use Rattle.ts_engine.specs.contracts.engine.Engine.{the_view}
use Rattle.ts_engine.specs.Engine.{Kept}
use Rattle.ts_engine.proofs.EndLemmas.{none_open}
use Rattle.ts_engine.proofs.MigrateLemmas.{migrated_ok, migrated_fault, by_fault}
use Rattle.ts_engine.proofs.engine.Engine.take_newest_format.Goals as goal

pub returns-in_err-finish : goal.returns-in_err-finish
returns-in_err-finish g c =
    let tells = g.V.Volume.tells in
    let e = c.args.self.now in
    let v = g.V.Volume.device c.args.vol.now in
    let w = g.V.Volume.device c.finish.new.vol in
    let put = c.put_newest_format-put in
    let fault = c.in_err-finish.field-0.0 in
    record {
      migrated = by_fault tells c.from_residual.result fault e c.finish.new.self v w c.from_residual.ensures.1
          (migrated_fault tells e v (g.met.V.Volume.lawful c.args.vol.now) c.requires.ready c.requires.rests put.new.self c.finish.new.self (g.V.Volume.device put.new.vol) w (g.met.V.Volume.lawful c.finish.new.vol)
          put.result put.ensures.others put.ensures.undisturbed put.ensures.written fault c.in_err-finish.ensures.finished);
    }

pub returns : goal.returns
returns g c =
    let tells = g.V.Volume.tells in
    let e = c.args.self.now in
    let v = g.V.Volume.device c.args.vol.now in
    let w = g.V.Volume.device c.finish.new.vol in
    let put = c.put_newest_format-put in
    let now : Kept = the_view c.self.inside in
    let f : Kept = record now { tables = c.set_format.new.self } in
    record {
      migrated = migrated_ok tells e v (g.met.V.Volume.lawful c.args.vol.now) c.requires.ready c.requires.rests put.new.self c.finish.new.self (g.V.Volume.device put.new.vol) w (g.met.V.Volume.lawful c.finish.new.vol)
          put.result put.ensures.others put.ensures.undisturbed put.ensures.written f c.in_ok-finish.ensures.finished
          (ap (λ (t : Tables). record now { tables = t }) c.set_format.ensures ∙ ap (λ (k : Kept). record k { tables = record k.tables { definitions = with_format newest_format k.tables.definitions } }) c.self.view_is);
    }

pub finish-requires-clause-short : goal.finish-requires-clause-short
finish-requires-clause-short g c =
    let put = c.put_newest_format-put in
    let none = none_open c.args.self.now.store (g.V.Volume.device c.args.vol.now) (c.requires.ready.closed c.requires.rests) c.requires.ready.idle.batch in
    omega (arith, none, put.ensures.short, commit_bytes put.new.self.store (g.V.Volume.device put.new.vol))
