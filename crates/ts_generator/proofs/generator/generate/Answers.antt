use Rattle.std.proofs.Common.{ℕ, sym, subst}
use Rattle.ts_opening.specs.Engine.{Kept, IsReady}
use Rattle.ts_generator.specs.Generated.{generated}
use Rattle.ts_generator.specs.Generating.{GenRan, OpenedGen}
use Rattle.ts_generator.proofs.GeneratingLemmas.{behind_none}
use Rattle.ts_generator.proofs.GenLemmas.{ungenerated, generated_behind}
use Rattle.ts_generator.proofs.generator.generate.Goals as goal

pub returns-in-Err : goal.returns-in-Err
returns-in-Err g c =
    let tells = g.S.Volume.tells in
    let v = g.S.Volume.device c.args.site.now in
    let y = g.S.Volume.device c.start.new.vol in
    record {
      ran = subst (λ (s : ℕ). GenRan tells c.args.count c.args.seed s v y) (sym c.unopened.ensures)
          (ungenerated tells c.args.count c.args.seed c.in-Err.fault v y c.in-Err.ensures);
    }

pub run-requires-clause-start : goal.run-requires-clause-start
run-requires-clause-start g c = λ lifetimes outlive.
    let tells = g.S.Volume.tells in
    let y = g.S.Volume.device c.start.new.vol in
    behind_none tells c.new-generator.result y (g.met.S.Volume.lawful c.start.new.vol)
    (subst (λ (e : Kept). IsReady tells e y) (sym c.new-generator.ensures.engine) c.in-Ok.ensures.ready) c.new-generator.ensures.tally
    c.new-generator.ensures.none

pub returns-in-Ok : goal.returns-in-Ok
returns-in-Ok g c =
    let tells = g.S.Volume.tells in
    let v = g.S.Volume.device c.args.site.now in
    let y = g.S.Volume.device c.start.new.vol in
    let w = g.S.Volume.device c.run.new.site in
    record {
      ran = generated_behind tells c.args.count c.args.seed c.run.result c.in-Ok.engine v y w c.in-Ok.ensures
          (subst (λ (e : Kept). OpenedGen tells (generated c.args.count c.args.seed) e c.run.result y w) c.new-generator.ensures.engine
          c.run.ensures.ran);
    }
