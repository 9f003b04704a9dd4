use Rattle.std.proofs.Common.{Err, refl, ◌∙◌, subst}
use Rattle.ts_opening.specs.Engine.{StepFault}
use Rattle.ts_generator.specs.Generated.{generated}
use Rattle.ts_generator.specs.Generating.{RanQuietly}
use Rattle.ts_generator.proofs.SummaryLemmas.{stopped_memory, stopped_disk, unsaid_memory, said_whole, said_not_whole}
use Rattle.ts_generator.proofs.generator.Generator.run.Goals as goal

pub returns-in-Err-Memory : goal.returns-in-Err-Memory
returns-in-Err-Memory g c =
    let tells = g.S.Volume.tells in
    let e = c.args.self.now.engine in
    let f = c.carry_out_all.new.self.engine in
    let v = g.S.Volume.device c.args.site.now in
    let x = g.S.Volume.device c.carry_out_all.new.site in
    record {
      ran = stopped_memory tells c.args.count c.args.seed e v x c.in-Err-Memory.field-0-0 f
          (subst (λ (s : StepFault). RanQuietly tells (generated c.args.count c.args.seed) (Err s) e f v x) c.in-Err-Memory.field-0-is
          (c.in-Err-Memory.ensures.stopped refl));
    }

pub returns-in-Err-Disk : goal.returns-in-Err-Disk
returns-in-Err-Disk g c =
    let tells = g.S.Volume.tells in
    let e = c.args.self.now.engine in
    let f = c.carry_out_all.new.self.engine in
    let v = g.S.Volume.device c.args.site.now in
    let x = g.S.Volume.device c.carry_out_all.new.site in
    record {
      ran = stopped_disk tells c.args.count c.args.seed e v x f
          (subst (λ (s : StepFault). RanQuietly tells (generated c.args.count c.args.seed) (Err s) e f v x) c.in-Err-Disk.field-0-is
          (c.in-Err-Disk.ensures.stopped refl));
    }

pub returns-in-Err : goal.returns-in-Err
returns-in-Err g c =
    let v = g.S.Volume.device c.args.site.now in
    let x = g.S.Volume.device c.carry_out_all.new.site in
    record {
      ran = unsaid_memory g.S.Volume.tells c.args.count c.args.seed c.args.self.now.engine v x c.carry_out_all.new.self c.in-Ok.ensures.behind;
    }

pub returns-in-Ok-say : goal.returns-in-Ok-say
returns-in-Ok-say g c =
    let v = g.S.Volume.device c.args.site.now in
    let x = g.S.Volume.device c.carry_out_all.new.site in
    let w = g.S.Volume.device c.say.new.self in
    record {
      ran = said_whole g.S.Volume.tells c.args.count c.args.seed c.args.self.now.engine v x c.carry_out_all.new.self c.in-Ok.ensures.behind
          c.as_slice.result.now (c.as_slice.ensures ∙ c.in-Ok-summary.ensures) w c.in-Ok-say.ensures;
    }

pub returns : goal.returns
returns g c =
    let v = g.S.Volume.device c.args.site.now in
    let x = g.S.Volume.device c.carry_out_all.new.site in
    let w = g.S.Volume.device c.say.new.self in
    record {
      ran = said_not_whole g.S.Volume.tells c.args.count c.args.seed c.args.self.now.engine v x c.carry_out_all.new.self
          c.in-Ok.ensures.behind c.as_slice.result.now (c.as_slice.ensures ∙ c.in-Ok-summary.ensures) w c.in-Err-say.field-0
          c.in-Err-say.ensures;
    }
