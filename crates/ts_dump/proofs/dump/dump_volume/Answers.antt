use Rattle.std.proofs.Common.{refl, sym, subst, ◌∙◌}
use Rattle.ts_dump.specs.declared.ended.Ended.{Ended}
use Rattle.ts_dump.specs.Dumped.{DumpRan}
use Rattle.ts_dump.proofs.RanLemmas.{ran_unread, ran_missing, ran_said}
use Rattle.ts_dump.proofs.dump.dump_volume.Goals as goal

pub returns-in-Some : goal.returns-in-Some
returns-in-Some g c =
    let tells = g.S.Volume.tells in
    let v = g.S.Volume.device c.args.site.now in
    let x = g.S.Volume.device c.open.new.vol in
    let w = g.S.Volume.device c.say_script.new.site in
    record {
      ran = subst (λ (ended : Ended). DumpRan tells c.args.wish ended v w) (sym c.ended_of.ensures)
          (ran_said tells c.args.wish v w x c.in-Ok.opened.found c.in-Ok.ensures.surveyed c.scripts_make_what_a_volume_means.ensures c.scripts_make_series_of_volumes.ensures
          c.in-Some.choice (sym c.choose.ensures.value ∙ c.in-Some.is) c.say_script.result c.say_script.ensures.caused c.say_script.ensures.said
          c.say_script.result refl);
    }

pub returns-in-Ok : goal.returns-in-Ok
returns-in-Ok g c =
    let tells = g.S.Volume.tells in
    let v = g.S.Volume.device c.args.site.now in
    let x = g.S.Volume.device c.open.new.vol in
    record {
      ran = ran_missing tells c.args.wish v x c.in-Ok.opened.found c.in-Ok.ensures.surveyed (sym c.choose.ensures.value ∙ c.in-None.is);
    }

pub returns : goal.returns
returns g c =
    let tells = g.S.Volume.tells in
    let v = g.S.Volume.device c.args.site.now in
    let w = g.S.Volume.device c.open.new.vol in
    record {
      ran = subst (λ (ended : Ended). DumpRan tells c.args.wish ended v w) (sym c.unread.ensures) (ran_unread tells c.args.wish v w c.in-Err.fault c.in-Err.ensures.surveyed);
    }
