use Rattle.std.proofs.Common.{ℕ, sym, subst}
use Rattle.ts_script_runs.specs.Script.{ScriptRan}
use Rattle.ts_script_runs.proofs.OpenedLemmas.{unopened, opened}
use Rattle.ts_script_runs.proofs.script.run_with.Goals as goal

pub returns-in-Err : goal.returns-in-Err
returns-in-Err g c =
    let tells = g.S.Volume.tells in
    let v = g.S.Volume.device c.args.site.now in
    let y = g.S.Volume.device c.start.new.vol in
    let i = g.R.Source.input c.args.source.now in
    let ran = unopened tells g.R.Source.tells c.in-Err.fault v y i c.in-Err.ensures in
    record { ran = subst (λ (s : ℕ). ScriptRan tells g.R.Source.tells s v y i i) (sym c.unopened.ensures) ran }

pub returns-in-Ok : goal.returns-in-Ok
returns-in-Ok g c =
    record { ran = opened g.S.Volume.tells g.R.Source.tells c.in-Ok.engine (g.S.Volume.device c.args.site.now) (g.S.Volume.device c.start.new.vol) (g.S.Volume.device c.run_script.new.site) (g.R.Source.input c.args.source.now) (g.R.Source.input c.run_script.new.source) c.run_script.result c.in-Ok.ensures c.run_script.ensures.ran }
