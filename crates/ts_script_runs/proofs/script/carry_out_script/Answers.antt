use Rattle.ts_script_runs.proofs.OpenedLemmas.{unbuffered}
use Rattle.ts_script_runs.proofs.script.carry_out_script.Goals as goal

pub returns-in-Err : goal.returns-in-Err
returns-in-Err g c = record { ran = unbuffered g.S.Volume.tells g.R.Source.tells (g.S.Volume.device c.args.site.now) (g.R.Source.input c.args.source.now) (g.met.S.Volume.lawful c.args.site.now) }
