use Rattle.std.proofs.Common.{ℕ, sym, subst}
use Rattle.ts_session_source.specs.Sessions.{SessionsRan}
use Rattle.ts_session_source.proofs.OpenedLemmas.{unopened, opened}
use Rattle.ts_session_source.proofs.sessions.carry_out_sessions.Goals as goal

pub returns-in-Err : goal.returns-in-Err
returns-in-Err g c =
    let tells = g.S.Volume.tells in
    let told = g.R.Source.tells in
    let v = g.S.Volume.device c.args.site.now in
    let y = g.S.Volume.device c.start.new.vol in
    let i = g.R.Source.input c.args.source.now in
    subst (λ (s : ℕ). SessionsRan tells told c.args.seed s v y i i) (sym c.unopened.ensures) (unopened tells told c.args.seed c.in-Err.fault v y i c.in-Err.ensures)

pub returns-in-Ok : goal.returns-in-Ok
returns-in-Ok g c =
    opened g.S.Volume.tells g.R.Source.tells c.args.seed c.in-Ok.engine (g.S.Volume.device c.args.site.now) (g.S.Volume.device c.start.new.vol) (g.S.Volume.device c.take_and_run.new.site)
    (g.R.Source.input c.args.source.now) (g.R.Source.input c.take_and_run.new.source) c.take_and_run.result c.in-Ok.ensures c.take_and_run.ensures
