use Rattle.std.proofs.Common.{[]}
use Rattle.ts_effects.proofs.CallerLemmas.{can_count}
use Rattle.ts_session_engine.specs.Beside.{newest}
use Rattle.std.specs.Prelude.{reverse}
use Rattle.ts_session_engine.proofs.OwnLemmas.{own_by_want, unstepped}
use Rattle.ts_session_engine.proofs.view.carry_out.Goals as goal

pub charges_of-requires : goal.charges_of-requires
charges_of-requires g c =
    let x = c.args.view.now in
    record { can = can_count x.defs.definitions x.space (reverse x.free.items) (newest c.args.engine.now (g.V.Volume.device c.args.vol.now)).count c.requires.view.kept }

pub returns-in_err-charges : goal.returns-in_err-charges
returns-in_err-charges g c =
    let error = c.in_err-charges.field-0.0 in
    own_by_want g.V.Volume.tells c.args.command.now c.from_residual.result c.args.out.now c.args.engine.now c.args.engine.now c.args.view.now c.args.view.now (g.V.Volume.device c.args.vol.now) (g.V.Volume.device c.args.vol.now) error c.from_residual.ensures.1
    (unstepped g.V.Volume.tells c.args.command.now error [] c.args.engine.now c.args.view.now (g.V.Volume.device c.args.vol.now) (g.met.V.Volume.lawful c.args.vol.now) c.requires.ready c.requires.view)

pub returns-in_err-free : goal.returns-in_err-free
returns-in_err-free g c =
    let error = c.in_err-free.field-0.0 in
    own_by_want g.V.Volume.tells c.args.command.now c.from_residual-in_err-free.result c.args.out.now c.args.engine.now c.args.engine.now c.args.view.now c.args.view.now (g.V.Volume.device c.args.vol.now) (g.V.Volume.device c.args.vol.now) error c.from_residual-in_err-free.ensures.1
    (unstepped g.V.Volume.tells c.args.command.now error [] c.args.engine.now c.args.view.now (g.V.Volume.device c.args.vol.now) (g.met.V.Volume.lawful c.args.vol.now) c.requires.ready c.requires.view)
