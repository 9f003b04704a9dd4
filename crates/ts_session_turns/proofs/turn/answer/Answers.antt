use Rattle.std.proofs.Common.{Some, Ok, refl, ap, sym, ◌∙◌}
use Rattle.ts_session_engine.specs.Faults.{Memory}
use Rattle.ts_session_turns.specs.Hand.{hand}
use Rattle.ts_session_turns.proofs.TurnedLemmas.{reserved_ready, turned_by, turned_none, turned_reserved, turned_to}
use Rattle.ts_session_turns.proofs.turn.answer.Goals as goal

pub returns-in_err-reserve : goal.returns-in_err-reserve
returns-in_err-reserve g c =
    let v = g.V.Volume.device c.args.vol.now in
    let h = hand c.args.engine.now c.args.views.now c.args.log.now in
    let error = c.in_err-reserve.field-0.0 in
    turned_to g.V.Volume.tells c.args.who (Ok c.args.command.now) c.from_residual.result c.clear.new.self h c.args.engine.now c.args.views.now c.args.views.now c.args.log.now c.reserve.new.self v v refl c.in_err-reserve.ensures.err
    (turned_by g.V.Volume.tells c.args.who (Ok c.args.command.now) c.from_residual.result (Memory error) c.clear.new.self h h v v c.from_residual.ensures.1
    (turned_none g.V.Volume.tells c.args.who (Ok c.args.command.now) h v (g.met.V.Volume.lawful c.args.vol.now) c.requires.ready error c.clear.new.self))

pub begin-requires-clause-ready : goal.begin-requires-clause-ready
begin-requires-clause-ready g c = reserved_ready g.V.Volume.tells c.args.engine.now c.args.views.now c.args.log.now c.reserve.new.self (g.V.Volume.device c.args.vol.now) c.in_ok-reserve.ensures.ok c.requires.ready

pub begin-requires-clause-opens : goal.begin-requires-clause-opens
begin-requires-clause-opens g c = sym c.boundary.ensures ∙ c.in-Some-Opens.is ∙ ap Some c.in-Some-Opens.field-0-is

pub returns-in-Some-Opens : goal.returns-in-Some-Opens
returns-in-Some-Opens g c =
    let v = g.V.Volume.device c.args.vol.now in
    let call = c.begin in
    turned_reserved g.V.Volume.tells c.args.engine.now c.args.views.now c.args.log.now c.reserve.new.self v c.in_ok-reserve.ensures.ok c.args.who (Ok c.args.command.now) call.result call.new.out (hand c.args.engine.now call.new.views call.new.log) v call.ensures

pub commit-requires-clause-ready : goal.commit-requires-clause-ready
commit-requires-clause-ready g c κs _ = reserved_ready g.V.Volume.tells c.args.engine.now c.args.views.now c.args.log.now c.reserve.new.self (g.V.Volume.device c.args.vol.now) c.in_ok-reserve.ensures.ok c.requires.ready

pub commit-requires-clause-commits : goal.commit-requires-clause-commits
commit-requires-clause-commits g c κs _ = sym c.boundary.ensures ∙ c.in-Some-Commits.is ∙ ap Some c.in-Some-Commits.field-0-is

pub returns-in-Some-Commits : goal.returns-in-Some-Commits
returns-in-Some-Commits g c =
    let v = g.V.Volume.device c.args.vol.now in
    let call = c.commit in
    turned_reserved g.V.Volume.tells c.args.engine.now c.args.views.now c.args.log.now c.reserve.new.self v c.in_ok-reserve.ensures.ok c.args.who (Ok c.args.command.now) call.result call.new.out (hand call.new.engine call.new.views call.new.log) (g.V.Volume.device call.new.vol) call.ensures

pub roll_back-requires-clause-ready : goal.roll_back-requires-clause-ready
roll_back-requires-clause-ready g c = reserved_ready g.V.Volume.tells c.args.engine.now c.args.views.now c.args.log.now c.reserve.new.self (g.V.Volume.device c.args.vol.now) c.in_ok-reserve.ensures.ok c.requires.ready

pub roll_back-requires-clause-rolls : goal.roll_back-requires-clause-rolls
roll_back-requires-clause-rolls g c = sym c.boundary.ensures ∙ c.in-Some-RollsBack.is ∙ ap Some c.in-Some-RollsBack.field-0-is

pub returns-in-Some-RollsBack : goal.returns-in-Some-RollsBack
returns-in-Some-RollsBack g c =
    let v = g.V.Volume.device c.args.vol.now in
    let call = c.roll_back in
    turned_reserved g.V.Volume.tells c.args.engine.now c.args.views.now c.args.log.now c.reserve.new.self v c.in_ok-reserve.ensures.ok c.args.who (Ok c.args.command.now) call.result call.new.out (hand c.args.engine.now call.new.views call.new.log) v call.ensures

pub refuse-requires-clause-ready : goal.refuse-requires-clause-ready
refuse-requires-clause-ready g c = reserved_ready g.V.Volume.tells c.args.engine.now c.args.views.now c.args.log.now c.reserve.new.self (g.V.Volume.device c.args.vol.now) c.in_ok-reserve.ensures.ok c.requires.ready

pub refuse-requires-clause-alone : goal.refuse-requires-clause-alone
refuse-requires-clause-alone g c = sym c.boundary.ensures ∙ c.in-Some-Alone.is ∙ ap Some c.in-Some-Alone.field-0-is

pub returns-in-Some-Alone : goal.returns-in-Some-Alone
returns-in-Some-Alone g c =
    let v = g.V.Volume.device c.args.vol.now in
    let call = c.refuse in
    turned_reserved g.V.Volume.tells c.args.engine.now c.args.views.now c.args.log.now c.reserve.new.self v c.in_ok-reserve.ensures.ok c.args.who (Ok c.args.command.now) call.result call.new.out (hand c.args.engine.now c.args.views.now c.reserve.new.self) v call.ensures

pub inside-requires-clause-ready : goal.inside-requires-clause-ready
inside-requires-clause-ready g c κs _ = reserved_ready g.V.Volume.tells c.args.engine.now c.args.views.now c.args.log.now c.reserve.new.self (g.V.Volume.device c.args.vol.now) c.in_ok-reserve.ensures.ok c.requires.ready

pub inside-requires-clause-transaction : goal.inside-requires-clause-transaction
inside-requires-clause-transaction g c κs _ = sym c.is_open.ensures ∙ c.if-is_open.true

pub inside-requires-clause-between : goal.inside-requires-clause-between
inside-requires-clause-between g c κs _ = sym c.boundary.ensures ∙ c.in-None.is

pub returns-then-is_open : goal.returns-then-is_open
returns-then-is_open g c =
    let v = g.V.Volume.device c.args.vol.now in
    let call = c.inside in
    turned_reserved g.V.Volume.tells c.args.engine.now c.args.views.now c.args.log.now c.reserve.new.self v c.in_ok-reserve.ensures.ok c.args.who (Ok c.args.command.now) call.result call.new.out (hand call.new.engine call.new.views call.new.log) (g.V.Volume.device call.new.vol) call.ensures

pub outside-requires-clause-ready : goal.outside-requires-clause-ready
outside-requires-clause-ready g c κs _ = reserved_ready g.V.Volume.tells c.args.engine.now c.args.views.now c.args.log.now c.reserve.new.self (g.V.Volume.device c.args.vol.now) c.in_ok-reserve.ensures.ok c.requires.ready

pub outside-requires-clause-closed : goal.outside-requires-clause-closed
outside-requires-clause-closed g c κs _ = sym c.is_open.ensures ∙ c.if-is_open.false

pub outside-requires-clause-between : goal.outside-requires-clause-between
outside-requires-clause-between g c κs _ = sym c.boundary.ensures ∙ c.in-None.is

pub returns-else-is_open : goal.returns-else-is_open
returns-else-is_open g c =
    let v = g.V.Volume.device c.args.vol.now in
    let call = c.outside in
    turned_reserved g.V.Volume.tells c.args.engine.now c.args.views.now c.args.log.now c.reserve.new.self v c.in_ok-reserve.ensures.ok c.args.who (Ok c.args.command.now) call.result call.new.out (hand call.new.engine call.new.views call.new.log) (g.V.Volume.device call.new.vol) call.ensures
