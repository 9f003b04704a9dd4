use Rattle.std.proofs.Common.{Ok, refl, ap, sym, ◌∙◌}
use Rattle.ts_answer.specs.Outcomes.{ends_with_ok}
use Rattle.ts_session_engine.specs.Faults.{Memory}
use Rattle.ts_multi.specs.Log.{with_commit}
use Rattle.ts_multi.specs.declared.object.Touched.{Touched}
use Rattle.ts_session_turns.specs.Hand.{hand}
use Rattle.ts_session_turns.proofs.OutsideLemmas.{commit_outside, faulted_outside, left_outside, read_outside}
use Rattle.ts_session_turns.proofs.TurnedLemmas.{turned_by, turned_none, turned_to}
use Rattle.ts_session_turns.proofs.outside.outside.Goals as goal

pub step_beside-requires-clause-beside : goal.step_beside-requires-clause-beside
step_beside-requires-clause-beside g c κs _ = λ none. c.requires.ready.beside

pub returns-then-not-is_writing : goal.returns-then-not-is_writing
returns-then-not-is_writing g c =
    let v = g.V.Volume.device c.args.vol.now in
    let w = g.V.Volume.device c.step_beside.new.vol in
    let reads = sym c.is_writing.ensures ∙ c.if-not-is_writing.true in
    read_outside g.V.Volume.tells c.args.who c.args.command.now c.args.engine.now c.step_beside.new.engine c.args.views.now c.step_beside.new.views c.args.log.now v w c.requires.between c.requires.ready c.requires.closed
    c.step_beside.result c.step_beside.new.out reads (c.step_beside.ensures.stepped c.requires.ready.beside.ready.unspent)

pub returns-in_err-touched : goal.returns-in_err-touched
returns-in_err-touched g c =
    let v = g.V.Volume.device c.args.vol.now in
    let h = hand c.args.engine.now c.args.views.now c.args.log.now in
    let error = c.in_err-touched.field-0.0 in
    turned_by g.V.Volume.tells c.args.who (Ok c.args.command.now) c.from_residual.result (Memory error) c.args.out.now h h v v c.from_residual.ensures.1
    (turned_none g.V.Volume.tells c.args.who (Ok c.args.command.now) h v (g.met.V.Volume.lawful c.args.vol.now) c.requires.ready error c.args.out.now)

pub step_beside-requires-2-clause-beside : goal.step_beside-requires-2-clause-beside
step_beside-requires-2-clause-beside g c κs _ = λ none. c.requires.ready.beside

pub returns-in_err-step_beside : goal.returns-in_err-step_beside
returns-in_err-step_beside g c =
    let v = g.V.Volume.device c.args.vol.now in
    let call = c.step_beside-2 in
    let w = g.V.Volume.device call.new.vol in
    let fault = c.in_err-step_beside.field-0.0 in
    turned_by g.V.Volume.tells c.args.who (Ok c.args.command.now) c.from_residual-in_err-step_beside.result fault call.new.out (hand c.args.engine.now c.args.views.now c.args.log.now) (hand call.new.engine call.new.views c.args.log.now) v w c.from_residual-in_err-step_beside.ensures.1
    (faulted_outside g.V.Volume.tells c.args.who c.args.command.now c.args.engine.now call.new.engine c.args.views.now call.new.views c.args.log.now v w c.requires.between c.requires.ready c.requires.closed fault call.new.out call.new.out
    (c.in_err-step_beside.ensures.stepped c.requires.ready.beside.ready.unspent))

pub returns-then-not-ends_with_ok : goal.returns-then-not-ends_with_ok
returns-then-not-ends_with_ok g c =
    let v = g.V.Volume.device c.args.vol.now in
    let call = c.step_beside-2 in
    let w = g.V.Volume.device call.new.vol in
    left_outside g.V.Volume.tells c.args.who c.args.command.now c.args.engine.now call.new.engine c.args.views.now call.new.views c.args.log.now v w c.requires.between c.requires.ready c.requires.closed call.new.out
    (c.in_ok-step_beside.ensures.stepped c.requires.ready.beside.ready.unspent) (λ writes. ap ends_with_ok (sym c.as_slice.ensures) ∙ sym c.ends_with_ok.ensures ∙ c.if-not-ends_with_ok.true)

pub returns : goal.returns
returns g c =
    let v = g.V.Volume.device c.args.vol.now in
    let call = c.step_beside-2 in
    let w = g.V.Volume.device call.new.vol in
    turned_to g.V.Volume.tells c.args.who (Ok c.args.command.now) (Ok tt) call.new.out (hand c.args.engine.now c.args.views.now c.args.log.now) call.new.engine call.new.views call.new.views (with_commit c.in_ok-touched.touched.wrote c.args.log.now) c.commit_alone.new.self v w refl c.commit_alone.ensures
    (commit_outside g.V.Volume.tells c.args.who c.args.command.now c.args.engine.now call.new.engine c.args.views.now call.new.views c.args.log.now v w c.requires.between c.requires.ready c.requires.closed call.new.out
    (c.in_ok-step_beside.ensures.stepped c.requires.ready.beside.ready.unspent) (sym c.is_writing.ensures ∙ c.if-not-is_writing.false)
    (ap ends_with_ok (sym c.as_slice.ensures) ∙ sym c.ends_with_ok.ensures ∙ c.if-not-ends_with_ok.false) c.in_ok-touched.touched.wrote (ap (λ (t : Touched). t.wrote) c.in_ok-touched.ensures))
