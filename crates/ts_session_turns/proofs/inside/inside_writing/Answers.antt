use Rattle.std.proofs.Common.{Ok, refl, ap, sym, ◌∙◌}
use Rattle.ts_answer.specs.Outcomes.{ends_with_ok}
use Rattle.ts_session_engine.specs.Faults.{Memory}
use Rattle.ts_multi.specs.Log.{after_note}
use Rattle.ts_session_turns.specs.Hand.{hand}
use Rattle.ts_session_turns.proofs.InsideLemmas.{faulted_inside, left_inside, noted_inside}
use Rattle.ts_session_turns.proofs.TurnedLemmas.{turned_by, turned_none, turned_to}
use Rattle.ts_session_turns.proofs.inside.inside_writing.Goals as goal

pub returns-in_err-touched : goal.returns-in_err-touched
returns-in_err-touched g c =
    let v = g.V.Volume.device c.args.vol.now in
    let h = hand c.args.engine.now c.args.views.now c.args.log.now in
    let error = c.in_err-touched.field-0.0 in
    turned_by g.V.Volume.tells c.args.who (Ok c.args.command.now) c.from_residual.result (Memory error) c.args.out.now h h v v c.from_residual.ensures.1
    (turned_none g.V.Volume.tells c.args.who (Ok c.args.command.now) h v (g.met.V.Volume.lawful c.args.vol.now) c.requires.ready error c.args.out.now)

pub step_view-requires-clause-opened : goal.step_view-requires-clause-opened
step_view-requires-clause-opened g c κs _ = sym (c.requires.ready.alike c.args.who) ∙ c.requires.transaction

pub step_view-requires-clause-beside : goal.step_view-requires-clause-beside
step_view-requires-clause-beside g c κs _ = λ none. c.requires.ready.beside

pub step_view-requires-clause-room : goal.step_view-requires-clause-room
step_view-requires-clause-room g c κs _ = λ writes. c.requires.few

pub returns-in_err-step_view : goal.returns-in_err-step_view
returns-in_err-step_view g c =
    let v = g.V.Volume.device c.args.vol.now in
    let w = g.V.Volume.device c.step_view.new.vol in
    let fault = c.in_err-step_view.field-0.0 in
    turned_by g.V.Volume.tells c.args.who (Ok c.args.command.now) c.from_residual-in_err-step_view.result fault c.step_view.new.out (hand c.args.engine.now c.args.views.now c.args.log.now) (hand c.step_view.new.engine c.step_view.new.views c.args.log.now) v w c.from_residual-in_err-step_view.ensures.1
    (faulted_inside g.V.Volume.tells c.args.who c.args.command.now c.args.engine.now c.step_view.new.engine c.args.views.now c.step_view.new.views c.args.log.now v w c.requires.between c.requires.form c.requires.within c.requires.ready c.requires.transaction
    (λ writes. c.requires.few) fault c.step_view.new.out c.step_view.new.out (c.in_err-step_view.ensures.stepped c.requires.ready.beside.ready.unspent))

pub returns-then-not-ends_with_ok : goal.returns-then-not-ends_with_ok
returns-then-not-ends_with_ok g c =
    let v = g.V.Volume.device c.args.vol.now in
    let w = g.V.Volume.device c.step_view.new.vol in
    left_inside g.V.Volume.tells c.args.who c.args.command.now c.args.engine.now c.step_view.new.engine c.args.views.now c.step_view.new.views c.args.log.now v w c.requires.between c.requires.form c.requires.within c.requires.ready c.requires.transaction
    (λ writes. c.requires.few) c.step_view.new.out (c.in_ok-step_view.ensures.stepped c.requires.ready.beside.ready.unspent)
    (λ writes. ap ends_with_ok (sym c.as_slice.ensures) ∙ sym c.ends_with_ok.ensures ∙ c.if-not-ends_with_ok.true)

pub returns : goal.returns
returns g c =
    let v = g.V.Volume.device c.args.vol.now in
    let w = g.V.Volume.device c.step_view.new.vol in
    turned_to g.V.Volume.tells c.args.who (Ok c.args.command.now) (Ok tt) c.step_view.new.out (hand c.args.engine.now c.args.views.now c.args.log.now) c.step_view.new.engine c.step_view.new.views c.step_view.new.views (after_note c.args.who c.in_ok-touched.touched c.args.log.now) c.note.new.self v w refl c.note.ensures
    (noted_inside g.V.Volume.tells c.args.who c.args.command.now c.args.engine.now c.step_view.new.engine c.args.views.now c.step_view.new.views c.args.log.now v w c.requires.between c.requires.form c.requires.within c.requires.ready c.requires.transaction
    (λ writes. c.requires.few) c.step_view.new.out (c.in_ok-step_view.ensures.stepped c.requires.ready.beside.ready.unspent) c.requires.writes
    (ap ends_with_ok (sym c.as_slice.ensures) ∙ sym c.ends_with_ok.ensures ∙ c.if-not-ends_with_ok.false) c.in_ok-touched.touched c.in_ok-touched.ensures)
