use Rattle.std.proofs.Common.{List, ◌++◌, ℕ, Ok, refl, ap, sym, ◌∙◌}
use Rattle.ts_base.specs.declared.refusal.Refusal.TheVariants as refusals
use Rattle.ts_session_engine.specs.Faults.{Memory}
use Rattle.ts_answer.specs.Reply.{ok_line, refusal_line}
use Rattle.ts_multi.specs.Log.{after_begin, pending_at}
use Rattle.ts_views.specs.View.{view_of}
use Rattle.ts_session_turns.specs.Hand.{hand}
use Rattle.ts_session_turns.proofs.BeginLemmas.{opened_turned}
use Rattle.ts_session_turns.proofs.MachineLemmas.{begins_again}
use Rattle.ts_session_turns.proofs.OpenLemmas.{gone, open_there}
use Rattle.ts_session_turns.proofs.TurnedLemmas.{turned_by, turned_none, turned_said, turned_to}
use Rattle.ts_session_turns.proofs.begin.begin.Goals as goal

pub returns-in_err-say_refusal : goal.returns-in_err-say_refusal
returns-in_err-say_refusal g c =
    let v = g.V.Volume.device c.args.vol.now in
    let h = hand c.args.engine.now c.args.views.now c.args.log.now in
    let error = c.in_err-say_refusal.field-0.0 in
    turned_by g.V.Volume.tells c.args.who (Ok c.args.command.now) c.from_residual.result (Memory error) c.say_refusal.new.out h h v v c.from_residual.ensures.1
    (turned_none g.V.Volume.tells c.args.who (Ok c.args.command.now) h v (g.met.V.Volume.lawful c.args.vol.now) c.requires.ready error c.say_refusal.new.out)

pub returns-then-is_open : goal.returns-then-is_open
returns-then-is_open g c =
    let v = g.V.Volume.device c.args.vol.now in
    let h = hand c.args.engine.now c.args.views.now c.args.log.now in
    let line = refusal_line refusals.AlreadyOpen in
    turned_said g.V.Volume.tells c.args.who (Ok c.args.command.now) h v (g.met.V.Volume.lawful c.args.vol.now) c.requires.ready line c.say_refusal.new.out
    (c.in_ok-say_refusal.ensures.ok ∙ ap (λ (l : List ℕ). l ++ line) c.requires.empty)
    (λ told m at.
    let found = open_there g.V.Volume.tells h m v at c.args.who (sym c.is_open.ensures ∙ c.if-is_open.true) in
    begins_again c.args.who c.args.command.now m found.0 c.requires.opens found.1)

pub returns-in_err-say_ok : goal.returns-in_err-say_ok
returns-in_err-say_ok g c =
    let v = g.V.Volume.device c.args.vol.now in
    let h = hand c.args.engine.now c.args.views.now c.args.log.now in
    let error = c.in_err-say_ok.field-0.0 in
    turned_by g.V.Volume.tells c.args.who (Ok c.args.command.now) c.from_residual-in_err-say_ok.result (Memory error) c.say_ok.new.out h h v v c.from_residual-in_err-say_ok.ensures.1
    (turned_none g.V.Volume.tells c.args.who (Ok c.args.command.now) h v (g.met.V.Volume.lawful c.args.vol.now) c.requires.ready error c.say_ok.new.out)

pub returns-in_err-open_view : goal.returns-in_err-open_view
returns-in_err-open_view g c =
    let v = g.V.Volume.device c.args.vol.now in
    let h = hand c.args.engine.now c.args.views.now c.args.log.now in
    let error = c.in_err-open_view.field-0.0 in
    turned_to g.V.Volume.tells c.args.who (Ok c.args.command.now) c.from_residual-in_err-open_view.result c.say_ok.new.out h c.args.engine.now c.args.views.now c.open_view.new.views c.args.log.now c.args.log.now v v c.in_err-open_view.ensures.err refl
    (turned_by g.V.Volume.tells c.args.who (Ok c.args.command.now) c.from_residual-in_err-open_view.result (Memory error) c.say_ok.new.out h h v v c.from_residual-in_err-open_view.ensures.1
    (turned_none g.V.Volume.tells c.args.who (Ok c.args.command.now) h v (g.met.V.Volume.lawful c.args.vol.now) c.requires.ready error c.say_ok.new.out))

pub open_view-requires-clause-closed : goal.open_view-requires-clause-closed
open_view-requires-clause-closed g c = gone (view_of c.args.who c.args.views.now) (sym (c.requires.ready.alike c.args.who) ∙ sym c.is_open.ensures ∙ c.if-is_open.false)

pub begin-requires-clause-closed : goal.begin-requires-clause-closed
begin-requires-clause-closed g c = gone (pending_at c.args.who c.args.log.now) (sym c.is_open.ensures ∙ c.if-is_open.false)

pub returns : goal.returns
returns g c =
    let v = g.V.Volume.device c.args.vol.now in
    let h = hand c.args.engine.now c.args.views.now c.args.log.now in
    let opened = c.in_ok-open_view.ensures.opened in
    turned_to g.V.Volume.tells c.args.who (Ok c.args.command.now) (Ok tt) c.say_ok.new.out h c.args.engine.now _ c.open_view.new.views (after_begin c.args.who c.args.log.now) c.begin.new.self v v opened.1 c.begin.ensures
    (opened_turned g.V.Volume.tells c.args.engine.now c.args.views.now c.args.log.now v c.args.who c.requires.within c.requires.ready (g.met.V.Volume.lawful c.args.vol.now) opened.0 opened.2 c.args.command.now c.requires.opens
    (sym c.is_open.ensures ∙ c.if-is_open.false) c.say_ok.new.out (c.in_ok-say_ok.ensures.ok ∙ ap (λ (l : List ℕ). l ++ ok_line) c.requires.empty))
