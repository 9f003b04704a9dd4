use Rattle.std.proofs.Common.{List, ◌++◌, ℕ, Ok, ap, sym, ◌∙◌}
use Rattle.ts_base.specs.declared.refusal.Refusal.TheVariants as refusals
use Rattle.ts_session_engine.specs.Faults.{Memory}
use Rattle.ts_answer.specs.Reply.{ok_line, refusal_line}
use Rattle.ts_multi.specs.Log.{after_end}
use Rattle.ts_session_turns.specs.Hand.{hand}
use Rattle.ts_session_turns.proofs.BeginLemmas.{ended_turned}
use Rattle.ts_session_turns.proofs.MachineLemmas.{rolls_back, rolls_none}
use Rattle.ts_session_turns.proofs.OpenLemmas.{closed_there, open_there}
use Rattle.ts_session_turns.proofs.TurnedLemmas.{turned_by, turned_none, turned_said, turned_to}
use Rattle.ts_session_turns.proofs.begin.roll_back.Goals as goal

pub returns-in_err-say_refusal : goal.returns-in_err-say_refusal
returns-in_err-say_refusal g c =
    let v = g.V.Volume.device c.args.vol.now in
    let h = hand c.args.engine.now c.args.views.now c.args.log.now in
    let error = c.in_err-say_refusal.field-0.0 in
    turned_by g.V.Volume.tells c.args.who (Ok c.args.command.now) c.from_residual.result (Memory error) c.say_refusal.new.out h h v v c.from_residual.ensures.1
    (turned_none g.V.Volume.tells c.args.who (Ok c.args.command.now) h v (g.met.V.Volume.lawful c.args.vol.now) c.requires.ready error c.say_refusal.new.out)

pub returns-then-not-is_open : goal.returns-then-not-is_open
returns-then-not-is_open g c =
    let v = g.V.Volume.device c.args.vol.now in
    let h = hand c.args.engine.now c.args.views.now c.args.log.now in
    let line = refusal_line refusals.NotOpen in
    turned_said g.V.Volume.tells c.args.who (Ok c.args.command.now) h v (g.met.V.Volume.lawful c.args.vol.now) c.requires.ready line c.say_refusal.new.out
    (c.in_ok-say_refusal.ensures.ok ∙ ap (λ (l : List ℕ). l ++ line) c.requires.empty)
    (λ told m at. rolls_none c.args.who c.args.command.now m c.requires.rolls (closed_there g.V.Volume.tells h m v at c.args.who (sym c.is_open.ensures ∙ c.if-not-is_open.true)))

pub returns-in_err-say_ok : goal.returns-in_err-say_ok
returns-in_err-say_ok g c =
    let v = g.V.Volume.device c.args.vol.now in
    let h = hand c.args.engine.now c.args.views.now c.args.log.now in
    let error = c.in_err-say_ok.field-0.0 in
    turned_by g.V.Volume.tells c.args.who (Ok c.args.command.now) c.from_residual-in_err-say_ok.result (Memory error) c.say_ok.new.out h h v v c.from_residual-in_err-say_ok.ensures.1
    (turned_none g.V.Volume.tells c.args.who (Ok c.args.command.now) h v (g.met.V.Volume.lawful c.args.vol.now) c.requires.ready error c.say_ok.new.out)

pub close-requires-clause-open : goal.close-requires-clause-open
close-requires-clause-open g c = sym (c.requires.ready.alike c.args.who) ∙ sym c.is_open.ensures ∙ c.if-not-is_open.false

pub end-requires-clause-open : goal.end-requires-clause-open
end-requires-clause-open g c = sym c.is_open.ensures ∙ c.if-not-is_open.false

pub returns : goal.returns
returns g c =
    let v = g.V.Volume.device c.args.vol.now in
    let h = hand c.args.engine.now c.args.views.now c.args.log.now in
    turned_to g.V.Volume.tells c.args.who (Ok c.args.command.now) (Ok tt) c.say_ok.new.out h c.args.engine.now _ c.close.new.self (after_end c.args.who c.args.log.now) c.end.new.self v v c.close.ensures c.end.ensures
    (ended_turned g.V.Volume.tells c.args.engine.now c.args.views.now c.args.log.now v c.args.who c.requires.within c.requires.ready (g.met.V.Volume.lawful c.args.vol.now) c.args.command.now ok_line c.say_ok.new.out
    (c.in_ok-say_ok.ensures.ok ∙ ap (λ (l : List ℕ). l ++ ok_line) c.requires.empty)
    (λ told m at.
    let found = open_there g.V.Volume.tells h m v at c.args.who (sym c.is_open.ensures ∙ c.if-not-is_open.false) in
    rolls_back c.args.who c.args.command.now m found.0 c.requires.rolls found.1))
