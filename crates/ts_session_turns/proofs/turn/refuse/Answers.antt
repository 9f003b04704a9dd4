use Rattle.std.proofs.Common.{List, ◌++◌, ℕ, Ok, ap, ◌∙◌}
use Rattle.ts_base.specs.declared.refusal.Refusal.TheVariants as refusals
use Rattle.ts_answer.specs.Reply.{refusal_line}
use Rattle.ts_session_engine.specs.Faults.{Memory}
use Rattle.ts_session_turns.specs.Hand.{hand}
use Rattle.ts_session_turns.proofs.MachineLemmas.{alone_refused}
use Rattle.ts_session_turns.proofs.TurnedLemmas.{turned_by, turned_none, turned_said}
use Rattle.ts_session_turns.proofs.turn.refuse.Goals as goal

pub returns-in_err-say_refusal : goal.returns-in_err-say_refusal
returns-in_err-say_refusal g c =
    let v = g.V.Volume.device c.args.vol.now in
    let h = hand c.args.engine.now c.args.views.now c.args.log.now in
    let error = c.in_err-say_refusal.field-0.0 in
    turned_by g.V.Volume.tells c.args.who (Ok c.args.command.now) c.from_residual.result (Memory error) c.say_refusal.new.out h h v v c.from_residual.ensures.1
    (turned_none g.V.Volume.tells c.args.who (Ok c.args.command.now) h v (g.met.V.Volume.lawful c.args.vol.now) c.requires.ready error c.say_refusal.new.out)

pub returns : goal.returns
returns g c =
    let v = g.V.Volume.device c.args.vol.now in
    let line = refusal_line (refusals.Syntax 0) in
    turned_said g.V.Volume.tells c.args.who (Ok c.args.command.now) (hand c.args.engine.now c.args.views.now c.args.log.now) v (g.met.V.Volume.lawful c.args.vol.now) c.requires.ready line c.say_refusal.new.out
    (c.in_ok-say_refusal.ensures.ok ∙ ap (λ (l : List ℕ). l ++ line) c.requires.empty) (λ told m at. alone_refused c.args.who c.args.command.now m c.requires.alone)
