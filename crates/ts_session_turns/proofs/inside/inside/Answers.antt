use Rattle.std.proofs.Common.{◌<◌, ◌≤◌, List, Option, ◌++◌, ℕ, Ok, length, refl, ap, sym, ◌∙◌, subst, arith}
use Rattle.ts_base.specs.declared.refusal.Refusal.TheVariants as refusals
use Rattle.ts_answer.specs.Reply.{refusal_line}
use Rattle.ts_session_engine.specs.Faults.{Memory}
use Rattle.ts_views.specs.declared.view.View.{View}
use Rattle.ts_views.specs.View.{view_of}
use Rattle.ts_session_engine.specs.Committed.{listed}
use Rattle.ts_session_turns.specs.Hand.{hand, IsHandReady}
use Rattle.ts_session_turns.specs.Turned.{Turned}
use Rattle.ts_session_turns.proofs.InsideLemmas.{full_turned, read_inside}
use Rattle.ts_session_turns.proofs.ReadyLemmas.{room_listed}
use Rattle.ts_session_turns.proofs.TurnedLemmas.{turned_by, turned_none, turned_to}
use Rattle.ts_session_turns.proofs.inside.inside.Goals as goal

pub step_view-requires-clause-opened : goal.step_view-requires-clause-opened
step_view-requires-clause-opened g c κs _ = sym (c.requires.ready.alike c.args.who) ∙ c.requires.transaction

pub step_view-requires-clause-beside : goal.step_view-requires-clause-beside
step_view-requires-clause-beside g c κs _ = λ none. c.requires.ready.beside

pub step_view-requires-clause-room : goal.step_view-requires-clause-room
step_view-requires-clause-room g c κs _ = λ writes. let reads = sym c.is_writing.ensures ∙ c.if-not-is_writing.true in absurd (cc)

pub returns-then-not-is_writing : goal.returns-then-not-is_writing
returns-then-not-is_writing g c =
    let v = g.V.Volume.device c.args.vol.now in
    let w = g.V.Volume.device c.step_view.new.vol in
    let reads = sym c.is_writing.ensures ∙ c.if-not-is_writing.true in
    read_inside g.V.Volume.tells c.args.who c.args.command.now c.args.engine.now c.step_view.new.engine c.args.views.now c.step_view.new.views c.args.log.now v w c.requires.between c.requires.form c.requires.within c.requires.ready c.requires.transaction
    (λ writes. absurd (cc)) c.step_view.result c.step_view.new.out reads (c.step_view.ensures.stepped c.requires.ready.beside.ready.unspent)

pub commands_in-requires-clause-transaction : goal.commands_in-requires-clause-transaction
commands_in-requires-clause-transaction g c = sym (c.requires.ready.alike c.args.who) ∙ c.requires.transaction

pub returns-in_err-say_refusal : goal.returns-in_err-say_refusal
returns-in_err-say_refusal g c =
    let v = g.V.Volume.device c.args.vol.now in
    let h = hand c.args.engine.now c.args.views.now c.args.log.now in
    let error = c.in_err-say_refusal.field-0.0 in
    turned_to g.V.Volume.tells c.args.who (Ok c.args.command.now) c.from_residual.result c.say_refusal.new.out h c.args.engine.now c.args.views.now c.commands_in.new.views c.args.log.now c.args.log.now v v c.commands_in.ensures.same refl
    (turned_by g.V.Volume.tells c.args.who (Ok c.args.command.now) c.from_residual.result (Memory error) c.say_refusal.new.out h h v v c.from_residual.ensures.1
    (turned_none g.V.Volume.tells c.args.who (Ok c.args.command.now) h v (g.met.V.Volume.lawful c.args.vol.now) c.requires.ready error c.say_refusal.new.out))

pub returns-then-commands_in-ge-MOST_ACCEPTED : goal.returns-then-commands_in-ge-MOST_ACCEPTED
returns-then-commands_in-ge-MOST_ACCEPTED g c =
    let v = g.V.Volume.device c.args.vol.now in
    let h = hand c.args.engine.now c.args.views.now c.args.log.now in
    let line = refusal_line refusals.TransactionFull in
    turned_to g.V.Volume.tells c.args.who (Ok c.args.command.now) (Ok tt) c.say_refusal.new.out h c.args.engine.now c.args.views.now c.commands_in.new.views c.args.log.now c.args.log.now v v c.commands_in.ensures.same refl
    (full_turned g.V.Volume.tells c.args.who c.args.command.now c.args.engine.now c.args.views.now c.args.log.now v (g.met.V.Volume.lawful c.args.vol.now) c.requires.between c.requires.ready c.requires.transaction
    (sym c.is_writing.ensures ∙ c.if-not-is_writing.false) (subst (λ (n : ℕ). 32 ≤ n) c.commands_in.ensures.count c.if-commands_in-ge-MOST_ACCEPTED.true) c.say_refusal.new.out
    (c.in_ok-say_refusal.ensures.ok ∙ ap (λ (l : List ℕ). l ++ line) c.requires.empty))

pub inside_writing-requires-clause-within : goal.inside_writing-requires-clause-within
inside_writing-requires-clause-within g c κs _ = omega (arith, c.requires.within, ap (λ (l : List (Option View)). length l) c.commands_in.ensures.same)

pub inside_writing-requires-clause-ready : goal.inside_writing-requires-clause-ready
inside_writing-requires-clause-ready g c κs _ =
    subst (λ (l : List (Option View)). IsHandReady g.V.Volume.tells (hand c.args.engine.now l c.args.log.now) (g.V.Volume.device c.args.vol.now)) (sym c.commands_in.ensures.same) c.requires.ready

pub inside_writing-requires-clause-writes : goal.inside_writing-requires-clause-writes
inside_writing-requires-clause-writes g c κs _ = sym c.is_writing.ensures ∙ c.if-not-is_writing.false

pub inside_writing-requires-clause-few : goal.inside_writing-requires-clause-few
inside_writing-requires-clause-few g c κs _ =
    room_listed (view_of c.args.who c.commands_in.new.views)
    (subst (λ (l : List (Option View)). length (listed (view_of c.args.who l)) < 32) (sym c.commands_in.ensures.same) (subst (λ (n : ℕ). n < 32) c.commands_in.ensures.count c.if-commands_in-ge-MOST_ACCEPTED.false))

pub returns : goal.returns
returns g c =
    let v = g.V.Volume.device c.args.vol.now in
    let w = g.V.Volume.device c.inside_writing.new.vol in
    subst (λ (l : List (Option View)). Turned g.V.Volume.tells c.args.who (Ok c.args.command.now) c.inside_writing.result c.inside_writing.new.out (hand c.args.engine.now l c.args.log.now) (hand c.inside_writing.new.engine c.inside_writing.new.views c.inside_writing.new.log) v w)
    c.commands_in.ensures.same c.inside_writing.ensures
