use Rattle.std.proofs.Common.{List, ◌++◌, ℕ, Bool, Ok, true, false, refl, ap, sym, ◌∙◌, subst}
use Rattle.ts_base.specs.declared.refusal.Refusal.TheVariants as refusals
use Rattle.ts_answer.specs.Reply.{refusal_line}
use Rattle.ts_session_engine.specs.Faults.{Memory}
use Rattle.ts_multi.specs.Log.{after_commit, after_end, conflict_of, pending_at}
use Rattle.ts_sessions.specs.Steps.{conflict_lines}
use Rattle.ts_views.specs.View.{view_of}
use Rattle.ts_session_engine.specs.Committed.{CommitsView, commands_of}
use Rattle.ts_session_turns.specs.Hand.{hand}
use Rattle.ts_session_turns.proofs.BeginLemmas.{ended_turned}
use Rattle.ts_session_turns.proofs.CommitLemmas.{commands_ready, committed_turned, faulted_commit}
use Rattle.ts_session_turns.proofs.MachineLemmas.{commits_conflict, commits_none}
use Rattle.ts_session_turns.proofs.OpenLemmas.{closed_there, conflict_there, open_there}
use Rattle.ts_session_turns.proofs.TurnedLemmas.{turned_by, turned_none, turned_said, turned_to}
use Rattle.ts_session_turns.proofs.commit.commit.Goals as goal

pub returns-in_err-say_refusal : goal.returns-in_err-say_refusal
returns-in_err-say_refusal g c =
    let v = g.V.Volume.device c.args.vol.now in
    let h = hand c.args.engine.now c.args.views.now c.args.log.now in
    let error = c.in_err-say_refusal.field-0.0 in
    turned_by g.V.Volume.tells c.args.who (Ok c.args.command.now) c.from_residual.result (Memory error) c.say_refusal.new.out h h v v c.from_residual.ensures.1
    (turned_none g.V.Volume.tells c.args.who (Ok c.args.command.now) h v (g.met.V.Volume.lawful c.args.vol.now) c.requires.ready error c.say_refusal.new.out)

pub returns-then-not-is_open : goal.returns-then-not-is_open
returns-then-not-is_open g c =
    let v = g.V.Volume.device c.args.vol.now in
    let h = hand c.args.engine.now c.args.views.now c.args.log.now in
    let line = refusal_line refusals.NotOpen in
    turned_said g.V.Volume.tells c.args.who (Ok c.args.command.now) h v (g.met.V.Volume.lawful c.args.vol.now) c.requires.ready line c.say_refusal.new.out
    (c.in_ok-say_refusal.ensures.ok ∙ ap (λ (l : List ℕ). l ++ line) c.requires.empty)
    (λ told m at. commits_none c.args.who c.args.command.now m c.requires.commits (closed_there g.V.Volume.tells h m v at c.args.who (sym c.is_open.ensures ∙ c.if-not-is_open.true)))

pub returns-in_err-say_conflict : goal.returns-in_err-say_conflict
returns-in_err-say_conflict g c =
    let v = g.V.Volume.device c.args.vol.now in
    let h = hand c.args.engine.now c.args.views.now c.args.log.now in
    let error = c.in_err-say_conflict.field-0.0 in
    turned_by g.V.Volume.tells c.args.who (Ok c.args.command.now) c.from_residual-in_err-say_conflict.result (Memory error) c.say_conflict.new.out h h v v c.from_residual-in_err-say_conflict.ensures.1
    (turned_none g.V.Volume.tells c.args.who (Ok c.args.command.now) h v (g.met.V.Volume.lawful c.args.vol.now) c.requires.ready error c.say_conflict.new.out)

pub close-requires-clause-open : goal.close-requires-clause-open
close-requires-clause-open g c = sym (c.requires.ready.alike c.args.who) ∙ sym c.is_open.ensures ∙ c.if-not-is_open.false

pub returns-in-Some : goal.returns-in-Some
returns-in-Some g c =
    let v = g.V.Volume.device c.args.vol.now in
    let h = hand c.args.engine.now c.args.views.now c.args.log.now in
    let line = conflict_lines c.in-Some.number in
    turned_to g.V.Volume.tells c.args.who (Ok c.args.command.now) (Ok tt) c.say_conflict.new.out h c.args.engine.now _ c.close.new.self (after_end c.args.who c.args.log.now) c.end.new.self v v c.close.ensures c.end.ensures
    (ended_turned g.V.Volume.tells c.args.engine.now c.args.views.now c.args.log.now v c.args.who c.requires.within c.requires.ready (g.met.V.Volume.lawful c.args.vol.now) c.args.command.now line c.say_conflict.new.out
    (c.in_ok-say_conflict.ensures ∙ ap (λ (l : List ℕ). l ++ line) c.requires.empty)
    (λ told m at.
    let found = open_there g.V.Volume.tells h m v at c.args.who (sym c.is_open.ensures ∙ c.if-not-is_open.false) in
    commits_conflict c.args.who c.args.command.now m found.0 c.requires.commits found.1 c.in-Some.number (sym (conflict_there g.V.Volume.tells h m v at c.args.who found.0 found.1) ∙ sym c.conflict.ensures ∙ c.in-Some.is)))

pub conflict-requires-clause-open : goal.conflict-requires-clause-open
conflict-requires-clause-open g c = sym c.is_open.ensures ∙ c.if-not-is_open.false

pub end-requires-clause-open : goal.end-requires-clause-open
end-requires-clause-open g c = sym c.is_open.ensures ∙ c.if-not-is_open.false

pub commit-requires-clause-open : goal.commit-requires-clause-open
commit-requires-clause-open g c = sym c.is_open.ensures ∙ c.if-not-is_open.false

pub end-requires-2-clause-open : goal.end-requires-2-clause-open
end-requires-2-clause-open g c = sym c.is_open.ensures ∙ c.if-not-is_open.false

pub commit_view-requires-clause-opened : goal.commit_view-requires-clause-opened
commit_view-requires-clause-opened g c κs _ = sym (c.requires.ready.alike c.args.who) ∙ sym c.is_open.ensures ∙ c.if-not-is_open.false

pub commit_view-requires-clause-beside : goal.commit_view-requires-clause-beside
commit_view-requires-clause-beside g c κs _ = λ none. c.requires.ready.beside

pub commit_view-requires-clause-commands : goal.commit_view-requires-clause-commands
commit_view-requires-clause-commands g c κs _ = commands_ready (view_of c.args.who c.args.views.now) (c.requires.ready.commands c.args.who)

pub returns-in_err-done : goal.returns-in_err-done
returns-in_err-done g c =
    let v = g.V.Volume.device c.args.vol.now in
    let call = c.commit_view in
    let w = g.V.Volume.device call.new.vol in
    let fault = c.in_err-done.field-0.0 in
    turned_by g.V.Volume.tells c.args.who (Ok c.args.command.now) c.from_residual-in_err-done.result fault call.new.out (hand c.args.engine.now c.args.views.now c.args.log.now) (hand call.new.engine call.new.views c.args.log.now) v w c.from_residual-in_err-done.ensures.1
    (faulted_commit g.V.Volume.tells c.args.who c.args.command.now c.args.engine.now call.new.engine c.args.views.now call.new.views c.args.log.now v w c.requires.commits c.requires.within c.requires.ready
    (sym c.is_open.ensures ∙ c.if-not-is_open.false) (sym {b = conflict_of (pending_at c.args.who c.args.log.now) c.args.log.now.commits} c.in_default.ensures) fault call.new.out call.new.out (c.in_err-done.ensures.committed c.requires.ready.beside.ready.unspent))

pub returns-then-done : goal.returns-then-done
returns-then-done g c =
    let v = g.V.Volume.device c.args.vol.now in
    let call = c.commit_view in
    let w = g.V.Volume.device call.new.vol in
    let e = c.args.engine.now in
    let steps = subst (λ (b : Bool). CommitsView g.V.Volume.tells c.args.who (commands_of c.args.who c.args.views.now) (Ok b) call.new.out e call.new.engine c.args.views.now call.new.views v w) c.if-done.true (c.in_ok-done.ensures.committed c.requires.ready.beside.ready.unspent) in
    turned_to g.V.Volume.tells c.args.who (Ok c.args.command.now) (Ok tt) call.new.out (hand e c.args.views.now c.args.log.now) call.new.engine call.new.views call.new.views (after_commit c.args.who c.args.log.now) c.commit.new.self v w refl c.commit.ensures
    (committed_turned g.V.Volume.tells c.args.who c.args.command.now e call.new.engine c.args.views.now call.new.views c.args.log.now v w c.requires.commits c.requires.within c.requires.ready
    (sym c.is_open.ensures ∙ c.if-not-is_open.false) (sym {b = conflict_of (pending_at c.args.who c.args.log.now) c.args.log.now.commits} c.in_default.ensures) true call.new.out steps)

pub returns : goal.returns
returns g c =
    let v = g.V.Volume.device c.args.vol.now in
    let call = c.commit_view in
    let w = g.V.Volume.device call.new.vol in
    let e = c.args.engine.now in
    let steps = subst (λ (b : Bool). CommitsView g.V.Volume.tells c.args.who (commands_of c.args.who c.args.views.now) (Ok b) call.new.out e call.new.engine c.args.views.now call.new.views v w) c.if-done.false (c.in_ok-done.ensures.committed c.requires.ready.beside.ready.unspent) in
    turned_to g.V.Volume.tells c.args.who (Ok c.args.command.now) (Ok tt) call.new.out (hand e c.args.views.now c.args.log.now) call.new.engine call.new.views call.new.views (after_end c.args.who c.args.log.now) c.end-2.new.self v w refl c.end-2.ensures
    (committed_turned g.V.Volume.tells c.args.who c.args.command.now e call.new.engine c.args.views.now call.new.views c.args.log.now v w c.requires.commits c.requires.within c.requires.ready
    (sym c.is_open.ensures ∙ c.if-not-is_open.false) (sym {b = conflict_of (pending_at c.args.who c.args.log.now) c.args.log.now.commits} c.in_default.ensures) false call.new.out steps)
