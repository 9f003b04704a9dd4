use Rattle.std.specs.Prelude.{reverse}
use Rattle.std.proofs.Common.{◌≡◌, List, [], ◌++◌, ℕ, Ok, ap, sym, ◌∙◌, subst}
use Rattle.ts_answer.specs.declared.stop.Stop.{Stop}
use Rattle.ts_answer.specs.Reply.{refusal_line}
use Rattle.ts_answer.specs.CarriedOut.{IsStopped}
use Rattle.ts_store.specs.OpenBatch.{contents_over}
use Rattle.ts_views.specs.Pages.{view_contents}
use Rattle.ts_view_catalogues.specs.Catalogues.{seen_through}
use Rattle.ts_session_engine.specs.Beside.{newest}
use Rattle.ts_session_engine.specs.Viewed.{StepsOwn}
use Rattle.ts_session_engine.proofs.OwnLemmas.{failed_own, own_by_want, refused_own, wanting_own}
use Rattle.ts_session_engine.proofs.ReadLemmas.{read_own_done}
use Rattle.ts_session_engine.proofs.read.read.Goals as goal

pub returns-in-Ok : goal.returns-in-Ok
returns-in-Ok g c =
    read_own_done g.V.Volume.tells c.args.command.now c.read_own.new.out c.args.engine.now c.read_own.new.engine c.args.view.now c.read_own.new.view (g.V.Volume.device c.args.vol.now) (g.V.Volume.device c.read_own.new.vol) c.requires.ready c.requires.rests c.requires.view c.requires.reads
    c.in-Ok.ensures

pub returns-in_err-say_refusal-in-Err-Refused : goal.returns-in_err-say_refusal-in-Err-Refused
returns-in_err-say_refusal-in-Err-Refused g c =
    let x = c.args.view.now in
    let e = c.args.engine.now in
    let does = c.in-Err-Refused.ensures in
    let error = c.in_err-say_refusal-in-Err-Refused.field-0.0 in
    let stopped = subst (λ (s : Stop). IsStopped g.V.Volume.tells c.args.command.now s (seen_through x (newest e (g.V.Volume.device c.args.vol.now))) (view_contents x.old.entries x.own.entries does.changes (reverse does.free) (contents_over does.middle.store (g.V.Volume.device c.read_own.new.vol)))) c.in-Err-Refused.field-0-is does.read.stopped in
    own_by_want g.V.Volume.tells c.args.command.now c.from_residual.result c.say_refusal.new.out e c.read_own.new.engine x c.read_own.new.view (g.V.Volume.device c.args.vol.now) (g.V.Volume.device c.read_own.new.vol) error c.from_residual.ensures.1
    (wanting_own g.V.Volume.tells c.args.command.now e does.middle c.read_own.new.engine (g.V.Volume.device c.args.vol.now) (g.V.Volume.device c.read_own.new.vol) c.requires.ready c.requires.rests x c.requires.view does.calls does.reads does.is does.drop
    stopped.2 c.read_own.new.view does.same does.unnoted error [])

pub returns-in_ok-say_refusal-in-Err-Refused : goal.returns-in_ok-say_refusal-in-Err-Refused
returns-in_ok-say_refusal-in-Err-Refused g c =
    let x = c.args.view.now in
    let e = c.args.engine.now in
    let does = c.in-Err-Refused.ensures in
    let refusal = c.in-Err-Refused.refusal in
    let stopped = subst (λ (s : Stop). IsStopped g.V.Volume.tells c.args.command.now s (seen_through x (newest e (g.V.Volume.device c.args.vol.now))) (view_contents x.old.entries x.own.entries does.changes (reverse does.free) (contents_over does.middle.store (g.V.Volume.device c.read_own.new.vol)))) c.in-Err-Refused.field-0-is does.read.stopped in
    let said : c.say_refusal.new.out ≡ refusal_line refusal = c.in_ok-say_refusal-in-Err-Refused.ensures.ok ∙ ap (λ (l : List ℕ). l ++ refusal_line refusal) c.clear.ensures in
    subst (λ (out : List ℕ). StepsOwn g.V.Volume.tells c.args.command.now (Ok tt) out e c.read_own.new.engine x c.read_own.new.view (g.V.Volume.device c.args.vol.now) (g.V.Volume.device c.read_own.new.vol)) (sym said)
    (refused_own g.V.Volume.tells c.args.command.now e does.middle c.read_own.new.engine (g.V.Volume.device c.args.vol.now) (g.V.Volume.device c.read_own.new.vol) c.requires.ready c.requires.rests x c.requires.view does.calls does.reads does.is does.drop stopped.2 c.read_own.new.view does.same does.unnoted refusal
    stopped.3)

pub returns-in-Err-Failed : goal.returns-in-Err-Failed
returns-in-Err-Failed g c =
    let x = c.args.view.now in
    let e = c.args.engine.now in
    let does = c.in-Err-Failed.ensures in
    let rose = subst (λ (s : Stop). IsStopped g.V.Volume.tells c.args.command.now s (seen_through x (newest e (g.V.Volume.device c.args.vol.now))) (view_contents x.old.entries x.own.entries does.changes (reverse does.free) (contents_over does.middle.store (g.V.Volume.device c.read_own.new.vol)))) c.in-Err-Failed.field-0-is does.read.stopped in
    failed_own g.V.Volume.tells c.args.command.now e does.middle c.read_own.new.engine (g.V.Volume.device c.args.vol.now) (g.V.Volume.device c.read_own.new.vol) c.requires.ready c.requires.rests x c.requires.view does.calls does.reads does.is does.drop c.spend.new.self c.read_own.new.view [] rose
    c.spend.ensures

pub returns-in-Err-Memory : goal.returns-in-Err-Memory
returns-in-Err-Memory g c =
    let x = c.args.view.now in
    let e = c.args.engine.now in
    let does = c.in-Err-Memory.ensures in
    let same = subst (λ (s : Stop). IsStopped g.V.Volume.tells c.args.command.now s (seen_through x (newest e (g.V.Volume.device c.args.vol.now))) (view_contents x.old.entries x.own.entries does.changes (reverse does.free) (contents_over does.middle.store (g.V.Volume.device c.read_own.new.vol)))) c.in-Err-Memory.field-0-is does.read.stopped in
    wanting_own g.V.Volume.tells c.args.command.now e does.middle c.read_own.new.engine (g.V.Volume.device c.args.vol.now) (g.V.Volume.device c.read_own.new.vol) c.requires.ready c.requires.rests x c.requires.view does.calls does.reads does.is does.drop same c.read_own.new.view does.same does.unnoted
    c.in-Err-Memory.error []
