use Rattle.std.specs.Prelude.{reverse}
use Rattle.std.proofs.Common.{◌≡◌, List, [], ◌++◌, ℕ, Ok, ap, sym, ◌∙◌, subst, refl}
use Rattle.ts_answer.specs.declared.stop.Stop.{Stop}
use Rattle.ts_answer.specs.Reply.{refusal_line}
use Rattle.ts_answer.specs.CarriedOut.{IsStopped}
use Rattle.ts_store.specs.OpenBatch.{contents_over}
use Rattle.ts_views.specs.Pages.{view_contents}
use Rattle.ts_view_catalogues.specs.Catalogues.{seen_through}
use Rattle.ts_engine.proofs.CallerLemmas.{can_charge}
use Rattle.ts_session_engine.specs.Beside.{newest}
use Rattle.ts_session_engine.specs.Viewed.{StepsOwn}
use Rattle.ts_session_engine.proofs.OwnLemmas.{answered_own, failed_own, is_itself, own_by_want, refused_own, wanting_own}
use Rattle.ts_session_engine.proofs.view.carry_out_with.Goals as goal

pub keep-requires-clause-charge : goal.keep-requires-clause-charge
keep-requires-clause-charge g c =
    let x = c.args.view.now in
    let e = c.args.engine.now in
    let does = c.in-Ok.ensures in
    can_charge g.V.Volume.tells c.args.command.now (seen_through x (newest e (g.V.Volume.device c.args.vol.now))) c.args.charges c.requires.view.kept c.requires.charges c.in-Ok.effect c.work.new.out
    (view_contents x.old.entries x.own.entries c.work.new.changes.entries (reverse c.work.new.free.items) (contents_over does.middle.store (g.V.Volume.device c.work.new.vol))) does.carried

pub returns-in-Ok : goal.returns-in-Ok
returns-in-Ok g c =
    let does = c.in-Ok.ensures in
    answered_own g.V.Volume.tells c.args.command.now c.args.engine.now does.middle c.work.new.engine (g.V.Volume.device c.args.vol.now) (g.V.Volume.device c.work.new.vol) c.requires.ready c.requires.rests c.args.view.now c.requires.view does.calls does.reads does.is does.drop
    does.carried.no_fault c.in-Ok.effect c.work.new.out c.work.new.changes.entries c.work.new.free.items c.keep.new.view does.carried c.in_ok-keep-in-Ok.ensures

pub returns-in_err-keep-in-Ok : goal.returns-in_err-keep-in-Ok
returns-in_err-keep-in-Ok g c =
    let does = c.in-Ok.ensures in
    let error = c.in_err-keep-in-Ok.field-0.0 in
    own_by_want g.V.Volume.tells c.args.command.now c.from_residual.result c.work.new.out c.args.engine.now c.work.new.engine c.args.view.now c.keep.new.view (g.V.Volume.device c.args.vol.now) (g.V.Volume.device c.work.new.vol) error c.from_residual.ensures.1
    (wanting_own g.V.Volume.tells c.args.command.now c.args.engine.now does.middle c.work.new.engine (g.V.Volume.device c.args.vol.now) (g.V.Volume.device c.work.new.vol) c.requires.ready c.requires.rests c.args.view.now c.requires.view does.calls does.reads does.is does.drop
    does.carried.no_fault c.keep.new.view c.in_err-keep-in-Ok.ensures.err c.in_err-keep-in-Ok.ensures.unnoted error [])

pub returns-in_err-say_refusal-in-Err-Refused : goal.returns-in_err-say_refusal-in-Err-Refused
returns-in_err-say_refusal-in-Err-Refused g c =
    let x = c.args.view.now in
    let e = c.args.engine.now in
    let does = c.in-Err-Refused.ensures in
    let error = c.in_err-say_refusal-in-Err-Refused.field-0.0 in
    let stopped = subst (λ (s : Stop). IsStopped g.V.Volume.tells c.args.command.now s (seen_through x (newest e (g.V.Volume.device c.args.vol.now))) (view_contents x.old.entries x.own.entries c.work.new.changes.entries (reverse c.work.new.free.items) (contents_over does.middle.store (g.V.Volume.device c.work.new.vol)))) c.in-Err-Refused.field-0-is does.carried.stopped in
    own_by_want g.V.Volume.tells c.args.command.now c.from_residual-in_err-say_refusal-in-Err-Refused.result c.say_refusal.new.out e c.work.new.engine x x (g.V.Volume.device c.args.vol.now) (g.V.Volume.device c.work.new.vol) error c.from_residual-in_err-say_refusal-in-Err-Refused.ensures.1
    (wanting_own g.V.Volume.tells c.args.command.now e does.middle c.work.new.engine (g.V.Volume.device c.args.vol.now) (g.V.Volume.device c.work.new.vol) c.requires.ready c.requires.rests x c.requires.view does.calls does.reads does.is does.drop
    stopped.2 x (is_itself x) refl error [])

pub returns-in-Err-Refused : goal.returns-in-Err-Refused
returns-in-Err-Refused g c =
    let x = c.args.view.now in
    let e = c.args.engine.now in
    let does = c.in-Err-Refused.ensures in
    let refusal = c.in-Err-Refused.refusal in
    let stopped = subst (λ (s : Stop). IsStopped g.V.Volume.tells c.args.command.now s (seen_through x (newest e (g.V.Volume.device c.args.vol.now))) (view_contents x.old.entries x.own.entries c.work.new.changes.entries (reverse c.work.new.free.items) (contents_over does.middle.store (g.V.Volume.device c.work.new.vol)))) c.in-Err-Refused.field-0-is does.carried.stopped in
    let told = rw c.in-Err-Refused.field-0-is at c.in_ok-say_refusal-in-Err-Refused.ensures.ok in
    let said : c.say_refusal.new.out ≡ refusal_line refusal = told ∙ ap (λ (l : List ℕ). l ++ refusal_line refusal) c.clear.ensures in
    subst (λ (out : List ℕ). StepsOwn g.V.Volume.tells c.args.command.now (Ok tt) out e c.work.new.engine x x (g.V.Volume.device c.args.vol.now) (g.V.Volume.device c.work.new.vol)) (sym said)
    (refused_own g.V.Volume.tells c.args.command.now e does.middle c.work.new.engine (g.V.Volume.device c.args.vol.now) (g.V.Volume.device c.work.new.vol) c.requires.ready c.requires.rests x c.requires.view does.calls does.reads does.is does.drop stopped.2 x (is_itself x) refl refusal stopped.3)

pub returns-in-Err-Failed : goal.returns-in-Err-Failed
returns-in-Err-Failed g c =
    let x = c.args.view.now in
    let e = c.args.engine.now in
    let does = c.in-Err-Failed.ensures in
    let rose = subst (λ (s : Stop). IsStopped g.V.Volume.tells c.args.command.now s (seen_through x (newest e (g.V.Volume.device c.args.vol.now))) (view_contents x.old.entries x.own.entries c.work.new.changes.entries (reverse c.work.new.free.items) (contents_over does.middle.store (g.V.Volume.device c.work.new.vol)))) c.in-Err-Failed.field-0-is does.carried.stopped in
    failed_own g.V.Volume.tells c.args.command.now e does.middle c.work.new.engine (g.V.Volume.device c.args.vol.now) (g.V.Volume.device c.work.new.vol) c.requires.ready c.requires.rests x c.requires.view does.calls does.reads does.is does.drop c.spend.new.self x [] rose c.spend.ensures

pub returns : goal.returns
returns g c =
    let x = c.args.view.now in
    let e = c.args.engine.now in
    let does = c.in-Err-Memory.ensures in
    let same = subst (λ (s : Stop). IsStopped g.V.Volume.tells c.args.command.now s (seen_through x (newest e (g.V.Volume.device c.args.vol.now))) (view_contents x.old.entries x.own.entries c.work.new.changes.entries (reverse c.work.new.free.items) (contents_over does.middle.store (g.V.Volume.device c.work.new.vol)))) c.in-Err-Memory.field-0-is does.carried.stopped in
    wanting_own g.V.Volume.tells c.args.command.now e does.middle c.work.new.engine (g.V.Volume.device c.args.vol.now) (g.V.Volume.device c.work.new.vol) c.requires.ready c.requires.rests x c.requires.view does.calls does.reads does.is does.drop same x (is_itself x) refl c.in-Err-Memory.error []
