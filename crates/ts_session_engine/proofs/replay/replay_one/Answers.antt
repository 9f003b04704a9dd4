use Rattle.std.proofs.Common.{◌≡◌, List, [], ◌∷◌, ◌++◌, ℕ, Ok, false, ap, sym, ◌∙◌, subst}
use Rattle.ts_store.specs.OpenBatch.{contents_over}
use Rattle.ts_answer.specs.declared.stop.Stop.{Stop}
use Rattle.ts_answer.specs.Reply.{refusal_line}
use Rattle.ts_answer.specs.View.{view}
use Rattle.ts_answer.specs.CarriedOut.{IsStopped}
use Rattle.ts_engine.specs.Engine.{Kept, seen_by}
use Rattle.ts_effects.proofs.CallerLemmas.{can_charge_then}
use Rattle.ts_engine.proofs.CallerLemmas.{can_charge, few_then}
use Rattle.ts_session_engine.specs.Replayed.{Replays}
use Rattle.ts_session_engine.proofs.OneLemmas.{failed_of, joined_of, nothing_of, refused_of, unjoined_of, wanting_by, wanting_of}
use Rattle.ts_session_engine.proofs.replay.replay_one.Goals as goal

pub returns-then-is_nothing : goal.returns-then-is_nothing
returns-then-is_nothing g c n open_n =
    let does = c.carry_out_in_batch.ensures in
    nothing_of g.V.Volume.tells c.args.command.now c.args.engine.now c.carry_out_in_batch.new.self (g.V.Volume.device c.args.vol.now) (g.V.Volume.device c.carry_out_in_batch.new.vol) (g.met.V.Volume.lawful c.args.vol.now) c.requires.ready c.requires.room does.undisturbed c.requires.between c.requires.writing
    does.lists does.others does.more n open_n c.discard.new.self c.discard.ensures c.in-Ok.ensures.carried.no_fault c.in-Ok.effect c.carry_out_in_batch.new.out (sym c.is_nothing.ensures ∙ c.if-is_nothing.true) c.in-Ok.ensures.carried c.count.new.self c.count.ensures

pub returns-in_ok-join-in-Ok : goal.returns-in_ok-join-in-Ok
returns-in_ok-join-in-Ok g c n open_n =
    let does = c.carry_out_in_batch.ensures in
    joined_of g.V.Volume.tells c.args.command.now c.args.engine.now c.carry_out_in_batch.new.self (g.V.Volume.device c.args.vol.now) (g.V.Volume.device c.carry_out_in_batch.new.vol) (g.met.V.Volume.lawful c.args.vol.now) c.requires.ready c.requires.room does.undisturbed c.requires.between c.requires.writing
    does.lists does.others does.more n open_n c.in-Ok.effect c.carry_out_in_batch.new.out c.in-Ok.ensures.carried c.in-Ok.ensures.noted does.over (sym c.is_nothing.ensures ∙ c.if-is_nothing.false) c.join.new.self c.in_ok-join-in-Ok.ensures.joins c.count-in-Ok.new.self c.count-in-Ok.ensures

pub returns-in_err-join-in-Ok : goal.returns-in_err-join-in-Ok
returns-in_err-join-in-Ok g c n open_n =
    let does = c.carry_out_in_batch.ensures in
    unjoined_of g.V.Volume.tells c.args.command.now c.args.engine.now c.carry_out_in_batch.new.self (g.V.Volume.device c.args.vol.now) (g.V.Volume.device c.carry_out_in_batch.new.vol) (g.met.V.Volume.lawful c.args.vol.now) c.requires.ready c.requires.room does.undisturbed c.requires.between c.requires.writing
    does.lists does.others does.more n open_n c.in-Ok.effect c.carry_out_in_batch.new.out c.in-Ok.ensures.carried c.in-Ok.ensures.noted c.in_err-join-in-Ok.field-0.0 c.join.new.self c.in_err-join-in-Ok.ensures.joins c.from_residual.result c.carry_out_in_batch.new.out c.from_residual.ensures.1

pub returns-in_err-say_refusal-in-Err-Refused : goal.returns-in_err-say_refusal-in-Err-Refused
returns-in_err-say_refusal-in-Err-Refused g c n open_n =
    let e = c.args.engine.now in
    let m = c.carry_out_in_batch.new.self in
    let v = g.V.Volume.device c.args.vol.now in
    let x = g.V.Volume.device c.carry_out_in_batch.new.vol in
    let does = c.carry_out_in_batch.ensures in
    let error = c.in_err-say_refusal-in-Err-Refused.field-0.0 in
    let stopped = subst (λ (s : Stop). IsStopped g.V.Volume.tells c.args.command.now s (view e.tables.definitions e.space (contents_over e.store v)) (contents_over m.store x)) c.in-Err-Refused.field-0-is c.in-Err-Refused.ensures.carried.stopped in
    wanting_by g.V.Volume.tells c.args.command.now n c.from_residual-in_err-say_refusal-in-Err-Refused.result c.say_refusal.new.out e c.discard-in-Err-Refused.new.self v x error c.from_residual-in_err-say_refusal-in-Err-Refused.ensures.1
    (wanting_of g.V.Volume.tells c.args.command.now e m v x (g.met.V.Volume.lawful c.args.vol.now) c.requires.ready c.requires.room does.undisturbed c.requires.between c.requires.writing does.lists does.others does.more n open_n c.discard-in-Err-Refused.new.self c.discard-in-Err-Refused.ensures stopped.2 error c.say_refusal.new.out)

pub returns-in_ok-say_refusal-in-Err-Refused : goal.returns-in_ok-say_refusal-in-Err-Refused
returns-in_ok-say_refusal-in-Err-Refused g c n open_n =
    let e = c.args.engine.now in
    let m = c.carry_out_in_batch.new.self in
    let v = g.V.Volume.device c.args.vol.now in
    let x = g.V.Volume.device c.carry_out_in_batch.new.vol in
    let does = c.carry_out_in_batch.ensures in
    let refusal = c.in-Err-Refused.refusal in
    let stopped = subst (λ (s : Stop). IsStopped g.V.Volume.tells c.args.command.now s (view e.tables.definitions e.space (contents_over e.store v)) (contents_over m.store x)) c.in-Err-Refused.field-0-is c.in-Err-Refused.ensures.carried.stopped in
    let said : c.say_refusal.new.out ≡ refusal_line refusal = c.in_ok-say_refusal-in-Err-Refused.ensures.ok ∙ ap (λ (l : List ℕ). l ++ refusal_line refusal) c.clear-in-Err-Refused.ensures in
    subst (λ (out : List ℕ). Replays g.V.Volume.tells n (c.args.command.now ∷ []) (Ok false) out e c.discard-in-Err-Refused.new.self v x) (sym said)
    (refused_of g.V.Volume.tells c.args.command.now e m v x (g.met.V.Volume.lawful c.args.vol.now) c.requires.ready c.requires.room does.undisturbed c.requires.between c.requires.writing does.lists does.others does.more n open_n c.discard-in-Err-Refused.new.self c.discard-in-Err-Refused.ensures stopped.2 refusal stopped)

pub returns-in-Err-Failed : goal.returns-in-Err-Failed
returns-in-Err-Failed g c n open_n =
    let e = c.args.engine.now in
    let m = c.carry_out_in_batch.new.self in
    let v = g.V.Volume.device c.args.vol.now in
    let x = g.V.Volume.device c.carry_out_in_batch.new.vol in
    let does = c.carry_out_in_batch.ensures in
    let stopped = subst (λ (s : Stop). IsStopped g.V.Volume.tells c.args.command.now s (view e.tables.definitions e.space (contents_over e.store v)) (contents_over m.store x)) c.in-Err-Failed.field-0-is c.in-Err-Failed.ensures.carried.stopped in
    failed_of g.V.Volume.tells c.args.command.now e m v x (g.met.V.Volume.lawful c.args.vol.now) c.requires.ready c.requires.room does.undisturbed c.requires.between c.requires.writing does.lists does.others does.more n open_n c.spend.new.self c.spend.ensures stopped c.carry_out_in_batch.new.out

pub returns-in-Err-Memory : goal.returns-in-Err-Memory
returns-in-Err-Memory g c n open_n =
    let e = c.args.engine.now in
    let m = c.carry_out_in_batch.new.self in
    let v = g.V.Volume.device c.args.vol.now in
    let x = g.V.Volume.device c.carry_out_in_batch.new.vol in
    let does = c.carry_out_in_batch.ensures in
    let stopped = subst (λ (s : Stop). IsStopped g.V.Volume.tells c.args.command.now s (view e.tables.definitions e.space (contents_over e.store v)) (contents_over m.store x)) c.in-Err-Memory.field-0-is c.in-Err-Memory.ensures.carried.stopped in
    wanting_of g.V.Volume.tells c.args.command.now e m v x (g.met.V.Volume.lawful c.args.vol.now) c.requires.ready c.requires.room does.undisturbed c.requires.between c.requires.writing does.lists does.others does.more n open_n c.discard-in-Err-Memory.new.self c.discard-in-Err-Memory.ensures stopped c.in-Err-Memory.error c.carry_out_in_batch.new.out

pub join-requires-clause-charge : goal.join-requires-clause-charge
join-requires-clause-charge g c =
    let e = c.args.engine.now in
    let m = c.carry_out_in_batch.new.self in
    let v = g.V.Volume.device c.args.vol.now in
    let does = c.carry_out_in_batch.ensures in
    let effect = c.in-Ok.effect in
    can_charge_then effect e.charges m.charges e.tables.definitions m.tables.definitions e.space m.space
    (can_charge g.V.Volume.tells c.args.command.now (seen_by e v) e.charges c.requires.ready.seen.kept c.requires.ready.charges effect c.carry_out_in_batch.new.out
    (contents_over m.store (g.V.Volume.device c.carry_out_in_batch.new.vol)) c.in-Ok.ensures.carried)
    (ap (λ (k : Kept). k.tables.definitions) does.others) does.lists (ap (λ (k : Kept). k.charges) does.others)

pub count-requires : goal.count-requires
count-requires g c =
    let saved = ap (λ (k : Kept). k.saved) c.discard.ensures ∙ ap (λ (k : Kept). k.saved) c.carry_out_in_batch.ensures.others in
    record { few = few_then c.args.engine.now.saved c.discard.new.self.saved _ _ saved c.requires.ready.small }

pub count-requires-in-Ok : goal.count-requires-in-Ok
count-requires-in-Ok g c =
    let saved = c.in_ok-join-in-Ok.ensures.joins.saved ∙ ap (λ (k : Kept). k.saved) c.carry_out_in_batch.ensures.others in
    record { few = few_then c.args.engine.now.saved c.join.new.self.saved _ _ saved c.requires.ready.small }
