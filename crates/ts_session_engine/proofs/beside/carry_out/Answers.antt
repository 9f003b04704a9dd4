use Rattle.std.proofs.Common.{◌≡◌, List, ◌++◌, ℕ, Ok, ap, sym, ◌∙◌, subst}
use Rattle.ts_store.specs.OpenBatch.{contents_over}
use Rattle.ts_answer.specs.declared.stop.Stop.{Stop}
use Rattle.ts_answer.specs.Reply.{refusal_line}
use Rattle.ts_answer.specs.View.{view}
use Rattle.ts_answer.specs.CarriedOut.{IsStopped}
use Rattle.ts_engine.specs.Engine.{Kept, seen_by}
use Rattle.ts_effects.proofs.CallerLemmas.{can_charge_then}
use Rattle.ts_engine.proofs.CallerLemmas.{can_charge, short_one}
use Rattle.ts_session_engine.specs.Stepped.{StepsBeside}
use Rattle.ts_session_engine.proofs.BesideLemmas.{changed_beside, failed_beside, memory_beside, nothing_beside, refused_beside, by_want}
use Rattle.ts_session_engine.proofs.beside.carry_out.Goals as goal

pub returns-then-is_nothing : goal.returns-then-is_nothing
returns-then-is_nothing g c =
    let tells = g.V.Volume.tells in
    let e = c.args.engine.now in
    let m = c.carry_out_and_keep.new.engine in
    let v = g.V.Volume.device c.args.vol.now in
    let x = g.V.Volume.device c.carry_out_and_keep.new.vol in
    let does = c.carry_out_and_keep.ensures in
    let both = c.requires.beside in
    nothing_beside tells c.args.command.now e m v x (g.met.V.Volume.lawful c.args.vol.now) both.ready both.rests does.undisturbed c.requires.between
    (ap (λ (k : Kept). k.tables.definitions) does.others) does.lists (ap (λ (k : Kept). k.charges) does.others) (ap (λ (k : Kept). k.saved) does.others) (ap (λ (k : Kept). k.spent) does.others) does.includes
    c.args.views.now c.carry_out_and_keep.new.views does.more
    c.discard.new.self c.discard.ensures c.in-Ok.ensures.carried.no_fault c.in-Ok.effect c.carry_out_and_keep.new.out (sym c.is_nothing.ensures ∙ c.if-is_nothing.true) c.in-Ok.ensures.carried

pub returns-else-is_nothing : goal.returns-else-is_nothing
returns-else-is_nothing g c =
    let tells = g.V.Volume.tells in
    let e = c.args.engine.now in
    let m = c.carry_out_and_keep.new.engine in
    let v = g.V.Volume.device c.args.vol.now in
    let x = g.V.Volume.device c.carry_out_and_keep.new.vol in
    let does = c.carry_out_and_keep.ensures in
    let both = c.requires.beside in
    changed_beside tells c.args.command.now e m v x (g.met.V.Volume.lawful c.args.vol.now) both.ready both.rests does.undisturbed c.requires.between
    (ap (λ (k : Kept). k.tables.definitions) does.others) does.lists (ap (λ (k : Kept). k.charges) does.others) (ap (λ (k : Kept). k.saved) does.others) (ap (λ (k : Kept). k.spent) does.others) does.includes
    c.args.views.now c.carry_out_and_keep.new.views does.more
    c.in-Ok.ensures.covered c.in-Ok.effect c.keep.new.self (g.V.Volume.device c.keep.new.vol) (g.met.V.Volume.lawful c.keep.new.vol) c.carry_out_and_keep.new.out c.in-Ok.ensures.carried c.in-Ok.ensures.noted (sym c.is_nothing.ensures ∙ c.if-is_nothing.false) c.keep.result c.keep.ensures.commits

pub returns-in_err-say_refusal-in-Err-Refused : goal.returns-in_err-say_refusal-in-Err-Refused
returns-in_err-say_refusal-in-Err-Refused g c =
    let tells = g.V.Volume.tells in
    let e = c.args.engine.now in
    let m = c.carry_out_and_keep.new.engine in
    let v = g.V.Volume.device c.args.vol.now in
    let x = g.V.Volume.device c.carry_out_and_keep.new.vol in
    let does = c.carry_out_and_keep.ensures in
    let both = c.requires.beside in
    let error = c.in_err-say_refusal-in-Err-Refused.field-0.0 in
    let stopped = subst (λ (s : Stop). IsStopped tells c.args.command.now s (view e.tables.definitions e.space (contents_over e.store v)) (contents_over m.store x)) c.in-Err-Refused.field-0-is c.in-Err-Refused.ensures.carried.stopped in
    by_want tells c.args.command.now c.from_residual.result c.say_refusal.new.out e c.discard-in-Err-Refused.new.self c.args.views.now c.carry_out_and_keep.new.views v x error c.from_residual.ensures.1
    (memory_beside tells c.args.command.now e m v x (g.met.V.Volume.lawful c.args.vol.now) both.ready both.rests does.undisturbed c.requires.between
    (ap (λ (k : Kept). k.tables.definitions) does.others) does.lists (ap (λ (k : Kept). k.charges) does.others) (ap (λ (k : Kept). k.saved) does.others) (ap (λ (k : Kept). k.spent) does.others) does.includes
    c.args.views.now c.carry_out_and_keep.new.views does.more c.discard-in-Err-Refused.new.self c.discard-in-Err-Refused.ensures stopped.2 error)

pub returns-in_ok-say_refusal-in-Err-Refused : goal.returns-in_ok-say_refusal-in-Err-Refused
returns-in_ok-say_refusal-in-Err-Refused g c =
    let tells = g.V.Volume.tells in
    let e = c.args.engine.now in
    let m = c.carry_out_and_keep.new.engine in
    let v = g.V.Volume.device c.args.vol.now in
    let x = g.V.Volume.device c.carry_out_and_keep.new.vol in
    let does = c.carry_out_and_keep.ensures in
    let both = c.requires.beside in
    let refusal = c.in-Err-Refused.refusal in
    let stopped = subst (λ (s : Stop). IsStopped tells c.args.command.now s (view e.tables.definitions e.space (contents_over e.store v)) (contents_over m.store x)) c.in-Err-Refused.field-0-is c.in-Err-Refused.ensures.carried.stopped in
    let said : c.say_refusal.new.out ≡ refusal_line refusal = c.in_ok-say_refusal-in-Err-Refused.ensures.ok ∙ ap (λ (l : List ℕ). l ++ refusal_line refusal) c.clear.ensures in
    subst (λ (out : List ℕ). StepsBeside tells c.args.command.now (Ok tt) out e c.discard-in-Err-Refused.new.self c.args.views.now c.carry_out_and_keep.new.views v x) (sym said)
    (refused_beside tells c.args.command.now e m v x (g.met.V.Volume.lawful c.args.vol.now) both.ready both.rests does.undisturbed c.requires.between
    (ap (λ (k : Kept). k.tables.definitions) does.others) does.lists (ap (λ (k : Kept). k.charges) does.others) (ap (λ (k : Kept). k.saved) does.others) (ap (λ (k : Kept). k.spent) does.others) does.includes
    c.args.views.now c.carry_out_and_keep.new.views does.more c.discard-in-Err-Refused.new.self c.discard-in-Err-Refused.ensures stopped.2 refusal stopped)

pub returns-in-Err-Failed : goal.returns-in-Err-Failed
returns-in-Err-Failed g c =
    let tells = g.V.Volume.tells in
    let e = c.args.engine.now in
    let m = c.carry_out_and_keep.new.engine in
    let v = g.V.Volume.device c.args.vol.now in
    let x = g.V.Volume.device c.carry_out_and_keep.new.vol in
    let does = c.carry_out_and_keep.ensures in
    let both = c.requires.beside in
    let stopped = subst (λ (s : Stop). IsStopped tells c.args.command.now s (view e.tables.definitions e.space (contents_over e.store v)) (contents_over m.store x)) c.in-Err-Failed.field-0-is c.in-Err-Failed.ensures.carried.stopped in
    failed_beside tells c.args.command.now e m v x (g.met.V.Volume.lawful c.args.vol.now) both.ready both.rests does.undisturbed c.requires.between
    (ap (λ (k : Kept). k.tables.definitions) does.others) does.lists (ap (λ (k : Kept). k.charges) does.others) (ap (λ (k : Kept). k.saved) does.others) (ap (λ (k : Kept). k.spent) does.others) does.includes
    c.args.views.now c.carry_out_and_keep.new.views does.more c.spend.new.self stopped c.spend.ensures

pub returns-in-Err-Memory : goal.returns-in-Err-Memory
returns-in-Err-Memory g c =
    let tells = g.V.Volume.tells in
    let e = c.args.engine.now in
    let m = c.carry_out_and_keep.new.engine in
    let v = g.V.Volume.device c.args.vol.now in
    let x = g.V.Volume.device c.carry_out_and_keep.new.vol in
    let does = c.carry_out_and_keep.ensures in
    let both = c.requires.beside in
    let stopped = subst (λ (s : Stop). IsStopped tells c.args.command.now s (view e.tables.definitions e.space (contents_over e.store v)) (contents_over m.store x)) c.in-Err-Memory.field-0-is c.in-Err-Memory.ensures.carried.stopped in
    memory_beside tells c.args.command.now e m v x (g.met.V.Volume.lawful c.args.vol.now) both.ready both.rests does.undisturbed c.requires.between
    (ap (λ (k : Kept). k.tables.definitions) does.others) does.lists (ap (λ (k : Kept). k.charges) does.others) (ap (λ (k : Kept). k.saved) does.others) (ap (λ (k : Kept). k.spent) does.others) does.includes
    c.args.views.now c.carry_out_and_keep.new.views does.more c.discard-in-Err-Memory.new.self c.discard-in-Err-Memory.ensures stopped c.in-Err-Memory.error

pub keep-requires-clause-charge : goal.keep-requires-clause-charge
keep-requires-clause-charge g c =
    let e = c.args.engine.now in
    let m = c.carry_out_and_keep.new.engine in
    let v = g.V.Volume.device c.args.vol.now in
    let does = c.carry_out_and_keep.ensures in
    let effect = c.in-Ok.effect in
    let both = c.requires.beside in
    can_charge_then effect e.charges m.charges e.tables.definitions m.tables.definitions e.space m.space
    (can_charge g.V.Volume.tells c.args.command.now (seen_by e v) e.charges both.ready.seen.kept both.ready.charges effect c.carry_out_and_keep.new.out
    (contents_over m.store (g.V.Volume.device c.carry_out_and_keep.new.vol)) c.in-Ok.ensures.carried)
    (ap (λ (k : Kept). k.tables.definitions) does.others) does.lists (ap (λ (k : Kept). k.charges) does.others)

pub keep-requires-clause-short : goal.keep-requires-clause-short
keep-requires-clause-short g c =
    short_one g.V.Volume.tells c.args.command.now c.args.engine.now c.carry_out_and_keep.new.engine (g.V.Volume.device c.args.vol.now) (g.V.Volume.device c.carry_out_and_keep.new.vol) c.in-Ok.effect c.carry_out_and_keep.new.out c.requires.beside.ready
    c.requires.beside.rests c.in-Ok.ensures.carried
