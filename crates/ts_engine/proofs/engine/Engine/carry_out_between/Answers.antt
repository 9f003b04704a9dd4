use Rattle.std.proofs.Common.{◌≡◌, List, ◌++◌, None, Ok, ap, sym, ◌∙◌, subst, ℕ}
use Rattle.ts_store.specs.OpenBatch.{contents_over}
use Rattle.ts_answer.specs.declared.stop.Stop.{Stop}
use Rattle.ts_answer.specs.Reply.{refusal_line}
use Rattle.ts_answer.specs.View.{view}
use Rattle.ts_answer.specs.CarriedOut.{IsStopped}
use Rattle.ts_engine.specs.Engine.{Kept, seen_by}
use Rattle.ts_engine.specs.Step.{Stepped}
use Rattle.ts_effects.proofs.CallerLemmas.{can_charge_then}
use Rattle.ts_engine.proofs.StepLemmas.{by_memory}
use Rattle.ts_engine.proofs.JoinLemmas.{can_charge, unchanged_step, changed_step, joined_step, unjoined_step, refused_step, memory_step, failed_step}
use Rattle.ts_engine.proofs.TransactionLemmas.{by_fault}
use Rattle.ts_engine.proofs.EndLemmas.{few_then, short_one, saved_none, saved_some}
use Rattle.ts_engine.proofs.engine.Engine.carry_out_between.Goals as goal

pub returns-then-is_nothing : goal.returns-then-is_nothing
returns-then-is_nothing g c =
    let tells = g.V.Volume.tells in
    let command = c.args.command.now in
    let e = c.args.self.now in
    let m = c.carry_out_in_batch.new.self in
    let v = g.V.Volume.device c.args.vol.now in
    let x = g.V.Volume.device c.carry_out_in_batch.new.vol in
    let lawful = g.met.V.Volume.lawful c.args.vol.now in
    let does = c.carry_out_in_batch.ensures in
    let definitions = ap (λ (k : Kept). k.tables.definitions) does.others in
    let charges = ap (λ (k : Kept). k.charges) does.others in
    let saved = ap (λ (k : Kept). k.saved) does.others in
    let spent = ap (λ (k : Kept). k.spent) does.others in
    record {
      stepped = unchanged_step tells command e m v x lawful c.requires.ready does.undisturbed c.requires.between c.requires.room definitions does.lists charges saved spent does.more c.discard.new.self c.discard.ensures c.in-Ok.ensures.carried.no_fault c.count.new.self c.count.ensures c.in-Ok.effect c.carry_out_in_batch.new.out
          (sym c.is_nothing.ensures ∙ c.if-is_nothing.true) c.in-Ok.ensures.carried;
    }

pub returns-else-is_some : goal.returns-else-is_some
returns-else-is_some g c =
    let tells = g.V.Volume.tells in
    let command = c.args.command.now in
    let e = c.args.self.now in
    let m = c.carry_out_in_batch.new.self in
    let v = g.V.Volume.device c.args.vol.now in
    let x = g.V.Volume.device c.carry_out_in_batch.new.vol in
    let lawful = g.met.V.Volume.lawful c.args.vol.now in
    let does = c.carry_out_in_batch.ensures in
    let definitions = ap (λ (k : Kept). k.tables.definitions) does.others in
    let charges = ap (λ (k : Kept). k.charges) does.others in
    let saved = ap (λ (k : Kept). k.saved) does.others in
    let spent = ap (λ (k : Kept). k.spent) does.others in
    let here = ap (λ (k : Kept). k.saved) c.self.view_is in
    let none : e.saved ≡ None = sym saved ∙ sym here ∙ saved_none c.self.inside.saved (sym c.is_some.ensures ∙ c.if-is_some.false) in
    record {
      stepped = changed_step tells command e m v x lawful c.requires.ready does.undisturbed c.requires.between c.requires.room definitions does.lists charges saved spent does.more c.in-Ok.effect c.carry_out_in_batch.new.out c.in-Ok.ensures.carried c.in-Ok.ensures.noted c.keep.new.self (g.V.Volume.device c.keep.new.vol)
          (g.met.V.Volume.lawful c.keep.new.vol) none (sym c.is_nothing.ensures ∙ c.if-is_nothing.false) c.keep.result c.keep.ensures.commits;
    }

pub returns-in_err-join-in-Ok : goal.returns-in_err-join-in-Ok
returns-in_err-join-in-Ok g c =
    let tells = g.V.Volume.tells in
    let command = c.args.command.now in
    let e = c.args.self.now in
    let m = c.carry_out_in_batch.new.self in
    let v = g.V.Volume.device c.args.vol.now in
    let x = g.V.Volume.device c.carry_out_in_batch.new.vol in
    let lawful = g.met.V.Volume.lawful c.args.vol.now in
    let does = c.carry_out_in_batch.ensures in
    let definitions = ap (λ (k : Kept). k.tables.definitions) does.others in
    let charges = ap (λ (k : Kept). k.charges) does.others in
    let saved = ap (λ (k : Kept). k.saved) does.others in
    let spent = ap (λ (k : Kept). k.spent) does.others in
    let fault = c.in_err-join-in-Ok.field-0.0 in
    record {
      stepped = by_fault tells command c.from_residual.result fault c.carry_out_in_batch.new.out e c.join.new.self v x c.from_residual.ensures.1
          (unjoined_step tells command e m v x lawful c.requires.ready does.undisturbed c.requires.between c.requires.room definitions does.lists charges saved spent does.more c.in-Ok.effect c.carry_out_in_batch.new.out c.in-Ok.ensures.carried c.in-Ok.ensures.noted fault c.join.new.self c.in_err-join-in-Ok.ensures.joins);
    }

pub returns-then-is_some : goal.returns-then-is_some
returns-then-is_some g c =
    let tells = g.V.Volume.tells in
    let command = c.args.command.now in
    let e = c.args.self.now in
    let m = c.carry_out_in_batch.new.self in
    let v = g.V.Volume.device c.args.vol.now in
    let x = g.V.Volume.device c.carry_out_in_batch.new.vol in
    let lawful = g.met.V.Volume.lawful c.args.vol.now in
    let does = c.carry_out_in_batch.ensures in
    let definitions = ap (λ (k : Kept). k.tables.definitions) does.others in
    let charges = ap (λ (k : Kept). k.charges) does.others in
    let saved = ap (λ (k : Kept). k.saved) does.others in
    let spent = ap (λ (k : Kept). k.spent) does.others in
    record {
      stepped = joined_step tells command e m v x lawful c.requires.ready does.undisturbed c.requires.between c.requires.room definitions does.lists charges saved spent does.more c.in-Ok.effect c.carry_out_in_batch.new.out c.in-Ok.ensures.carried c.in-Ok.ensures.noted
          does.over (sym c.is_nothing.ensures ∙ c.if-is_nothing.false) (λ none. saved_some c.self.inside.saved (sym c.is_some.ensures ∙ c.if-is_some.true) (ap (λ (k : Kept). k.saved) c.self.view_is ∙ saved ∙ none)) c.join.new.self c.in_ok-join-in-Ok.ensures.joins c.count-then-is_some.new.self c.count-then-is_some.ensures;
    }

pub returns-in_err-say_refusal-in-Err-Refused : goal.returns-in_err-say_refusal-in-Err-Refused
returns-in_err-say_refusal-in-Err-Refused g c =
    let tells = g.V.Volume.tells in
    let command = c.args.command.now in
    let e = c.args.self.now in
    let m = c.carry_out_in_batch.new.self in
    let v = g.V.Volume.device c.args.vol.now in
    let x = g.V.Volume.device c.carry_out_in_batch.new.vol in
    let lawful = g.met.V.Volume.lawful c.args.vol.now in
    let does = c.carry_out_in_batch.ensures in
    let definitions = ap (λ (k : Kept). k.tables.definitions) does.others in
    let charges = ap (λ (k : Kept). k.charges) does.others in
    let saved = ap (λ (k : Kept). k.saved) does.others in
    let spent = ap (λ (k : Kept). k.spent) does.others in
    let error = c.in_err-say_refusal-in-Err-Refused.field-0.0 in
    let stopped = subst (λ (s : Stop). IsStopped tells command s (view e.tables.definitions e.space (contents_over e.store v)) (contents_over m.store x)) c.in-Err-Refused.field-0-is c.in-Err-Refused.ensures.carried.stopped in
    record {
      stepped = by_memory tells command c.from_residual-in_err-say_refusal-in-Err-Refused.result c.say_refusal.new.out e c.discard-in-Err-Refused.new.self v x error c.from_residual-in_err-say_refusal-in-Err-Refused.ensures.1
          (memory_step tells command e m v x lawful c.requires.ready does.undisturbed c.requires.between c.requires.room definitions does.lists charges saved spent does.more c.discard-in-Err-Refused.new.self c.discard-in-Err-Refused.ensures stopped.2 error);
    }

pub returns-in_ok-say_refusal-in-Err-Refused : goal.returns-in_ok-say_refusal-in-Err-Refused
returns-in_ok-say_refusal-in-Err-Refused g c =
    let tells = g.V.Volume.tells in
    let command = c.args.command.now in
    let e = c.args.self.now in
    let m = c.carry_out_in_batch.new.self in
    let v = g.V.Volume.device c.args.vol.now in
    let x = g.V.Volume.device c.carry_out_in_batch.new.vol in
    let lawful = g.met.V.Volume.lawful c.args.vol.now in
    let does = c.carry_out_in_batch.ensures in
    let definitions = ap (λ (k : Kept). k.tables.definitions) does.others in
    let charges = ap (λ (k : Kept). k.charges) does.others in
    let saved = ap (λ (k : Kept). k.saved) does.others in
    let spent = ap (λ (k : Kept). k.spent) does.others in
    let refusal = c.in-Err-Refused.refusal in
    let stopped = subst (λ (s : Stop). IsStopped tells command s (view e.tables.definitions e.space (contents_over e.store v)) (contents_over m.store x)) c.in-Err-Refused.field-0-is c.in-Err-Refused.ensures.carried.stopped in
    let said : c.say_refusal.new.out ≡ refusal_line refusal = c.in_ok-say_refusal-in-Err-Refused.ensures.ok ∙ ap (λ (l : List ℕ). l ++ refusal_line refusal) c.clear.ensures in
    record {
      stepped = subst (λ (out : List ℕ). Stepped tells command (Ok tt) out e c.discard-in-Err-Refused.new.self v x) (sym said)
          (refused_step tells command e m v x lawful c.requires.ready does.undisturbed c.requires.between c.requires.room definitions does.lists charges saved spent does.more c.discard-in-Err-Refused.new.self c.discard-in-Err-Refused.ensures stopped.2 refusal stopped);
    }

pub returns-in-Err-Failed : goal.returns-in-Err-Failed
returns-in-Err-Failed g c =
    let tells = g.V.Volume.tells in
    let command = c.args.command.now in
    let e = c.args.self.now in
    let m = c.carry_out_in_batch.new.self in
    let v = g.V.Volume.device c.args.vol.now in
    let x = g.V.Volume.device c.carry_out_in_batch.new.vol in
    let lawful = g.met.V.Volume.lawful c.args.vol.now in
    let does = c.carry_out_in_batch.ensures in
    let definitions = ap (λ (k : Kept). k.tables.definitions) does.others in
    let charges = ap (λ (k : Kept). k.charges) does.others in
    let saved = ap (λ (k : Kept). k.saved) does.others in
    let spent = ap (λ (k : Kept). k.spent) does.others in
    let stopped = subst (λ (s : Stop). IsStopped tells command s (view e.tables.definitions e.space (contents_over e.store v)) (contents_over m.store x)) c.in-Err-Failed.field-0-is c.in-Err-Failed.ensures.carried.stopped in
    record {
      stepped = failed_step tells command e m v x lawful c.requires.ready does.undisturbed c.requires.between c.requires.room definitions does.lists charges saved spent does.more c.spend.new.self stopped (ap (λ (k : Kept). k.spent) c.spend.ensures);
    }

pub returns-in-Err-Memory : goal.returns-in-Err-Memory
returns-in-Err-Memory g c =
    let tells = g.V.Volume.tells in
    let command = c.args.command.now in
    let e = c.args.self.now in
    let m = c.carry_out_in_batch.new.self in
    let v = g.V.Volume.device c.args.vol.now in
    let x = g.V.Volume.device c.carry_out_in_batch.new.vol in
    let lawful = g.met.V.Volume.lawful c.args.vol.now in
    let does = c.carry_out_in_batch.ensures in
    let definitions = ap (λ (k : Kept). k.tables.definitions) does.others in
    let charges = ap (λ (k : Kept). k.charges) does.others in
    let saved = ap (λ (k : Kept). k.saved) does.others in
    let spent = ap (λ (k : Kept). k.spent) does.others in
    let stopped = subst (λ (s : Stop). IsStopped tells command s (view e.tables.definitions e.space (contents_over e.store v)) (contents_over m.store x)) c.in-Err-Memory.field-0-is c.in-Err-Memory.ensures.carried.stopped in
    record {
      stepped = memory_step tells command e m v x lawful c.requires.ready does.undisturbed c.requires.between c.requires.room definitions does.lists charges saved spent does.more c.discard-in-Err-Memory.new.self c.discard-in-Err-Memory.ensures stopped c.in-Err-Memory.error;
    }

pub keep-requires-clause-charge : goal.keep-requires-clause-charge
keep-requires-clause-charge g c =
    let e = c.args.self.now in
    let m = c.carry_out_in_batch.new.self in
    let v = g.V.Volume.device c.args.vol.now in
    let does = c.carry_out_in_batch.ensures in
    let effect = c.in-Ok.effect in
    can_charge_then effect e.charges m.charges e.tables.definitions m.tables.definitions e.space m.space
    (can_charge g.V.Volume.tells c.args.command.now (seen_by e v) e.charges c.requires.ready.seen.kept c.requires.ready.charges effect c.carry_out_in_batch.new.out
    (contents_over m.store (g.V.Volume.device c.carry_out_in_batch.new.vol)) c.in-Ok.ensures.carried)
    (ap (λ (k : Kept). k.tables.definitions) does.others) does.lists (ap (λ (k : Kept). k.charges) does.others)

pub keep-requires-clause-short : goal.keep-requires-clause-short
keep-requires-clause-short g c =
    let e = c.args.self.now in
    let m = c.carry_out_in_batch.new.self in
    let saved = ap (λ (k : Kept). k.saved) c.carry_out_in_batch.ensures.others in
    short_one g.V.Volume.tells c.args.command.now e m (g.V.Volume.device c.args.vol.now) (g.V.Volume.device c.carry_out_in_batch.new.vol) c.in-Ok.effect c.carry_out_in_batch.new.out c.requires.ready
    (sym saved ∙ sym (ap (λ (k : Kept). k.saved) c.self.view_is) ∙ saved_none c.self.inside.saved (sym c.is_some.ensures ∙ c.if-is_some.false)) c.in-Ok.ensures.carried

pub count-requires : goal.count-requires
count-requires g c =
    let e = c.args.self.now in
    let saved = ap (λ (k : Kept). k.saved) c.discard.ensures ∙ ap (λ (k : Kept). k.saved) c.carry_out_in_batch.ensures.others in
    record { few = few_then e.saved c.discard.new.self.saved _ _ saved c.requires.ready.small }

pub count-requires-then-is_some : goal.count-requires-then-is_some
count-requires-then-is_some g c =
    let e = c.args.self.now in
    let saved = c.in_ok-join-in-Ok.ensures.joins.saved ∙ ap (λ (k : Kept). k.saved) c.carry_out_in_batch.ensures.others in
    record { few = few_then e.saved c.join.new.self.saved _ _ saved c.requires.ready.small }

pub join-requires-clause-charge : goal.join-requires-clause-charge
join-requires-clause-charge g c =
    let e = c.args.self.now in
    let m = c.carry_out_in_batch.new.self in
    let v = g.V.Volume.device c.args.vol.now in
    let does = c.carry_out_in_batch.ensures in
    let effect = c.in-Ok.effect in
    can_charge_then effect e.charges m.charges e.tables.definitions m.tables.definitions e.space m.space
    (can_charge g.V.Volume.tells c.args.command.now (seen_by e v) e.charges c.requires.ready.seen.kept c.requires.ready.charges effect c.carry_out_in_batch.new.out
    (contents_over m.store (g.V.Volume.device c.carry_out_in_batch.new.vol)) c.in-Ok.ensures.carried)
    (ap (λ (k : Kept). k.tables.definitions) does.others) does.lists (ap (λ (k : Kept). k.charges) does.others)
