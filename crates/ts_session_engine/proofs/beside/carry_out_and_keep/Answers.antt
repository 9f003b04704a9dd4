use Rattle.std.proofs.Common.{◌≡◌, ◌*◌, ap, sym, ◌∙◌, subst}
use Rattle.ts_store.specs.OpenBatch.{State as Store, committed_pages, contents_over}
use Rattle.ts_answer.specs.View.{view}
use Rattle.ts_hidden.specs.Marks.{IsNoted}
use Rattle.ts_session_engine.specs.Beside.{AllHaveMore, AreCovered}
use Rattle.ts_session_engine.proofs.KeepLemmas.{carried_by, carried_then, more_before, none_ok, over_then, stopped_then, undisturbed_then}
use Rattle.ts_session_engine.proofs.StayLemmas.{more_none}
use Rattle.ts_session_engine.proofs.beside.carry_out_and_keep.Goals as goal

pub returns-in_err-effect : goal.returns-in_err-effect
returns-in_err-effect g c =
    let tells = g.V.Volume.tells in
    let e = c.args.engine.now in
    let does = c.carry_out_in_batch.ensures in
    let m = c.carry_out_in_batch.new.self in
    let x = g.V.Volume.device c.carry_out_in_batch.new.vol in
    record {
      carried = carried_by tells c.args.command.now c.from_residual.result c.in_err-effect.field-0.0 c.carry_out_in_batch.new.out (view e.tables.definitions e.space (contents_over e.store (g.V.Volume.device c.args.vol.now))) (contents_over m.store x) c.from_residual.ensures.1 c.in_err-effect.ensures.carried;
      lists = does.lists;
      over = does.over;
      undisturbed = does.undisturbed;
      noted = none_ok c.from_residual.result (IsNoted c.args.command.now e.tables.definitions m.hidden) (λ k. k ≡ c.in_err-effect.field-0.0) c.from_residual.ensures.1;
      includes = does.more;
      others = does.others;
      more = more_none tells (committed_pages e.store (g.V.Volume.device c.args.vol.now).held) c.args.views.now;
      covered = none_ok c.from_residual.result (AreCovered m.store c.args.views.now) (λ k. k ≡ c.in_err-effect.field-0.0) c.from_residual.ensures.1;
    }

pub returns-in_err-keep_old : goal.returns-in_err-keep_old
returns-in_err-keep_old g c =
    let tells = g.V.Volume.tells in
    let e = c.args.engine.now in
    let does = c.carry_out_in_batch.ensures in
    let m = c.carry_out_in_batch.new.self in
    let v = g.V.Volume.device c.args.vol.now in
    let x = g.V.Volume.device c.carry_out_in_batch.new.vol in
    let y = g.V.Volume.device c.keep_old.new.vol in
    let kept = c.in_err-keep_old.ensures in
    let fault = c.in_err-keep_old.field-0.0 in
    let seen = view e.tables.definitions e.space (contents_over e.store v) in
    let r = c.from_residual-in_err-keep_old in
    record {
      carried = carried_by tells c.args.command.now r.result _ c.carry_out_in_batch.new.out seen (contents_over m.store y) r.ensures.1
          (stopped_then tells c.args.command.now c.in_ok-effect.effect c.carry_out_in_batch.new.out seen m.store x y c.in_ok-effect.ensures.carried fault kept.cause kept.no_fault);
      lists = does.lists;
      over = over_then tells m.store x y does.over kept.reads;
      undisturbed = undisturbed_then tells e.store m.store v x y does.undisturbed kept.reads;
      noted = none_ok r.result (IsNoted c.args.command.now e.tables.definitions m.hidden) _ r.ensures.1;
      includes = does.more;
      others = does.others;
      more = more_before tells e.store m.store v x c.args.views.now c.keep_old.new.views does.undisturbed (subst (λ (s : Store). AllHaveMore tells (committed_pages s x.held) c.args.views.now c.keep_old.new.views) c.store.ensures kept.more);
      covered = none_ok r.result (AreCovered m.store c.keep_old.new.views) _ r.ensures.1;
    }

pub returns : goal.returns
returns g c =
    let tells = g.V.Volume.tells in
    let e = c.args.engine.now in
    let does = c.carry_out_in_batch.ensures in
    let m = c.carry_out_in_batch.new.self in
    let v = g.V.Volume.device c.args.vol.now in
    let x = g.V.Volume.device c.carry_out_in_batch.new.vol in
    let y = g.V.Volume.device c.keep_old.new.vol in
    let kept = c.in_ok-keep_old.ensures in
    record {
      carried = carried_then tells c.args.command.now c.in_ok-effect.effect c.carry_out_in_batch.new.out (view e.tables.definitions e.space (contents_over e.store v)) m.store x y c.in_ok-effect.ensures.carried kept.reads (kept.no_fault (λ failed. absurd (cc)));
      lists = does.lists;
      over = over_then tells m.store x y does.over kept.reads;
      undisturbed = undisturbed_then tells e.store m.store v x y does.undisturbed kept.reads;
      noted = c.in_ok-effect.ensures.noted;
      includes = does.more;
      others = does.others;
      more = more_before tells e.store m.store v x c.args.views.now c.keep_old.new.views does.undisturbed (subst (λ (s : Store). AllHaveMore tells (committed_pages s x.held) c.args.views.now c.keep_old.new.views) c.store.ensures kept.more);
      covered = subst (λ (s : Store). AreCovered s c.keep_old.new.views) c.store.ensures kept.covered;
    }

pub keep_old-requires : goal.keep_old-requires
keep_old-requires g c = record { size = c.carry_out_in_batch.ensures.over.read.size ∙ ap (λ (s : Store). 4096 * s.pages) (sym c.store.ensures) }
