use Rattle.std.proofs.Common.{◌≡◌, ℕ, ◌+◌, ◌<◌, List, [], ◌++◌, length, take, Option, Some, Ok, Err, refl, sym, ◌∙◌, ap, subst, arith, length-append}
use Rattle.std.proofs.lemmas.List.{length-take-le}
use Rattle.ts_items.specs.Items.{place_from}
use Rattle.ts_items.proofs.ItemLaws.{place_from-append}
use Rattle.ts_script_runs.specs.Script.{OpenedRan, script, by_engine}
use Rattle.ts_carriers.proofs.CallerLemmas.{rose_on}
use Rattle.ts_script_runs.proofs.ItemLemmas.{steady}
use Rattle.ts_carriers.proofs.CallerLemmas.{ran_none}
use Rattle.ts_script_runs.proofs.FeedLemmas.{ran_behind, ran_to_end}
use Rattle.ts_opening.proofs.CallerLemmas.{IsOnce, end_told, once_now, once_pulled, once_more, pulls_on, taken_on, taken_all, nothing_left}
use Rattle.ts_script_runs.proofs.RunLemmas.{stopped, overlong, failed, ended}
use Rattle.ts_script_runs.proofs.run.run_script.Goals as goal

pub loop-session-init : goal.loop-session-init
loop-session-init g c = record {
  within = omega arith;
  faults = refl;
  pulls = omega arith;
  live = once_now (g.R.Source.input c.args.source.now);
  ready = c.requires.ready;
  run = ([], refl, c.requires.start, λ told. refl, ran_none (by_engine g.S.Volume.tells) script (steady g.S.Volume.tells) (tt {0}) c.args.session.now.engine (g.S.Volume.device c.args.site.now) (g.met.S.Volume.lawful c.args.site.now) c.requires.ready);
}

pub returns-in-Err : goal.returns-in-Err
returns-in-Err g c =
    let i = g.R.Source.input c.args.source.now in
    let x = g.R.Source.input c.loop-session.source in
    let j = g.R.Source.input c.pull_front.new.source in
    let inv = c.loop-session.invariant in
    let pulled = c.in-Err.ensures.pulled in
    record {
      ran = stopped g.S.Volume.tells g.R.Source.tells c.args.session.now.engine c.loop-session.session.engine (g.S.Volume.device c.args.site.now) (g.S.Volume.device c.loop-session.site) i j
          (omega (arith, inv.faults, pulled.pull_faults)) (omega (arith, inv.pulls, inv.within, pulls_on x.pulls j.pulls pulled.pulls)) inv.run.0 (omega (arith, inv.pulls, inv.run.1, pulls_on x.pulls j.pulls pulled.pulls)) (once_pulled i x j inv.live pulled.past_end) (tt {0}) (omega (arith, inv.run.1, inv.within))
          (λ told. inv.run.3 told ∙ ap (λ (l : List ℕ). inv.run.0 ++ l) (sym pulled.stays)) (rose_on i.pull_faults x.pull_faults j.pull_faults (omega (arith, inv.faults)) (pulled.cause refl)) inv.run.4;
    }

pub returns-in-Ok-eq0 : goal.returns-in-Ok-eq0
returns-in-Ok-eq0 g c =
    let tells = g.S.Volume.tells in
    let told = g.R.Source.tells in
    let e = c.args.session.now.engine in
    let f = c.loop-session.session.engine in
    let h = c.carry_out_end.new.self.engine in
    let v = g.S.Volume.device c.args.site.now in
    let y = g.S.Volume.device c.loop-session.site in
    let w = g.S.Volume.device c.carry_out_end.new.site in
    let i = g.R.Source.input c.args.source.now in
    let x = g.R.Source.input c.loop-session.source in
    let j = g.R.Source.input c.pull_front.new.source in
    let inv = c.loop-session.invariant in
    let pulled = c.in-Ok-eq0.ensures.pulled in
    let run = ran_to_end tells inv.run.0 c.loop-session.session.reader.place (tt {0}) c.carry_out_end.result e f h v y w inv.run.4 inv.run.2 c.carry_out_end.ensures.ran in
    record {
      ran = subst (λ (s : ℕ). OpenedRan tells told e s v w i j) (sym c.status_at_end.ensures)
          (ended tells told e h v w i j (omega (arith, inv.faults, pulled.pull_faults)) (omega (arith, inv.pulls, inv.within, pulls_on x.pulls j.pulls pulled.pulls)) inv.run.0 (omega (arith, inv.pulls, inv.run.1, pulls_on x.pulls j.pulls pulled.pulls)) (once_pulled i x j inv.live pulled.past_end) (omega (arith, inv.run.1, inv.within))
          (λ s. taken_all i.left x.left j.left inv.run.0 (inv.run.3 s) (pulled.end s c.in-Ok-eq0.field-0-test) (nothing_left x.left j.left c.pull_front.new.buffer c.in-Ok-eq0.field-0 c.in-Ok-eq0.field-0-test (pulled.end s c.in-Ok-eq0.field-0-test) (pulled.moved s)))
          (pulled.no_fault refl ∙ inv.faults)
          (end_told x j c.in-Ok-eq0.field-0 c.in-Ok-eq0.field-0-test pulled.ended)
          (λ s. nothing_left x.left j.left c.pull_front.new.buffer c.in-Ok-eq0.field-0 c.in-Ok-eq0.field-0-test (pulled.end s c.in-Ok-eq0.field-0-test) (pulled.moved s))
          c.carry_out_end.result c.carry_out_end.ensures.output run);
    }

pub returns-then-count-eq-LIMIT : goal.returns-then-count-eq-LIMIT
returns-then-count-eq-LIMIT g c =
    let i = g.R.Source.input c.args.source.now in
    let x = g.R.Source.input c.loop-session.source in
    let j = g.R.Source.input c.pull_front.new.source in
    let inv = c.loop-session.invariant in
    let pulled = c.in-Ok.ensures.pulled in
    let piece : List ℕ = take c.in-Ok.more c.pull_front.new.buffer in
    let size : length piece ≡ c.in-Ok.more = length-take-le c.in-Ok.more c.pull_front.new.buffer pulled.fits in
    record {
      ran = overlong g.S.Volume.tells g.R.Source.tells c.args.session.now.engine c.loop-session.session.engine (g.S.Volume.device c.args.site.now) (g.S.Volume.device c.loop-session.site) i j
          (omega (arith, inv.faults, pulled.pull_faults)) (omega (arith, inv.pulls, inv.within, pulls_on x.pulls j.pulls pulled.pulls)) inv.run.0 (omega (arith, inv.pulls, inv.run.1, pulls_on x.pulls j.pulls pulled.pulls)) (once_pulled i x j inv.live pulled.past_end) (tt {0}) piece (omega (arith, inv.run.1, c.if-count-eq-LIMIT.true)) (omega (arith, size, c.in-Ok.more-test))
          (λ told. taken_on i.left x.left j.left inv.run.0 piece (inv.run.3 told) (pulled.moved told)) (pulled.no_fault refl ∙ inv.faults) inv.run.4;
    }

pub loop-session-preserved : goal.loop-session-preserved
loop-session-preserved g c =
    let i = g.R.Source.input c.args.source.now in
    let x = g.R.Source.input c.loop-session.source in
    let j = g.R.Source.input c.pull_front.new.source in
    let inv = c.loop-session.invariant in
    let pulled = c.in-Ok.ensures.pulled in
    let piece : List ℕ = take c.in-Ok.more c.pull_front.new.buffer in
    let size : length piece ≡ c.in-Ok.more = length-take-le c.in-Ok.more c.pull_front.new.buffer pulled.fits in
    let below : c.loop-session.count < 268435456 = omega (arith, inv.within, c.if-count-eq-LIMIT.false) in
    record {
      within = omega (arith, c.room_after.ensures.limit below, c.in-Ok.ensures.room);
      faults = pulled.no_fault refl ∙ inv.faults;
      pulls = omega (arith, inv.pulls, pulls_on x.pulls j.pulls pulled.pulls, c.in-Ok.more-test);
      live = once_more i x j c.in-Ok.more inv.live pulled.ended pulled.past_end (omega (arith, c.in-Ok.more-test));
      ready = c.in-Ok-carry_out_piece.ensures.ran.ready;
      run = (
        inv.run.0 ++ piece,
        length-append inv.run.0 piece ∙ (λ k. inv.run.1 k + size k),
        c.in-Ok-carry_out_piece.ensures.place ∙ ap (λ (p : Option (List ℕ)). place_from p piece) inv.run.2 ∙ sym (place_from-append (Some []) inv.run.0 piece),
        λ told. taken_on i.left x.left j.left inv.run.0 piece (inv.run.3 told) (pulled.moved told),
        ran_behind g.S.Volume.tells (Some []) c.loop-session.session.reader.place inv.run.0 piece (tt {0}) (Ok (tt {0})) c.args.session.now.engine c.loop-session.session.engine c.carry_out_piece.new.self.engine
            (g.S.Volume.device c.args.site.now) (g.S.Volume.device c.loop-session.site) (g.S.Volume.device c.carry_out_piece.new.site) inv.run.4 inv.run.2 c.in-Ok-carry_out_piece.ensures.ran,
      );
    }

pub returns-in-Err-carry_out_piece : goal.returns-in-Err-carry_out_piece
returns-in-Err-carry_out_piece g c =
    let tells = g.S.Volume.tells in
    let told = g.R.Source.tells in
    let e = c.args.session.now.engine in
    let f = c.loop-session.session.engine in
    let h = c.carry_out_piece.new.self.engine in
    let v = g.S.Volume.device c.args.site.now in
    let y = g.S.Volume.device c.loop-session.site in
    let w = g.S.Volume.device c.carry_out_piece.new.site in
    let i = g.R.Source.input c.args.source.now in
    let x = g.R.Source.input c.loop-session.source in
    let j = g.R.Source.input c.pull_front.new.source in
    let inv = c.loop-session.invariant in
    let pulled = c.in-Ok.ensures.pulled in
    let piece : List ℕ = take c.in-Ok.more c.pull_front.new.buffer in
    let size : length piece ≡ c.in-Ok.more = length-take-le c.in-Ok.more c.pull_front.new.buffer pulled.fits in
    let below : c.loop-session.count < 268435456 = omega (arith, inv.within, c.if-count-eq-LIMIT.false) in
    let fault = c.in-Err-carry_out_piece.fault in
    let run = ran_behind tells (Some []) c.loop-session.session.reader.place inv.run.0 piece (tt {0}) (Err fault) e f h v y w inv.run.4 inv.run.2 c.in-Err-carry_out_piece.ensures.ran in
    record {
      ran = subst (λ (s : ℕ). OpenedRan tells told e s v w i j) (sym c.status.ensures)
          (failed tells told e h v w i j (omega (arith, inv.faults, pulled.pull_faults)) (omega (arith, inv.pulls, inv.within, pulls_on x.pulls j.pulls pulled.pulls)) (inv.run.0 ++ piece) (omega (arith, inv.pulls, inv.run.1, length-append inv.run.0 piece, pulls_on x.pulls j.pulls pulled.pulls)) (once_pulled i x j inv.live pulled.past_end)
          (omega (arith, length-append inv.run.0 piece, size, inv.run.1, c.room_after.ensures.limit below, c.in-Ok.ensures.room))
          (λ told. taken_on i.left x.left j.left inv.run.0 piece (inv.run.3 told) (pulled.moved told)) (pulled.no_fault refl ∙ inv.faults) fault run);
    }
