use Rattle.std.proofs.Common.{ℕ, List, inl, inr, subst}
use Rattle.ts_session_source.specs.Opened.{TextRan}
use Rattle.ts_session_source.proofs.RestLemmas.{rests_now}
use Rattle.ts_session_source.proofs.sessions.take_and_run.Goals as goal

pub returns-in-Err : goal.returns-in-Err
returns-in-Err g c =
    inl (record {
      fault = c.in-Err.fault;
      takes = c.in-Err.ensures;
      is = c.status.ensures;
      rests = rests_now g.S.Volume.tells (g.S.Volume.device c.args.site.now) (g.met.S.Volume.lawful c.args.site.now);
    })

pub returns-in-Ok : goal.returns-in-Ok
returns-in-Ok g c =
    let tells = g.S.Volume.tells in
    let v = g.S.Volume.device c.args.site.now in
    let w = g.S.Volume.device c.run_text.new.site in
    inr (record {
      text = c.in-Ok.text;
      takes = c.in-Ok.ensures;
      ran = subst (λ (t : List ℕ). TextRan tells c.args.seed t c.args.engine.now c.run_text.result v w) c.as_slice.ensures c.run_text.ensures;
    })
