use Rattle.std.proofs.Common.{◌≡◌, ◌≤◌, ℕ, List, inl, inr, refl, sym, ◌∙◌, subst, length, arith}
use Rattle.std.specs.List.{sum_by}
use Rattle.ts_multi.specs.Sections.{sections}
use Rattle.ts_sessions.specs.Turns.{turns}
use Rattle.ts_session_runs.specs.Ran.{SessionsOver}
use Rattle.ts_session_source.proofs.CountLemmas.{sum_text}
use Rattle.ts_session_source.proofs.RestLemmas.{rests_now}
use Rattle.ts_session_source.proofs.sessions.run_text.Goals as goal

pub returns-in-Err : goal.returns-in-Err
returns-in-Err g c = inl (record { why = inl refl; rests = rests_now g.S.Volume.tells (g.S.Volume.device c.args.site.now) (g.met.S.Volume.lawful c.args.site.now) })

pub returns-in-Ok-None : goal.returns-in-Ok-None
returns-in-Ok-None g c =
    let many = rw c.in-Ok-None.field-0-is at c.in-Ok-None.ensures.few in
    inl (record { why = inr (many, refl); rests = rests_now g.S.Volume.tells (g.S.Volume.device c.args.site.now) (g.met.S.Volume.lawful c.args.site.now) })

pub run_sessions-requires-clause-short : goal.run_sessions-requires-clause-short
run_sessions-requires-clause-short g c = λ κs outlive.
    let cut = rw c.in-Ok-Some.field-0-is at c.in-Ok-Some.ensures.cut in
    let same : c.as_slice.result.now ≡ sections c.args.text.now = c.as_slice.ensures.value ∙ cut.0 in
    let sum : sum_by length c.as_slice.result.now ≤ length c.args.text.now = subst (λ (l : List (List ℕ)). sum_by length l ≤ length c.args.text.now) (sym same) (sum_text c.args.text.now) in
    let short = c.requires.short in
    omega (arith, sum, short)

pub returns-in-Ok-Some : goal.returns-in-Ok-Some
returns-in-Ok-Some g c =
    let tells = g.S.Volume.tells in
    let e = c.args.engine.now in
    let status = c.run_sessions.result in
    let v = g.S.Volume.device c.args.site.now in
    let w = g.S.Volume.device c.run_sessions.new.site in
    let few = rw c.in-Ok-Some.field-0-is at c.in-Ok-Some.ensures.few in
    let cut = rw c.in-Ok-Some.field-0-is at c.in-Ok-Some.ensures.cut in
    let same : c.as_slice.result.now ≡ sections c.args.text.now = c.as_slice.ensures.value ∙ cut.0 in
    let picks = c.as_slice-in-Ok-Some.ensures.value ∙ cut.1 in
    inr (record {
      few = few;
      over = subst (λ (l : List ℕ). SessionsOver tells e status (length (sections c.args.text.now)) (turns (sections c.args.text.now) l) v w) picks
          (subst (λ (l : List (List ℕ)). SessionsOver tells e status (length l) (turns l c.as_slice-in-Ok-Some.result.now) v w) same c.run_sessions.ensures);
    })
