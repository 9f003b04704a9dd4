use Rattle.std.proofs.Common.{◌≡◌, ℕ, ◌+◌, ◌-◌, ◌*◌, ◌<◌, ◌++◌, [], ◌∷◌, length, take, drop, get_or, sym, ap, ◌∙◌, arith}
use Rattle.std.proofs.lemmas.List.{take_all, take_more}
use Rattle.ts_pattern.specs.declared.run.Run.{Run}
use Rattle.ts_layout.proofs.CallerLemmas.{each_run, each_short}
use Rattle.ts_slots.proofs.plan.parse_runs.Goals as goal

pub loop-i-preserved : goal.loop-i-preserved
loop-i-preserved c = λ runs rest long short is.
    let i : ℕ = c.loop-i.i in
    let d : Run = c.parse_run.result in
    let within : i < length runs = omega (arith, long, c.loop-i-test.true) in
    let width : 4 * i + 4 - 4 * i ≡ 4 = omega arith in
    let same : d ≡ get_or runs i d = c.parse_run.ensures (get_or runs i d) (each_short i d runs within short)
    (ap (λ (n : ℕ). take n (drop (4 * i) c.args.bytes.now)) width ∙ each_run i d runs rest c.args.bytes.now within is) in
    let before : c.loop-i.runs.items ≡ take i runs = c.loop-i.invariant runs rest long short is in
    c.in_ok-push.ensures.items ∙ (λ k. before k ++ same k ∷ []) ∙ sym (take_more runs i d within)

pub returns : goal.returns
returns c = λ runs rest long short is.
    c.loop-i.invariant runs rest long short is ∙ take_all c.loop-i.i runs (omega (arith, long, c.loop-i-test.false))
