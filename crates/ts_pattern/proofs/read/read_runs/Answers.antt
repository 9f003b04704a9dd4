use Rattle.std.proofs.Common.{◌≡◌, ◌+◌, ◌++◌, ◌∷◌, [], ◌∙◌, sym, ap, arith, length, length-append, List}
use Rattle.std.proofs.lemmas.Result.{err_from_is_err_and}
use Rattle.ts_text.specs.Phrase.{repeated, onto}
use Rattle.ts_text.proofs.CallerLemmas.{exactly_refused, onto_more, onto_end, list_refused}
use Rattle.ts_pattern.specs.declared.run.Run.{Run}
use Rattle.ts_pattern.specs.Patterns.{run_in, are_counts}
use Rattle.ts_pattern.proofs.GrammarLemmas.{run_shrinks, are_counts-push}
use Rattle.ts_pattern.proofs.read.read_runs.Goals as goal

one_more : (rs : List Run) (r : Run) → length (rs ++ r ∷ []) ≡ length rs + 1
one_more rs r = omega (arith, length-append {A = Run})

pub returns-in_err-run-clause-cause : goal.returns-in_err-run-clause-cause
returns-in_err-run-clause-cause c =
    let p = err_from_is_err_and c.from_residual.result c.from_residual.ensures.1 in
    rw (p.1, p.2) (list_refused run_in run_shrinks c.loop-behind.runs.items c.args.runs.now.items c.args.text.now c.loop-behind.rest.now c.in-Some.behind.now c.in_err-run.field-0.0 c.loop-behind.invariant.same c.in-Some.ensures.some (exactly_refused c.in_err-run.field-0.0 (run_in c.in-Some.behind.now) c.in_err-run.ensures.cause))

pub loop-behind-preserved : goal.loop-behind-preserved
loop-behind-preserved c =
    let items = c.in_ok-push.ensures.items in
    let runs = c.loop-behind.runs.items in
    let count = ap length items ∙ one_more runs c.in_ok-run.run' in
    record {
      same = ap (λ (l : List Run). onto l (repeated run_in c.in_ok-run.more.now)) items ∙ sym (onto_more run_in run_shrinks runs c.loop-behind.rest.now c.in-Some.behind.now c.in_ok-run.more.now c.in_ok-run.run' c.in-Some.ensures.some c.in_ok-run.ensures.ok) ∙ c.loop-behind.invariant.same;
      counts = ap are_counts items ∙ are_counts-push runs c.in_ok-run.run' c.loop-behind.invariant.counts c.in_ok-run.ensures.range.0 c.in_ok-run.ensures.range.1;
      few = omega (arith, count, c.loop-behind.invariant.few, c.in_ok-run.ensures.shorter, c.in-Some.ensures.shorter);
      some = omega (arith, count, c.loop-behind.invariant.some);
    }

pub returns-clause-ok : goal.returns-clause-ok
returns-clause-ok c = sym c.loop-behind.invariant.same ∙ onto_end run_in c.loop-behind.runs.items c.loop-behind.rest.now _ c.in_default.ensures.none
