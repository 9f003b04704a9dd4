use Rattle.std.proofs.Common.{◌∙◌, ◌+◌, sym, ap, arith, refl, false, take, List, slice_index_or}
use Rattle.ts_pattern.specs.declared.run.Run.{Run}
use Rattle.ts_pattern.specs.Patterns.{run, total, flag_at}
use Rattle.ts_pattern.specs.Growth.{extended}
use Rattle.ts_pattern.proofs.JoinLemmas.{total-runs_from}
use Rattle.ts_pattern.proofs.CursorLemmas.{total-take-le, total-take-next}
use Rattle.ts_pattern.proofs.GrowLemmas.{runs_of-zero}
use Rattle.ts_pattern.proofs.MergeLemmas.{merged-step}
use Rattle.ts_pattern.proofs.text.merged_runs.Goals as goal

pub loop-run-init : goal.loop-run-init
loop-run-init c = c.new-merged.ensures.items ∙ sym (runs_of-zero (flag_at c.args.runs.now) 0 refl)

pub extend-requires : goal.extend-requires
extend-requires c =
    let rs = c.args.runs.now in
    let i = c.loop-run.run-index in
    omega (
      arith,
      ap total c.loop-run.invariant,
      total-runs_from (flag_at rs) 0 (total (take i rs)),
      total-take-next rs i (run false 0) c.loop-run-test.true,
      total-take-le rs (i + 1),
      c.requires.small,
    )

pub loop-run-preserved : goal.loop-run-preserved
loop-run-preserved c =
    let rs = c.args.runs.now in
    let i = c.loop-run.run-index in
    let r = slice_index_or rs i (run false 0) in
    c.in_ok-extend.ensures.ok ∙ ap (λ (l : List Run). extended l r.on r.count) c.loop-run.invariant
    ∙ sym (merged-step rs i (run false 0) c.requires.counts c.loop-run-test.true)
