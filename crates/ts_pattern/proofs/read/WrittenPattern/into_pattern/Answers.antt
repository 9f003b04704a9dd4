use Rattle.std.proofs.Common.{◌≡◌, ◌∙◌, ◌≤◌, ap, arith, length}
use Rattle.ts_pattern.specs.Patterns.{total, flag_at, runs_of, is_pattern}
use Rattle.ts_pattern.proofs.GrowLemmas.{length-runs_from-le, is_pattern-runs_of}
use Rattle.ts_pattern.proofs.MergeLemmas.{total-some}
use Rattle.ts_pattern.proofs.read.WrittenPattern.into_pattern.Goals as goal

pub overflow_cast-len : goal.overflow_cast-len
overflow_cast-len c =
    let rs = c.args.self.runs.items in
    let few = length-runs_from-le (flag_at c.deref-2.result.now) 0 (total c.deref-2.result.now) in
    omega (arith, few, ap length c.in_ok-runs.ensures, ap total c.deref.ensures.value, ap total c.deref-2.ensures.value, c.total_length-length.ensures, c.in_ok-runs.runs.ok.0)

pub unreachable-requires : goal.unreachable-requires
unreachable-requires c =
    let rs = c.args.self.runs.items in
    let f = flag_at rs in
    let n = total rs in
    let items : c.in_ok-runs.runs.items ≡ runs_of f n = c.in_ok-runs.ensures ∙ ap (λ l. runs_of (flag_at l) (total l)) c.deref-2.ensures.value in
    let small : n ≤ 527_040 = omega (arith, ap total c.deref.ensures.value, c.total_length-length.ensures) in
    let few : length (runs_of f n) ≤ 512 = omega (arith, ap length items, c.in_ok-runs.runs.ok.0) in
    let valid = ap is_pattern items ∙ is_pattern-runs_of f n (total-some rs c.args.self.counts c.args.self.some) small few in
    let none = c.in-None.ensures.within.1 valid in
    cc
