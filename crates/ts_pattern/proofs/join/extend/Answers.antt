use Rattle.std.proofs.Common.{◌≡◌, ◌+◌, ◌-◌, ◌∙◌, sym, ap, refl, arith, length, slice_get, Some, true, false}
use Rattle.ts_pattern.specs.Growth.{ends_on}
use Rattle.ts_pattern.proofs.GrowLemmas.{extended-same, extended-other, ends_count}
use Rattle.ts_pattern.proofs.join.extend.Goals as goal

pub overflow_add-run : goal.overflow_add-run
overflow_add-run c =
    let here : slice_get c.args.runs.now.items (c.len-last.result - 1) ≡ Some c.run_at-run.result = rw c.deref-then-ends_on.ensures.value at c.run_at-run.ensures in
    omega (arith, ends_count c.args.runs.now.items _ c.run_at-run.result here)

pub returns-then-ends_on : goal.returns-then-ends_on
returns-then-ends_on c =
    let here : slice_get c.args.runs.now.items (c.len-last.result - 1) ≡ Some c.run_at-run.result = rw c.deref-then-ends_on.ensures.value at c.run_at-run.ensures in
    let yes : ends_on c.args.runs.now.items c.args.on ≡ true = rw c.deref.ensures.value at (sym c.if-ends_on.ensures.same) in
    let len : c.len-last.result - 1 + 1 ≡ length c.args.runs.now.items = omega (arith, c.if-ends_on.ensures.some refl, ap length c.deref.ensures.value, c.deref.ensures.len) in
    record { ok = sym (extended-same c.args.runs.now.items _ c.args.on c.args.count c.run_at-run.result yes len here) }

pub returns : goal.returns
returns c =
    let no : ends_on c.args.runs.now.items c.args.on ≡ false = rw c.deref.ensures.value at (sym c.if-ends_on.ensures.same) in
    record { ok = c.in_ok-push.ensures.items ∙ sym (extended-other c.args.runs.now.items c.args.on c.args.count no) }
