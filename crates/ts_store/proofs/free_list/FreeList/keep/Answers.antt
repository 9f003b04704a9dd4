use Rattle.std.proofs.Common.{◌≡◌, ℕ, ◌++◌, ◌-◌, length, arith, take, drop, reverse, ap, ◌∙◌}
use Rattle.ts_store.specs.FreeList.{FreePages}
use Rattle.ts_store.proofs.CutLemmas.{kept_now, all_now}
use Rattle.ts_store.proofs.free_list.FreeList.keep.Goals as goal

pub returns-clause-free : goal.returns-clause-free
returns-clause-free c =
    let l = c.self.inside in
    let x = c.close_gap.new.numbers.items in
    let is : c.len-self-inside.result ≡ length x = omega (arith, c.len-self-inside.ensures) in
    ap (λ (n : ℕ). reverse ((take l.low x ++ take (n - l.base) (drop l.base x)) ++ drop n x)) is
    ∙ all_now l.low l.kept l.base l.freed l.saved l.numbers.items x c.self.invariant c.close_gap.ensures ∙ ap (λ (p : FreePages). p.free) c.self.view_is

pub returns-clause-kept : goal.returns-clause-kept
returns-clause-kept c =
    let l = c.self.inside in
    let x = c.close_gap.new.numbers.items in
    let is : c.len-self-inside.result ≡ length x = omega (arith, c.len-self-inside.ensures) in
    ap (λ (n : ℕ). reverse (take l.low x ++ take (n - l.base) (drop l.base x))) is
    ∙ kept_now l.low l.kept l.base l.freed l.saved l.numbers.items x c.self.invariant c.close_gap.ensures ∙ ap (λ (p : FreePages). p.free) c.self.view_is
