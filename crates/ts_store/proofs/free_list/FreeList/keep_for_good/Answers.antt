use Rattle.std.proofs.Common.{◌≡◌, ℕ, ◌++◌, ◌-◌, length, arith, take, drop, reverse, ap, ◌∙◌}
use Rattle.ts_store.specs.FreeList.{FreePages}
use Rattle.ts_store.proofs.CutLemmas.{base_now, kept_all, free_all}
use Rattle.ts_store.proofs.free_list.FreeList.keep_for_good.Goals as goal

pub returns-clause-free : goal.returns-clause-free
returns-clause-free c =
    let l = c.self.inside in
    let x = c.close_gap.new.numbers.items in
    let y = c.close_gap-2.new.numbers.items in
    let is : c.len-count.result ≡ length y = omega (arith, c.len-count.ensures) in
    ap (λ (n : ℕ). reverse ((take n y ++ take (n - n) (drop n y)) ++ drop n y)) is
    ∙ free_all l.low l.kept l.base l.freed l.saved l.numbers.items x c.self.invariant c.close_gap.ensures y c.close_gap-2.ensures ∙ ap (λ (p : FreePages). p.free) c.self.view_is

pub returns-clause-kept : goal.returns-clause-kept
returns-clause-kept c =
    let l = c.self.inside in
    let x = c.close_gap.new.numbers.items in
    let y = c.close_gap-2.new.numbers.items in
    let is : c.len-count.result ≡ length y = omega (arith, c.len-count.ensures) in
    ap (λ (n : ℕ). reverse (take n y ++ take (n - n) (drop n y))) is
    ∙ kept_all l.low l.kept l.base l.freed l.saved l.numbers.items x c.self.invariant c.close_gap.ensures y c.close_gap-2.ensures ∙ ap (λ (p : FreePages). p.free) c.self.view_is

pub returns-clause-base : goal.returns-clause-base
returns-clause-base c =
    let l = c.self.inside in
    let x = c.close_gap.new.numbers.items in
    let y = c.close_gap-2.new.numbers.items in
    let is : c.len-count.result ≡ length y = omega (arith, c.len-count.ensures) in
    ap (λ (n : ℕ). reverse (take n y)) is
    ∙ base_now l.low l.kept l.base l.freed l.saved l.numbers.items x c.self.invariant c.close_gap.ensures y c.close_gap-2.ensures ∙ ap (λ (p : FreePages). p.free) c.self.view_is
