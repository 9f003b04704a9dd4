use Rattle.std.proofs.Common.{ℕ, ◌∷◌, ◌++◌, ◌-◌, ◌≤◌, length, take, drop, reverse, arith, sym, ap, ◌∙◌}
use Rattle.ts_store.specs.FreeList.{FreePages}
use Rattle.ts_store.proofs.CutLemmas.{taken}
use Rattle.ts_store.proofs.free_list.FreeList.pop.Goals as goal

pub returns-then-self-clause-taken : goal.returns-then-self-clause-taken
returns-then-self-clause-taken c =
    let l = c.self.inside in
    let ns = l.numbers.items in
    let within : l.freed ≤ length ns = omega (arith, c.self.invariant.fourth, c.self.invariant.within) in
    let end : length ns ≤ l.saved = omega (arith, c.if-self-len.false, c.len.ensures) in
    sym (ap (λ (p : FreePages). p.free) c.self.view_is) ∙ taken l.low l.base l.freed l.saved ns c.index.result.now c.if-self.true within end
    ∙ ap (λ (y : ℕ). y ∷ reverse ((take l.low ns ++ take (l.freed - 1 - l.base) (drop l.base ns)) ++ drop l.saved ns)) (sym c.index.ensures)
