use Rattle.std.proofs.Common.{rules, arith, get_or, ◌+◌}
use Rattle.std.proofs.lemmas.List.Sorted.{answers_always}
use Rattle.ts_container.specs.declared.span.Span.{Span}
use Rattle.ts_container.proofs.SpanLemmas.{follows}
use Rattle.ts_container.proofs.sorted.sort.Goals as goal

pub returns-clause-order : goal.returns-clause-order
returns-clause-order c = λ k d within.
    let spans = c.sort_unstable_by_key.new.self.items in
    follows (get_or spans k d) (get_or spans (k + 1) d)
    (c.sort_unstable_by_key.ensures.sorted (λ (p : Span). (p.slot, p.first)) (answers_always _ _ _ (λ f a r g h. search rules)) k d (omega arith) within)
