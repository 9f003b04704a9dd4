use Rattle.std.proofs.Common.{◌<◌, leb, leb-true, arith, rules, get_or}
use Rattle.std.proofs.lemmas.Bool.Decides.{nat_tests}
use Rattle.std.proofs.lemmas.List.Sorted.{IsPartitionPoint-from_clause, IsPartitionedBy-leb, IsNonDecreasingBy-from_all_adjacent}
use Rattle.ts_container.specs.declared.span.Span.{Span}
use Rattle.ts_container.proofs.directory.end_of.Goals as goal

pub returns-clause-before : goal.returns-clause-before
returns-clause-before c =
    let order = IsNonDecreasingBy-from_all_adjacent (λ (a : Span). a.slot) c.args.spans.now (λ k d within. (c.requires k d within).slots) in
    let parted = IsPartitionedBy-leb (λ (a : Span). a.slot) c.args.spans.now c.args.slot order in
    let point = IsPartitionPoint-from_clause (λ (a : Span). leb a.slot c.args.slot) _ _ c.partition_point.ensures.partitioned parted (λ a r q k. search rules) in
    λ k d low high. leb-true _ _ (point.0 k d low high)

pub returns-clause-behind : goal.returns-clause-behind
returns-clause-behind c =
    let order = IsNonDecreasingBy-from_all_adjacent (λ (a : Span). a.slot) c.args.spans.now (λ k d within. (c.requires k d within).slots) in
    let parted = IsPartitionedBy-leb (λ (a : Span). a.slot) c.args.spans.now c.args.slot order in
    let point = IsPartitionPoint-from_clause (λ (a : Span). leb a.slot c.args.slot) _ _ c.partition_point.ensures.partitioned parted (λ a r q k. search rules) in
    λ k d low high. let above = point.1 k d low high in let z : c.args.slot < (get_or c.args.spans.now k d).slot = grind (arith, nat_tests, above) in z
