use Rattle.std.proofs.Common.{◌≡◌}
use Rattle.ts_page.specs.Memory.{memory_contents}
use Rattle.ts_page_vectors.proofs.slots.written.Given as goal

abbrev pub invariant-loop-kind : goal.invariant-loop-kind
invariant-loop-kind l = (memory_contents l.pages).count ≡ 933
