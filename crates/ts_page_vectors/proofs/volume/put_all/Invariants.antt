use Rattle.std.proofs.Common.{◌≡◌, []}
use Rattle.ts_page.specs.Memory.{memory_contents}
use Rattle.ts_page_vectors.proofs.volume.put_all.Given as goal

abbrev pub invariant-loop-patch : goal.invariant-loop-patch
invariant-loop-patch l = ((memory_contents l.pages).count ≡ 933) × ((memory_contents l.pages).free ≡ [])
