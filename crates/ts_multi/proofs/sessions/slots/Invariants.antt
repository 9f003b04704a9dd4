use Rattle.std.proofs.Common.{◌≡◌, map, None}
use Rattle.std.specs.Prelude.{replicate}
use Rattle.ts_multi.proofs.sessions.slots.Given as goal

abbrev pub invariant-loop-index : goal.invariant-loop-index
invariant-loop-index l = map (λ slot. slot.pending) l.made.items ≡ replicate l._index None
