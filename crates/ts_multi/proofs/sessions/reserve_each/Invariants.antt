use Rattle.std.proofs.Common.{◌≡◌, ℕ, ◌<◌, map, get_or, true}
use Rattle.ts_multi.specs.Slot.{Standing}
use Rattle.ts_multi.proofs.sessions.reserve_each.Given as goal

abbrev pub invariant-loop-slot : goal.invariant-loop-slot
invariant-loop-slot l = record {
  same : map (λ slot. slot.pending) l.slots ≡ map (λ slot. slot.pending) l.fn.slots;
  room : (k : ℕ) (d : Standing) → k < l.slot-index → (get_or l.slots k d).room ≡ true;
}
