-- The series in the slots before one that have a mark are marked.
use Rattle.std.proofs.Common.{◌≡◌, ◌<◌, ℕ, true, false, Some, get_or}
use Rattle.ts_model.specs.Definitions.{SeriesDef, at_slot}
use Rattle.ts_hidden.specs.Marks.{is_marked}
use Rattle.ts_hidden.proofs.marks.Marks.of_slots.Given as goal

abbrev pub invariant-loop-slot : goal.invariant-loop-slot
invariant-loop-slot l = (k : ℕ) → k < l.slot → (s : SeriesDef) → at_slot k l.defs.definitions.series ≡ Some s → is_marked s.key l.marks ≡ false → get_or l.slots k true ≡ false
