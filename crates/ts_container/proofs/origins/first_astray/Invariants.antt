use Rattle.std.proofs.Common.{◌≡◌, ℕ, ◌<◌, Some, IfSome}
use Rattle.ts_model.specs.Definitions.{SeriesDef, at_slot}
use Rattle.ts_layout.specs.Meaning.{IsOnCalendar}
use Rattle.ts_container.proofs.origins.first_astray.Given as goal

abbrev pub invariant-loop-slot : goal.invariant-loop-slot
invariant-loop-slot l = (k : ℕ) → k < l.slot → (s : SeriesDef) → at_slot k l.defs.definitions.series ≡ Some s → IfSome s.regular (IsOnCalendar l.defs.definitions)
