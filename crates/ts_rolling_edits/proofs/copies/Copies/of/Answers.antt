use Rattle.std.proofs.Common.{ℕ, ◌<◌, List, [], slice_index_or, sym, subst}
use Rattle.ts_space.specs.declared.place.Place.{Place}
use Rattle.ts_model.specs.Definitions.{Tables, IsDefinitions}
use Rattle.ts_layout.specs.Meaning.{KeepLimits}
use Rattle.ts_layout.specs.Charges.{IsCountable}
use Rattle.ts_rolling_edits.proofs.copies.Copies.of.Goals as goal

pub count-requires-clause-limits : goal.count-requires-clause-limits
count-requires-clause-limits c = subst (λ (t : Tables). KeepLimits t.definitions) (sym c.in_ok-defs.ensures) c.requires.can.limits

pub count-requires-clause-rules : goal.count-requires-clause-rules
count-requires-clause-rules c = subst (λ (t : Tables). IsDefinitions t.definitions) (sym c.in_ok-defs.ensures) c.requires.can.rules

pub count-requires-clause-countable : goal.count-requires-clause-countable
count-requires-clause-countable c =
    subst (λ (ls : List (List Place)). (slot : ℕ) → slot < 4096 → IsCountable (slice_index_or ls slot [])) (sym c.in_ok-space.ensures) c.requires.can.countable
