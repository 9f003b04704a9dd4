-- What an effect asks of that to which it is applied.
use Rattle.std.specs.Prelude.{ℕ, ◌<◌, List, [], slice_index_or}
use Rattle.ts_space.specs.Place.{IsRising}
use Rattle.ts_space.specs.Directory.{Directory}
use Rattle.ts_model.specs.Definitions.{Definitions, series_slots}
use Rattle.ts_container.specs.KeptCharges.{AreCharges, AreFew}
use Rattle.ts_answer.specs.declared.effect.Effect.{Effect}
use Rattle.ts_answer.specs.CarriedOut.{definitions_after, lists_after}
use Rattle.ts_effects.specs.Charged.{CanCount}

-- An effect can be applied to definitions, a directory and what containers are charged: these charges are right before
-- it, they can be counted before and after it, and the places of each series rise after it.
pub record CanCharge (effect : Effect) (charges : List ℕ) (d : Definitions) (space : Directory) : Type 0 where
  pub charged : AreCharges charges d space
  pub few : AreFew d space
  pub before : CanCount d space.lists
  pub after : CanCount (definitions_after effect d) (lists_after effect space.lists)
  pub rising : (slot : ℕ) → slot < series_slots → IsRising (slice_index_or (lists_after effect space.lists) slot [])
