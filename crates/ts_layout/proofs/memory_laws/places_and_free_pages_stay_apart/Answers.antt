use Rattle.ts_layout.proofs.PlacedLemmas.{places_edited, grid_places_edited, places_moved}
use Rattle.ts_layout.proofs.QuotasKeptLemmas.{places_kept}
use Rattle.ts_layout.proofs.memory_laws.places_and_free_pages_stay_apart.Goals as goal

pub returns : goal.returns
returns c = record {
  irregular = places_edited;
  regular = grid_places_edited;
  moved = places_moved;
  kept = places_kept;
}
