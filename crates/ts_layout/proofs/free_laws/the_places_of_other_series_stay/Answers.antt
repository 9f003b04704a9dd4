use Rattle.ts_layout.proofs.HeldLemmas.{others_stay, slots_stay}
use Rattle.ts_layout.proofs.free_laws.the_places_of_other_series_stay.Goals as goal

pub returns : goal.returns
returns c = record {
  places = others_stay;
  slots = slots_stay;
}
