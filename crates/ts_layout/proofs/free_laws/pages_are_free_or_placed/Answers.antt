use Rattle.ts_layout.proofs.FreeLemmas.{free_counted}
use Rattle.ts_layout.proofs.HeldLemmas.{held_layout, free_left}
use Rattle.ts_layout.proofs.free_laws.pages_are_free_or_placed.Goals as goal

pub returns : goal.returns
returns c = record {
  counted = λ l space sound. free_counted l space sound.definitions.tables;
  held = held_layout;
  left = free_left;
}
