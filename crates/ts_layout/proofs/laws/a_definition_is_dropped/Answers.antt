use Rattle.ts_layout.proofs.ChangedLemmas.{dropped_sound, dropped_headings, dropped_catalogue}
use Rattle.ts_layout.proofs.DefinedKeptLemmas.{dropped_kept}
use Rattle.ts_layout.proofs.laws.a_definition_is_dropped.Goals as goal

pub returns : goal.returns
returns c = record {
  rules = dropped_sound;
  headings = dropped_headings;
  kept = dropped_kept;
  catalogue = dropped_catalogue;
}
