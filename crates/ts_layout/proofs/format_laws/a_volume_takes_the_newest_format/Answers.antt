use Rattle.std.proofs.Common.{refl}
use Rattle.ts_layout.proofs.FormatLemmas.{layout_renewed, sound_renewed, filled_renewed, kept_renewed}
use Rattle.ts_layout.proofs.format_laws.a_volume_takes_the_newest_format.Goals as goal

pub returns : goal.returns
returns c = record {
  bytes = layout_renewed;
  rules = sound_renewed;
  filled = filled_renewed;
  places = λ l space lists. lists;
  free = λ l. refl;
  kept = kept_renewed;
  catalogue = λ l. refl;
}
