use Rattle.ts_layout.proofs.LayoutKeptLemmas.{bare_sound, bare_filled, bare_size}
use Rattle.ts_layout.proofs.memory_laws.sound_definitions_are_those_of_a_layout.Goals as goal

pub returns : goal.returns
returns c = record {
  rules = bare_sound;
  filled = bare_filled;
  size = bare_size;
}
