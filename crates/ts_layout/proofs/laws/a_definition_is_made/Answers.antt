use Rattle.ts_layout.proofs.ChangedLemmas.{made_sound, made_headings, made_catalogue}
use Rattle.ts_layout.proofs.LayoutLemmas.{no_page_held}
use Rattle.ts_layout.proofs.DefinedKeptLemmas.{made_kept}
use Rattle.ts_layout.proofs.ValueLemmas.{text_named, text_own, container_named, irregular_named, regular_named}
use Rattle.ts_layout.proofs.laws.a_definition_is_made.Goals as goal

pub returns : goal.returns
returns c = record {
  rules = made_sound;
  headings = made_headings;
  kept = made_kept;
  catalogue = made_catalogue;
  calendar_named = text_named;
  calendar_own = text_own;
  container = container_named;
  irregular = irregular_named;
  regular = regular_named;
  no_page = no_page_held;
}
