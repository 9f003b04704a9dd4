use Rattle.ts_layout.proofs.FormatKeptLemmas.{meaning_keeps}
use Rattle.ts_layout.proofs.format_laws.a_catalogue_keeps_its_format.Goals as goal

pub returns : goal.returns
returns c = meaning_keeps
