use Rattle.ts_catalogue_laws.proofs.OfCatalogueLemmas.{clips_of}
use Rattle.ts_catalogue_laws.proofs.of_catalogues.a_clip_of_a_catalogue_lists_entries.Goals as goal

pub returns : goal.returns
returns c = clips_of c.a_clip_lists_the_entries_between.ensures
