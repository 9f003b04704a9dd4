use Rattle.ts_catalogue_laws.proofs.OfCatalogueLemmas.{counted_of}
use Rattle.ts_catalogue_laws.proofs.of_catalogues.a_counted_clip_of_a_catalogue_is_part_of_a_clip.Goals as goal

pub returns : goal.returns
returns c = counted_of c.a_counted_clip_is_part_of_a_clip.ensures
