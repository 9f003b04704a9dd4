use Rattle.ts_volume.proofs.FirstBadLemmas.{within_pages}
use Rattle.ts_volume.proofs.first_bad_laws.first_bad_pages_are_within.Goals as goal

pub returns : goal.returns
returns c = within_pages
