use Rattle.ts_view_catalogues.proofs.CatalogueLemmas.{opened_is_newest}
use Rattle.ts_view_catalogues.proofs.laws.an_opened_view_is_the_newest.Goals as goal

pub returns : goal.returns
returns c = opened_is_newest
