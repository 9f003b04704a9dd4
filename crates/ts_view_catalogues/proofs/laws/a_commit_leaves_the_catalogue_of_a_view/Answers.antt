use Rattle.ts_view_catalogues.proofs.CatalogueLemmas.{commits_leave}
use Rattle.ts_view_catalogues.proofs.laws.a_commit_leaves_the_catalogue_of_a_view.Goals as goal

pub returns : goal.returns
returns c = commits_leave
