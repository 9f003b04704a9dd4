use Rattle.ts_views.proofs.StayLemmas.{keep_leaves_views, keep_covers_views, commit_leaves_views}
use Rattle.ts_views.proofs.laws.a_commit_leaves_the_open_views.Goals as goal

pub returns-clause-kept : goal.returns-clause-kept
returns-clause-kept c = keep_leaves_views

pub returns-clause-covers : goal.returns-clause-covers
returns-clause-covers c = keep_covers_views

pub returns-clause-commit : goal.returns-clause-commit
returns-clause-commit c = commit_leaves_views
