use Rattle.ts_views.proofs.KeepLemmas.{keep_leaves, keep_covers, commit_leaves, kept_commit_leaves}
use Rattle.ts_views.proofs.laws.a_commit_leaves_a_view.Goals as goal

pub returns-clause-kept : goal.returns-clause-kept
returns-clause-kept c = keep_leaves

pub returns-clause-covers : goal.returns-clause-covers
returns-clause-covers c = keep_covers

pub returns-clause-commit : goal.returns-clause-commit
returns-clause-commit c = commit_leaves

pub returns-clause-both : goal.returns-clause-both
returns-clause-both c = kept_commit_leaves
