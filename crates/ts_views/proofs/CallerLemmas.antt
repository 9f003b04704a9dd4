-- What the crates above cite of the proofs here.
pub use Rattle.ts_views.proofs.KeepLemmas.{commit_leaves, keep_covers, keep_leaves, kept_commit_leaves}
pub use Rattle.ts_views.proofs.StayLemmas.{commit_leaves_views, each_weaker, keep_covers_views, keep_leaves_views}
