-- What the crates above cite of the proofs here.
pub use Rattle.ts_view_catalogues.proofs.CatalogueLemmas.{means_still, opened_is_newest}
