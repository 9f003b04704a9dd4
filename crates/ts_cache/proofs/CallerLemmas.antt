-- What the crates above cite of the proofs here.
pub use Rattle.ts_cache.proofs.CacheLaws.{none_has, each_got, each_put, each_forgotten}
