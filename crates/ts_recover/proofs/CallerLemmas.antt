-- What the crates above cite of the proofs here.
pub use Rattle.ts_recover.proofs.OpenedLemmas.{still_only}
pub use Rattle.ts_recover.proofs.ParsedLemmas.{put_allowed}
pub use Rattle.ts_recover.proofs.ReadLemmas.{reads_none, reads_then}
