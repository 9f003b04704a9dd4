-- What the crates above cite of the proofs here.
pub use Rattle.ts_session_scripts.proofs.OrderLemmas.{one_fewer, some_item, turn_none, turn_some}
pub use Rattle.ts_session_scripts.proofs.PieceLemmas.{few_total}
