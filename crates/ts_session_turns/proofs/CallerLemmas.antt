-- What the crates above cite, passed on.
pub use Rattle.ts_session_engine.proofs.CallerLemmas.{at_same, ready_same}
