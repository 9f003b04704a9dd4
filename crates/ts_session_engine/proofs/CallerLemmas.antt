-- What the crates above cite of the proofs here.
pub use Rattle.ts_session_engine.proofs.OwnLemmas.{newest_is}
pub use Rattle.ts_session_engine.proofs.PlaceLemmas.{others_of, others_set}
pub use Rattle.ts_session_engine.proofs.ProceedLemmas.{at_same, at_untouched, ready_same}
pub use Rattle.ts_session_engine.proofs.ReplayLemmas.{goes_both}
pub use Rattle.ts_session_engine.proofs.StayLemmas.{same_stay}
pub use Rattle.ts_session_engine.proofs.TurnLemmas.{each_has, each_same}
