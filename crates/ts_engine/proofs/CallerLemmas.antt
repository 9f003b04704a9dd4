-- What the crates above cite of the proofs here.
pub use Rattle.ts_engine.proofs.EndLemmas.{few_then, none_open, saved_none, saved_some, short_all, short_one}
pub use Rattle.ts_engine.proofs.JoinLemmas.{can_charge, changed_step, failed_step, joined_step, memory_step, refused_step, unchanged_step, unjoined_step}
pub use Rattle.ts_engine.proofs.MovesLemmas.{Follows, at_resting, moves_disk, moves_memory, moves_still, read_moments, ready_still, rests, stands, stands_resting}
pub use Rattle.ts_engine.proofs.StandLemmas.{same_copies, still_dropped, still_idle, still_none, still_reads}
pub use Rattle.ts_engine.proofs.StateLemmas.{accepted_by, accepted_of, plain_next, run_answers, run_refuses}
pub use Rattle.ts_engine.proofs.StepLemmas.{by_memory, comes_to, refused_to}
pub use Rattle.ts_engine.proofs.TransactionLemmas.{begins_step, by_fault, can_roll, commits_step, rolled_step}
