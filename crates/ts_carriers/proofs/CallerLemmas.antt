-- What the crates above cite of the proofs here.
pub use Rattle.ts_carriers.proofs.RanLemmas.{good_now, ran_none, ran_as, ran_failed_as, ran_front, ran_then}
pub use Rattle.ts_carriers.proofs.ReplyLemmas.{front_of, reply_both, reply_front, reply_said}
pub use Rattle.ts_carriers.proofs.SayingLemmas.{answered_line, answered_ran, IsSteady, never, rose_on, said_line, said_ran, Steps, steps_here, Waits}
