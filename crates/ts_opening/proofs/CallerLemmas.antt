-- What the crates above cite of the proofs here.
pub use Rattle.ts_opening.proofs.OpeningLemmas.{first_now, first_then, is_unopened, opened_store, unopened_now, unopened_status, unopened_store, unopened_unwritten}
pub use Rattle.ts_opening.proofs.PullLemmas.{IsOnce, end_told, nothing_left, once_more, once_now, once_pulled, pulls_on, taken_all, taken_on}
pub use Rattle.ts_opening.proofs.TakenLemmas.{good_first, ran_from, silent}
