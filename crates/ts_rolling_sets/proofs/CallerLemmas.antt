-- What the crates above cite.
pub use Rattle.ts_rolling_sets.proofs.ControlLemmas.{short_set}
