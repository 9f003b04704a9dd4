-- What the crates above cite of the proofs here.
pub use Rattle.ts_effects.proofs.ChargedLemmas.{can_charge_then, can_count, charges_same}
