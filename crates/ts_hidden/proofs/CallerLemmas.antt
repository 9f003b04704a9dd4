-- What the crates above cite: elements none of which is hidden, and what commands leave of marks.
pub use Rattle.ts_hidden.proofs.ElementLemmas.{listed_shown, joined_listed}
pub use Rattle.ts_hidden.proofs.MarkLemmas.{all_included}
pub use Rattle.ts_hidden.proofs.CoverLemmas.{covered_more, covered_after}
