pub mod TopLemmas
pub mod MigratingLemmas
pub mod NewLemmas
pub mod MakingLemmas
pub mod CheckingLemmas
