mod ApartLemmas
pub mod CallerLemmas
mod CarriedLemmas
mod ConflictLemmas
mod LogLemmas
mod MoveLemmas
mod OtherLemmas
mod SerialLemmas
mod SoundLemmas
