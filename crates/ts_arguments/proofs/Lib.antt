pub mod CallerLemmas
mod FormLemmas
mod CallLemmas
mod TextLemmas
mod PrintedLemmas
