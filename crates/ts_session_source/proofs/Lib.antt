mod CountLemmas
mod OpenedLemmas
mod RestLemmas
mod SourceLemmas
mod TextLemmas
