pub mod CallerLemmas
mod RanLemmas
mod ReplyLemmas
mod SayingLemmas
