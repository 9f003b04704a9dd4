mod GenLemmas
mod GeneratedLemmas
mod GeneratingLemmas
mod ReachedLemmas
mod SummaryLemmas
