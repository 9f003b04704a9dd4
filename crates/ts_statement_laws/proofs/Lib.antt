mod ExactLemmas
mod ArgumentLemmas
mod CallLemmas
mod StatementLemmas
