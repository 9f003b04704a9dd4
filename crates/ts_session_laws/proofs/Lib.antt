mod AloneLemmas
mod InsideLemmas
mod SnapshotLemmas
