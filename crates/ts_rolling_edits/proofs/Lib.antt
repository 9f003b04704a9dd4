mod GrowthLemmas
mod PartLemmas
mod RollingLemmas
