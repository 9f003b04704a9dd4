-- Faults of the store.
use Rattle.ts_base.specs.declared.fault.StoreFault.{StoreFault}
use Rattle.ts_base.specs.declared.fault.StoreFault.TheVariants.{Failed as StoreFailed, Memory as StoreMemory}
use Rattle.ts_base.specs.declared.fault.SeriesFault.{SeriesFault}
use Rattle.ts_base.specs.declared.fault.SeriesFault.TheVariants.{Failed as SeriesFailed, Memory as SeriesMemory}

-- what a fault of the store is to a call that edits a series
abbrev pub series_fault : StoreFault → SeriesFault
series_fault StoreFailed = SeriesFailed
series_fault (StoreMemory error) = SeriesMemory error
