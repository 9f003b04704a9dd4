-- The faults of an engine's step, passed on.
pub use Rattle.ts_engine.specs.declared.fault.StepFault.TheVariants.{Disk, Memory, Closed}
