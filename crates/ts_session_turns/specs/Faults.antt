-- The faults of an engine's step, passed on.
pub use Rattle.ts_session_engine.specs.Faults.{Disk, Memory, Closed}
