-- What the crates above this one say of the engine, passed on.
pub use Rattle.ts_engine.specs.Engine.{Kept, IsAt, IsReady}
pub use Rattle.ts_engine.specs.declared.fault.StepFault.{StepFault}
pub use Rattle.ts_engine.specs.Moves.{BeforeOrAfter}
pub use Rattle.ts_engine.specs.Step.{state_after}
