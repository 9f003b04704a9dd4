-- What the crates above this one say of the engine, passed on.
pub use Rattle.ts_session_engine.specs.Engine.{IsReady, Kept, IsAt}
pub use Rattle.ts_session_engine.specs.Engine.{StepFault}
