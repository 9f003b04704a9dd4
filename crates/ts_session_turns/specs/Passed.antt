-- What the crates above this one say of sessions' engine, passed on.
pub use Rattle.ts_session_engine.specs.Beside.{newest}
