-- What the crates above this one say of the engine, passed on.
pub use Rattle.ts_engine.specs.Engine.{NothingIsPending, Kept, IsReady, IsAt, IsSmall, rolled_back, seen_by}
pub use Rattle.ts_engine.specs.Start.{StillMeans, Started}
pub use Rattle.ts_engine.specs.declared.engine.Engine.{Engine}
pub use Rattle.ts_engine.specs.declared.fault.StepFault.{StepFault}
pub use Rattle.ts_engine.specs.Moves.{Moves, BeforeOrAfter, IsUntouched}
pub use Rattle.ts_engine.specs.Migrate.{state_renewed, Migrated}
pub use Rattle.ts_engine.specs.Step.{Stepped, state_after}
pub use Rattle.ts_engine.specs.declared.transaction.Saved.{Saved}
