use Rattle.ts_session_laws.proofs.SnapshotLemmas.{snapshots}
use Rattle.ts_session_laws.proofs.laws.a_snapshot_is_a_run.Goals as goal

pub returns : goal.returns
returns c = snapshots
