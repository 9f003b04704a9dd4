use Rattle.std.proofs.Common.{length, ap, arith}
use Rattle.ts_journal.specs.Journal.{entries_bytes}
use Rattle.ts_store.specs.OpenBatch.{State, to_commit}
use Rattle.ts_store.proofs.CallerLemmas.{over_prepared, idle_closed, closed_committed, commit_bytes}
use Rattle.ts_store_vectors.proofs.stores.committed.Goals as goal

pub commit-requires-clause-over : goal.commit-requires-clause-over
commit-requires-clause-over g c = over_prepared g.V.Volume.tells c.args.store.now c.prepare.new.self (g.V.Volume.device c.args.vol.now) c.prepare.ensures.others c.requires.over

pub commit-requires-clause-ready : goal.commit-requires-clause-ready
commit-requires-clause-ready g c = record {
  prepared = c.in_ok-prepare.ensures.ok;
  join = c.in_ok-prepare.ensures.join;
  short = omega (
    arith,
    ap (λ (s : State). length (entries_bytes (to_commit s))) c.prepare.ensures.others,
    commit_bytes c.args.store.now (g.V.Volume.device c.args.vol.now),
    c.requires.short,
  );
}

pub returns-in-Ok-clause-idle : goal.returns-in-Ok-clause-idle
returns-in-Ok-clause-idle g c = idle_closed g.V.Volume.tells c.prepare.new.self c.commit.new.self (g.V.Volume.device c.commit.new.vol) c.in-Ok.ensures.closed c.in-Ok.ensures.over

pub returns-in-Ok-clause-closed : goal.returns-in-Ok-clause-closed
returns-in-Ok-clause-closed g c = closed_committed c.prepare.new.self c.commit.new.self c.in-Ok.ensures.closed
