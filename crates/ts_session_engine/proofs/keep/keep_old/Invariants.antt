use Rattle.std.specs.Prelude.{◌≡◌, ◌<◌, ◌++◌, ℕ, slice_index_or}
use Rattle.ts_journal.specs.Journal.{Entry}
use Rattle.ts_journal.specs.Moment.{OnlyReads}
use Rattle.ts_store.specs.OpenBatch.{committed_pages}
use Rattle.ts_views.specs.View.{HasImage, OfEachOpen}
use Rattle.ts_session_engine.specs.Beside.{AllHaveMore}
use Rattle.ts_session_engine.proofs.keep.keep_old.Given as goal

abbrev pub invariant-loop-place : goal.invariant-loop-place
invariant-loop-place g l = record {
  more : AllHaveMore g.V.Volume.tells (committed_pages l.store (g.V.Volume.device l.initial.vol).held) l.initial.views l.views;
  covered : (k : ℕ) (other : Entry) → k < l.place → OfEachOpen (HasImage (slice_index_or (l.store.transaction ++ l.store.batch) k other).0) l.views;
  reads : OnlyReads g.V.Volume.tells (g.V.Volume.device l.initial.vol) (g.V.Volume.device l.vol);
  no_fault : (g.V.Volume.device l.vol).faults ≡ (g.V.Volume.device l.initial.vol).faults;
}
