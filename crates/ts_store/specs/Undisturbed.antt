-- What the calls on an open batch leave.
use Rattle.std.specs.Prelude.{◌≡◌, Bool, IsTrue}
use Rattle.ts_disk.specs.Device.{Device}
use Rattle.ts_journal.specs.Moment.{OnlyReads}
use Rattle.ts_store.specs.OpenBatch.{State, AreInPlace}

-- Nothing was written or said; what a drop of the batch and what a rollback of the transaction go back to is the same;
-- and the pages of the cache are those in their places, if they were.
pub record Undisturbed (tells : Bool) (s t : State) (v w : Device) : Type 0 where
  pub pages : t.pages ≡ s.pages
  pub journal : t.journal ≡ s.journal
  pub overlay : t.overlay ≡ s.overlay
  pub transaction : t.transaction ≡ s.transaction
  pub kept_free : t.kept_free ≡ s.kept_free
  pub base_free : t.base_free ≡ s.base_free
  pub reads : OnlyReads tells v w
  pub cached : IsTrue tells → AreInPlace v.held s.cache → AreInPlace w.held t.cache
