-- A store between two batches of a transaction.
use Rattle.std.specs.Prelude.{◌≡◌, ℕ, Bool, List, []}
use Rattle.ts_disk.specs.Device.{Device}
use Rattle.ts_store.specs.OpenBatch.{State, IsOver, IsIdle, rolled_back}

-- no batch is open, these pages can be taken, and none once the transaction was rolled back
pub record IsBetween (tells : Bool) (free : List ℕ) (s : State) (d : Device) : Type 0 where
  pub idle : IsIdle tells s d
  pub base : IsOver tells (rolled_back s) d
  pub can_take : s.free ≡ free
  pub base_free : s.base_free ≡ []
