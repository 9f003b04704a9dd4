-- The place of a session's transaction.
use Rattle.std.specs.Prelude.{◌≡◌, ◌<◌, ◌≤◌, ℕ, Bool, true, Option, Some, None, List, length}
use Rattle.std.specs.List.{AllPass}
use Rattle.ts_multi.specs.declared.object.Object.{Object}
use Rattle.ts_multi.specs.declared.object.Touched.{Touched}
use Rattle.ts_multi.specs.Log.{Pending}

-- the transaction, if one is open, and whether there is room for a command more
pub record Standing : Type 0 where
  pub pending : Option Pending
  pub room : Bool

-- the transaction that was begun behind so many commits
abbrev pub pending_of : Option ℕ → List Touched → Option Pending
pending_of None noted = None
pending_of (Some begun) noted = Some (record { begun = begun; noted = noted })

-- the number of a commit fits, and where there is said to be room there is
pub record IsKept (commits : List (List Object)) (slots : List Standing) (room : Bool) (capacity : ℕ) : Type 0 where
  pub few : length commits ≤ 4294967295
  pub next : room ≡ true → length commits < capacity
  pub each : room ≡ true → AllPass (λ s. s.room) slots
