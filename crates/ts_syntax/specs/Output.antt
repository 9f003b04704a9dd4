-- What an output means, and what saying a piece does to that.
use Rattle.std.specs.Prelude.{◌≡◌, ℕ, ◌≤◌, Bool, IsTrue, List, ◌++◌, Result, OnOk, OnErr, IsOk, IsErr}
use Rattle.ts_disk.specs.Device.{Rose, Saying}

-- All that is meant by an output.
pub record Heard : Type 0 where
  -- the bytes that were said, where they are told
  pub said : List ℕ
  pub say_faults : ℕ

-- a piece is said
pub record Spoken {E : Type 0} (tells : Bool) (piece : List ℕ) (result : Result Unit E) (v w : Heard) : Type 0 where
  pub said : OnOk result (IsTrue tells → w.said ≡ v.said ++ piece)
  pub part : OnErr result (IsTrue tells → Saying v.said piece w.said)
  pub say_faults : v.say_faults ≤ w.say_faults
  pub cause : IsErr result → Rose v.say_faults w.say_faults
  -- what is said whole leaves the count
  pub no_fault : IsOk result → w.say_faults ≡ v.say_faults
