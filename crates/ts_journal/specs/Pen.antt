-- Bytes on their way to the disk.
use Rattle.std.specs.Prelude.{◌≡◌, ◌⊎◌, ℕ, ◌+◌, Bool, List, [], ◌++◌, length, take, Result, Ok, OnOk, OnErr}
use Rattle.ts_disk.specs.Device.{Device}
use Rattle.ts_disk.specs.declared.volume.Failed.{Failed}
use Rattle.ts_journal.specs.declared.pen.Pen.{Pen}
use Rattle.ts_journal.specs.Moment.{Writes}

-- those that aren't written yet
abbrev pub pending : Pen → List ℕ
pending p = take p.filled p.bytes

-- these bytes were on their way: the first of them are now written, and the rest still is
pub record Added (tells : Bool) (bytes : List ℕ) (p q : Pen) (v w : Device) : Type 0 where
  pub written : List ℕ
  pub all : written ++ pending q ≡ bytes
  pub place : q.at ≡ p.at + length written
  pub writes : Writes {E = Failed} tells p.at written (Ok tt) v w

-- a piece is put behind what is on its way
pub record Adds (tells : Bool) (piece : List ℕ) (result : Result Unit Failed) (p q : Pen) (v w : Device) : Type 0 where
  pub added : OnOk result (Added tells (pending p ++ piece) p q v w)
  pub stopped : OnErr result (Writes tells p.at (pending p ++ piece) result v w)

-- all is still on its way, or all is written
abbrev pub Moved : Bool → Pen → Pen → Device → Device → Type 0
Moved tells p q v w =
    ((q ≡ p) × Writes {E = Failed} tells p.at [] (Ok tt) v w)
    ⊎ ((pending q ≡ []) × Writes {E = Failed} tells p.at (pending p) (Ok tt) v w)

-- the next piece goes to this place; what was on its way is written, or the place is right behind it
pub record Moves (tells : Bool) (target : ℕ) (result : Result Unit Failed) (p q : Pen) (v w : Device) : Type 0 where
  pub moved : OnOk result (Moved tells p q v w)
  pub place : OnOk result (q.at + length (pending q) ≡ target)
  pub stopped : OnErr result (Writes tells p.at (pending p) result v w)
