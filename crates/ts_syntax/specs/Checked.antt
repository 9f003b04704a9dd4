-- What the check of a script does.
use Rattle.std.specs.Prelude.{◌≡◌, ◌≢◌, ◌⊎◌, ℕ, ◌<◌, ◌≤◌, Bool, IsTrue, [], length}
use Rattle.ts_disk.specs.Device.{Rose, Input}
use Rattle.ts_syntax.specs.Mistakes.{mistakes}
use Rattle.ts_syntax.specs.Output.{Heard}
use Rattle.ts_syntax.specs.Lines.{SaysAll, SaysFirst}

-- the script was read to its end
abbrev pub IsWhole : ℕ → Type 0
IsWhole status = (status ≡ 0) ⊎ (status ≡ 1)

-- What a check does, by its status. `tells` and `told` say whether the output tells what was said, and the source what
-- is left.
pub record Checked (tells told : Bool) (status : ℕ) (v w : Heard) (i j : Input) : Type 0 where
  -- at 0 and 1 exactly the mistakes of the script are told, each by a line
  pub all : IsWhole status → IsTrue tells → IsTrue told → SaysAll (mistakes i.left) v.said w.said
  -- else the first of them, the last line perhaps in part
  pub first : IsTrue tells → IsTrue told → SaysFirst (mistakes i.left) v.said w.said
  -- 0 comes only where there is none, and 1 only where there is one
  pub none : status ≡ 0 → IsTrue told → mistakes i.left ≡ []
  pub some : status ≡ 1 → IsTrue told → mistakes i.left ≢ []
  pub ended : IsWhole status → IsTrue told → (j.left ≡ []) × (length i.left ≤ 268435456)
  pub pull : status ≡ 3 → Rose i.pull_faults j.pull_faults
  pub output : status ≡ 4 → Rose v.say_faults w.say_faults
  -- a source gave more bytes than a run takes
  pub too_long : status ≡ 8 → IsTrue told → 268435456 < length i.left
  -- no count rises but the one that the status names
  pub no_pull_fault : status ≢ 3 → j.pull_faults ≡ i.pull_faults
  pub no_say_fault : status ≢ 4 → w.say_faults ≡ v.say_faults
  pub statuses : IsWhole status ⊎ ((status ≡ 3) ⊎ ((status ≡ 4) ⊎ ((status ≡ 7) ⊎ (status ≡ 8))))
