-- Rows that are kept as long as a reply may have them, and counted beyond.
use Rattle.std.specs.Prelude.{◌≡◌, ℕ, ◌<◌, ◌≤◌, List, length, Result, Ok, Err, Vec}
use Rattle.ts_base.specs.declared.refusal.Refusal.{Refusal}
use Rattle.ts_base.specs.declared.refusal.Refusal.TheVariants.{TooLarge}
use Rattle.ts_base.specs.declared.fault.Trouble.{Trouble}
use Rattle.ts_base.specs.declared.fault.Trouble.TheVariants.{Refused, Memory}
use Rattle.ts_base.specs.Answer.{most_rows}
use Rattle.ts_combine.specs.declared.rows.Rows.{Rows}

-- so many rows are counted, and they are kept where they aren't too many
pub record Gathers {T : Type 0} (rows : Rows T) (all : List T) : Type 0 where
  pub number : rows.count ≡ length all
  pub few : length all ≤ most_rows → rows.kept.items ≡ all

-- more rows than a reply may have
abbrev pub IsTooLarge : Refusal → Type 0
IsTooLarge why = (n : ℕ) × (why ≡ TooLarge n) × (most_rows < n)

-- what a refusal tells, whatever the elements are
abbrev pub IsRefusedFor : {T A : Type 0} → (Refusal → Type 0) → Result (Vec T A) Trouble → Type 0
IsRefusedFor cause (Ok rows) = Unit {0}
IsRefusedFor cause (Err (Refused why)) = cause why
IsRefusedFor cause (Err (Memory error)) = Unit {0}
