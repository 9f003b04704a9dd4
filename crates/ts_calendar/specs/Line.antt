-- The starts of intervals on a line that goes on beyond the stamps on both sides.
use Rattle.std.specs.Prelude.{ℕ, ◌*◌, ◌+◌, Bool, false, Option, Some, None, if◌then◌else◌, int_lt, not, ℤ, pos, ◌+ℤ◌}
use Rattle.std.specs.Prelude.{◌-ℤ◌, ◌*ℤ◌, ◌≤ℤ◌, ◌<ℤ◌, unsigned_abs}
use Rattle.std.specs.Int.{int_div_euclid, int_rem_euclid}
use Rattle.jiff_core.specs.Calendar.{days_from_civil}
use Rattle.ts_base.specs.declared.unit.Unit as unit
use Rattle.ts_base.specs.Moment.{civil_of, day_of, clock_of, month_of}
use Rattle.ts_pattern.specs.Patterns.{is_monthly, size}

-- a day and a time in month number n; beyond the years 1 to 9999 one number a month, in their order
abbrev pub month_line : ℕ → ℕ → ℤ → ℤ
month_line day clock n =
    if not (int_lt (pos 0) (int_div_euclid n (pos 12))) then n -ℤ pos 6_213_559_680_000_012
    else (if not (int_lt (int_div_euclid n (pos 12)) (pos 10_000)) then n +ℤ pos 25_340_230_079_880_000
    else days_from_civil (int_div_euclid n (pos 12)) (unsigned_abs (int_rem_euclid n (pos 12)) + 1) day
    *ℤ pos 8_640_000_000 +ℤ pos clock)

-- the start of interval k on the line
unfoldable pub line_at : unit.Unit → ℤ → ℤ → ℤ
line_at u first k =
    if is_monthly u
    then month_line (civil_of (day_of first)).day (clock_of first)
    (month_of (civil_of (day_of first)) +ℤ k *ℤ pos (size u))
    else first +ℤ k *ℤ pos (size u * 100_000)

-- interval k begins at or before the stamp, and the next one after it
pub record IsLineAround (u : unit.Unit) (first s k : ℤ) : Type 0 where
  pub after : line_at u first k ≤ℤ s
  pub before : s <ℤ line_at u first (k +ℤ pos 1)

-- a start that is there and comes after the stamp
abbrev pub comes_after : ℤ → Option ℤ → Bool
comes_after s None = false
comes_after s (Some from) = int_lt s from
