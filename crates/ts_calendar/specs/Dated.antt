-- The place of a stamp in its month.
use Rattle.std.specs.Prelude.{◌≡◌, ◌+◌, ◌-◌, ◌*◌, ℤ, pos, neg_ℤ, ◌-ℤ◌, ◌≤ℤ◌}
use Rattle.ts_base.specs.Moment.{IsStamp, civil_of, day_of, clock_of, month_of, day_of_month}

-- the number of a stamp's month, and the units from the month's first moment to the stamp, less those from 1 March of
-- the year 0 to 1970
pub record IsInMonth (t month within : ℤ) : Type 0 where
  pub stamp : IsStamp t
  pub number : month ≡ month_of (civil_of (day_of t))
  pub rest : within ≡ pos ((day_of_month t - 1) * 8_640_000_000 + clock_of t) -ℤ pos 6_216_203_520_000_000
  pub from : pos 12 ≤ℤ month
  pub to : month ≤ℤ pos 119_999
  pub after : neg_ℤ (pos 6_216_203_520_000_000) ≤ℤ within
  pub before : within ≤ℤ pos 267_840_000_000
