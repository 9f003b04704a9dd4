-- The statuses of a check that ends early, and at the end of its script.
use Rattle.std.specs.Prelude.{ℕ, Bool, true, false, Result, Ok, Err}
use Rattle.ts_syntax.specs.declared.checker.CheckFault.{CheckFault}
use Rattle.ts_syntax.specs.declared.checker.CheckFault.TheVariants.{Output, Memory}

-- the status of what ended a check
abbrev pub status_of : CheckFault → ℕ
status_of Output = 4
status_of Memory = 7

-- the status of a check whose script has ended, where mistakes were told, or none was
abbrev pub status_at_end : Result Unit CheckFault → Bool → ℕ
status_at_end (Ok done) true = 1
status_at_end (Ok done) false = 0
status_at_end (Err fault) found = status_of fault
