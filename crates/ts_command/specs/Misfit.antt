-- Why a statement isn't read.
use Rattle.std.specs.Prelude.{◌≡◌, ℕ, Result, Err}
use Rattle.ts_base.specs.declared.fault.Trouble.{Trouble}
use Rattle.ts_base.specs.declared.fault.Trouble.TheVariants.{Refused, Memory as NoMemory}
use Rattle.ts_base.specs.declared.refusal.Refusal.TheVariants.{Syntax}
use Rattle.ts_command.specs.declared.command.Command.{Command}

-- A refusal is of the statement, at its place; want of memory may come at any time; nothing else comes.
abbrev pub IsCause : Trouble → Result Command ℕ → Type 0
IsCause (Refused (Syntax place)) outcome = outcome ≡ Err place
IsCause (Refused other) outcome = ⊥
IsCause (NoMemory error) outcome = Unit {0}
