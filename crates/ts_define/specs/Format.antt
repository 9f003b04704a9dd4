-- What the format of a volume has.
use Rattle.std.specs.Prelude.{◌≡◌, ℕ, Bool, false}
use Rattle.ts_model.specs.Catalogue.{old_format}

-- on a volume of format 1 nothing is asked for that goes beyond it
abbrev pub IsInFormat : Bool → ℕ → Type 0
IsInFormat beyond format = format ≡ old_format → beyond ≡ false
