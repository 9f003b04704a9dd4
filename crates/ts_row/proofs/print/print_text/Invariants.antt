-- The bytes so far are printed.
use Rattle.std.proofs.Common.{◌≡◌, ◌++◌, ◌∷◌, take}
use Rattle.std.specs.List.{flat_map}
use Rattle.ts_row.specs.Row.{quoted}
use Rattle.ts_row.proofs.print.print_text.Given as goal

abbrev pub invariant-loop-byte : goal.invariant-loop-byte
invariant-loop-byte l = l.out ≡ l.fn.out ++ 39 ∷ flat_map quoted (take l.byte-index l.text)
