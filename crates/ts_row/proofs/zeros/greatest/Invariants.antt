use Rattle.std.proofs.Common.{◌≡◌, ◌==◌, take}
use Rattle.ts_row.specs.Decoding.{all_zero}
use Rattle.ts_row.proofs.zeros.greatest.Given as goal

abbrev pub invariant-loop-byte : goal.invariant-loop-byte
invariant-loop-byte l = (l.greatest == 0) ≡ all_zero (take l.byte-index l.bytes)
