use Rattle.std.proofs.Common.{◌+◌, ◌<◌, ◌^◌, ◌++◌, List, ℕ, length, take}
use Rattle.ts_syntax.specs.Places.{IsBehind}
use Rattle.ts_syntax.proofs.position.Position.behind.Given as goal

abbrev pub invariant-loop-byte : goal.invariant-loop-byte
invariant-loop-byte l = (before : List ℕ) → length before + length l.bytes < 2 ^ 32 → IsBehind before l.fn.self → IsBehind (before ++ take l.byte-index l.bytes) l.position
