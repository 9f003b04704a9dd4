use Rattle.std.proofs.Common.{◌≡◌, ◌+◌, ◌<◌, ◌^◌, ◌++◌, ℕ, List, length, Ok}
use Rattle.ts_syntax.specs.Mistakes.{mistakes_from}
use Rattle.ts_syntax.specs.Reading.{HasRead, IsReading, Told}
use Rattle.ts_syntax.proofs.checker.Checker.check_piece.Given as goal

abbrev pub invariant-loop-rest : goal.invariant-loop-rest
invariant-loop-rest g l = record {
  reading : IsReading l.self (length l.rest);
  read : (sofar : List ℕ) × (l.piece ≡ sofar ++ l.rest) × ((front : List ℕ) → length front + length l.piece < 2 ^ 32 → HasRead front l.fn.self →
      HasRead (front ++ sofar) l.self × Told g.O.Output.tells (mistakes_from front l.fn.self.reader.place sofar) (Ok (tt {0})) l.fn.self.found l.self.found (g.O.Output.heard l.fn.output) (g.O.Output.heard l.output));
}

abbrev pub decreases-loop-rest : goal.decreases-loop-rest
decreases-loop-rest g l = length l.rest
