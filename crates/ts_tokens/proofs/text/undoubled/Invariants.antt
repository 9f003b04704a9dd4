use Rattle.std.proofs.Common.{◌≡◌, ◌++◌, length}
use Rattle.ts_tokens.specs.Tokens.{undoubled}
use Rattle.ts_tokens.proofs.text.undoubled.Given as goal

abbrev pub invariant-loop-rest : goal.invariant-loop-rest
invariant-loop-rest l = l.bytes ++ undoubled l.rest ≡ undoubled l.raw

abbrev pub decreases-loop-rest : goal.decreases-loop-rest
decreases-loop-rest l = length l.rest
