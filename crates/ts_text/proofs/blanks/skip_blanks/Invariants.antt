use Rattle.std.proofs.Common.{◌≡◌, ◌≤◌, length}
use Rattle.ts_text.specs.Phrase.{unblanked}
use Rattle.ts_text.proofs.blanks.skip_blanks.Given as goal

abbrev pub invariant-loop-rest : goal.invariant-loop-rest
invariant-loop-rest l = (unblanked l.rest ≡ unblanked l.bytes) × (length l.rest ≤ length l.bytes)

abbrev pub decreases-loop-rest : goal.decreases-loop-rest
decreases-loop-rest l = length l.rest
