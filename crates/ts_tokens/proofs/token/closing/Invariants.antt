use Rattle.std.proofs.Common.{◌≡◌, ◌≤◌, ◌-◌, length, drop, IfSome}
use Rattle.ts_tokens.specs.Tokens.{closing, later, or_before}
use Rattle.ts_tokens.proofs.token.closing.Given as goal

abbrev pub invariant-loop-at : goal.invariant-loop-at
invariant-loop-at l = record {
  within : l.at ≤ length l.bytes;
  last : IfSome l.last (λ end. end ≤ length l.bytes);
  same : closing l.bytes ≡ or_before l.last (later l.at (closing (drop l.at l.bytes)));
}

abbrev pub decreases-loop-at : goal.decreases-loop-at
decreases-loop-at l = length l.bytes - l.at
