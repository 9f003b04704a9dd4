use Rattle.std.proofs.Common.{◌≡◌, ◌^◌, ◌<◌, take}
use Rattle.ts_text.specs.Phrase.{magnitude_of, digit_count}
use Rattle.ts_text.proofs.digits.magnitude.Given as goal

abbrev pub invariant-loop-byte : goal.invariant-loop-byte
invariant-loop-byte l = record {
  value : l.value ≡ magnitude_of (take l.byte-index l.token);
  bound : l.value < 10 ^ digit_count (take l.byte-index l.token);
}
