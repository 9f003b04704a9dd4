use Rattle.std.proofs.Common.{◌≡◌, ◌^◌, ◌<◌, take}
use Rattle.std.specs.List.{fold}
use Rattle.ts_base.specs.Moment.{with_digit}
use Rattle.ts_rolling.proofs.keys.number_of.Given as goal

abbrev pub invariant-loop-c : goal.invariant-loop-c
invariant-loop-c l = record {
  value : l.n ≡ fold with_digit 0 (take l.c-index l.text);
  bound : l.n < 10 ^ l.c-index;
}
