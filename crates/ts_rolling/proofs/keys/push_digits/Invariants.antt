use Rattle.std.proofs.Common.{◌≡◌, ◌+◌, ◌^◌, ◌<◌, ◌≤◌, ◌++◌}
use Rattle.arrayvec.specs.ArrayVec.{array_vec_len}
use Rattle.ts_rolling.specs.Sets.{digits_of}
use Rattle.ts_rolling.proofs.keys.push_digits.Given as goal

abbrev pub decreases-loop-left : goal.decreases-loop-left
decreases-loop-left l = l.left

abbrev pub invariant-loop-left : goal.invariant-loop-left
invariant-loop-left l = record {
  written : l.text.items ++ digits_of l.left l.rest ≡ l.fn.text.items ++ digits_of l.width l.number;
  few : l.rest < 10 ^ l.left;
  within : l.left ≤ l.width;
  room : array_vec_len l.text + l.left ≡ array_vec_len l.fn.text + l.width;
}
