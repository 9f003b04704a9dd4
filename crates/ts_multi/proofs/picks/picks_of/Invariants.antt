use Rattle.std.proofs.Common.{◌≡◌, ◌<◌}
use Rattle.ts_multi.specs.Picks.{drawn, picks_of}
use Rattle.ts_multi.proofs.picks.picks_of.Given as goal

abbrev pub invariant-loop-index : goal.invariant-loop-index
invariant-loop-index l = record {
  picks : l.picks.items ≡ picks_of l.seed l._index;
  last : l.last ≡ drawn l.seed l._index;
  bound : l.last < 2147483648;
}
