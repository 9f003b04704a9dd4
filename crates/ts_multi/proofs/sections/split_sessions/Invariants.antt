use Rattle.std.proofs.Common.{◌≡◌, ◌++◌, vec_len}
use Rattle.ts_multi.specs.Sections.{sections}
use Rattle.ts_multi.proofs.sections.split_sessions.Given as goal

abbrev pub invariant-loop-index : goal.invariant-loop-index
invariant-loop-index l = record {
  count : vec_len l.found ≡ l._index;
  sections : sections l.bytes ≡ l.found.items ++ sections l.text;
}
