use Rattle.std.proofs.Common.{◌≡◌, ◌-◌, length}
use Rattle.ts_text.specs.Phrase.{onto}
use Rattle.ts_expr.specs.Aggregates.{further}
use Rattle.ts_expr.proofs.read.read_items.Given as goal

abbrev pub invariant-loop : goal.invariant-loop
invariant-loop l = record {
  same : onto l.items.items (further (32 - l.counter) l.rest) ≡ onto l.fn.items.items (further 31 l.text);
  count : length l.items.items ≡ l.counter;
}
