use Rattle.std.proofs.Common.{◌≡◌, ◌≤◌, ◌-◌, [], take, length, IfSome}
use Rattle.ts_items.specs.Items.{items_from, place_from}
use Rattle.ts_items.proofs.reader.Reader.feed.Given as goal

abbrev pub invariant-loop-taken : goal.invariant-loop-taken
invariant-loop-taken l = record {
  within : l.taken ≤ length l.piece;
  none : items_from l.fn.self.place (take l.taken l.piece) ≡ [];
  place : place_from l.fn.self.place (take l.taken l.piece) ≡ l.self.place;
  text : IfSome l.self.place (λ t. l.self.text ≡ t);
}

abbrev pub decreases-loop-taken : goal.decreases-loop-taken
decreases-loop-taken l = length l.piece - l.taken
