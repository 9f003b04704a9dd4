use Rattle.std.proofs.Common.{◌≡◌, ℕ, ◌<◌, ◌≤◌, [], length}
use Rattle.std.specs.List.{AllWithin}
use Rattle.ts_space.specs.Directory.{places_of}
use Rattle.ts_container.specs.declared.span.Span.{Span}
use Rattle.ts_container.specs.Spans.{places_in}
use Rattle.ts_container.proofs.directory.directory_of.Given as goal

abbrev pub invariant-loop-slot : goal.invariant-loop-slot
invariant-loop-slot l = record {
  within : l.first ≤ length l.spans;
  before : AllWithin (λ (a : Span). a.slot < l.slot) l.spans 0 l.first;
  behind : AllWithin (λ (a : Span). l.slot ≤ a.slot) l.spans l.first (length l.spans);
  slots : length l.space.lists ≡ 4096;
  places : (slot : ℕ) → slot < l.slot → places_of slot l.space ≡ places_in slot l.spans;
  none : (slot : ℕ) → l.slot ≤ slot → places_of slot l.space ≡ [];
}
