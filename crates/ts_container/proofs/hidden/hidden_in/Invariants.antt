-- The spans before an index have marked the slots of those with hidden elements.
use Rattle.std.proofs.Common.{◌≡◌, ◌<◌, ℕ, true, IsTrue, get_or}
use Rattle.ts_container.specs.declared.span.Span.{Span}
use Rattle.ts_container.proofs.hidden.hidden_in.Given as goal

abbrev pub invariant-loop-span : goal.invariant-loop-span
invariant-loop-span l = (k : ℕ) (d : Span) → k < l.span-index → IsTrue (get_or l.spans k d).hidden → get_or l.marks.items (get_or l.spans k d).slot true ≡ true
