use Rattle.std.proofs.Common.{◌≡◌, ◌++◌, ℕ, List, IsTrue}
use Rattle.ts_base.specs.Name.{is_text}
use Rattle.ts_syntax.proofs.line.push_words.Given as goal

abbrev pub invariant-loop-byte : goal.invariant-loop-byte
invariant-loop-byte l = (shown : List ℕ) × (l.line ≡ l.fn.line ++ shown) × IsTrue (is_text shown)
