-- Expressions that go on behind signs.
use Rattle.std.proofs.Common.{◌≡◌, List, ℕ, ◌++◌}
use Rattle.ts_text.specs.Phrase.{Phrase, Signs, onward}
use Rattle.ts_running.specs.declared.step.Operation.{Operation}
use Rattle.ts_running.specs.Grammar.{steps_of, Named, joined}
use Rattle.ts_running.specs.Reading.{NamedSteps}

-- a reader that goes on: an expression so far, and its steps
pub record Onward (whole : Phrase Named) (signs : Signs Operation) (phrase : Phrase Named) (text : List ℕ) (old new : NamedSteps) (rest : List ℕ) : Type 0 where
  pub expr : Named
  pub goes : whole text ≡ onward joined signs phrase expr rest
  pub steps : new ≡ old ++ steps_of expr
