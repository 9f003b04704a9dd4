-- What a reader of expressions does: it adds the steps of what it reads.
use Rattle.std.specs.Prelude.{◌≡◌, ℕ, List, ◌++◌, Ok}
use Rattle.ts_text.specs.Phrase.{Phrase}
use Rattle.ts_running.specs.declared.step.Step.{Step}
use Rattle.ts_running.specs.Grammar.{steps_of, all_steps, Named}

-- steps over columns that are given by their names
abbrev pub NamedSteps : Type 0
NamedSteps = List (Step (List ℕ))

-- an expression is read, and its steps are added
pub record Reads (phrase : Phrase Named) (text : List ℕ) (old new : NamedSteps) (rest : List ℕ) : Type 0 where
  pub expr : Named
  pub read : phrase text ≡ Ok (expr, rest)
  pub steps : new ≡ old ++ steps_of expr

-- expressions are read, and their steps are added
pub record ReadsAll (phrase : Phrase (List Named)) (text : List ℕ) (old new : NamedSteps) (rest : List ℕ) : Type 0 where
  pub exprs : List Named
  pub read : phrase text ≡ Ok (exprs, rest)
  pub steps : new ≡ old ++ all_steps exprs
