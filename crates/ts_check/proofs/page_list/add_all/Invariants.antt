-- What was found of the first pages is added.
use Rattle.ts_model.specs.Definitions.{Definitions}
use Rattle.ts_check.specs.Judged.{AreAnswers, AllAdded}
use Rattle.ts_check.proofs.page_list.add_all.Given as goal

abbrev pub invariant-loop-place : goal.invariant-loop-place
invariant-loop-place l = (d : Definitions) → AreAnswers d l.list l.answers → AllAdded d l.list l.place l.fn.elements l.elements
