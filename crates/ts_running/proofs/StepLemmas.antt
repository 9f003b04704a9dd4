-- What the steps of a list leave, and the list that is kept by them.
use Rattle.std.proofs.Common.{◌≡◌, ℕ, List, [], ◌∷◌, ◌++◌, Option, Some, None, Ok, refl, sym, ap, ◌∙◌}
use Rattle.std.proofs.lemmas.List.{reverse-reverse, reverse-append}
use Rattle.std.specs.Prelude.{reverse}
use Rattle.std.specs.Option.{option_map}
use mathlib.Core.List.{reverse_aux}
use Rattle.ts_text.specs.Phrase.{Read, ended, outcome}
use Rattle.ts_running.specs.declared.step.Step.{Step}
use Rattle.ts_running.specs.Grammar.{Expr, all_steps, Named, list_in, exprs_or_place, read_exprs}
use Rattle.ts_running.specs.Binding.{Parts, made_of_all, after_steps, exprs_of}
use Rattle.ts_running.specs.StepLaws.{all_make, exprs_again}
use Rattle.ts_running.specs.Reading.{NamedSteps, ReadsAll}
use Rattle.std.specs.Prelude.{length}

-- steps that are those of a list are those of the list that they give back
pub seen_as : {C : Type 0} (steps : List (Step C)) (exprs : List (Expr C)) → steps ≡ all_steps exprs → exprs_of steps ≡ exprs
seen_as {C} steps exprs is = ap (λ (l : List (Step C)). exprs_of l) is ∙ exprs_again exprs

pub kept : {C : Type 0} (steps : List (Step C)) (exprs : List (Expr C)) → steps ≡ all_steps exprs → steps ≡ all_steps (exprs_of steps)
kept {C} steps exprs is = is ∙ sym (ap (λ (l : List (Expr C)). all_steps l) (seen_as steps exprs is))

-- a text that was read
pub read_is : (text : List ℕ) (steps : NamedSteps) → ReadsAll (ended [] list_in) text [] steps [] → read_exprs text ≡ Ok (exprs_of steps)
read_is text steps o =
    ap (λ (r : Read (List Named)). exprs_or_place (outcome (length text) r)) o.read
    ∙ ap (λ (l : List Named). Ok l) (sym (seen_as steps o.exprs o.steps))

-- what steps leave is what is made of the list
pub made_some : {C A : Type 0} (parts : Parts C A) (exprs : List (Expr C)) (made : List A) → after_steps parts (all_steps exprs) [] ≡ Some (reverse made) → made_of_all parts exprs ≡ Some made
made_some {C} {A} parts exprs made is = of_all (made_of_all parts exprs) refl (sym (all_make parts exprs []) ∙ is) where
  same : (found : List A) → Some (reverse found) ≡ Some (reverse made) → found ≡ made
  same found at = let r : reverse found ≡ reverse made = cc in sym (reverse-reverse found) ∙ ap reverse r ∙ reverse-reverse made

  of_all : (found : Option (List A)) → made_of_all parts exprs ≡ found → option_map (λ l. reverse_aux l []) found ≡ Some (reverse made) → made_of_all parts exprs ≡ Some made
  of_all None e at = absurd (cc)
  of_all (Some found) e at = e ∙ ap (λ (l : List A). Some l) (same found at)

pub made_none : {C A : Type 0} (parts : Parts C A) (exprs : List (Expr C)) → after_steps parts (all_steps exprs) [] ≡ None → made_of_all parts exprs ≡ None
made_none {C} {A} parts exprs is = of_all (made_of_all parts exprs) refl (sym (all_make parts exprs []) ∙ is) where
  of_all : (found : Option (List A)) → made_of_all parts exprs ≡ found → option_map (λ l. reverse_aux l []) found ≡ None → made_of_all parts exprs ≡ None
  of_all None e at = e
  of_all (Some found) e at = absurd (cc)

pub steps_leave : {C A : Type 0} (parts : Parts C A) (exprs : List (Expr C)) (made : List A) → made_of_all parts exprs ≡ Some made → after_steps parts (all_steps exprs) [] ≡ Some (reverse made)
steps_leave {C} {A} parts exprs made is = all_make parts exprs [] ∙ ap (option_map (λ (l : List A). reverse_aux l [])) is

-- one more on a stack, whose last stands in front
pub reverse_more : {A : Type 0} (items : List A) (a : A) → reverse (items ++ a ∷ []) ≡ a ∷ reverse items
reverse_more items a = reverse-append items (a ∷ [])
