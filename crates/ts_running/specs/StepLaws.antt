-- The steps of an expression, carried out over a stack, leave there what is made of it.
use Rattle.std.proofs.Common.{◌≡◌, List, [], ◌∷◌, ◌++◌, Option, Some, None, refl, ap, ◌∙◌, append_assoc}
use Rattle.std.proofs.lemmas.List.{reverse-reverse}
use Rattle.std.specs.Prelude.{reverse, unwrap_or}
use Rattle.std.specs.Option.{option_map, option_and_then}
use mathlib.Core.List.{reverse_aux}
use Rattle.ts_running.specs.declared.step.Step.{Step}
use Rattle.ts_running.specs.declared.step.Step.TheVariants as step
use Rattle.ts_running.specs.Grammar.{Expr, Column, Digits, Opposite, Joined, steps_of, all_steps}
use Rattle.ts_running.specs.Binding.{Parts, of_two, made_of, with_others, made_of_all, onto_stack, after_steps}
use Rattle.ts_running.specs.Binding.{building, exprs_of}

-- steps over a stack with one more, if there is one
abbrev pub over_more : {C A : Type 0} → Parts C A → List (Step C) → List A → Option A → Option (List A)
over_more parts steps stack made = option_and_then (λ a. after_steps parts steps (a ∷ stack)) made

onto_more : {C A : Type 0} (parts : Parts C A) (steps : List (Step C)) (stack : List A) (made : Option A) →
    option_and_then (λ next. after_steps parts steps next) (onto_stack stack made) ≡ over_more parts steps stack made
onto_more parts steps stack None = refl
onto_more parts steps stack (Some a) = refl

pub steps_make : {C A : Type 0} (parts : Parts C A) (e : Expr C) (steps : List (Step C)) (stack : List A) →
    after_steps parts (steps_of e ++ steps) stack ≡ over_more parts steps stack (made_of parts e)
steps_make parts (Column c) steps stack = onto_more parts steps stack (parts.column c)
steps_make parts (Digits n) steps stack = onto_more parts steps stack (parts.digits n)
steps_make {C} {A} parts (Opposite e) steps stack =
    ap (λ (l : List (Step C)). after_steps parts l stack) (append_assoc (steps_of e) (step.Opposite ∷ []) steps)
    ∙ steps_make parts e (step.Opposite ∷ steps) stack ∙ of_made (made_of parts e) where
      of_made : (made : Option A) →
          over_more parts (step.Opposite ∷ steps) stack made
          ≡ over_more parts steps stack (option_and_then parts.opposite made)
      of_made None = refl
      of_made (Some a) = onto_more parts steps stack (parts.opposite a)
steps_make {C} {A} parts (Joined operation a b) steps stack =
    ap (λ (l : List (Step C)). after_steps parts l stack)
    (append_assoc (steps_of a) (steps_of b ++ step.Joined operation ∷ []) steps)
    ∙ steps_make parts a ((steps_of b ++ step.Joined operation ∷ []) ++ steps) stack
    ∙ of_first (λ x. steps_make parts b (step.Joined operation ∷ steps) (x ∷ stack)) (made_of parts a) where
      last : (x : A) (made : Option A) → over_more parts (step.Joined operation ∷ steps) (x ∷ stack) made ≡
          over_more parts steps stack (of_two (parts.joined operation) (Some x) made)
      last x None = refl
      last x (Some y) = onto_more parts steps stack (parts.joined operation x y)

      of_first : ((x : A) → after_steps parts (steps_of b ++ step.Joined operation ∷ steps) (x ∷ stack) ≡
          over_more parts (step.Joined operation ∷ steps) (x ∷ stack) (made_of parts b)) → (made : Option A) →
          over_more parts ((steps_of b ++ step.Joined operation ∷ []) ++ steps) stack made ≡
          over_more parts steps stack (of_two (parts.joined operation) made (made_of parts b))
      of_first second None = refl
      of_first second (Some x) =
          ap (λ (l : List (Step C)). after_steps parts l (x ∷ stack))
          (append_assoc (steps_of b) (step.Joined operation ∷ []) steps)
          ∙ second x ∙ last x (made_of parts b)

-- and so do those of a list, one after the other
pub all_make : {C A : Type 0} (parts : Parts C A) (exprs : List (Expr C)) (stack : List A) →
    after_steps parts (all_steps exprs) stack ≡ option_map (λ made. reverse_aux made stack) (made_of_all parts exprs)
all_make parts [] stack = refl
all_make {C} {A} parts (e ∷ exprs) stack =
    steps_make parts e (all_steps exprs) stack ∙ of_made (λ a. all_make parts exprs (a ∷ stack)) (made_of parts e) where
      rest : (a : A) (made : Option (List A)) → option_map (λ others. reverse_aux others (a ∷ stack)) made ≡
          option_map (λ all. reverse_aux all stack) (with_others (Some a) made)
      rest a None = refl
      rest a (Some others) = refl

      of_made : ((a : A) → after_steps parts (all_steps exprs) (a ∷ stack) ≡
          option_map (λ made. reverse_aux made (a ∷ stack)) (made_of_all parts exprs)) →
          (made : Option A) → over_more parts (all_steps exprs) stack made ≡
          option_map (λ all. reverse_aux all stack) (with_others made (made_of_all parts exprs))
      of_made others None = refl
      of_made others (Some a) = others a ∙ rest a (made_of_all parts exprs)

-- what is built is the expression

building_is : {C : Type 0} (e : Expr C) → made_of building e ≡ Some e
building_is (Column c) = refl
building_is (Digits n) = refl
building_is {C} (Opposite e) = ap (option_and_then (λ (x : Expr C). Some (Opposite x))) (building_is e)
building_is {C} (Joined operation a b) =
    ap (λ (x : Option (Expr C)). of_two (λ y z. Some (Joined operation y z)) x (made_of building b)) (building_is a)
    ∙ ap (λ (x : Option (Expr C)). of_two (λ y z. Some (Joined operation y z)) (Some a) x) (building_is b)

building_all : {C : Type 0} (exprs : List (Expr C)) → made_of_all building exprs ≡ Some exprs
building_all [] = refl
building_all {C} (e ∷ exprs) =
    ap (λ (x : Option (Expr C)). with_others x (made_of_all building exprs)) (building_is e)
    ∙ ap (λ (x : Option (List (Expr C))). with_others (Some e) x) (building_all exprs)

-- steps give their expressions back
pub exprs_again : {C : Type 0} (exprs : List (Expr C)) → exprs_of (all_steps exprs) ≡ exprs
exprs_again {C} exprs =
    ap (λ (x : Option (List (Expr C))). reverse (unwrap_or x []))
    (all_make building exprs [] ∙ ap (option_map (λ (l : List (Expr C)). reverse_aux l [])) (building_all exprs))
    ∙ reverse-reverse exprs
