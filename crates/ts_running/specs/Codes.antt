-- How lists of expressions are told apart: by the steps of all of them, each as a list of numbers.
use Rattle.std.specs.Prelude.{◌≡◌, ℕ, zero, suc, List, [], ◌∷◌, map}
use Rattle.std.specs.Coded.{Coded, code_by, coded×, coded_ℕ, coded_list}
use Rattle.std.proofs.Common.{refl, ap, ◌∙◌}
use Rattle.ts_running.specs.declared.step.Operation.{Operation}
use Rattle.ts_running.specs.declared.step.Operation.TheVariants.{Plus, Less, Times}
use Rattle.ts_running.specs.declared.step.Step.{Step}
use Rattle.ts_running.specs.declared.step.Step.TheVariants as step
use Rattle.ts_running.specs.Grammar.{Expr, all_steps}
use Rattle.ts_running.specs.Binding.{exprs_of}
use Rattle.ts_running.specs.StepLaws.{exprs_again}

-- an operation as a number, and back
abbrev pub number_of : Operation → ℕ
number_of Plus = 0
number_of Less = 1
number_of Times = 2

abbrev pub operation_of : ℕ → Operation
operation_of zero = Plus
operation_of (suc zero) = Less
operation_of (suc (suc n)) = Times

-- the first number
abbrev pub first_of : List ℕ → ℕ
first_of [] = 0
first_of (n ∷ numbers) = n

-- a step as a kind and numbers, and back
abbrev pub coded_step : {C : Type 0} → (C → List ℕ) → Step C → ℕ × List ℕ
coded_step numbers (step.Column c) = (0, numbers c)
coded_step numbers (step.Digits n) = (1, n ∷ [])
coded_step numbers step.Opposite = (2, [])
coded_step numbers (step.Joined operation) = (3, number_of operation ∷ [])

abbrev pub step_of_kind : {C : Type 0} → (List ℕ → C) → ℕ → List ℕ → Step C
step_of_kind column zero numbers = step.Column (column numbers)
step_of_kind column (suc zero) numbers = step.Digits (first_of numbers)
step_of_kind column (suc (suc zero)) numbers = step.Opposite
step_of_kind column (suc (suc (suc n))) numbers = step.Joined (operation_of (first_of numbers))

abbrev pub step_of_code : {C : Type 0} → (List ℕ → C) → ℕ × List ℕ → Step C
step_of_code column code = step_of_kind column code.0 code.1

pub step_again : {C : Type 0} (numbers : C → List ℕ) (column : List ℕ → C) → ((c : C) → column (numbers c) ≡ c) →
    (s : Step C) → step_of_code column (coded_step numbers s) ≡ s
step_again {C} numbers column same (step.Column c) = ap (λ (x : C). step.Column x) (same c)
step_again numbers column same (step.Digits n) = refl
step_again numbers column same step.Opposite = refl
step_again numbers column same (step.Joined Plus) = refl
step_again numbers column same (step.Joined Less) = refl
step_again numbers column same (step.Joined Times) = refl

pub steps_again : {C : Type 0} (numbers : C → List ℕ) (column : List ℕ → C) → ((c : C) → column (numbers c) ≡ c) →
    (steps : List (Step C)) → map (step_of_code column) (map (coded_step numbers) steps) ≡ steps
steps_again numbers column same [] = refl
steps_again {C} numbers column same (s ∷ steps) =
    ap (λ (x : Step C). x ∷ map (step_of_code column) (map (coded_step numbers) steps))
    (step_again numbers column same s)
    ∙ ap (λ (l : List (Step C)). s ∷ l) (steps_again numbers column same steps)

-- lists of expressions over columns that are lists of numbers
abbrev pub exprs_code : {C : Type 0} → (numbers : C → List ℕ) → (column : List ℕ → C) →
    ((c : C) → column (numbers c) ≡ c) → Coded (List (Expr C))
exprs_code {C} numbers column same =
    code_by (List (ℕ × List ℕ)) (coded_list (coded× coded_ℕ (coded_list coded_ℕ)))
    (λ exprs. map (coded_step numbers) (all_steps exprs))
    (λ codes. exprs_of (map (step_of_code column) codes))
    (λ exprs. ap (λ (steps : List (Step C)). exprs_of steps) (steps_again numbers column same (all_steps exprs))
    ∙ exprs_again exprs)

-- over names
abbrev pub named_code : Coded (List (Expr (List ℕ)))
named_code = exprs_code (λ name. name) (λ name. name) (λ name. refl)
