-- What instructions make of numbers is what the steps that they stand for make of operands.
use Rattle.std.proofs.Common.{◌≡◌, ℕ, max, List, [], ◌∷◌, map, Option, Some, None, Result, Ok, Err, refl, sym, ap, ◌∙◌, subst, inl, inr}
use Rattle.std.proofs.lemmas.Bool.{cases_Bool}
use Rattle.std.proofs.lemmas.List.{reverse-reverse}
use Rattle.std.proofs.lemmas.Simd.{map-map}
use Rattle.std.specs.Prelude.{ℤ, ◌+◌, nat_le, reverse, unwrap_or, is_some, IsSome, IfSome, OnOk, IfErr}
use Rattle.std.specs.Option.{option_map, option_and_then}
use mathlib.Core.List.{reverse_aux}
use Rattle.ts_row.specs.Row.{Values, Row, visible}
use Rattle.ts_running.specs.declared.step.Operation.{Operation}
use Rattle.ts_running.specs.declared.step.Operation.TheVariants.{Plus, Less, Times}
use Rattle.ts_running.specs.declared.step.Step.{Step}
use Rattle.ts_running.specs.declared.step.Step.TheVariants as step
use Rattle.ts_running.specs.declared.bind.Source.{Source}
use Rattle.ts_running.specs.declared.instruction.Instruction.{Instruction}
use Rattle.ts_running.specs.declared.fault.ApplyError.{ApplyError}
use Rattle.ts_running.specs.declared.fault.ApplyError.TheVariants.{Overflow, Memory}
use Rattle.ts_running.specs.Grammar.{all_steps}
use Rattle.ts_running.specs.Binding.{Parts, made_of_all, onto_stack, after_step, after_steps, exprs_of, Sourced, scale_if_small, part_scales, Operand, at_scale, numbers, numbers_of, over_numbers, value_if_any, numbers_row, applied, ApplyFails, Leaves}
use Rattle.ts_running.specs.StepLaws.{all_make}
use Rattle.ts_running.specs.Instructions.{of_scales, of_last_scales, instruction_of, instructions_of, step_of, exprs_in, IsKept, after_instruction, after_instructions}
use Rattle.ts_running.proofs.StepLemmas.{steps_leave}
use Rattle.ts_running.proofs.ApplyLemmas.{numbers_are}

-- instructions stand for the steps that they are made of

operation_is : (operation : Operation) (a b : ℕ) → step_of (of_scales operation a b) ≡ step.Joined operation
operation_is Plus a b = refl
operation_is Less a b = refl
operation_is Times a b = refl

last_is : (operation : Operation) (scales : List ℕ) → step_of (of_last_scales operation scales) ≡ step.Joined operation
last_is operation [] = operation_is operation 0 0
last_is operation (b ∷ []) = operation_is operation 0 0
last_is operation (b ∷ a ∷ scales) = operation_is operation a b

step_is : (scales : List ℕ) (s : Step Source) → step_of (instruction_of scales s) ≡ s
step_is scales (step.Column c) = refl
step_is scales (step.Digits n) = refl
step_is scales step.Opposite = refl
step_is scales (step.Joined operation) = last_is operation scales

steps_are : (scales : List ℕ) (steps : List (Step Source)) → map step_of (instructions_of scales steps) ≡ steps
steps_are scales [] = refl
steps_are scales (s ∷ steps) =
    let next : List ℕ = unwrap_or (after_step part_scales s scales) [] in
    ap (λ (x : Step Source). x ∷ map step_of (instructions_of next steps)) (step_is scales s)
    ∙ ap (λ (l : List (Step Source)). s ∷ l) (steps_are next steps)

module _ (instructions : List Instruction) (steps : List (Step Source)) (is : instructions ≡ instructions_of [] steps) where
  steps_again : map step_of instructions ≡ steps
  steps_again = ap (λ (l : List Instruction). map step_of l) is ∙ steps_are [] steps

  pub exprs_again : exprs_in instructions ≡ exprs_of steps
  exprs_again = ap (λ (l : List (Step Source)). exprs_of l) steps_again

  pub kept_again : steps ≡ all_steps (exprs_of steps) → IsKept (exprs_in instructions) instructions
  kept_again kept = is ∙ ap (instructions_of []) (kept ∙ ap (λ (l : List Sourced). all_steps l) (sym exprs_again))

-- operands as their numbers, and their scales

abbrev values : List Operand → List (Option ℤ)
values operands = map (λ o. o.value) operands

abbrev scales_of : List Operand → List ℕ
scales_of operands = map (λ o. o.scale) operands

-- the scale of what comes onto a stack
small_onto : (stack next : List ℕ) (n : ℕ) → onto_stack stack (scale_if_small n) ≡ Some next → n ∷ stack ≡ next
small_onto stack next n is = elim (cases_Bool (nat_le n 28)) [
  | inl t ↦ let at = rw t at is in let same : n ∷ stack ≡ next = cc in same
  | inr f ↦ absurd (let none = rw f at is in cc)
]

-- an instruction and a step leave the same numbers, and scales that are known before
record StepLeaves (numbers : List (Option ℤ)) (s : Step Source) (operands : List Operand) (next : List ℕ) : Type 0 where
  same : after_instruction numbers (instruction_of (scales_of operands) s) (values operands)
      ≡ option_map values (after_step (over_numbers numbers) s operands)
  scales : IfSome (after_step (over_numbers numbers) s operands) (λ made. scales_of made ≡ next)

onto_same : (scale : ℕ) (operands : List Operand) (made : Option (Option ℤ)) →
    onto_stack (values operands) made ≡ option_map values (onto_stack operands (at_scale scale made))
onto_same scale operands None = refl
onto_same scale operands (Some value) = refl

onto_scales : (scale : ℕ) (operands : List Operand) (made : Option (Option ℤ)) (next : List ℕ) → scale ∷ scales_of operands ≡ next →
    IfSome (onto_stack operands (at_scale scale made)) (λ stack. scales_of stack ≡ next)
onto_scales scale operands None next is = tt
onto_scales scale operands (Some value) next is = is

step_leaves : (numbers : List (Option ℤ)) (s : Step Source) (operands : List Operand) (next : List ℕ) →
    after_step part_scales s (scales_of operands) ≡ Some next → StepLeaves numbers s operands next
step_leaves numbers (step.Column c) operands next is = record { same = refl; scales = small_onto (scales_of operands) next c.scale is }
step_leaves numbers (step.Digits n) operands next is = record { same = refl; scales = let same : 0 ∷ scales_of operands ≡ next = cc in same }
step_leaves numbers step.Opposite [] next is = absurd (cc)
step_leaves numbers step.Opposite (a ∷ operands) next is = record {
  same = onto_same a.scale operands _;
  scales = onto_scales a.scale operands _ next (let same : a.scale ∷ scales_of operands ≡ next = cc in same);
}
step_leaves numbers (step.Joined operation) [] next is = absurd (cc)
step_leaves numbers (step.Joined operation) (b ∷ []) next is = absurd (cc)
step_leaves numbers (step.Joined Plus) (b ∷ a ∷ operands) next is = record {
  same = onto_same (max a.scale b.scale) operands _;
  scales = onto_scales (max a.scale b.scale) operands _ next (small_onto (scales_of operands) next (max a.scale b.scale) is);
}
step_leaves numbers (step.Joined Less) (b ∷ a ∷ operands) next is = record {
  same = onto_same (max a.scale b.scale) operands _;
  scales = onto_scales (max a.scale b.scale) operands _ next (small_onto (scales_of operands) next (max a.scale b.scale) is);
}
step_leaves numbers (step.Joined Times) (b ∷ a ∷ operands) next is = record {
  same = onto_same (a.scale + b.scale) operands _;
  scales = onto_scales (a.scale + b.scale) operands _ next (small_onto (scales_of operands) next (a.scale + b.scale) is);
}

-- and so do all of them
instructions_leave : (numbers : List (Option ℤ)) (steps : List (Step Source)) (operands : List Operand) →
    IsSome (after_steps part_scales steps (scales_of operands)) →
    after_instructions numbers (instructions_of (scales_of operands) steps) (values operands)
    ≡ option_map values (after_steps (over_numbers numbers) steps operands)
instructions_leave numbers [] operands there = refl
instructions_leave numbers (s ∷ steps) operands there =
    of_next (λ made. instructions_leave numbers steps made) (after_step part_scales s (scales_of operands)) refl there where
      of_made : ((made : List Operand) → IsSome (after_steps part_scales steps (scales_of made)) →
          after_instructions numbers (instructions_of (scales_of made) steps) (values made)
          ≡ option_map values (after_steps (over_numbers numbers) steps made)) → (next : List ℕ) → IsSome (after_steps part_scales steps next) →
          (made : Option (List Operand)) → IfSome made (λ stack. scales_of stack ≡ next) →
          option_and_then (λ stack. after_instructions numbers (instructions_of next steps) stack) (option_map values made)
          ≡ option_map values (option_and_then (λ stack. after_steps (over_numbers numbers) steps stack) made)
      of_made others next more None is = refl
      of_made others next more (Some stack) is =
          ap (λ (l : List ℕ). after_instructions numbers (instructions_of l steps) (values stack)) (sym is)
          ∙ others stack (subst (λ (l : List ℕ). IsSome (after_steps part_scales steps l)) (sym is) more)

      of_next : ((made : List Operand) → IsSome (after_steps part_scales steps (scales_of made)) →
          after_instructions numbers (instructions_of (scales_of made) steps) (values made)
          ≡ option_map values (after_steps (over_numbers numbers) steps made)) → (found : Option (List ℕ)) → after_step part_scales s (scales_of operands) ≡ found →
          IsSome (option_and_then (λ next. after_steps part_scales steps next) found) →
          after_instructions numbers (instructions_of (scales_of operands) (s ∷ steps)) (values operands)
          ≡ option_map values (after_steps (over_numbers numbers) (s ∷ steps) operands)
      of_next others None e more = absurd (cc)
      of_next others (Some next) e more =
          let leaves : StepLeaves numbers s operands next = step_leaves numbers s operands next e in
          ap (λ (o : Option (List ℕ)). option_and_then (λ stack. after_instructions numbers (instructions_of (unwrap_or o []) steps) stack)
          (after_instruction numbers (instruction_of (scales_of operands) s) (values operands))) e
          ∙ ap (λ (o : Option (List (Option ℤ))). option_and_then (λ stack. after_instructions numbers (instructions_of next steps) stack) o) leaves.same
          ∙ of_made others next more (after_step (over_numbers numbers) s operands) leaves.scales

-- the numbers of operands in reverse
values_back : (operands others : List Operand) → values (reverse_aux operands others) ≡ reverse_aux (values operands) (values others)
values_back [] others = refl
values_back (o ∷ operands) others = values_back operands (o ∷ others)

-- the row that expressions give
abbrev row_of : Option (List Operand) → Option Row
row_of made = option_map (λ operands. visible (map (λ o. value_if_any o.value) operands)) made

module _ (exprs : List Sourced) (instructions : List Instruction) (scales : List ℕ) (kept : IsKept exprs instructions)
    (there : made_of_all part_scales exprs ≡ Some scales) (row : Values) where
  abbrev made : Option (List (Option ℤ))
  made = after_instructions (numbers_of row) instructions []

  instructions_make : made ≡ option_map (λ operands. reverse (values operands)) (made_of_all (numbers row) exprs)
  instructions_make =
      let small : IsSome (after_steps part_scales (all_steps exprs) []) = ap is_some (steps_leave part_scales exprs scales there) in
      ap (λ (l : List Instruction). after_instructions (numbers_of row) l []) kept
      ∙ instructions_leave (numbers_of row) (all_steps exprs) [] small
      ∙ ap (λ (p : Parts Source Operand). option_map values (after_steps p (all_steps exprs) [])) (numbers_are row)
      ∙ ap (option_map values) (all_make (numbers row) exprs [])
      ∙ by_made (made_of_all (numbers row) exprs) where
        by_made : (found : Option (List Operand)) →
            option_map values (option_map (λ operands. reverse_aux operands []) found) ≡ option_map (λ operands. reverse (values operands)) found
        by_made None = refl
        by_made (Some operands) = ap (λ (l : List (Option ℤ)). Some l) (values_back operands [])

  pub apply_gives : (left : List (Option ℤ)) → made ≡ Some (reverse left) → applied exprs row ≡ Some (numbers_row left)
  apply_gives left is = by_made (made_of_all (numbers row) exprs) refl (sym instructions_make ∙ is) where
    by_made : (found : Option (List Operand)) → made_of_all (numbers row) exprs ≡ found →
        option_map (λ operands. reverse (values operands)) found ≡ Some (reverse left) → applied exprs row ≡ Some (numbers_row left)
    by_made None e at = absurd (cc)
    by_made (Some operands) e at =
        let back : reverse (values operands) ≡ reverse left = cc in
        let same : values operands ≡ left = sym (reverse-reverse (values operands)) ∙ ap reverse back ∙ reverse-reverse left in
        ap row_of e
        ∙ ap (λ (l : Values). Some (visible l)) (sym (map-map value_if_any (λ (o : Operand). o.value) operands))
        ∙ ap (λ (l : List (Option ℤ)). Some (numbers_row l)) same

  pub apply_fails : (error : ApplyError) → ApplyFails made error → ApplyFails (applied exprs row) error
  apply_fails Overflow is = by_made (made_of_all (numbers row) exprs) refl (sym instructions_make ∙ is) where
    by_made : (found : Option (List Operand)) → made_of_all (numbers row) exprs ≡ found →
        option_map (λ operands. reverse (values operands)) found ≡ None → applied exprs row ≡ None
    by_made None e at = ap row_of e
    by_made (Some operands) e at = absurd (cc)
  apply_fails (Memory error) is = tt

  pub apply_leaves : {A : Type 0} (numbers left : List (Option ℤ)) (done : Result A ApplyError) → numbers ≡ numbers_of row →
      OnOk done (after_instructions numbers instructions [] ≡ Some (reverse left)) →
      IfErr done (ApplyFails (after_instructions numbers instructions [])) → Leaves (applied exprs row) left done
  apply_leaves numbers left (Ok a) same ok cause =
      apply_gives left (ap (λ (l : List (Option ℤ)). after_instructions l instructions []) (sym same) ∙ ok)
  apply_leaves numbers left (Err error) same ok cause =
      apply_fails error (subst (λ (l : List (Option ℤ)). ApplyFails (after_instructions l instructions []) error) same cause)
