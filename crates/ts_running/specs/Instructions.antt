-- The instructions that expressions over columns are kept as, and what they make of a stack of numbers.
use Rattle.std.specs.Prelude.{◌≡◌, ℕ, ◌-◌, ◌^◌, max, ℤ, pos, neg_ℤ, ◌+ℤ◌, ◌-ℤ◌, ◌*ℤ◌, List, [], ◌∷◌, map, unwrap_or}
use Rattle.std.specs.Prelude.{Option, Some, None, slice_index_or}
use Rattle.std.specs.Option.{option_and_then}
use Rattle.ts_running.specs.declared.step.Operation.{Operation}
use Rattle.ts_running.specs.declared.step.Operation.TheVariants.{Plus, Less, Times}
use Rattle.ts_running.specs.declared.step.Step.{Step}
use Rattle.ts_running.specs.declared.step.Step.TheVariants as step
use Rattle.ts_running.specs.declared.bind.Source.{Source}
use Rattle.ts_running.specs.declared.instruction.Powers.{Powers}
use Rattle.ts_running.specs.declared.instruction.Instruction.{Instruction}
use Rattle.ts_running.specs.declared.instruction.Instruction.TheVariants as instruction
use Rattle.ts_running.specs.Grammar.{all_steps}
use Rattle.ts_running.specs.Binding.{of_two, over_one, over_two, after_step, exprs_of, Sourced, part_scales, checked}
use Rattle.ts_running.specs.Binding.{of_number, of_numbers}

-- what brings two operands of these scales to the greater one
abbrev pub powers : ℕ → ℕ → Powers
powers a b = record { left = pos (10 ^ (max a b - a)); right = pos (10 ^ (max a b - b)) }

-- an operation on two operands of these scales
abbrev pub of_scales : Operation → ℕ → ℕ → Instruction
of_scales Plus a b = instruction.Plus (powers a b)
of_scales Less a b = instruction.Less (powers a b)
of_scales Times a b = instruction.Times

-- on the last two of a stack of scales, whose last one stands in front
abbrev pub of_last_scales : Operation → List ℕ → Instruction
of_last_scales operation [] = of_scales operation 0 0
of_last_scales operation (b ∷ []) = of_scales operation 0 0
of_last_scales operation (b ∷ a ∷ scales) = of_scales operation a b

-- a step over a stack of operands of such scales
abbrev pub instruction_of : List ℕ → Step Source → Instruction
instruction_of scales (step.Column s) = instruction.Column s
instruction_of scales (step.Digits n) = instruction.Digits n
instruction_of scales step.Opposite = instruction.Opposite
instruction_of scales (step.Joined operation) = of_last_scales operation scales

-- steps, one after the other
abbrev pub instructions_of : List ℕ → List (Step Source) → List Instruction
instructions_of scales [] = []
instructions_of scales (s ∷ steps) =
    instruction_of scales s ∷ instructions_of (unwrap_or (after_step part_scales s scales) []) steps

-- the step of an instruction
abbrev pub step_of : Instruction → Step Source
step_of (instruction.Column s) = step.Column s
step_of (instruction.Digits n) = step.Digits n
step_of instruction.Opposite = step.Opposite
step_of (instruction.Plus p) = step.Joined Plus
step_of (instruction.Less p) = step.Joined Less
step_of instruction.Times = step.Joined Times

-- the expressions that are kept as these instructions, and those that they are kept as
abbrev pub exprs_in : List Instruction → List Sourced
exprs_in instructions = exprs_of (map step_of instructions)

abbrev pub IsKept : List Sourced → List Instruction → Type 0
IsKept exprs instructions = instructions ≡ instructions_of [] (all_steps exprs)

-- what is made of two numbers that are brought to one scale first
abbrev pub at_one_scale : (ℤ → ℤ → ℤ) → Powers → ℤ → ℤ → Option ℤ
at_one_scale make p x y = of_two (λ a b. checked (make a b)) (checked (x *ℤ p.left)) (checked (y *ℤ p.right))

-- what is made of one or two on a stack; NULL where one is NULL
abbrev pub opposite_if_any : Option ℤ → Option (Option ℤ)
opposite_if_any a = of_number (λ x. checked (neg_ℤ x)) a

abbrev pub sum_if_any : Powers → Option ℤ → Option ℤ → Option (Option ℤ)
sum_if_any p a b = of_numbers (at_one_scale ◌+ℤ◌ p) a b

abbrev pub difference_if_any : Powers → Option ℤ → Option ℤ → Option (Option ℤ)
difference_if_any p a b = of_numbers (at_one_scale ◌-ℤ◌ p) a b

abbrev pub product_if_any : Option ℤ → Option ℤ → Option (Option ℤ)
product_if_any a b = of_numbers (λ x y. checked (x *ℤ y)) a b

-- a stack of numbers, whose last one stands in front, after an instruction over the numbers of a row
abbrev pub after_instruction : List (Option ℤ) → Instruction → List (Option ℤ) → Option (List (Option ℤ))
after_instruction numbers (instruction.Column s) stack = Some (slice_index_or numbers s.column None ∷ stack)
after_instruction numbers (instruction.Digits n) stack = Some (Some (pos n) ∷ stack)
after_instruction numbers instruction.Opposite stack = over_one opposite_if_any stack
after_instruction numbers (instruction.Plus p) stack = over_two (sum_if_any p) stack
after_instruction numbers (instruction.Less p) stack = over_two (difference_if_any p) stack
after_instruction numbers instruction.Times stack = over_two product_if_any stack

-- and after several
abbrev pub after_instructions : List (Option ℤ) → List Instruction → List (Option ℤ) → Option (List (Option ℤ))
after_instructions numbers [] stack = Some stack
after_instructions numbers (i ∷ instructions) stack =
    option_and_then (λ next. after_instructions numbers instructions next) (after_instruction numbers i stack)
