-- Expressions over the columns of a row type, and their values over a row.
use Rattle.std.specs.Prelude.{ℕ, ◌+◌, ◌-◌, ◌^◌, nat_lt, nat_le, max, if◌then◌else◌, ℤ, pos, neg_ℤ, ◌+ℤ◌, ◌-ℤ◌, ◌*ℤ◌}
use Rattle.std.specs.Prelude.{Option, Some, None, Result, Ok, Err, List, map, slice_index_or, [], ◌∷◌, unwrap_or}
use Rattle.std.specs.Prelude.{reverse, ◌≡◌, unsigned_abs}
use Rattle.std.specs.Option.{option_and_then, option_map}
use Rattle.ts_base.specs.declared.refusal.Refusal.{Refusal}
use Rattle.ts_base.specs.declared.refusal.Refusal.TheVariants.{BadExpression, UnknownColumn}
use Rattle.ts_row.specs.declared.kind.ColumnKind.{ColumnKind}
use Rattle.ts_row.specs.declared.kind.Column.{Column as TheColumn}
use Rattle.ts_row.specs.Row.{scale_of, Values, Row, visible}
use Rattle.ts_row.specs.declared.value.Value.{Value}
use Rattle.ts_row.specs.declared.value.Value.TheVariants.{Null, Number, Text}
use Rattle.ts_expr.specs.Aggregates.{column_from, is_text_kind, value_at}
use Rattle.ts_running.specs.declared.step.Operation.{Operation}
use Rattle.ts_running.specs.declared.step.Operation.TheVariants.{Plus, Less, Times}
use Rattle.ts_running.specs.declared.step.Step.{Step}
use Rattle.ts_running.specs.declared.step.Step.TheVariants as step
use Rattle.ts_running.specs.declared.bind.Source.{Source}
use Rattle.ts_running.specs.declared.fault.ApplyError.{ApplyError}
use Rattle.ts_running.specs.declared.fault.ApplyError.TheVariants.{Overflow, Memory}
use Rattle.ts_running.specs.Grammar.{Expr, Column, Digits, Opposite, Joined, Named}

-- What is made of an expression, part by part; and what its steps make of it over a stack.

-- what is made of each part, of what was made of its own parts; nothing where it can't be made
pub record Parts (C A : Type 0) : Type 0 where
  pub column : C → Option A
  pub digits : ℕ → Option A
  pub opposite : A → Option A
  pub joined : Operation → A → A → Option A

-- of two that were made
abbrev pub of_two : {A : Type 0} → (A → A → Option A) → Option A → Option A → Option A
of_two make None b = None
of_two make (Some a) None = None
of_two make (Some a) (Some b) = make a b

-- of an expression
abbrev pub made_of : {C A : Type 0} → Parts C A → Expr C → Option A
made_of parts (Column c) = parts.column c
made_of parts (Digits n) = parts.digits n
made_of parts (Opposite e) = option_and_then parts.opposite (made_of parts e)
made_of parts (Joined operation a b) = of_two (parts.joined operation) (made_of parts a) (made_of parts b)

-- one before others
abbrev pub with_others : {A : Type 0} → Option A → Option (List A) → Option (List A)
with_others None others = None
with_others (Some a) None = None
with_others (Some a) (Some others) = Some (a ∷ others)

-- of each expression of a list; nothing where one can't be made
abbrev pub made_of_all : {C A : Type 0} → Parts C A → List (Expr C) → Option (List A)
made_of_all parts [] = Some []
made_of_all parts (e ∷ exprs) = with_others (made_of parts e) (made_of_all parts exprs)

-- one more on a stack, whose last one stands in front
abbrev pub onto_stack : {A : Type 0} → List A → Option A → Option (List A)
onto_stack stack None = None
onto_stack stack (Some a) = Some (a ∷ stack)

-- the last one of a stack gives way to what is made of it
abbrev pub over_one : {A : Type 0} → (A → Option A) → List A → Option (List A)
over_one make [] = None
over_one make (a ∷ stack) = onto_stack stack (make a)

-- and so do the last two
abbrev pub over_two : {A : Type 0} → (A → A → Option A) → List A → Option (List A)
over_two make [] = None
over_two make (b ∷ []) = None
over_two make (b ∷ a ∷ stack) = onto_stack stack (make a b)

-- a stack after a step
abbrev pub after_step : {C A : Type 0} → Parts C A → Step C → List A → Option (List A)
after_step parts (step.Column c) stack = onto_stack stack (parts.column c)
after_step parts (step.Digits n) stack = onto_stack stack (parts.digits n)
after_step parts step.Opposite stack = over_one parts.opposite stack
after_step parts (step.Joined operation) stack = over_two (parts.joined operation) stack

-- a stack after steps
abbrev pub after_steps : {C A : Type 0} → Parts C A → List (Step C) → List A → Option (List A)
after_steps parts [] stack = Some stack
after_steps parts (s ∷ steps) stack = option_and_then (λ next. after_steps parts steps next) (after_step parts s stack)

-- the expression itself
abbrev pub building : {C : Type 0} → Parts C (Expr C)
building = record {
  column = λ c. Some (Column c);
  digits = λ n. Some (Digits n);
  opposite = λ e. Some (Opposite e);
  joined = λ operation a b. Some (Joined operation a b);
}

-- the expressions that have these steps
abbrev pub exprs_of : {C : Type 0} → List (Step C) → List (Expr C)
exprs_of steps = reverse (unwrap_or (after_steps building steps []) [])

-- Expressions with the columns that they take their values from.

-- the most digits after the point that a part of an expression may have
abbrev pub most_part_scale : ℕ
most_part_scale = 28

-- an expression over columns that are given by their numbers and scales
abbrev pub Sourced : Type 0
Sourced = Expr Source

abbrev pub source : ℕ → ℕ → Source
source column scale = record { column = column; scale = scale }

-- a column that was found, if it has numbers
abbrev pub source_of : Option (ℕ × ColumnKind) → Result Source Refusal
source_of None = Err UnknownColumn
source_of (Some c) = if is_text_kind c.1 then Err (BadExpression 0) else Ok (source c.0 (scale_of c.1))

-- the column of this name: there has to be one, and its values have to be numbers
abbrev pub source_named : List TheColumn → List ℕ → Result Source Refusal
source_named columns name = source_of (column_from 0 name columns)

-- what is made of one that is there, and of two; the first that isn't decides
abbrev pub with_one : {A B : Type 0} → (A → B) → Result A Refusal → Result B Refusal
with_one make (Err why) = Err why
with_one make (Ok a) = Ok (make a)

abbrev pub with_two : {A B C : Type 0} → (A → B → C) → Result A Refusal → Result B Refusal → Result C Refusal
with_two make (Err why) b = Err why
with_two make (Ok a) (Err why) = Err why
with_two make (Ok a) (Ok b) = Ok (make a b)

-- an expression with its columns, which are looked for from left to right
abbrev pub bound_expr : List TheColumn → Named → Result Sourced Refusal
bound_expr columns (Column name) = with_one (λ s. Column s) (source_named columns name)
bound_expr columns (Digits n) = Ok (Digits n)
bound_expr columns (Opposite e) = with_one (λ x. Opposite x) (bound_expr columns e)
bound_expr columns (Joined operation a b) =
    with_two (λ x y. Joined operation x y) (bound_expr columns a) (bound_expr columns b)

-- the expressions of a list, from left to right
abbrev pub bound_exprs : List TheColumn → List Named → Result (List Sourced) Refusal
bound_exprs columns [] = Ok []
bound_exprs columns (e ∷ exprs) = with_two (λ x others. x ∷ others) (bound_expr columns e) (bound_exprs columns exprs)

-- a scale that a part may have
abbrev pub scale_if_small : ℕ → Option ℕ
scale_if_small scale = if nat_le scale most_part_scale then Some scale else None

-- the scale of what is made of two numbers: the greater of theirs, for a product their sum
abbrev pub joined_scale : Operation → ℕ → ℕ → ℕ
joined_scale Plus a b = max a b
joined_scale Less a b = max a b
joined_scale Times a b = a + b

-- the scale of an expression, if that of each part of it may be
abbrev pub part_scales : Parts Source ℕ
part_scales = record {
  column = λ s. scale_if_small s.scale;
  digits = λ n. Some 0;
  opposite = λ scale. Some scale;
  joined = λ operation a b. scale_if_small (joined_scale operation a b);
}

-- expressions whose parts all have scales that may be
abbrev pub if_small : List Sourced → Option (List ℕ) → Result (List Sourced) Refusal
if_small exprs None = Err (BadExpression 0)
if_small exprs (Some found) = Ok exprs

abbrev pub with_scales : Result (List Sourced) Refusal → Result (List Sourced) Refusal
with_scales (Err why) = Err why
with_scales (Ok exprs) = if_small exprs (made_of_all part_scales exprs)

-- a list bound to columns: first each name needs a column with numbers, then each part a scale that may be
abbrev pub binding : List TheColumn → List Named → Result (List Sourced) Refusal
binding columns exprs = with_scales (bound_exprs columns exprs)

-- steps with their columns, one after the other
abbrev pub bound_step : List TheColumn → Step (List ℕ) → Result (Step Source) Refusal
bound_step columns (step.Column name) = with_one (λ s. step.Column s) (source_named columns name)
bound_step columns (step.Digits n) = Ok (step.Digits n)
bound_step columns step.Opposite = Ok step.Opposite
bound_step columns (step.Joined operation) = Ok (step.Joined operation)

abbrev pub bound_steps : List TheColumn → List (Step (List ℕ)) → Result (List (Step Source)) Refusal
bound_steps columns [] = Ok []
bound_steps columns (s ∷ steps) = with_two (λ x others. x ∷ others) (bound_step columns s) (bound_steps columns steps)

-- The value of an expression over the values of a row.

-- a number, if it lies in -(2^127 - 1) to 2^127 - 1
abbrev pub checked : ℤ → Option ℤ
checked z = if nat_lt (unsigned_abs z) (2 ^ 127) then Some z else None

-- a number with so many more digits after the point
abbrev pub brought : ℕ → ℤ → Option ℤ
brought digits z = checked (z *ℤ pos (10 ^ digits))

-- what is made of a number, and of two; NULL where one is NULL
abbrev pub of_number : (ℤ → Option ℤ) → Option ℤ → Option (Option ℤ)
of_number make None = Some None
of_number make (Some x) = option_map (λ z. Some z) (make x)

abbrev pub of_numbers : (ℤ → ℤ → Option ℤ) → Option ℤ → Option ℤ → Option (Option ℤ)
of_numbers make None b = Some None
of_numbers make (Some x) None = Some None
of_numbers make (Some x) (Some y) = option_map (λ z. Some z) (make x y)

-- a number or NULL, and the digits after its point
pub record Operand : Type 0 where
  pub value : Option ℤ
  pub scale : ℕ

abbrev pub operand : Option ℤ → ℕ → Operand
operand value scale = record { value = value; scale = scale }

-- a value with a scale
abbrev pub at_scale : ℕ → Option (Option ℤ) → Option Operand
at_scale scale found = option_map (λ value. operand value scale) found

-- the number of opposite sign
abbrev pub opposite_of : Operand → Option Operand
opposite_of a = at_scale a.scale (of_number (λ x. checked (neg_ℤ x)) a.value)

-- a sum or a difference: both are brought to the greater scale
abbrev pub at_greater : (ℤ → ℤ → ℤ) → ℕ → Operand → Operand → Option Operand
at_greater make scale a b =
    at_scale scale
    (of_numbers (λ x y. of_two (λ p q. checked (make p q)) (brought (scale - a.scale) x) (brought (scale - b.scale) y))
    a.value b.value)

abbrev pub joined_of : Operation → Operand → Operand → Option Operand
joined_of Plus a b = at_greater ◌+ℤ◌ (max a.scale b.scale) a b
joined_of Less a b = at_greater ◌-ℤ◌ (max a.scale b.scale) a b
joined_of Times a b = at_scale (a.scale + b.scale) (of_numbers (λ x y. checked (x *ℤ y)) a.value b.value)

-- the number of a value
abbrev pub number_if_any : Value → Option ℤ
number_if_any Null = None
number_if_any (Number z) = Some z
number_if_any (Text text) = None

-- the value in a column
abbrev pub value_in : Source → Values → Value
value_in s values = value_at s.column values

-- what is made of the values of a row; nothing where a number has no place
abbrev pub numbers : Values → Parts Source Operand
numbers values = record {
  column = λ s. Some (operand (number_if_any (value_in s values)) s.scale);
  digits = λ n. Some (operand (Some (pos n)) 0);
  opposite = opposite_of;
  joined = joined_of;
}

-- the numbers of the values of a row, one for each column; none of NULL and of a text
abbrev pub numbers_of : Values → List (Option ℤ)
numbers_of values = map number_if_any values

-- what is made of such numbers
abbrev pub over_numbers : List (Option ℤ) → Parts Source Operand
over_numbers numbers = record {
  column = λ s. Some (operand (slice_index_or numbers s.column None) s.scale);
  digits = λ n. Some (operand (Some (pos n)) 0);
  opposite = opposite_of;
  joined = joined_of;
}

-- a number or NULL, as a value
abbrev pub value_if_any : Option ℤ → Value
value_if_any None = Null
value_if_any (Some z) = Number z

-- the visible row of the values of expressions; none where a number has no place
abbrev pub applied : List Sourced → Values → Option Row
applied exprs values =
    option_map (λ operands. visible (map (λ o. value_if_any o.value) operands)) (made_of_all (numbers values) exprs)

-- a call gives this, or says that a number has no place, or that there is no memory
abbrev pub Applies : {A : Type 0} → Option A → Result A ApplyError → Type 0
Applies answer (Ok a) = answer ≡ Some a
Applies answer (Err Overflow) = answer ≡ None
Applies answer (Err (Memory error)) = Unit {0}

-- and fails for that
abbrev pub ApplyFails : {A : Type 0} → Option A → ApplyError → Type 0
ApplyFails answer Overflow = answer ≡ None
ApplyFails answer (Memory error) = Unit {0}

-- the visible row of these numbers
abbrev pub numbers_row : List (Option ℤ) → Row
numbers_row numbers = visible (map value_if_any numbers)

-- the numbers of this row were made, or the call fails
abbrev pub Leaves : {A : Type 0} → Option Row → List (Option ℤ) → Result A ApplyError → Type 0
Leaves answer made (Ok done) = answer ≡ Some (numbers_row made)
Leaves answer made (Err error) = ApplyFails answer error
