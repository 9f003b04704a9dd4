-- The text of expressions over columns, and the text that names a column.
use Rattle.std.specs.Prelude.{ℕ, zero, suc, ◌-◌, nat_le, ◌==◌, ◌||◌, Bool, if◌then◌else◌, List, [], ◌∷◌, length, Option}
use Rattle.std.specs.Prelude.{Some, None, ◌++◌, Result, Ok, Err}
use Rattle.std.specs.List.{flat_map}
use Rattle.ts_base.specs.declared.refusal.Refusal.{Refusal}
use Rattle.ts_base.specs.declared.refusal.Refusal.TheVariants.{BadExpression}
use Rattle.ts_text.specs.Phrase.{magnitude_of, Phrase, behind, ◌>>=◌, give, token, a_sign, made, phrases, ended}
use Rattle.ts_text.specs.Phrase.{outcome, name_as, Signs, if_sign, joined_by, plain_front}
use Rattle.ts_text.specs.declared.token.TokenKind.{TokenKind}
use Rattle.ts_text.specs.declared.token.TokenKind.TheVariants.{Sign, Number}
use Rattle.ts_running.specs.declared.step.Operation.{Operation}
use Rattle.ts_running.specs.declared.step.Operation.TheVariants.{Plus, Less, Times}
use Rattle.ts_running.specs.declared.step.Step.{Step}
use Rattle.ts_running.specs.declared.step.Step.TheVariants as step

-- Expressions over columns, and the steps that one is kept as.

-- an expression over columns, each of them given by this
pub data Expr (C : Type 0) : Type 0 where
  Column : C → Expr C
  Digits : ℕ → Expr C
  Opposite : Expr C → Expr C
  Joined : Operation → Expr C → Expr C → Expr C

-- its steps: those of its parts from left to right, and then what is made of them
abbrev pub steps_of : {C : Type 0} → Expr C → List (Step C)
steps_of (Column c) = step.Column c ∷ []
steps_of (Digits n) = step.Digits n ∷ []
steps_of (Opposite e) = steps_of e ++ step.Opposite ∷ []
steps_of (Joined operation a b) = steps_of a ++ (steps_of b ++ step.Joined operation ∷ [])

-- the steps of expressions, one after the other
abbrev pub all_steps : {C : Type 0} → List (Expr C) → List (Step C)
all_steps exprs = flat_map steps_of exprs

-- The tokens of expressions: words, digits and signs, each the longest that stands there.

-- one of `+` `-` `*`
abbrev pub is_operator : ℕ → Bool
is_operator b = b == 43 || b == 45 || b == 42

-- the token that stands in front, if one does: those of aggregate lists, and the signs of operations
unfoldable pub expr_front : List ℕ → Option (TokenKind × ℕ)
expr_front [] = None
expr_front (b ∷ bytes) = if is_operator b then Some (Sign, 1) else plain_front (b ∷ bytes)

-- The text of expressions, as in `$v*($w+1), -$v`: its grammar, and what it reads as.

-- the most digits of a number
abbrev pub most_digits : ℕ
most_digits = 18

-- how many factors may stand inside each other
abbrev pub most_factors : ℕ
most_factors = 64

-- the most expressions of a list
abbrev pub most_exprs : ℕ
most_exprs = 32

-- an expression over columns that are given by their names
abbrev pub Named : Type 0
Named = Expr (List ℕ)

-- the name of a column
unfoldable pub name_in : Phrase (List ℕ)
name_in = token expr_front name_as

-- 1 to 18 digits
abbrev pub digits_as : TokenKind → List ℕ → Option ℕ
digits_as Number digits = if nat_le (length digits) most_digits then Some (magnitude_of digits) else None
digits_as kind token = None

-- the number that they write
unfoldable pub digits_in : Phrase ℕ
digits_in = token expr_front digits_as

-- a column behind a `$`, or digits
unfoldable pub leaf_in : Phrase Named
leaf_in = if_sign 36 (made name_in (λ name. Column name)) (made digits_in (λ n. Digits n))

-- the signs between the factors of a term, and between the terms of a sum
abbrev pub times_signs : Signs Operation
times_signs = (42, Times) ∷ []

abbrev pub sum_signs : Signs Operation
sum_signs = (43, Plus) ∷ (45, Less) ∷ []

-- two expressions, and what stands between them
abbrev pub joined : Operation → Named → Named → Named
joined operation before next = Joined operation before next

-- factors joined by `*`
unfoldable pub term_of : Phrase Named → Phrase Named
term_of factor = joined_by joined times_signs factor

-- terms joined by `+` and `-`
unfoldable pub sum_of : Phrase Named → Phrase Named
sum_of factor = joined_by joined sum_signs (term_of factor)

-- a sum up to the bracket that closes it
abbrev pub in_bracket : Phrase Named → Phrase Named
in_bracket factor = do
  found ← sum_of factor
  close ← a_sign 41
  give found

-- a factor in which at most so many more stand inside each other: each `-` and each bracket has one inside
unfoldable pub factor_in : ℕ → Phrase Named
factor_in zero = leaf_in
factor_in (suc inside) =
    if_sign 45 (made (factor_in inside) (λ e. Opposite e)) (if_sign 40 (in_bracket (factor_in inside)) leaf_in)

-- an expression
unfoldable pub expr_in : Phrase Named
expr_in = sum_of (factor_in (most_factors - 1))

-- at most so many more, each behind a comma
unfoldable pub further : ℕ → Phrase (List Named)
further most = phrases expr_in most

-- 1 to 32 expressions joined by commas
unfoldable pub list_in : Phrase (List Named)
list_in = do
  first ← expr_in
  others ← further (most_exprs - 1)
  give (first ∷ others)

-- a text that is a list's, or the place of what can't stand there
abbrev pub written_exprs : List ℕ → Result (List Named) ℕ
written_exprs text = outcome (length text) (ended [] list_in text)

-- what a text reads as
abbrev pub exprs_or_place : Result (List Named) ℕ → Result (List Named) Refusal
exprs_or_place (Ok exprs) = Ok exprs
exprs_or_place (Err place) = Err (BadExpression place)

-- the list that a text reads as, or why there is none
abbrev pub read_exprs : List ℕ → Result (List Named) Refusal
read_exprs text = exprs_or_place (written_exprs text)

-- The text that names the column of a running value, as in `$v`.

-- a `$` and the name of a column
unfoldable pub column_in : Phrase (List ℕ)
column_in = behind 36 name_in

-- the name that a text is, or the place of what can't stand there
abbrev pub written_column : List ℕ → Result (List ℕ) ℕ
written_column text = outcome (length text) (ended [] column_in text)

-- what a text reads as
abbrev pub column_or_place : Result (List ℕ) ℕ → Result (List ℕ) Refusal
column_or_place (Ok name) = Ok name
column_or_place (Err place) = Err (BadExpression place)

-- the name that a text reads as, or why there is none
abbrev pub read_column : List ℕ → Result (List ℕ) Refusal
read_column text = column_or_place (written_column text)
