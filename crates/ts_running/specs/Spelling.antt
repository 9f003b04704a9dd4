-- Which tokens are those of expressions.
use Rattle.std.specs.Prelude.{◌≡◌, ℕ, suc, ◌-◌, ◌≤◌, List, [], ◌∷◌, ◌++◌, length, true}
use Rattle.ts_base.specs.Name.{is_name}
use Rattle.ts_base.specs.Moment.{all_digits, number_of}
use Rattle.ts_text.specs.Parted.{IsParted}
use Rattle.ts_running.specs.declared.step.Operation.TheVariants.{Plus, Less, Times}
use Rattle.ts_running.specs.Grammar.{Column, Digits, Opposite, Joined, most_digits, most_factors, most_exprs, Named}

-- what an expression is written as: a factor, factors joined by `*`, or terms joined by `+` and `-`
pub data Level : Type 0 where
  Factor : Level
  Term : Level
  Sum : Level

abbrev pub Tokens : Type 0
Tokens = List (List ℕ)

-- these tokens write an expression; at most so many factors stand inside each of its factors, one inside the other
pub data IsWritten : Level → ℕ → Named → Tokens → Type 0 where
  column : {inside : ℕ} {name : List ℕ} → is_name name ≡ true →
      IsWritten Factor inside (Column name) ((36 ∷ []) ∷ name ∷ [])
  digits : {inside : ℕ} {token : List ℕ} → all_digits token ≡ true → 1 ≤ length token → length token ≤ most_digits →
      IsWritten Factor inside (Digits (number_of token)) (token ∷ [])
  minus : {inside : ℕ} {e : Named} {tokens : Tokens} → IsWritten Factor inside e tokens →
      IsWritten Factor (suc inside) (Opposite e) ((45 ∷ []) ∷ tokens)
  brackets : {inside : ℕ} {e : Named} {tokens : Tokens} → IsWritten Sum inside e tokens →
      IsWritten Factor (suc inside) e ((40 ∷ []) ∷ (tokens ++ (41 ∷ []) ∷ []))
  factor : {inside : ℕ} {e : Named} {tokens : Tokens} → IsWritten Factor inside e tokens →
      IsWritten Term inside e tokens
  product : {inside : ℕ} {a b : Named} {first second : Tokens} →
      IsWritten Term inside a first → IsWritten Factor inside b second →
      IsWritten Term inside (Joined Times a b) (first ++ (42 ∷ []) ∷ second)
  term : {inside : ℕ} {e : Named} {tokens : Tokens} → IsWritten Term inside e tokens → IsWritten Sum inside e tokens
  sum : {inside : ℕ} {a b : Named} {first second : Tokens} →
      IsWritten Sum inside a first → IsWritten Term inside b second →
      IsWritten Sum inside (Joined Plus a b) (first ++ (43 ∷ []) ∷ second)
  difference : {inside : ℕ} {a b : Named} {first second : Tokens} →
      IsWritten Sum inside a first → IsWritten Term inside b second →
      IsWritten Sum inside (Joined Less a b) (first ++ (45 ∷ []) ∷ second)

-- these write expressions, each behind a comma
abbrev pub AreBehindCommas : List Named → Tokens → Type 0
AreBehindCommas [] tokens = tokens ≡ []
AreBehindCommas (e ∷ exprs) tokens =
    (first : Tokens) × (rest : Tokens) × IsWritten Sum (most_factors - 1) e first × AreBehindCommas exprs rest
    × (tokens ≡ (44 ∷ []) ∷ (first ++ rest))

-- these write expressions with commas between them, and one at least
abbrev pub AreWritten : List Named → Tokens → Type 0
AreWritten [] tokens = ⊥
AreWritten (e ∷ exprs) tokens =
    (first : Tokens) × (rest : Tokens) × IsWritten Sum (most_factors - 1) e first × AreBehindCommas exprs rest
    × (tokens ≡ first ++ rest)

-- the text is that of a list of these expressions
pub record IsListText (exprs : List Named) (text : List ℕ) : Type 0 where
  pub tokens : Tokens
  pub few : length exprs ≤ most_exprs
  pub written : AreWritten exprs tokens
  pub parted : IsParted tokens text
