-- How lists of expressions over columns that are given by their numbers are told apart.
use Rattle.std.specs.Prelude.{ℕ, List, [], ◌∷◌}
use Rattle.std.specs.Coded.{Coded}
use Rattle.std.proofs.Common.{refl}
use Rattle.ts_running.specs.declared.bind.Source.{Source}
use Rattle.ts_running.specs.Grammar.{Expr}
use Rattle.ts_running.specs.Codes.{exprs_code}
use Rattle.ts_running.specs.Binding.{source}

abbrev pub numbers_of : Source → List ℕ
numbers_of s = s.column ∷ s.scale ∷ []

abbrev pub source_of_numbers : List ℕ → Source
source_of_numbers [] = source 0 0
source_of_numbers (column ∷ []) = source column 0
source_of_numbers (column ∷ scale ∷ numbers) = source column scale

abbrev pub sourced_code : Coded (List (Expr Source))
sourced_code = exprs_code numbers_of source_of_numbers (λ s. refl)
