-- Steps of the loops over runs.
use Rattle.std.proofs.Common.{◌≡◌, ℕ, ◌+◌, ◌-◌, ◌<◌, ◌≤◌, Bool, true, false, ◌&&◌, List, ◌∷◌, arith, Option, Some, None, nat_lt}
use Rattle.std.proofs.lemmas.Bool.Decides.{nat_tests}
use Rattle.std.proofs.lemmas.List.Sums.{sum_by-cons}
use Rattle.ts_pattern.specs.declared.run.Run.{Run}
use Rattle.ts_pattern.specs.Patterns.{run, total, flag_at, differs_from, are_merged}

pub lt_yes : (a b : ℕ) → a < b → nat_lt a b ≡ true
lt_yes a b h = grind (arith, nat_tests)

pub lt_no : (a b : ℕ) → b ≤ a → nat_lt a b ≡ false
lt_no a b h = grind (arith, nat_tests)

-- the runs after a flag, if there is one, are merged
abbrev pub merged_after : Option Bool → List Run → Bool
merged_after None rs = are_merged rs
merged_after (Some on) rs = differs_from (run on 1) rs && are_merged rs

-- the flag within a list's first run
pub flag_at-here : (r : Run) (rs : List Run) (k : ℕ) → k < r.count → flag_at (r ∷ rs) k ≡ r.on
flag_at-here r rs k h = rw (lt_yes k r.count h)

-- and past it
pub flag_at-past : (r : Run) (rs : List Run) (k : ℕ) → r.count ≤ k → flag_at (r ∷ rs) k ≡ flag_at rs (k - r.count)
flag_at-past r rs k h = rw (lt_no k r.count h)

pub total-cons : (r : Run) (rs : List Run) → total (r ∷ rs) ≡ r.count + total rs
total-cons r rs = sum_by-cons (λ x. x.count) r rs
