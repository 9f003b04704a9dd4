-- What turning each flag leaves.
use Rattle.std.proofs.Common.{◌≡◌, ℕ, suc, ◌-◌, ◌<◌, inl, inr, Bool, true, false, not, List, [], ◌∷◌, length, map, refl, ap, arith}
use Rattle.std.proofs.lemmas.Bool.{cases_lt}
use Rattle.ts_pattern.specs.declared.run.Run.{Run}
use Rattle.ts_pattern.specs.Patterns.{total, flag_at, same_flag, turned, differs_from, are_merged, is_pattern}
use Rattle.ts_pattern.proofs.RunLemmas.{lt_yes, lt_no, total-cons}

pub total-turned : (rs : List Run) → total (map turned rs) ≡ total rs
total-turned [] = refl
total-turned (r ∷ rs) = omega (arith, total-cons r rs, total-cons (turned r) (map turned rs), total-turned rs)

pub length-turned : (rs : List Run) → length (map turned rs) ≡ length rs
length-turned [] = refl
length-turned (r ∷ rs) = ap suc (length-turned rs)

same_flag-not : (a b : Bool) → same_flag (not a) (not b) ≡ same_flag a b
same_flag-not true true = refl
same_flag-not true false = refl
same_flag-not false true = refl
same_flag-not false false = refl

differs-turned : (r : Run) (rs : List Run) → differs_from (turned r) (map turned rs) ≡ differs_from r rs
differs-turned r [] = refl
differs-turned r (s ∷ rest) = ap not (same_flag-not r.on s.on)

pub are_merged-turned : (rs : List Run) → are_merged (map turned rs) ≡ are_merged rs
are_merged-turned [] = refl
are_merged-turned (r ∷ rs) = rw (differs-turned r rs, are_merged-turned rs)

pub is_pattern-turned : (rs : List Run) → is_pattern (map turned rs) ≡ is_pattern rs
is_pattern-turned rs = rw (are_merged-turned rs, length-turned rs, total-turned rs)

pub flag_at-turned : (rs : List Run) (k : ℕ) → k < total rs → flag_at (map turned rs) k ≡ not (flag_at rs k)
flag_at-turned [] k h = absurd (omega arith)
flag_at-turned (r ∷ rs) k h = elim (cases_lt k r.count) [
  | inl lt ↦ rw (lt_yes k r.count lt)
  | inr ge ↦ rw (lt_no k r.count ge) (flag_at-turned rs (k - r.count) (omega (arith, total-cons r rs)))
]

pub ruleset turned_facts = (total-turned, is_pattern-turned, flag_at-turned)
