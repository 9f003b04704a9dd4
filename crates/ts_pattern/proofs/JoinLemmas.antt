-- The runs of flags: their length, their flags, and how they grow at their end.
use Rattle.std.proofs.Common.{◌≡◌, ℕ, zero, suc, ◌+◌, ◌-◌, ◌<◌, inl, inr, Bool, true, false, ◌&&◌, List, [], ◌∷◌, refl, sym, ◌∙◌, arith, nat_lt}
use Rattle.std.proofs.lemmas.Bool.{and_parts, cases_lt, cases_Bool}
use Rattle.ts_pattern.specs.declared.run.Run.{Run}
use Rattle.ts_pattern.specs.Patterns.{run, total, flag_at, same_flag, differs_from, are_merged, with_flag, runs_from}
use Rattle.ts_pattern.proofs.RunLemmas.{lt_yes, lt_no, total-cons}

same_flag-true : (a b : Bool) → same_flag a b ≡ true → a ≡ b
same_flag-true true true h = refl
same_flag-true false false h = refl
same_flag-true true false h = sym h
same_flag-true false true h = h

-- one flag more at the front

total-with_flag : (on : Bool) (rs : List Run) → total (with_flag on rs) ≡ total rs + 1
total-with_flag on [] = omega arith
total-with_flag on (r ∷ rs) = elim (cases_Bool (same_flag on r.on)) [
  | inl same ↦ rw same (omega (arith, total-cons r rs, total-cons (run on (r.count + 1)) rs))
  | inr other ↦ rw other (omega (arith, total-cons (run on 1) (r ∷ rs)))
]

flag_at-with_flag-zero : (on : Bool) (rs : List Run) → flag_at (with_flag on rs) 0 ≡ on
flag_at-with_flag-zero on [] = refl
flag_at-with_flag-zero on (r ∷ rs) = elim (cases_Bool (same_flag on r.on)) [
  | inl same ↦ rw (same, lt_yes 0 (r.count + 1) (omega arith))
  | inr other ↦ rw other
]

flag_at-with_flag-suc : (on : Bool) (rs : List Run) (k : ℕ) → k < total rs → flag_at (with_flag on rs) (k + 1) ≡ flag_at rs k
flag_at-with_flag-suc on [] k h = absurd (omega arith)
flag_at-with_flag-suc on (r ∷ rs) k h = elim (cases_Bool (same_flag on r.on)) [
  | inl same ↦
      let on_is = same_flag-true on r.on same in
      let cons = total-cons r rs in
      elim (cases_lt k r.count) [
        | inl lt ↦ rw (same, lt_yes (k + 1) (r.count + 1) (omega arith), lt_yes k r.count lt, on_is)
        | inr ge ↦
            let shift : k + 1 - (r.count + 1) ≡ k - r.count = omega arith in
            rw (same, lt_no (k + 1) (r.count + 1) (omega arith), lt_no k r.count ge, shift)
      ]
  | inr other ↦
      let shift : k + 1 - 1 ≡ k = omega arith in
      rw (other, lt_no (k + 1) 1 (omega arith), shift)
]

differs-with_flag : (on : Bool) (rs : List Run) → are_merged rs ≡ true → are_merged (with_flag on rs) ≡ true
differs-with_flag on [] h = refl
differs-with_flag on (r ∷ rs) h = elim (cases_Bool (same_flag on r.on)) [
  | inl same ↦
      let on_is = same_flag-true on r.on same in
      let parts = and_parts (nat_lt 0 r.count && differs_from r rs) (are_merged rs) h in
      let first = and_parts (nat_lt 0 r.count) (differs_from r rs) parts.0 in
      rw (same, lt_yes 0 (r.count + 1) (omega arith), on_is, first.1, parts.1)
  | inr other ↦ rw (other, other, h)
]

-- all flags

pub total-runs_from : (f : ℕ → Bool) (k n : ℕ) → total (runs_from f k n) ≡ n
unfolding runs_from
total-runs_from f k zero = refl
total-runs_from f k (suc n) = omega (arith, total-with_flag (f k) (runs_from f (k + 1) n), total-runs_from f (k + 1) n)

pub flag_at-runs_from : (f : ℕ → Bool) (k n i : ℕ) → i < n → flag_at (runs_from f k n) i ≡ f (k + i)
unfolding runs_from
flag_at-runs_from f k zero i h = absurd (omega arith)
flag_at-runs_from f k (suc n) zero h =
    let same : k + 0 ≡ k = omega arith in
    rw same (flag_at-with_flag-zero (f k) (runs_from f (k + 1) n))
flag_at-runs_from f k (suc n) (suc i) h =
    let step : suc i ≡ i + 1 = omega arith in
    let at : k + suc i ≡ k + 1 + i = omega arith in
    rw at (rw step (flag_at-with_flag-suc (f k) (runs_from f (k + 1) n) i (omega (arith, total-runs_from f (k + 1) n)) ∙ flag_at-runs_from f (k + 1) n i (omega arith)))

pub are_merged-runs_from : (f : ℕ → Bool) (k n : ℕ) → are_merged (runs_from f k n) ≡ true
unfolding runs_from
are_merged-runs_from f k zero = refl
are_merged-runs_from f k (suc n) = differs-with_flag (f k) (runs_from f (k + 1) n) (are_merged-runs_from f (k + 1) n)
