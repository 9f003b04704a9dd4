-- Runs that are merged one after the other.
use Rattle.std.proofs.Common.{◌≡◌, ℕ, zero, suc, ◌+◌, ◌<◌, ◌^◌, true, ◌&&◌, nat_lt, List, [], ◌∷◌, take, length, refl, ap, ◌∙◌, arith, Some, slice_get, slice_index_or}
use Rattle.std.proofs.lemmas.Bool.{and_parts, ltb-true}
use Rattle.ts_pattern.specs.declared.run.Run.{Run}
use Rattle.ts_pattern.specs.Patterns.{total, flag_at, runs_of, are_counts}
use Rattle.ts_pattern.specs.Growth.{extended}
use Rattle.ts_pattern.proofs.RunLemmas.{total-cons}
use Rattle.ts_pattern.proofs.CursorLemmas.{flag_at-run, total-take-next}
use Rattle.ts_pattern.proofs.GrowLemmas.{runs_from-extended}

-- an element within the list is there
run-there : (rs : List Run) (i : ℕ) (d : Run) → i < length rs → slice_get rs i ≡ Some (slice_index_or rs i d)
run-there [] i d h = absurd (omega arith)
run-there (x ∷ rs) zero d h = refl
run-there (x ∷ rs) (suc i) d h = run-there rs i d (omega arith)

-- no count is 0
count-some : (rs : List Run) (i : ℕ) (d : Run) → are_counts rs ≡ true → i < length rs → 0 < (slice_index_or rs i d).count
count-some [] i d c h = absurd (omega arith)
count-some (x ∷ rs) zero d c h =
    let parts = and_parts (nat_lt 0 x.count && nat_lt x.count (10 ^ 9)) (are_counts rs) c in
    ltb-true 0 x.count (and_parts (nat_lt 0 x.count) (nat_lt x.count (10 ^ 9)) parts.0).0
count-some (x ∷ rs) (suc i) d c h =
    let parts = and_parts (nat_lt 0 x.count && nat_lt x.count (10 ^ 9)) (are_counts rs) c in
    count-some rs i d parts.1 (omega arith)

-- so the length isn't 0 where there is a run
pub total-some : (rs : List Run) → are_counts rs ≡ true → 0 < length rs → 0 < total rs
total-some [] c h = absurd (omega arith)
total-some (x ∷ rs) c h = omega (arith, count-some (x ∷ rs) 0 x c h, total-cons x rs)

-- the next run is put to the end of the merged ones
pub merged-step : (rs : List Run) (i : ℕ) (d : Run) → are_counts rs ≡ true → i < length rs
    → runs_of (flag_at rs) (total (take (i + 1) rs))
    ≡ extended (runs_of (flag_at rs) (total (take i rs))) (slice_index_or rs i d).on (slice_index_or rs i d).count
merged-step rs i d c h =
    let r = slice_index_or rs i d in
    let before = total (take i rs) in
    ap (runs_of (flag_at rs)) (total-take-next rs i d h)
    ∙ runs_from-extended (flag_at rs) 0 before r.count r.on (count-some rs i d c h)
    (λ k lt. let start : 0 + before + k ≡ before + k = omega arith in ap (flag_at rs) start ∙ flag_at-run rs i k r (run-there rs i d h) lt)
