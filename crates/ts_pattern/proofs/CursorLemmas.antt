-- Places in runs that repeat.
use Rattle.std.proofs.Common.{◌≡◌, ℕ, zero, suc, ◌+◌, ◌-◌, ◌*◌, ◌/◌, ◌%◌, ◌<◌, ◌≤◌, true, ◌&&◌, List, [], ◌∷◌, take, length, refl, sym, ap, ◌∙◌, arith, IsTrue, nat_lt, nat_le, Some, slice_get, slice_index_or, add-one}
use Rattle.std.proofs.lemmas.Bool.{and_parts, ltb-true}
use Rattle.std.proofs.lemmas.Bool.Decides.{nat_tests}
use Rattle.std.proofs.lemmas.Nat.{mod-mul-add}
use Rattle.ts_pattern.specs.declared.run.Run.{Run}
use Rattle.ts_pattern.specs.Patterns.{total, flag_at, later_flag, are_merged, is_pattern, differs_from}
use Rattle.ts_pattern.proofs.RunLemmas.{lt_yes, lt_no, total-cons}

-- a step that stays within a cycle
pub mod_step : (at t s : ℕ) → 0 < t → at % t + s < t → (at + s) % t ≡ at % t + s
mod_step at t s h lt =
    let e : at + s ≡ at / t * t + (at % t + s) = grind arith in
    rw e (mod-mul-add (at / t) t (at % t + s) lt)

-- a step to a cycle's end
pub mod_wrap : (at t s : ℕ) → 0 < t → at % t + s ≡ t → (at + s) % t ≡ 0
mod_wrap at t s h e =
    let whole : at + s ≡ (at / t + 1) * t + 0 = grind arith in
    rw whole (mod-mul-add (at / t + 1) t 0 h)

pub total-take-run : (rs : List Run) (j : ℕ) (r : Run) → slice_get rs j ≡ Some r → total (take (suc j) rs) ≡ total (take j rs) + r.count
total-take-run [] j r e = absurd (cc)
total-take-run (x ∷ rs) zero r e = let same : x ≡ r = cc in rw same (omega arith)
total-take-run (x ∷ rs) (suc j) r e = omega (arith, total-take-run rs j r e, total-cons x (take (suc j) rs), total-cons x (take j rs))

pub flag_at-run : (rs : List Run) (j i : ℕ) (r : Run) → slice_get rs j ≡ Some r → i < r.count → flag_at rs (total (take j rs) + i) ≡ r.on
flag_at-run [] j i r e h = absurd (cc)
flag_at-run (x ∷ rs) zero i r e h =
    let same : x ≡ r = cc in
    let here : 0 + i ≡ i = omega arith in
    rw (here, same, lt_yes i r.count h)
flag_at-run (x ∷ rs) (suc j) i r e h =
    let cons = total-cons x (take j rs) in
    let shift : total (x ∷ take j rs) + i - x.count ≡ total (take j rs) + i = omega (arith, cons) in
    rw (lt_no (total (x ∷ take j rs) + i) x.count (omega (arith, cons)), shift) (flag_at-run rs j i r e h)

pub count-positive : (rs : List Run) (j : ℕ) (r : Run) → are_merged rs ≡ true → slice_get rs j ≡ Some r → 0 < r.count
count-positive [] j r m e = absurd (cc)
count-positive (x ∷ rs) zero r m e =
    let same : x ≡ r = cc in
    let parts = and_parts (nat_lt 0 x.count && differs_from x rs) (are_merged rs) m in
    let first = and_parts (nat_lt 0 x.count) (differs_from x rs) parts.0 in
    rw (← same) (ltb-true 0 x.count first.0)
count-positive (x ∷ rs) (suc j) r m e =
    let parts = and_parts (nat_lt 0 x.count && differs_from x rs) (are_merged rs) m in
    count-positive rs j r parts.1 e

pub total-take-le : (rs : List Run) (j : ℕ) → total (take j rs) ≤ total rs
total-take-le [] zero = omega arith
total-take-le [] (suc j) = omega arith
total-take-le (x ∷ rs) zero = omega arith
total-take-le (x ∷ rs) (suc j) = omega (arith, total-take-le rs j, total-cons x rs, total-cons x (take j rs))

pub total-take-lt : (rs : List Run) (j : ℕ) → are_merged rs ≡ true → j < length rs → total (take j rs) < total rs
total-take-lt [] j m h = absurd (omega arith)
total-take-lt (x ∷ rs) zero m h =
    let here : 0 < x.count = count-positive (x ∷ rs) 0 x m refl in
    omega (arith, total-cons x rs)
total-take-lt (x ∷ rs) (suc j) m h =
    let parts = and_parts (nat_lt 0 x.count && differs_from x rs) (are_merged rs) m in
    let inner = total-take-lt rs j parts.1 (omega arith) in
    omega (arith, total-cons x rs, total-cons x (take j rs))

take-whole : (rs : List Run) (j : ℕ) → j ≡ length rs → take j rs ≡ rs
take-whole [] zero h = refl
take-whole [] (suc j) h = absurd (omega arith)
take-whole (x ∷ rs) zero h = absurd (omega arith)
take-whole (x ∷ rs) (suc j) h = ap (λ s. x ∷ s) (take-whole rs j (omega arith))

pub pattern-merged : (rs : List Run) → IsTrue (is_pattern rs) → (are_merged rs ≡ true) × (0 < total rs)
pattern-merged rs h =
    let a = and_parts (are_merged rs && nat_le 1 (length rs) && nat_le (length rs) 512) (nat_le (total rs) 527_040) h in
    let b = and_parts (are_merged rs && nat_le 1 (length rs)) (nat_le (length rs) 512) a.0 in
    let d = and_parts (are_merged rs) (nat_le 1 (length rs)) b.0 in
    let some : 0 < length rs = grind (arith, nat_tests) in
    (d.0, omega (arith, total-take-lt rs 0 d.0 some))

-- the place after a run's end is the start of the next one

pub next_first : (rs : List Run) (at rest j : ℕ) → IsTrue (is_pattern rs) → j + 1 ≡ length rs → total (take (j + 1) rs) ≡ at % total rs + rest → (at + rest) % total rs ≡ total (take 0 rs)
next_first rs at rest j p last place =
    mod_wrap at (total rs) rest (pattern-merged rs p).1 (sym place ∙ ap total (take-whole rs (j + 1) last))

pub next_later : (rs : List Run) (at rest j : ℕ) → IsTrue (is_pattern rs) → j + 1 < length rs → total (take (j + 1) rs) ≡ at % total rs + rest → (at + rest) % total rs ≡ total (take (j + 1) rs)
next_later rs at rest j p lt place =
    let merged = pattern-merged rs p in
    mod_step at (total rs) rest merged.1 (omega (arith, total-take-lt rs (j + 1) merged.0 lt)) ∙ sym place

pub place-within : (rs : List Run) (at rest step j : ℕ) → IsTrue (is_pattern rs) → step < rest → total (take (j + 1) rs) ≡ at % total rs + rest → total (take (j + 1) rs) ≡ (at + step) % total rs + (rest - step)
place-within rs at rest step j p lt place =
    let merged = pattern-merged rs p in
    let moved = mod_step at (total rs) step merged.1 (omega (arith, total-take-le rs (j + 1))) in
    omega (arith, moved)

pub place-run : (rs : List Run) (at j : ℕ) (r : Run) → slice_get rs j ≡ Some r → at % total rs ≡ total (take j rs) → total (take (j + 1) rs) ≡ at % total rs + r.count
place-run rs at j r e place = rw add-one (total-take-run rs j r e ∙ ap (λ n. n + r.count) (sym place))

pub flag-run : (rs : List Run) (at j : ℕ) (r : Run) → IsTrue (is_pattern rs) → slice_get rs j ≡ Some r → at % total rs ≡ total (take j rs) → (i : ℕ) → i < r.count → later_flag rs (at + i) ≡ r.on
flag-run rs at j r p e place i h =
    let merged = pattern-merged rs p in
    let moved = mod_step at (total rs) i merged.1 (omega (arith, total-take-le rs (suc j), total-take-run rs j r e)) in
    rw moved (rw place (flag_at-run rs j i r e h))

-- an element read with a default is the element
pub run-read : (rs : List Run) (i : ℕ) (d r : Run) → slice_get rs i ≡ Some r → slice_index_or rs i d ≡ r
run-read [] i d r e = absurd (cc)
run-read (x ∷ rs) zero d r e = let same : x ≡ r = cc in same
run-read (x ∷ rs) (suc i) d r e = run-read rs i d r e

-- the length up to the next run's end
pub total-take-next : (rs : List Run) (i : ℕ) (d : Run) → i < length rs → total (take (i + 1) rs) ≡ total (take i rs) + (slice_index_or rs i d).count
total-take-next rs i d h = rw add-one (go rs i h) where
  go : (rs : List Run) (i : ℕ) → i < length rs → total (take (suc i) rs) ≡ total (take i rs) + (slice_index_or rs i d).count
  go [] i h = absurd (omega arith)
  go (x ∷ rs) zero h = omega arith
  go (x ∷ rs) (suc i) h = omega (arith, go rs i (omega arith), total-cons x (take (suc i) rs), total-cons x (take i rs))

-- no run is longer than all
pub count-le : (rs : List Run) (i : ℕ) (d : Run) → i < length rs → (slice_index_or rs i d).count ≤ total rs
count-le [] i d h = absurd (omega arith)
count-le (x ∷ rs) zero d h = omega (arith, total-cons x rs)
count-le (x ∷ rs) (suc i) d h = omega (arith, count-le rs i d (omega arith), total-cons x rs)

mod_first : (i t : ℕ) → i < t → i % t ≡ i
mod_first i t h =
    let whole : i ≡ 0 * t + i = omega arith in
    ap (λ n. n % t) whole ∙ mod-mul-add 0 t i h

-- the place of an interval of the first round
pub place-first : (rs : List Run) (at j rest : ℕ) → at < total rs → total (take (j + 1) rs) ≡ at + rest → total (take (j + 1) rs) ≡ at % total rs + rest
place-first rs at j rest h e = e ∙ ap (λ n. n + rest) (sym (mod_first at (total rs) h))

-- from an interval on, the run keeps its flag
pub flag-around : (rs : List Run) (at j rest : ℕ) (r : Run) → slice_get rs j ≡ Some r → total (take (j + 1) rs) ≡ at + rest → rest ≤ r.count
    → (i : ℕ) → i < rest → later_flag rs (at + i) ≡ r.on
flag-around rs at j rest r e end inside i h =
    let next : total (take (j + 1) rs) ≡ total (take j rs) + r.count = rw add-one (total-take-run rs j r e) in
    let within : at + i < total rs = omega (arith, total-take-le rs (j + 1)) in
    let same : at + i ≡ total (take j rs) + (r.count - rest + i) = omega arith in
    ap (flag_at rs) (mod_first (at + i) (total rs) within ∙ same) ∙ flag_at-run rs j (r.count - rest + i) r e (omega arith)

-- a pattern of a single run

single-at : (rs : List Run) (j : ℕ) (r : Run) → length rs ≡ 1 → slice_get rs 0 ≡ Some r → j < r.count → flag_at rs j ≡ r.on
single-at [] j r one e h = absurd (cc)
single-at (x ∷ rs) j r one e h = let same : x ≡ r = cc in rw (same, lt_yes j r.count h)

-- its length is the count of the run
pub single-total : (rs : List Run) (r : Run) → length rs ≡ 1 → slice_get rs 0 ≡ Some r → total rs ≡ r.count
single-total rs r one e = ap total (sym (take-whole rs 1 (sym one))) ∙ omega (arith, total-take-run rs 0 r e)

-- each interval has its flag
pub single-flag : (rs : List Run) (k : ℕ) (r : Run) → length rs ≡ 1 → slice_get rs 0 ≡ Some r → IsTrue (is_pattern rs) → later_flag rs k ≡ r.on
single-flag rs k r one e p =
    let all = single-total rs r one e in
    let some = (pattern-merged rs p).1 in
    let within : k % total rs < total rs = mod_lt k (total rs) some in
    single-at rs (k % total rs) r one e (omega (arith, all, within))
  where
    mod_lt : (k t : ℕ) → 0 < t → k % t < t
    mod_lt k t h = omega arith

-- so all of them have the same one
pub single-same : (rs : List Run) (j k : ℕ) → length rs ≡ 1 → IsTrue (is_pattern rs) → later_flag rs j ≡ later_flag rs k
single-same [] j k one p = absurd (omega arith)
single-same (x ∷ rs) j k one p = single-flag (x ∷ rs) j x one refl p ∙ sym (single-flag (x ∷ rs) k x one refl p)

-- and the run's end is what is left of the round
pub single-place : (rs : List Run) (at : ℕ) (r : Run) → length rs ≡ 1 → slice_get rs 0 ≡ Some r → IsTrue (is_pattern rs)
    → (at % r.count < r.count) × (total (take (0 + 1) rs) ≡ at % total rs + (r.count - at % r.count))
single-place rs at r one e p =
    let all = single-total rs r one e in
    let some : 0 < r.count = omega (arith, all, (pattern-merged rs p).1) in
    let within : at % r.count < r.count = mod_lt at r.count some in
    let same : at % total rs ≡ at % r.count = ap (λ n. at % n) all in
    (within, ap total (take-whole rs 1 (sym one)) ∙ omega (arith, all, within, same))
  where
    mod_lt : (k t : ℕ) → 0 < t → k % t < t
    mod_lt k t h = omega arith
