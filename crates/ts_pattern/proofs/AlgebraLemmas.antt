-- The flags of expanded and of joined patterns, at every interval.
use Rattle.std.proofs.Common.{◌≡◌, ℕ, ◌+◌, ◌-◌, ◌*◌, ◌/◌, ◌%◌, ◌<◌, ◌≤◌, inl, inr, Bool, List, [], ◌∷◌, map, refl, sym, ap, ◌∙◌, arith, ℤ, pos, ◌+ℤ◌, not}
use Rattle.std.proofs.Math.Nat.{mod-add-div', div-lt_iff_lt-mul}
use Rattle.std.proofs.lemmas.Bool.{cases_lt}
use Rattle.std.proofs.lemmas.Nat.{div-mul-add}
use Rattle.ts_base.specs.declared.unit.Unit as unit
use Rattle.ts_pattern.specs.declared.run.Run.{Run}
use Rattle.ts_pattern.specs.declared.junction.Junction.{Junction}
use Rattle.ts_pattern.specs.Patterns.{Plan, total, flag_at, flag, later_flag, runs_of, scaled, turned, factor, joined, joined_flag, expanded_flag}
use Rattle.ts_pattern.specs.Line.{side_by_side}
use Rattle.ts_pattern.proofs.RunLemmas.{lt_yes, lt_no, total-cons}
use Rattle.ts_pattern.proofs.TurnLemmas.{total-turned, flag_at-turned}
use Rattle.ts_pattern.proofs.JoinLemmas.{total-runs_from, flag_at-runs_from}
use Rattle.ts_pattern.proofs.WholeLemmas.{place, place-lt, place-after, place-in_rounds, place-over}

-- the length in smaller intervals
pub total-scaled : (rs : List Run) (f : ℕ) → total (map (scaled f) rs) ≡ total rs * f
total-scaled [] f = omega arith
total-scaled (r ∷ rs) f =
    total-cons (scaled f r) (map (scaled f) rs) ∙ ap (λ x. r.count * f + x) (total-scaled rs f)
    ∙ spread r.count (total rs) f ∙ ap (λ x. x * f) (sym (total-cons r rs))
  where
    spread : (a b f : ℕ) → a * f + b * f ≡ (a + b) * f
    spread a b f = omega arith

-- the flags of smaller intervals
pub flag_at-scaled : (rs : List Run) (f k : ℕ) → 0 < f → flag_at (map (scaled f) rs) k ≡ flag_at rs (k / f)
flag_at-scaled [] f k h = refl
flag_at-scaled (r ∷ rs) f k h = elim (cases_lt k (r.count * f)) [
  | inl lt ↦ rw (lt_yes k (r.count * f) lt, lt_yes (k / f) r.count (below k r.count f h lt))
  | inr ge ↦
      let shift = past k r.count f h ge in
      rw (lt_no k (r.count * f) ge, lt_no (k / f) r.count shift.0) (flag_at-scaled rs f (k - r.count * f) h ∙ ap (flag_at rs) shift.1)
]
  where
    below : (k n f : ℕ) → 0 < f → k < n * f → k / f < n
    below k n f h lt = (div-lt_iff_lt-mul h).1 lt

    spread : (n d f : ℕ) → (n + d) * f ≡ n * f + d * f
    spread n d f = omega arith

    past : (k n f : ℕ) → 0 < f → n * f ≤ k → (n ≤ k / f) × ((k - n * f) / f ≡ k / f - n)
    past k n f h ge =
        let many : n ≤ k / f = elim (cases_lt (k / f) n) [
          | inl lt ↦ let less = (div-lt_iff_lt-mul {k = f} {x = k} {y = n} h).0 lt in absurd (omega arith)
          | inr le ↦ le
        ] in
        let d = k / f - n in
        let rest : k % f < f = omega arith in
        let quotient : k / f ≡ n + d = omega arith in
        let product : k / f * f ≡ n * f + d * f = ap (λ x. x * f) quotient ∙ spread n d f in
        let same : k - n * f ≡ d * f + k % f = omega (arith, mod-add-div' k f, product) in
        (many, ap (λ x. x / f) same ∙ div-mul-add d f (k % f) rest)

-- a smaller interval has the flag of the one that it is part of
pub flag-scaled : (rs : List Run) (f : ℕ) (k : ℤ) → 0 < f → 0 < total rs → flag (map (scaled f) rs) k ≡ expanded_flag rs f k
flag-scaled rs f k pf some =
    ap (λ n. flag_at (map (scaled f) rs) (place k n)) (total-scaled rs f)
    ∙ flag_at-scaled rs f (place k (total rs * f)) pf
    ∙ ap (flag_at rs) (place-over k (total rs) f some pf)

-- each flag of a turned pattern is the other one
pub flag-turned : (rs : List Run) (k : ℤ) → 0 < total rs → flag (map turned rs) k ≡ not (flag rs k)
flag-turned rs k some =
    ap (λ n. flag_at (map turned rs) (place k n)) (total-turned rs)
    ∙ flag_at-turned rs (place k (total rs)) (place-lt k (total rs) some)

-- the flag k intervals after a place in the round
later-expanded : (rs : List Run) (f : ℕ) (s : ℤ) (k : ℕ) → 0 < f → 0 < total rs → 0 < total rs * f
    → later_flag (map (scaled f) rs) (place s (total rs * f) + k) ≡ expanded_flag rs f (pos k +ℤ s)
later-expanded rs f s k pf some length =
    ap (λ n. flag_at (map (scaled f) rs) ((place s (total rs * f) + k) % n)) (total-scaled rs f)
    ∙ ap (flag_at (map (scaled f) rs)) (sym (place-after s k (total rs * f) length))
    ∙ ap (λ n. flag_at (map (scaled f) rs) (place (pos k +ℤ s) n)) (sym (total-scaled rs f))
    ∙ flag-scaled rs f (pos k +ℤ s) pf some

-- the two rows side by side have the joined flags
pub side_by_side-joined : (junction : Junction) (u : unit.Unit) (a b : Plan) (s t : ℤ) (k : ℕ)
    → 0 < factor a.unit u → 0 < total a.runs → 0 < total a.runs * factor a.unit u
    → 0 < factor b.unit u → 0 < total b.runs → 0 < total b.runs * factor b.unit u
    → side_by_side junction (map (scaled (factor a.unit u)) a.runs) (place s (total a.runs * factor a.unit u))
    (map (scaled (factor b.unit u)) b.runs) (place t (total b.runs * factor b.unit u)) k
    ≡ joined_flag junction u a s b t (pos k)
side_by_side-joined junction u a b s t k fa ta la fb tb lb =
    ap (λ x. joined junction x (later_flag (map (scaled (factor b.unit u)) b.runs) (place t (total b.runs * factor b.unit u) + k)))
    (later-expanded a.runs (factor a.unit u) s k fa ta la)
    ∙ ap (joined junction (expanded_flag a.runs (factor a.unit u) (pos k +ℤ s)))
    (later-expanded b.runs (factor b.unit u) t k fb tb lb)

-- the flag is the same whole rounds later
expanded-rounds : (rs : List Run) (f : ℕ) (k s : ℤ) (n q : ℕ) → 0 < f → 0 < total rs → 0 < total rs * f → 0 < n → n ≡ q * (total rs * f)
    → expanded_flag rs f (pos (place k n) +ℤ s) ≡ expanded_flag rs f (k +ℤ s)
expanded-rounds rs f k s n q pf some length pn e =
    sym (flag-scaled rs f (pos (place k n) +ℤ s) pf some)
    ∙ ap (λ t. flag_at (map (scaled f) rs) (place (pos (place k n) +ℤ s) t)) (total-scaled rs f)
    ∙ ap (flag_at (map (scaled f) rs)) (place-in_rounds k s n (total rs * f) q pn length e)
    ∙ ap (λ t. flag_at (map (scaled f) rs) (place (k +ℤ s) t)) (sym (total-scaled rs f))
    ∙ flag-scaled rs f (k +ℤ s) pf some

-- runs of n flags, repeated, have at each interval the flag of its place in the round
pub flag-runs_of : (f : ℕ → Bool) (n : ℕ) (k : ℤ) → 0 < n → flag (runs_of f n) k ≡ f (place k n)
flag-runs_of f n k some =
    ap (λ t. flag_at (runs_of f n) (place k t)) (total-runs_from f 0 n)
    ∙ flag_at-runs_from f 0 n (place k n) (place-lt k n some)
    ∙ ap f (zero-add (place k n))
  where
    zero-add : (m : ℕ) → 0 + m ≡ m
    zero-add m = omega arith

-- the joined flags repeat after a common multiple of the lengths
pub flag-joined : (junction : Junction) (u : unit.Unit) (a b : Plan) (s t : ℤ) (n qa qb : ℕ) (k : ℤ)
    → 0 < factor a.unit u → 0 < total a.runs → 0 < total a.runs * factor a.unit u
    → 0 < factor b.unit u → 0 < total b.runs → 0 < total b.runs * factor b.unit u
    → 0 < n → n ≡ qa * (total a.runs * factor a.unit u) → n ≡ qb * (total b.runs * factor b.unit u)
    → flag (runs_of (λ i. joined_flag junction u a s b t (pos i)) n) k ≡ joined_flag junction u a s b t k
flag-joined junction u a b s t n qa qb k fa ta la fb tb lb pn ea eb =
    flag-runs_of (λ i. joined_flag junction u a s b t (pos i)) n k pn
    ∙ ap (λ x. joined junction x (expanded_flag b.runs (factor b.unit u) (pos (place k n) +ℤ t)))
    (expanded-rounds a.runs (factor a.unit u) k s n qa fa ta la pn ea)
    ∙ ap (joined junction (expanded_flag a.runs (factor a.unit u) (k +ℤ s)))
    (expanded-rounds b.runs (factor b.unit u) k t n qb fb tb lb pn eb)
