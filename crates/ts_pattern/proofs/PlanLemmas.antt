-- What the definitions of the algebra give, case by case.
use Rattle.std.proofs.Common.{◌≡◌, ℕ, suc, ◌+◌, ◌*◌, ◌/◌, ◌<◌, ◌≤◌, inl, inr, Bool, true, ◌&&◌, List, [], ◌∷◌, map, length, refl, sym, ap, ◌∙◌, arith, subst, nat_lt, nat_le, IsTrue, Some, None, Result, Ok, Err, IfOk, ℤ, pos}
use Rattle.std.proofs.lemmas.Bool.{and_parts, cases_lt, cases_Bool}
use Rattle.std.proofs.lemmas.Bool.Decides.{nat_tests}
use Rattle.std.proofs.Math.Nat.{one-le-mul, le-div_iff_mul-le}
use Rattle.ts_base.specs.declared.refusal.Refusal.{Refusal}
use Rattle.ts_base.specs.declared.refusal.Refusal.TheVariants.{PatternTooLong}
use Rattle.ts_base.specs.declared.fault.Trouble.{Trouble}
use Rattle.ts_base.specs.declared.fault.Trouble.TheVariants.{Refused, Memory}
use Rattle.ts_base.specs.declared.unit.Unit as unit
use Rattle.ts_base.specs.declared.unit.Unit.TheVariants.{Second, Minute, Hour, Day, Week, Month, Year}
use Rattle.ts_pattern.specs.declared.run.Run.{Run}
use Rattle.ts_pattern.specs.declared.junction.Junction.{Junction}
use Rattle.ts_pattern.specs.Patterns.{Plan, total, flag_at, flag, runs_of, are_merged, is_pattern, differs_from, same_flag, scaled, size, is_monthly, factor, is_made_of, smaller_unit, plan_of_flags, expanded_flag, expanded_plan, joined_flag, joined_length, joined_in, joined_plan}
use Rattle.ts_base.specs.Answer.{Answers}
use Rattle.ts_pattern.proofs.RunLemmas.{lt_yes, lt_no}
use Rattle.ts_pattern.proofs.CursorLemmas.{pattern-merged}
use Rattle.ts_pattern.proofs.JoinLemmas.{total-runs_from}
use Rattle.ts_pattern.proofs.MultipleLemmas.{least-positive, least-rounds}
use Rattle.ts_pattern.proofs.WholeLemmas.{place-early}
use Rattle.ts_pattern.proofs.AlgebraLemmas.{total-scaled, flag-scaled, flag-joined}
use Rattle.ts_pattern.proofs.GrowLemmas.{pattern_test, runs_from-agree, runs_from-merged}

-- the tests of a pattern, one by one
pub record IsTested (rs : List Run) : Type 0 where
  pub merged : are_merged rs ≡ true
  pub some : 1 ≤ length rs
  pub few : length rs ≤ 512
  pub short : total rs ≤ 527_040
  pub long : 0 < total rs

pub tested : (rs : List Run) → IsTrue (is_pattern rs) → IsTested rs
tested rs h =
    let a = and_parts (are_merged rs && nat_le 1 (length rs) && nat_le (length rs) 512) (nat_le (total rs) 527_040) h in
    let b = and_parts (are_merged rs && nat_le 1 (length rs)) (nat_le (length rs) 512) a.0 in
    let d = and_parts (are_merged rs) (nat_le 1 (length rs)) b.0 in
    record {
      merged = d.0;
      some = grind (arith, nat_tests);
      few = grind (arith, nat_tests);
      short = grind (arith, nat_tests);
      long = (pattern-merged rs h).1;
    }

-- more than 527040 flags
pub plan-long : (u : unit.Unit) (f : ℕ → Bool) (n : ℕ) → 527_040 < n → plan_of_flags u f n ≡ Err (PatternTooLong n 0)
plan-long u f n h = rw (lt_yes 527_040 n h) refl

-- more than 512 runs
pub plan-many : (u : unit.Unit) (f : ℕ → Bool) (n : ℕ) → n ≤ 527_040 → 512 < length (runs_of f n) → plan_of_flags u f n ≡ Err (PatternTooLong n (length (runs_of f n)))
plan-many u f n h many = rw (lt_no 527_040 n h, lt_yes 512 (length (runs_of f n)) many) refl

-- neither
pub plan-fits : (u : unit.Unit) (f : ℕ → Bool) (n : ℕ) → n ≤ 527_040 → length (runs_of f n) ≤ 512 → plan_of_flags u f n ≡ Ok (record { unit = u; runs = runs_of f n })
plan-fits u f n h few = rw (lt_no 527_040 n h, lt_no 512 (length (runs_of f n)) few) refl

-- flags that agree give the same pattern
pub plan-agree : (u : unit.Unit) (f g : ℕ → Bool) (n : ℕ) → ((i : ℕ) → f i ≡ g i) → plan_of_flags u f n ≡ plan_of_flags u g n
plan-agree u f g n h =
    let same : runs_of f n ≡ runs_of g n = runs_from-agree f g 0 n (λ i lt. h (0 + i)) in
    rw same refl

-- the pattern that flags gave
pub plan-is : (u : unit.Unit) (f : ℕ → Bool) (n : ℕ) (p : Plan) → plan_of_flags u f n ≡ Ok p → (p.unit ≡ u) × (p.runs ≡ runs_of f n)
plan-is u f n p e = elim (cases_lt 527_040 n) [
  | inl lt ↦ let none = plan-long u f n lt in absurd (cc)
  | inr ge ↦ elim (cases_lt 512 (length (runs_of f n))) [
    | inl lt ↦ let none = plan-many u f n ge lt in absurd (cc)
    | inr le ↦
        let here = plan-fits u f n ge le in
        let same : record { unit = u; runs = runs_of f n } ≡ p = cc in
        (ap (λ (q : Plan). q.unit) (sym same), ap (λ (q : Plan). q.runs) (sym same))
  ]
]

-- an answer to the same
pub answers-same : {A : Type 0} (a b : Result A Refusal) (r : Result A Trouble) → a ≡ b → Answers a r → Answers b r
answers-same a b r e h = subst (λ x. Answers x r) e h

-- merged runs in a smaller unit are merged
differs-scaled : (f : ℕ) (r : Run) (rs : List Run) → differs_from (scaled f r) (map (scaled f) rs) ≡ differs_from r rs
differs-scaled f r [] = refl
differs-scaled f r (s ∷ rest) = refl

are_merged-scaled : (rs : List Run) (f : ℕ) → 0 < f → are_merged rs ≡ true → are_merged (map (scaled f) rs) ≡ true
are_merged-scaled [] f h m = refl
are_merged-scaled (r ∷ rs) f h m =
    let parts = and_parts (nat_lt 0 r.count && differs_from r rs) (are_merged rs) m in
    let first = and_parts (nat_lt 0 r.count) (differs_from r rs) parts.0 in
    let some : 0 < r.count = grind (arith, nat_tests) in
    rw (lt_yes 0 (r.count * f) (one-le-mul some h), differs-scaled f r rs, first.1, are_merged-scaled rs f h parts.1) refl

length-scaled : (rs : List Run) (f : ℕ) → length (map (scaled f) rs) ≡ length rs
length-scaled [] f = refl
length-scaled (r ∷ rs) f = ap suc (length-scaled rs f)

pub is_pattern-scaled : (rs : List Run) (f : ℕ) → 0 < f → total rs * f ≤ 527_040 → IsTrue (is_pattern rs) → is_pattern (map (scaled f) rs) ≡ true
is_pattern-scaled rs f h small p =
    let t = tested rs p in
    pattern_test (map (scaled f) rs) (are_merged-scaled rs f h t.merged) (omega (arith, length-scaled rs f, t.some))
    (omega (arith, length-scaled rs f, t.few)) (omega (arith, total-scaled rs f))

-- the runs of the expanded flags are the longer runs
pub runs-expanded : (rs : List Run) (f : ℕ) → 0 < f → IsTrue (is_pattern rs) → runs_of (λ i. expanded_flag rs f (pos i)) (total rs * f) ≡ map (scaled f) rs
runs-expanded rs f h p =
    let t = tested rs p in
    let all = map (scaled f) rs in
    ap (runs_of (λ i. expanded_flag rs f (pos i))) (sym (total-scaled rs f))
    ∙ runs_from-merged all (λ i. expanded_flag rs f (pos i)) 0 (are_merged-scaled rs f h t.merged)
    (λ i lt. at_zero i ∙ sym (flag-scaled rs f (pos i) h t.long) ∙ ap (flag_at all) (place-early i (total all) lt))
  where
    at_zero : (i : ℕ) → expanded_flag rs f (pos (0 + i)) ≡ expanded_flag rs f (pos i)
    at_zero i = let same : 0 + i ≡ i = omega arith in ap (λ n. expanded_flag rs f (pos n)) same

-- each unit is made of itself
made-self : (u : unit.Unit) → is_made_of u u ≡ true
made-self Second = refl
made-self Minute = refl
made-self Hour = refl
made-self Day = refl
made-self Week = refl
made-self Month = refl
made-self Year = refl

-- both units are made of the smaller one
pub smaller-made : (a b u : unit.Unit) → smaller_unit a b ≡ Some u → (is_made_of a u ≡ true) × (is_made_of b u ≡ true)
smaller-made a b u e = elim (cases_Bool (is_made_of a b)) [
  | inl left ↦
      let same : b ≡ u = let whole : Some b ≡ Some u = rw left at e in cc in
      (ap (is_made_of a) (sym same) ∙ left, ap (is_made_of b) (sym same) ∙ made-self b)
  | inr other ↦ elim (cases_Bool (is_made_of b a)) [
    | inl right ↦
        let same : a ≡ u = let whole : Some a ≡ Some u = rw (other, right) at e in cc in
        (ap (is_made_of a) (sym same) ∙ made-self a, ap (is_made_of b) (sym same) ∙ right)
    | inr neither ↦ absurd (let none : None ≡ Some u = rw (other, neither) at e in cc)
  ]
]

size-positive : (u : unit.Unit) → 0 < size u
size-positive Second = omega arith
size-positive Minute = omega arith
size-positive Hour = omega arith
size-positive Day = omega arith
size-positive Week = omega arith
size-positive Month = omega arith
size-positive Year = omega arith

-- a unit has at least one of the smaller unit
pub factor-positive : (a u : unit.Unit) → is_made_of a u ≡ true → 0 < factor a u
factor-positive a u h =
    let parts = and_parts (same_flag (is_monthly a) (is_monthly u)) (nat_le (size u) (size a)) h in
    let le : size u ≤ size a = grind (arith, nat_tests) in
    let one : 1 * size u ≤ size a = omega arith in
    (le-div_iff_mul-le {k = size u} {x = 1} {y = size a} (size-positive u)).1 one

-- an answer in the smaller unit is the answer
pub answer-joined : (junction : Junction) (a b : Plan) (s t : ℤ) (u : unit.Unit) (n : ℕ) (r : Result Plan Trouble)
    → smaller_unit a.unit b.unit ≡ Some u → n ≡ joined_length u a b
    → Answers (plan_of_flags u (λ k. joined_flag junction u a s b t (pos k)) n) r → Answers (joined_plan junction a s b t) r
answer-joined junction a b s t u n r e same h =
    let whole : joined_plan junction a s b t ≡ plan_of_flags u (λ k. joined_flag junction u a s b t (pos k)) n =
    ap (λ o. joined_in o junction a s b t) e ∙ ap (plan_of_flags u (λ k. joined_flag junction u a s b t (pos k))) (sym same) in
    subst (λ x. Answers x r) (sym whole) h

-- and its flags are the joined ones, at every interval
pub flags-joined : (junction : Junction) (a b : Plan) (s t : ℤ) (u : unit.Unit) (n : ℕ) (r : Result Plan Trouble)
    → IsTrue (is_pattern a.runs) → IsTrue (is_pattern b.runs) → smaller_unit a.unit b.unit ≡ Some u → n ≡ joined_length u a b
    → Answers (plan_of_flags u (λ k. joined_flag junction u a s b t (pos k)) n) r
    → IfOk r (λ (p : Plan). (k : ℤ) → flag p.runs k ≡ joined_flag junction p.unit a s b t k)
flags-joined junction a b s t u n (Err (Refused why)) pa pb e same h = tt
flags-joined junction a b s t u n (Err (Memory error)) pa pb e same h = tt
flags-joined junction a b s t u n (Ok p) pa pb e same h =
    let f = λ (k : ℕ). joined_flag junction u a s b t (pos k) in
    let is = plan-is u f n p h in
    let made = smaller-made a.unit b.unit u e in
    let fa = factor-positive a.unit u made.0 in
    let fb = factor-positive b.unit u made.1 in
    let ta = (tested a.runs pa).long in
    let tb = (tested b.runs pb).long in
    let la : 0 < total a.runs * factor a.unit u = one-le-mul ta fa in
    let lb : 0 < total b.runs * factor b.unit u = one-le-mul tb fb in
    let rounds = least-rounds (total a.runs * factor a.unit u) (total b.runs * factor b.unit u) la lb in
    let some : 0 < n = omega (arith, same, least-positive (total a.runs * factor a.unit u) (total b.runs * factor b.unit u)) in
    λ k. ap (λ rs. flag rs k) is.1
    ∙ flag-joined junction u a b s t n (joined_length u a b / (total a.runs * factor a.unit u)) (joined_length u a b / (total b.runs * factor b.unit u)) k
    fa ta la fb tb lb some (same ∙ rounds.0) (same ∙ rounds.1)
    ∙ ap (λ v. joined_flag junction v a s b t k) (sym is.0)

-- and it is as long as their common length
pub length-joined : (a b : Plan) (u : unit.Unit) (f : ℕ → Bool) (n : ℕ) (r : Result Plan Trouble)
    → n ≡ joined_length u a b → Answers (plan_of_flags u f n) r → IfOk r (λ (p : Plan). total p.runs ≡ joined_length p.unit a b)
length-joined a b u f n (Err (Refused why)) same h = tt
length-joined a b u f n (Err (Memory error)) same h = tt
length-joined a b u f n (Ok p) same h =
    let is = plan-is u f n p h in
    ap total is.1 ∙ total-runs_from f 0 n ∙ same ∙ ap (λ v. joined_length v a b) (sym is.0)

-- the pattern in a smaller unit
pub expanded-is : (p : Plan) (u : unit.Unit) → IsTrue (is_pattern p.runs) → is_made_of p.unit u ≡ true → total p.runs * factor p.unit u ≤ 527_040
    → expanded_plan p u ≡ Ok (record { unit = u; runs = map (scaled (factor p.unit u)) p.runs })
expanded-is p u h made small =
    let f = λ (k : ℕ). expanded_flag p.runs (factor p.unit u) (pos k) in
    let n = total p.runs * factor p.unit u in
    let runs = runs-expanded p.runs (factor p.unit u) (factor-positive p.unit u made) h in
    let few : length (runs_of f n) ≤ 512 = omega (arith, ap length runs, length-scaled p.runs (factor p.unit u), (tested p.runs h).few) in
    rw made (plan-fits u f n small few ∙ ap (λ rs. Ok (record { unit = u; runs = rs })) runs)

pub expanded-long : (p : Plan) (u : unit.Unit) → is_made_of p.unit u ≡ true → 527_040 < total p.runs * factor p.unit u
    → expanded_plan p u ≡ Err (PatternTooLong (total p.runs * factor p.unit u) 0)
expanded-long p u made long =
    rw made (plan-long u (λ (k : ℕ). expanded_flag p.runs (factor p.unit u) (pos k)) (total p.runs * factor p.unit u) long)
