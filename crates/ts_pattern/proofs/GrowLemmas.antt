-- Runs that grow at their end.
use Rattle.std.proofs.Common.{◌≡◌, ℕ, zero, suc, ◌+◌, ◌-◌, ◌<◌, ◌≤◌, inl, inr, Bool, true, false, ◌&&◌, List, [], ◌∷◌, ◌++◌, length, refl, sym, ap, ◌∙◌, arith, slice_get, slice_set, Some, None, Option, ◌≢◌, nat_lt}
use Rattle.std.proofs.lemmas.Bool.{and_parts, cases_Bool, ltb-true}
use Rattle.ts_pattern.specs.declared.run.Run.{Run}
use Rattle.ts_pattern.specs.Patterns.{run, total, flag_at, later_flag, same_flag, with_flag, runs_from, runs_of, are_merged, is_pattern, differs_from, joined}
use Rattle.std.proofs.lemmas.Bool.Decides.{nat_tests}
use Rattle.ts_pattern.proofs.JoinLemmas.{total-runs_from, are_merged-runs_from}
use Rattle.ts_pattern.specs.Growth.{extended, ends_on}
use Rattle.ts_pattern.specs.Line.{side_by_side}
use Rattle.ts_pattern.specs.declared.junction.Junction.{Junction}
use mathlib.Core.Bool.{beq}
use Rattle.ts_pattern.proofs.RunLemmas.{lt_yes, lt_no, total-cons}

alone : (on : Bool) (a b : ℕ) → a ≡ b → run on a ∷ [] ≡ run on b ∷ []
alone on a b e = ap (λ n. run on n ∷ []) e

one-extended : (a b x : Bool) (n c : ℕ) → extended (with_flag a (run x n ∷ [])) b c ≡ with_flag a (extended (run x n ∷ []) b c)
one-extended true true true n c = alone true _ _ (omega arith)
one-extended true true false n c = ap (λ k. run true 1 ∷ run false n ∷ run true k ∷ []) refl
one-extended true false true n c = refl
one-extended true false false n c = refl
one-extended false true true n c = refl
one-extended false true false n c = refl
one-extended false false true n c = refl
one-extended false false false n c = alone false _ _ (omega arith)

none-extended : (a b : Bool) (c : ℕ) → extended (with_flag a []) b c ≡ with_flag a (extended [] b c)
none-extended true true c = alone true _ _ (omega arith)
none-extended true false c = refl
none-extended false true c = refl
none-extended false false c = alone false _ _ (omega arith)

extended-with_flag : (a b : Bool) (rs : List Run) (c : ℕ) → extended (with_flag a rs) b c ≡ with_flag a (extended rs b c)
extended-with_flag a b [] c = none-extended a b c
extended-with_flag a b (r ∷ []) c = one-extended a b r.on r.count c
extended-with_flag a b (r ∷ s ∷ rest) c = elim (cases_Bool (same_flag a r.on)) [
  | inl same ↦ rw same
  | inr other ↦ rw other
]

same_flag-self : (b : Bool) → same_flag b b ≡ true
same_flag-self true = refl
same_flag-self false = refl

runs_from-same : (f : ℕ → Bool) (k c : ℕ) (b : Bool) → ((i : ℕ) → i < suc c → f (k + i) ≡ b) → runs_from f k (suc c) ≡ run b (suc c) ∷ []
unfolding runs_from
runs_from-same f k zero b h =
    let at : k + 0 ≡ k = omega arith in
    let here : f k ≡ b = rw at at (h 0 (omega arith)) in
    rw here
runs_from-same f k (suc c) b h =
    let at : k + 0 ≡ k = omega arith in
    let here : f k ≡ b = rw at at (h 0 (omega arith)) in
    let rest = runs_from-same f (k + 1) c b (λ i lt. let e : k + 1 + i ≡ k + suc i = omega arith in rw e (h (suc i) (omega arith))) in
    let count : suc c + 1 ≡ suc (suc c) = omega arith in
    ap (with_flag (f k)) rest ∙ rw (here, same_flag-self b, count)

pub runs_from-extended : (f : ℕ → Bool) (k n c : ℕ) (b : Bool) → 0 < c → ((i : ℕ) → i < c → f (k + n + i) ≡ b) → runs_from f k (n + c) ≡ extended (runs_from f k n) b c
unfolding runs_from
runs_from-extended f k zero zero b pos h = absurd (omega arith)
runs_from-extended f k zero (suc c) b pos h =
    let none : 0 + suc c ≡ suc c = omega arith in
    let start : k + 0 ≡ k = omega arith in
    rw none (runs_from-same f k c b (λ i lt. rw start at (h i lt)))
runs_from-extended f k (suc n) c b pos h =
    let more : suc n + c ≡ suc (n + c) = omega arith in
    let inner = runs_from-extended f (k + 1) n c b pos (λ i lt. let e : k + 1 + n + i ≡ k + suc n + i = omega arith in rw e (h i lt)) in
    rw more (ap (with_flag (f k)) inner ∙ sym (extended-with_flag (f k) b (runs_from f (k + 1) n) c))

length-extended : (rs : List Run) (b : Bool) (c : ℕ) → length rs ≤ length (extended rs b c)
length-extended [] b c = omega arith
length-extended (r ∷ []) b c = elim (cases_Bool (same_flag b r.on)) [
  | inl same ↦ rw same (omega arith)
  | inr other ↦ rw other (omega arith)
]
length-extended (r ∷ s ∷ rest) b c = omega (arith, length-extended (s ∷ rest) b c)

pub length-runs_from_more : (f : ℕ → Bool) (k n m : ℕ) → length (runs_from f k n) ≤ length (runs_from f k (n + m))
length-runs_from_more f k n zero = let e : n + 0 ≡ n = omega arith in rw e (omega arith)
length-runs_from_more f k n (suc m) =
    let e : n + suc m ≡ n + m + 1 = omega arith in
    let step = runs_from-extended f k (n + m) 1 (f (k + (n + m))) (omega arith) (λ i lt. let at : k + (n + m) + i ≡ k + (n + m) = omega arith in ap f at) in
    rw e (rw step (omega (arith, length-runs_from_more f k n m, length-extended (runs_from f k (n + m)) (f (k + (n + m))) 1)))

pub ends_on-last : (rs : List Run) (i : ℕ) (on : Bool) (r : Run) → i + 1 ≡ length rs → slice_get rs i ≡ Some r → ends_on rs on ≡ same_flag r.on on
ends_on-last [] i on r n e = absurd (omega arith)
ends_on-last (x ∷ []) zero on r n e = let same : x ≡ r = cc in rw same
ends_on-last (x ∷ []) (suc i) on r n e = absurd (omega arith)
ends_on-last (x ∷ y ∷ rest) zero on r n e = absurd (omega arith)
ends_on-last (x ∷ y ∷ rest) (suc i) on r n e = ends_on-last (y ∷ rest) i on r (omega arith) e

same_flag-swap : (a b : Bool) → same_flag a b ≡ same_flag b a
same_flag-swap true true = refl
same_flag-swap true false = refl
same_flag-swap false true = refl
same_flag-swap false false = refl

same_flag-true : (a b : Bool) → same_flag a b ≡ true → a ≡ b
same_flag-true true true h = refl
same_flag-true false false h = refl
same_flag-true true false h = sym h
same_flag-true false true h = h

pub extended-same : (rs : List Run) (i : ℕ) (on : Bool) (c : ℕ) (r : Run) → ends_on rs on ≡ true → i + 1 ≡ length rs → slice_get rs i ≡ Some r → extended rs on c ≡ slice_set rs i (run r.on (r.count + c))
extended-same [] i on c r h n e = absurd (omega arith)
extended-same (x ∷ []) zero on c r h n e =
    let same : x ≡ r = cc in
    let flag_is = same_flag-true x.on on h in
    rw (same_flag-swap on x.on, h) (rw (← same) (rw flag_is))
extended-same (x ∷ []) (suc i) on c r h n e = absurd (omega arith)
extended-same (x ∷ y ∷ rest) zero on c r h n e = absurd (omega arith)
extended-same (x ∷ y ∷ rest) (suc i) on c r h n e = ap (λ l. x ∷ l) (extended-same (y ∷ rest) i on c r h (omega arith) e)

pub extended-other : (rs : List Run) (on : Bool) (c : ℕ) → ends_on rs on ≡ false → extended rs on c ≡ rs ++ run on c ∷ []
extended-other [] on c h = refl
extended-other (x ∷ []) on c h = rw (same_flag-swap on x.on, h)
extended-other (x ∷ y ∷ rest) on c h = ap (λ l. x ∷ l) (extended-other (y ∷ rest) on c h)

-- the test `==` of flags
pub beq-same_flag : (a b : Bool) → beq a b ≡ same_flag a b
beq-same_flag true true = refl
beq-same_flag true false = refl
beq-same_flag false true = refl
beq-same_flag false false = refl

positive_total : (rs : List Run) → 0 < total rs → 1 ≤ length rs
positive_total [] h = absurd (omega arith)
positive_total (r ∷ rs) h = omega arith

-- the tests of a pattern
pub pattern_test : (rs : List Run) → are_merged rs ≡ true → 1 ≤ length rs → length rs ≤ 512 → total rs ≤ 527_040 → is_pattern rs ≡ true
pattern_test rs merged some few small = rw merged (grind (arith, nat_tests))

-- while both rows keep their flags, the runs of the joined flags grow by one run
pub join_step : (junction : Junction) (left right : List Run) (from_a from_b at rest_a rest_b step : ℕ) (on_a on_b : Bool)
    → 0 < step → step ≤ rest_a → step ≤ rest_b
    → ((i : ℕ) → i < rest_a → later_flag left (from_a + at + i) ≡ on_a) → ((i : ℕ) → i < rest_b → later_flag right (from_b + at + i) ≡ on_b)
    → runs_of (side_by_side junction left from_a right from_b) (at + step)
    ≡ extended (runs_of (side_by_side junction left from_a right from_b) at) (joined junction on_a on_b) step
join_step junction left right from_a from_b at rest_a rest_b step on_a on_b some fits_a fits_b a b =
    runs_from-extended (side_by_side junction left from_a right from_b) 0 at step (joined junction on_a on_b) some
    (λ i lt.
    let start : 0 + at + i ≡ at + i = omega arith in
    let left_at : from_a + (at + i) ≡ from_a + at + i = omega arith in
    let right_at : from_b + (at + i) ≡ from_b + at + i = omega arith in
    rw start (rw (left_at, right_at) (rw (a i (omega arith), b i (omega arith)))))

pub ends_count : (rs : List Run) (i : ℕ) (r : Run) → slice_get rs i ≡ Some r → r.count ≤ total rs
ends_count [] i r e = absurd (cc)
ends_count (x ∷ rs) zero r e = let same : x ≡ r = cc in rw (← same) (omega (arith, total-cons x rs))
ends_count (x ∷ rs) (suc i) r e = omega (arith, ends_count rs i r e, total-cons x rs)

pub runs_of-zero : (f : ℕ → Bool) (n : ℕ) → n ≡ 0 → runs_of f n ≡ []
unfolding runs_from
runs_of-zero f n e = rw e

-- more flags have no fewer runs
pub too_many : (f : ℕ → Bool) (at end : ℕ) → at ≤ end → 512 < length (runs_of f at) → 512 < length (runs_of f end)
too_many f at end h many =
    let e : at + (end - at) ≡ end = omega arith in
    omega (arith, rw e at (length-runs_from_more f 0 at (end - at)))

length-runs_of_some : (f : ℕ → Bool) (n : ℕ) → 0 < n → 1 ≤ length (runs_of f n)
length-runs_of_some f n h = omega (arith, positive_total (runs_of f n) (omega (arith, total-runs_from f 0 n)))

-- runs of flags within the limits make a pattern
pub is_pattern-runs_of : (f : ℕ → Bool) (n : ℕ) → 0 < n → n ≤ 527_040 → length (runs_of f n) ≤ 512 → is_pattern (runs_of f n) ≡ true
is_pattern-runs_of f n some small few =
    pattern_test (runs_of f n) (are_merged-runs_from f 0 n) (length-runs_of_some f n some) few (omega (arith, total-runs_from f 0 n))

-- the flag of the last run, if there is one
abbrev pub last_flag : List Run → Option Bool
last_flag [] = None
last_flag (r ∷ []) = Some r.on
last_flag (r ∷ s ∷ rest) = last_flag (s ∷ rest)

-- intervals of another flag are one run more
pub length-extended_other : (rs : List Run) (on : Bool) (c : ℕ) → last_flag rs ≢ Some on → length (extended rs on c) ≡ length rs + 1
length-extended_other [] on c h = omega arith
length-extended_other (r ∷ []) on c h = elim (cases_Bool (same_flag on r.on)) [
  | inl same ↦ let flag_is = same_flag-true on r.on same in absurd (h (ap Some (sym flag_is)))
  | inr other ↦ rw other (omega arith)
]
length-extended_other (r ∷ s ∷ rest) on c h = omega (arith, length-extended_other (s ∷ rest) on c h)

-- intervals of the same flag are no run more
pub length-extended_same : (rs : List Run) (on : Bool) (c : ℕ) → last_flag rs ≡ Some on → length (extended rs on c) ≡ length rs
length-extended_same [] on c h = absurd (cc)
length-extended_same (r ∷ []) on c h =
    let same : r.on ≡ on = cc in
    rw same (rw (same_flag-self on) refl)
length-extended_same (r ∷ s ∷ rest) on c h = ap suc (length-extended_same (s ∷ rest) on c h)

-- and the last flag is theirs
pub last_flag-extended : (rs : List Run) (on : Bool) (c : ℕ) → last_flag (extended rs on c) ≡ Some on
last_flag-extended [] on c = refl
last_flag-extended (r ∷ []) on c = elim (cases_Bool (same_flag on r.on)) [
  | inl same ↦ rw same refl
  | inr other ↦ rw other refl
]
last_flag-extended (r ∷ s ∷ []) on c = elim (cases_Bool (same_flag on s.on)) [
  | inl same ↦ rw same refl
  | inr other ↦ rw other refl
]
last_flag-extended (r ∷ s ∷ t ∷ rest) on c = last_flag-extended (s ∷ t ∷ rest) on c

-- the runs of flags that agree are the same
pub runs_from-agree : (f g : ℕ → Bool) (k n : ℕ) → ((i : ℕ) → i < n → f (k + i) ≡ g (k + i)) → runs_from f k n ≡ runs_from g k n
unfolding runs_from
runs_from-agree f g k zero h = refl
runs_from-agree f g k (suc n) h =
    let at : k + 0 ≡ k = omega arith in
    let here : f k ≡ g k = rw at at (h 0 (omega arith)) in
    let rest = runs_from-agree f g (k + 1) n (λ i lt. let e : k + 1 + i ≡ k + suc i = omega arith in rw e (h (suc i) (omega arith))) in
    ap (λ on. with_flag on (runs_from f (k + 1) n)) here ∙ ap (with_flag (g k)) rest

-- a run of one flag before the runs of the further flags, where these begin with the other flag
runs_from-run : (f : ℕ → Bool) (k c m : ℕ) (b : Bool) (rest : List Run) → ((i : ℕ) → i < suc c → f (k + i) ≡ b)
    → runs_from f (k + suc c) m ≡ rest → differs_from (run b 1) rest ≡ true → runs_from f k (suc c + m) ≡ run b (suc c) ∷ rest
unfolding runs_from
runs_from-run f k zero m b rest h e differs =
    let at : k + 0 ≡ k = omega arith in
    let here : f k ≡ b = rw at at (h 0 (omega arith)) in
    let one : suc 0 + m ≡ suc m = omega arith in
    let next : k + suc 0 ≡ k + 1 = omega arith in
    rw (one, here) (ap (with_flag b) (rw next at e) ∙ front b rest differs)
  where
    front : (b : Bool) (rest : List Run) → differs_from (run b 1) rest ≡ true → with_flag b rest ≡ run b 1 ∷ rest
    front b [] d = refl
    front true (r ∷ rest) d = elim (cases_Bool r.on) [ inl on ↦ absurd (let no = rw on at d in cc) | inr off ↦ rw off refl ]
    front false (r ∷ rest) d = elim (cases_Bool r.on) [ inl on ↦ rw on refl | inr off ↦ absurd (let no = rw off at d in cc) ]
runs_from-run f k (suc c) m b rest h e differs =
    let at : k + 0 ≡ k = omega arith in
    let here : f k ≡ b = rw at at (h 0 (omega arith)) in
    let more : suc (suc c) + m ≡ suc (suc c + m) = omega arith in
    let next : k + 1 + suc c ≡ k + suc (suc c) = omega arith in
    let inner = runs_from-run f (k + 1) c m b rest (λ i lt. let s : k + 1 + i ≡ k + suc i = omega arith in rw s (h (suc i) (omega arith))) (rw next e) differs in
    let count : suc c + 1 ≡ suc (suc c) = omega arith in
    rw (more, here) (ap (with_flag b) inner ∙ rw (same_flag-self b, count) refl)

-- merged runs are the runs of their own flags
pub runs_from-merged : (rs : List Run) (f : ℕ → Bool) (k : ℕ) → are_merged rs ≡ true → ((i : ℕ) → i < total rs → f (k + i) ≡ flag_at rs i) → runs_from f k (total rs) ≡ rs
unfolding runs_from
runs_from-merged [] f k m h = refl
runs_from-merged (r ∷ rs) f k m h =
    let parts = and_parts (nat_lt 0 r.count && differs_from r rs) (are_merged rs) m in
    let first = and_parts (nat_lt 0 r.count) (differs_from r rs) parts.0 in
    let some : 0 < r.count = ltb-true 0 r.count first.0 in
    let count : r.count ≡ suc (r.count - 1) = omega arith in
    let cons = total-cons r rs in
    let same : total (r ∷ rs) ≡ suc (r.count - 1) + total rs = omega arith in
    let rest = runs_from-merged rs f (k + suc (r.count - 1)) parts.1
    (λ i lt.
    let at : k + suc (r.count - 1) + i ≡ k + (r.count + i) = omega arith in
    let back : r.count + i - r.count ≡ i = omega arith in
    rw at (h (r.count + i) (omega arith) ∙ rw (lt_no (r.count + i) r.count (omega arith), back) refl)) in
    ap (runs_from f k) same
    ∙ runs_from-run f k (r.count - 1) (total rs) r.on rs
    (λ i lt. h i (omega arith) ∙ rw (lt_yes i r.count (omega arith)) refl)
    rest (differs-any r rs first.1)
    ∙ ap (λ n. run r.on n ∷ rs) (sym count)
  where
    differs-any : (r : Run) (rs : List Run) → differs_from r rs ≡ true → differs_from (run r.on 1) rs ≡ true
    differs-any r [] d = refl
    differs-any r (s ∷ rest) d = d

-- there are no more runs than flags
length-with_flag : (on : Bool) (rs : List Run) → length (with_flag on rs) ≤ length rs + 1
length-with_flag on [] = omega arith
length-with_flag on (r ∷ rs) = elim (cases_Bool (same_flag on r.on)) [
  | inl same ↦ rw same (omega arith)
  | inr other ↦ rw other (omega arith)
]

pub length-runs_from-le : (f : ℕ → Bool) (k n : ℕ) → length (runs_from f k n) ≤ n
unfolding runs_from
length-runs_from-le f k zero = omega arith
length-runs_from-le f k (suc n) = omega (arith, length-with_flag (f k) (runs_from f (k + 1) n), length-runs_from-le f (k + 1) n)
