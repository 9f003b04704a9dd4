-- Rising windows, and those of them that are old.
use Rattle.std.proofs.Common.{◌≡◌, ℕ, zero, suc, ◌+◌, ◌-◌, ◌<◌, ◌≤◌, Bool, true, false, cond, not, ◌&&◌, ◌||◌, ◌==◌, inl, inr, nat_le, Ok, Err, Result, ℤ, List, [], ◌∷◌, length, take, get_or, refl, sym, ap, subst, ◌∙◌, arith}
use Rattle.std.specs.Prelude.{filter, nat_eq}
use Rattle.std.specs.List.{AllByRecursion, list_any}
use Rattle.std.specs.List.Sorted.{IsStrictlyIncreasing}
use Rattle.std.proofs.lemmas.List.Kept.{AllPairs-from_increasing}
use Rattle.std.proofs.lemmas.Bool.{false≢true, cases_lt}
use Rattle.std.proofs.lemmas.Bool.Decides.{nat_tests}
use Rattle.ts_base.specs.declared.refusal.Refusal.{Refusal}
use Rattle.ts_base.specs.declared.refusal.Refusal.TheVariants.{WindowGone}
use Rattle.ts_offset.specs.Grid.{GridPlan, offset_of}
use Rattle.ts_rolling.specs.Sets.{Planned, a_plan, later, greatest, is_old, is_gone, going, plan_for, plan_at, planned}

-- what passes is in front
pub filter-front : (p : ℕ → Bool) (xs : List ℕ) (i : ℕ) → ((k : ℕ) → k < i → p (get_or xs k 0) ≡ true) → ((k : ℕ) → i ≤ k → k < length xs → p (get_or xs k 0) ≡ false) → take i xs ≡ filter p xs
filter-front p [] zero before behind = refl
filter-front p [] (suc i) before behind = refl
filter-front p (x ∷ xs) zero before behind =
    filter-front p xs zero (λ k h. absurd (omega (arith, h))) (λ k h g. behind (suc k) (omega arith) (omega (arith, g)))
    ∙ sym (ap (λ b. cond b (x ∷ filter p xs) (filter p xs)) (behind zero (omega arith) (omega arith)))
filter-front p (x ∷ xs) (suc i) before behind =
    ap (λ l. x ∷ l) (filter-front p xs i (λ k h. before (suc k) (omega (arith, h))) (λ k h g. behind (suc k) (omega (arith, h)) (omega (arith, g))))
    ∙ sym (ap (λ b. cond b (x ∷ filter p xs) (filter p xs)) (before zero (omega arith)))

-- a later window is older only where an earlier one is
pub is_old-earlier : (n top j k : ℕ) → j ≤ k → is_old n top j ≡ false → is_old n top k ≡ false
is_old-earlier n top j k le not_old = grind (arith, nat_tests)

-- of rising windows those before the first that isn't old are the old ones
pub old_front : (n top : ℕ) (xs : List ℕ) (i : ℕ) → IsStrictlyIncreasing xs → ((k : ℕ) → k < i → is_old n top (get_or xs k 0) ≡ true) → (i < length xs → is_old n top (get_or xs i 0) ≡ false) → take i xs ≡ filter (is_old n top) xs
old_front n top xs i rising before here =
    filter-front (is_old n top) xs i before (λ k h g.
    elim (cases_lt i k) [
      | inl lt ↦ is_old-earlier n top (get_or xs i 0) (get_or xs k 0) (le_of (AllPairs-from_increasing xs rising i k 0 lt g)) (here (omega (arith, g, lt)))
      | inr le ↦ subst (λ m. is_old n top (get_or xs m 0) ≡ false) (same i k h le) (here (omega (arith, h, g)))
    ])
  where
    le_of : {a b : ℕ} → a < b → a ≤ b
    le_of h = omega (arith, h)

    same : (a b : ℕ) → a ≤ b → b ≤ a → a ≡ b
    same a b h g = omega (arith, h, g)

-- the later of two
pub later_first : (j k : ℕ) → j ≤ later j k
later_first j k = grind (arith, nat_tests)

pub later_second : (j k : ℕ) → k ≤ later j k
later_second j k = grind (arith, nat_tests)

pub later-less : (j k : ℕ) → j < k → later j k ≡ k
later-less j k h = grind (arith, nat_tests)

pub later-zero : (j : ℕ) → later j 0 ≡ j
later-zero j = grind (arith, nat_tests)

tail_rises : (x : ℕ) (xs : List ℕ) → IsStrictlyIncreasing (x ∷ xs) → IsStrictlyIncreasing xs
tail_rises x xs rising k h =
    let up : suc k + 1 ≡ suc (k + 1) = omega arith in
    subst (λ m. get_or xs k 0 < get_or (x ∷ xs) m 0) up (rising (suc k) (omega (arith, h)))

last_of : (x : ℕ) (ys : List ℕ) (n : ℕ) → length ys ≡ suc n → get_or ys (length ys - 1) 0 ≡ get_or (x ∷ ys) (length (x ∷ ys) - 1) 0
last_of x ys n long =
    let first : length ys - 1 ≡ n = omega (arith, long) in
    let second : length (x ∷ ys) - 1 ≡ suc n = omega (arith, long) in
    ap (λ m. get_or ys m 0) first ∙ sym (ap (λ m. get_or (x ∷ ys) m 0) second)

-- of rising numbers the last is the greatest
pub greatest_last : (xs : List ℕ) → IsStrictlyIncreasing xs → greatest xs ≡ get_or xs (length xs - 1) 0
greatest_last [] rising = refl
greatest_last (x ∷ []) rising = later-zero x
greatest_last (x ∷ y ∷ xs) rising =
    let rest = greatest_last (y ∷ xs) (tail_rises x (y ∷ xs) rising) in
    let first : x < y = rising zero (omega arith) in
    let up : y ≤ greatest (y ∷ xs) = later_first y (greatest xs) in
    later-less x (greatest (y ∷ xs)) (omega (arith, first, up)) ∙ rest ∙ last_of x (y ∷ xs) (length xs) refl

-- one of some numbers reaches a bound exactly where the greatest does
pub reached : (c : ℕ) (ks : List ℕ) → list_any (λ k. nat_le c k) ks ≡ true → c ≤ greatest ks
reached c [] h = absurd (false≢true h)
reached c (k ∷ ks) h = elim (cases_lt k c) [
  | inl lt ↦ let rest = reached c ks (skipped (nat_le c k) _ (not_le c k lt) h) in let up = later_second k (greatest ks) in omega (arith, rest, up)
  | inr le ↦ let up = later_first k (greatest ks) in omega (arith, le, up)
]
  where
    skipped : (a b : Bool) → a ≡ false → (a || b) ≡ true → b ≡ true
    skipped true b e h = absurd (false≢true (sym e))
    skipped false b e h = h

    not_le : (c k : ℕ) → k < c → nat_le c k ≡ false
    not_le c k h = grind (arith, nat_tests)

pub reaches : (c : ℕ) (k : ℕ) (ks : List ℕ) → c ≤ greatest (k ∷ ks) → list_any (λ k. nat_le c k) (k ∷ ks) ≡ true
reaches c k [] h = grind (arith, nat_tests)
reaches c k (m ∷ ms) h =
    let rest = reaches c m ms in
    elim (cases_lt k c) [
      | inl lt ↦ or_second (nat_le c k) (list_any (λ k. nat_le c k) (m ∷ ms)) (rest (behind_first k (greatest (m ∷ ms)) c lt h))
      | inr le ↦ ap (λ b. b || list_any (λ k. nat_le c k) (m ∷ ms)) (is_le c k le)
    ]
  where
    or_second : (a b : Bool) → b ≡ true → (a || b) ≡ true
    or_second true b h = refl
    or_second false b h = h

    behind_first : (k g c : ℕ) → k < c → c ≤ later k g → c ≤ g
    behind_first k g c lt h = grind (arith, nat_tests)

    is_le : (c k : ℕ) → c ≤ k → nat_le c k ≡ true
    is_le c k h = grind (arith, nat_tests)

-- some window is n or more later exactly where the greatest is
pub gone_is : (n : ℕ) (ks : List ℕ) (w : ℕ) → (not (length ks == 0) && is_old n (greatest ks) w) ≡ list_any (λ k. is_old n k w) ks
gone_is n [] w = refl
gone_is n (k ∷ ks) w = elim (cases_lt (greatest (k ∷ ks)) (w + n)) [
  | inl lt ↦ none (length ks) (is_old n (greatest (k ∷ ks)) w) _ (not_le (w + n) (greatest (k ∷ ks)) lt) (unless _ (λ yes_. absurd (let r = reached (w + n) (k ∷ ks) yes_ in omega (arith, r, lt))))
  | inr le ↦ some (length ks) (is_old n (greatest (k ∷ ks)) w) _ (is_le (w + n) (greatest (k ∷ ks)) le) (reaches (w + n) k ks le)
]
  where
    unless : (b : Bool) → (b ≡ true → ⊥) → b ≡ false
    unless true h = absurd (h refl)
    unless false h = refl

    not_le : (c k : ℕ) → k < c → nat_le c k ≡ false
    not_le c k h = grind (arith, nat_tests)

    is_le : (c k : ℕ) → c ≤ k → nat_le c k ≡ true
    is_le c k h = grind (arith, nat_tests)

    none : (l : ℕ) (a b : Bool) → a ≡ false → b ≡ false → (not (suc l == 0) && a) ≡ b
    none l a b h g = grind (arith, nat_tests)

    some : (l : ℕ) (a b : Bool) → a ≡ true → b ≡ true → (not (suc l == 0) && a) ≡ b
    some l a b h g = grind (arith, nat_tests)

-- what holds of all live windows holds of those that go
kept_of : (P : ℕ → Type 0) (p : ℕ → Bool) (ks : List ℕ) → AllByRecursion P ks → AllByRecursion P (filter p ks)
kept_of P p [] all = tt
kept_of P p (k ∷ ks) all = by (p k) (kept_of P p ks all.1)
  where
    by : (b : Bool) → AllByRecursion P (filter p ks) → AllByRecursion P (cond b (k ∷ filter p ks) (filter p ks))
    by true rest = (all.0, rest)
    by false rest = rest

pub all_going : (P : ℕ → Type 0) (g : GridPlan) (n : ℕ) (live : List ℕ) (stamp : ℤ) (plan : Planned) → planned g n live stamp ≡ Ok plan → AllByRecursion P live → AllByRecursion P plan.purge
unfolding plan_for
all_going P g n live stamp plan is all = by (offset_of g stamp) is
  where
    chosen : (w : ℕ) (b : Bool) → cond b (Err (WindowGone (greatest live))) (Ok (a_plan w (not (list_any (λ k. nat_eq k w) live)) (going n live w))) ≡ Ok plan → AllByRecursion P plan.purge
    chosen w true e = absurd (cc)
    chosen w false e =
        let same : a_plan w (not (list_any (λ k. nat_eq k w) live)) (going n live w) ≡ plan = cc in
        subst (λ (p : Planned). AllByRecursion P p.purge) same (kept_of P (is_old n (later (greatest live) w)) live all)

    by : (o : Result ℕ Refusal) → plan_at n live o ≡ Ok plan → AllByRecursion P plan.purge
    by (Err refusal) e = absurd (cc)
    by (Ok w) e = chosen w (is_gone n live w) e
