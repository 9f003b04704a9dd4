-- Numbers of windows: those of the puts, and those that stand.
use Rattle.std.proofs.Common.{◌≡◌, ℕ, ◌≤◌, Bool, true, false, ◌&&◌, ◌||◌, ◌==◌, not, cond, nat_lt, List, [], ◌∷◌, ◌++◌, refl, sym, ap, subst, ◌∙◌, arith}
use Rattle.std.specs.List.{list_any}
use Rattle.std.proofs.lemmas.Bool.{false≢true}
use Rattle.std.proofs.lemmas.Bool.Decides.{nat_tests}
use Rattle.std.proofs.lemmas.List.Folds.{list_any-append}
use Rattle.ts_rolling.specs.Sets.{later, greatest, is_old, is_gone}

-- a number is one of a list's
abbrev pub has : List ℕ → ℕ → Bool
has ks j = list_any (λ k. k == j) ks

-- a window of puts stands: something was put there, and it isn't old
abbrev pub stands : ℕ → List ℕ → ℕ → Bool
stands n ks j = has ks j && not (is_old n (greatest ks) j)

pub eq_refl : (j : ℕ) → (j == j) ≡ true
eq_refl j = grind (arith, nat_tests)

pub eq_same : (k j : ℕ) → (k == j) ≡ true → k ≡ j
eq_same k j h = grind (arith, nat_tests)

pub eq_apart : (k j : ℕ) → (k ≡ j → ⊥) → (k == j) ≡ false
eq_apart k j h = unless (k == j) (λ yes_. h (eq_same k j yes_))
  where
    unless : (b : Bool) → (b ≡ true → ⊥) → b ≡ false
    unless true f = absurd (f refl)
    unless false f = refl

later_first : (j k : ℕ) → j ≤ later j k
later_first j k = grind (arith, nat_tests)

later_second : (j k : ℕ) → k ≤ later j k
later_second j k = grind (arith, nat_tests)

later_within : (j k m : ℕ) → j ≤ m → k ≤ m → later j k ≤ m
later_within j k m h g = grind (arith, nat_tests)

-- each number is at most the greatest
pub at_most : (ks : List ℕ) (j : ℕ) → has ks j ≡ true → j ≤ greatest ks
at_most [] j h = absurd (false≢true h)
at_most (k ∷ ks) j h = by (k == j) refl (at_most ks j) h
  where
    by : (b : Bool) → (k == j) ≡ b → (has ks j ≡ true → j ≤ greatest ks) → (b || has ks j) ≡ true → j ≤ later k (greatest ks)
    by true e more g = let same = eq_same k j e in let up = later_first k (greatest ks) in omega (arith, same, up)
    by false e more g = let rest = more g in let up = later_second k (greatest ks) in omega (arith, rest, up)

-- a bound of all is one of the greatest
pub greatest_within : (ks : List ℕ) (m : ℕ) → ((j : ℕ) → has ks j ≡ true → j ≤ m) → greatest ks ≤ m
greatest_within [] m all = omega arith
greatest_within (k ∷ ks) m all =
    later_within k (greatest ks) m (all k (ap (λ b. b || has ks k) (eq_refl k)))
    (greatest_within ks m (λ j h. all j (or_second (k == j) (has ks j) h)))
  where
    or_second : (a b : Bool) → b ≡ true → (a || b) ≡ true
    or_second true b h = refl
    or_second false b h = h

-- the greatest is one of them
pub has_greatest : (k : ℕ) (ks : List ℕ) → has (k ∷ ks) (greatest (k ∷ ks)) ≡ true
has_greatest k [] = ap (λ b. b || false) (subst (λ m. (k == m) ≡ true) (sym (alone k)) (eq_refl k))
  where
    alone : (j : ℕ) → later j 0 ≡ j
    alone j = grind (arith, nat_tests)
has_greatest k (m ∷ ms) = by (nat_lt k (greatest (m ∷ ms))) (has_greatest m ms)
  where
    by : (b : Bool) → has (m ∷ ms) (greatest (m ∷ ms)) ≡ true → ((k == cond b (greatest (m ∷ ms)) k) || has (m ∷ ms) (cond b (greatest (m ∷ ms)) k)) ≡ true
    by true rest = or_second (k == greatest (m ∷ ms)) _ rest
      where
        or_second : (a b : Bool) → b ≡ true → (a || b) ≡ true
        or_second true b h = refl
        or_second false b h = h
    by false rest = ap (λ b. b || has (m ∷ ms) k) (eq_refl k)

later-zero : (j : ℕ) → later 0 j ≡ j
later-zero j = grind (arith, nat_tests)

later-shift : (k a j : ℕ) → later k (later a j) ≡ later (later k a) j
later-shift k a j = grind (arith, nat_tests)

-- one more
pub greatest-push : (ks : List ℕ) (j : ℕ) → greatest (ks ++ j ∷ []) ≡ later (greatest ks) j
greatest-push [] j = alone j ∙ sym (later-zero j)
  where
    alone : (j : ℕ) → later j 0 ≡ j
    alone j = grind (arith, nat_tests)
greatest-push (k ∷ ks) j = ap (later k) (greatest-push ks j) ∙ later-shift k (greatest ks) j

pub has-push : (ks : List ℕ) (j k : ℕ) → has (ks ++ j ∷ []) k ≡ (has ks k || (j == k))
has-push ks j k = list_any-append (λ x. x == k) ks (j ∷ []) ∙ ap (λ b. has ks k || b) (alone (j == k))
  where
    alone : (b : Bool) → (b || false) ≡ b
    alone true = refl
    alone false = refl

and_first : (a b : Bool) → (a && b) ≡ true → a ≡ true
and_first true b h = refl
and_first false b h = h

and_both : (a b : Bool) → a ≡ true → b ≡ true → (a && b) ≡ true
and_both true b h g = g
and_both false b h g = h

or_parts : (a b : Bool) → (a || b) ≡ false → (a ≡ false) × (b ≡ false)
or_parts true b e = absurd (false≢true (sym e))
or_parts false b e = (refl, e)

-- where no window is old beside j, none of them is
reach : (n j : ℕ) (l : List ℕ) (m : ℕ) → has l m ≡ true → list_any (λ k. is_old n k j) l ≡ false → is_old n m j ≡ false
reach n j [] m h none = absurd (false≢true h)
reach n j (k ∷ l) m h none = at (k == m) refl (λ g. reach n j l m g (or_parts (is_old n k j) (list_any (λ k. is_old n k j) l) none).1) h
  where
    at : (b : Bool) → (k == m) ≡ b → (has l m ≡ true → is_old n m j ≡ false) → (b || has l m) ≡ true → is_old n m j ≡ false
    at true e more g = subst (λ x. is_old n x j ≡ false) (eq_same k m e) (or_parts (is_old n k j) (list_any (λ k. is_old n k j) l) none).0
    at false e more g = more g

-- the live windows are those of puts that stand
module _ (n : ℕ) (least : 1 ≤ n) (ks live : List ℕ) (alike : (k : ℕ) → has live k ≡ stands n ks k) where
  not_old : (m : ℕ) → is_old n m m ≡ false
  not_old m = grind (arith, nat_tests, least)

  newest_stands : (k : ℕ) (rest : List ℕ) → ks ≡ k ∷ rest → has live (greatest ks) ≡ true
  newest_stands k rest is =
      alike (greatest ks)
      ∙ and_both (has ks (greatest ks)) _ (subst (λ l. has l (greatest l) ≡ true) (sym is) (has_greatest k rest)) (ap not (not_old (greatest ks)))

  -- so the newest of them is the newest of all puts
  pub same_newest : greatest live ≡ greatest ks
  same_newest = by ks refl
    where
      within : greatest live ≤ greatest ks
      within = greatest_within live (greatest ks) (λ j h. at_most ks j (and_first (has ks j) _ (sym (alike j) ∙ h)))

      both : (a b : ℕ) → a ≤ b → b ≤ a → a ≡ b
      both a b h g = omega (arith, h, g)

      by : (l : List ℕ) → ks ≡ l → greatest live ≡ greatest ks
      by [] is = both _ _ within (let none = ap greatest is in omega (arith, none))
      by (k ∷ rest) is = both _ _ within (at_most live (greatest ks) (newest_stands k rest is))

  -- a window that isn't gone isn't older than the newest put allows
  pub gone_by_newest : (j : ℕ) → is_gone n live j ≡ false → is_old n (greatest ks) j ≡ false
  gone_by_newest j kept = by ks refl
    where
      young : (m : ℕ) → m ≡ 0 → is_old n m j ≡ false
      young m e = grind (arith, nat_tests, least)

      by : (l : List ℕ) → ks ≡ l → is_old n (greatest ks) j ≡ false
      by [] is = young (greatest ks) (ap greatest is)
      by (k ∷ rest) is = reach n j live (greatest ks) (newest_stands k rest is) kept

  old-push : (k j : ℕ) → (stands n ks k && not (is_old n (later (greatest ks) j) k)) ≡ (has ks k && not (is_old n (later (greatest ks) j) k))
  old-push k j = by (has ks k) (is_old n (greatest ks) k) refl
    where
      older : (m : ℕ) → is_old n m k ≡ true → is_old n (later m j) k ≡ true
      older m h = let up = later_first m j in grind (arith, nat_tests, up)

      by : (a b : Bool) → is_old n (greatest ks) k ≡ b → ((a && not b) && not (is_old n (later (greatest ks) j) k)) ≡ (a && not (is_old n (later (greatest ks) j) k))
      by true true e = sym (ap not (older (greatest ks) e))
      by true false e = refl
      by false b e = refl

  -- a put leaves each other window that stands where it isn't old then
  pub stands-other : (j k : ℕ) → (k ≡ j → ⊥) → stands n (ks ++ j ∷ []) k ≡ (stands n ks k && not (is_old n (later (greatest ks) j) k))
  stands-other j k other =
      (λ i. has-push ks j k i && not (is_old n (greatest-push ks j i) k))
      ∙ ap (λ b. (has ks k || b) && not (is_old n (later (greatest ks) j) k)) (eq_apart j k (λ e. other (sym e)))
      ∙ ap (λ b. b && not (is_old n (later (greatest ks) j) k)) (or_none (has ks k))
      ∙ sym (old-push k j)
    where
      or_none : (b : Bool) → (b || false) ≡ b
      or_none true = refl
      or_none false = refl

  -- its own isn't old then
  pub own_young : (j : ℕ) → is_gone n live j ≡ false → is_old n (later (greatest ks) j) j ≡ false
  own_young j kept = young (greatest ks) (gone_by_newest j kept)
    where
      young : (m : ℕ) → is_old n m j ≡ false → is_old n (later m j) j ≡ false
      young m h = grind (arith, nat_tests, least)

  pub stands-own : (j : ℕ) → is_gone n live j ≡ false → stands n (ks ++ j ∷ []) j ≡ true
  stands-own j kept =
      (λ i. has-push ks j j i && not (is_old n (greatest-push ks j i) j))
      ∙ ap (λ b. (has ks j || b) && not (is_old n (later (greatest ks) j) j)) (eq_refl j)
      ∙ (λ i. or_all (has ks j) i && not (own_young j kept i))
    where
      or_all : (b : Bool) → (b || true) ≡ true
      or_all true = refl
      or_all false = refl

  -- where it doesn't stand yet, nothing was put there
  pub none_yet : (j : ℕ) → is_gone n live j ≡ false → stands n ks j ≡ false → has ks j ≡ false
  none_yet j kept none = by (has ks j) refl
    where
      by : (b : Bool) → has ks j ≡ b → has ks j ≡ false
      by true e = absurd (false≢true (sym none ∙ and_both (has ks j) _ e (ap not (gone_by_newest j kept))))
      by false e = e
