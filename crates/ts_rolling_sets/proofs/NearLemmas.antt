-- A plan is made of the newest window, of those that are old, and of whether the one of the put is there.
use Rattle.std.proofs.Common.{◌≡◌, ℕ, zero, suc, ◌+◌, ◌-◌, ◌<◌, ◌≤◌, ◌==◌, ◌&&◌, ◌||◌, Bool, true, false, not, cond, is_none, inl, inr, Option, Some, None, IfSome, Ok, Err, List, [], ◌∷◌, ◌++◌, length, get_or, option_to_list, refl, sym, ap, subst, ◌∙◌, arith}
use Rattle.std.proofs.lemmas.Bool.{false≢true, cases_lt}
use Rattle.std.proofs.lemmas.Bool.Decides.{nat_tests}
use Rattle.std.proofs.lemmas.List.{append-nil, length-append}
use Rattle.std.proofs.lemmas.List.Elements.{filter-append}
use Rattle.std.specs.Prelude.{filter}
use Rattle.std.specs.Option.{option_map}
use Rattle.std.specs.List.{AllByRecursion, list_any}
use Rattle.std.specs.List.Sorted.{IsStrictlyIncreasing}
use Rattle.ts_base.specs.declared.refusal.Refusal.TheVariants.{WindowGone}
use Rattle.ts_rolling.specs.Sets.{window_key, a_plan, later, greatest, is_old, is_gone, going, plan_for}
use Rattle.ts_rolling.proofs.PlanLemmas.{is_old-earlier, later_first, later_second, later-less, later-zero, greatest_last, gone_is}
use Rattle.ts_rolling_sets.specs.declared.live.Window.{Window}
use Rattle.ts_rolling_sets.specs.Near.{newest, key_if}

-- all of some numbers
all_further : (P Q : ℕ → Type 0) → ((k : ℕ) → P k → Q k) → (xs : List ℕ) → AllByRecursion P xs → AllByRecursion Q xs
all_further P Q further [] all = tt
all_further P Q further (x ∷ xs) all = (further x all.0, all_further P Q further xs all.1)

-- none is greater than the greatest
most : (c : ℕ) (xs : List ℕ) → greatest xs ≤ c → AllByRecursion (λ k. k ≤ c) xs
most c [] le = tt
most c (x ∷ xs) le = let first = later_first x (greatest xs) in let second = later_second x (greatest xs) in (omega (arith, first, le), most c xs (omega (arith, second, le)))

-- a number is or isn't among them
any_none : (w : ℕ) (xs : List ℕ) → AllByRecursion (λ k. k < w) xs → list_any (λ k. k == w) xs ≡ false
any_none w [] all = refl
any_none w (x ∷ xs) all = (λ i. other x all.0 i || any_none w xs all.1 i)
  where
    other : (k : ℕ) → k < w → (k == w) ≡ false
    other k less = grind (arith, nat_tests)

tied : (m n : ℕ) → m ≡ n → (m == n) ≡ true
tied m n same = grind (arith, nat_tests)

later_not : (j k : ℕ) → k ≤ j → later j k ≡ j
later_not j k ge = grind (arith, nat_tests)

any_greatest : (x : ℕ) (xs : List ℕ) → list_any (λ k. k == greatest (x ∷ xs)) (x ∷ xs) ≡ true
any_greatest x [] = ap (λ (b : Bool). b || false) (tied x (later x 0) (sym (later-zero x)))
any_greatest x (y ∷ xs) = elim (cases_lt x (greatest (y ∷ xs))) [
  | inl less ↦
      let same : greatest (x ∷ y ∷ xs) ≡ greatest (y ∷ xs) = later-less x (greatest (y ∷ xs)) less in
      or_second (x == greatest (x ∷ y ∷ xs)) (list_any (λ k. k == greatest (x ∷ y ∷ xs)) (y ∷ xs)) (ap (λ (g : ℕ). list_any (λ k. k == g) (y ∷ xs)) same ∙ any_greatest y xs)
  | inr ge ↦ ap (λ (b : Bool). b || list_any (λ k. k == greatest (x ∷ y ∷ xs)) (y ∷ xs)) (tied x (greatest (x ∷ y ∷ xs)) (sym (later_not x (greatest (y ∷ xs)) ge)))
]
  where
    or_second : (a b : Bool) → b ≡ true → (a || b) ≡ true
    or_second true b is = refl
    or_second false b is = is

-- what stands behind the first of rising numbers rises
tail_rises : (x : ℕ) (xs : List ℕ) → IsStrictlyIncreasing (x ∷ xs) → IsStrictlyIncreasing xs
tail_rises x xs rises k within =
    let up : suc k + 1 ≡ suc (k + 1) = omega arith in
    subst (λ (m : ℕ). get_or xs k 0 < get_or (x ∷ xs) m 0) up (rises (suc k) (omega (arith, within)))

-- the newest of rising windows is the last
pub newest_last : (front : List ℕ) (y : ℕ) → IsStrictlyIncreasing (front ++ y ∷ []) → newest (front ++ y ∷ []) ≡ Some y
newest_last front y rises = some (front ++ y ∷ []) (filled front) ∙ ap Some (greatest_last (front ++ y ∷ []) rises ∙ last front)
  where
    filled : (xs : List ℕ) → 0 < length (xs ++ y ∷ [])
    filled [] = omega arith
    filled (x ∷ xs) = omega arith

    some : (xs : List ℕ) → 0 < length xs → newest xs ≡ Some (greatest xs)
    some [] there = absurd (omega (arith, there))
    some (x ∷ xs) there = refl

    at_end : (xs : List ℕ) → get_or (xs ++ y ∷ []) (length xs) 0 ≡ y
    at_end [] = refl
    at_end (x ∷ xs) = at_end xs

    last : (xs : List ℕ) → get_or (xs ++ y ∷ []) (length (xs ++ y ∷ []) - 1) 0 ≡ y
    last xs =
        let long : length (xs ++ y ∷ []) - 1 ≡ length xs = let e = length-append xs (y ∷ []) in omega (arith, e) in
        ap (λ (n : ℕ). get_or (xs ++ y ∷ []) n 0) long ∙ at_end xs

-- of rising windows those before one that isn't old are the old ones, if they are all old
none_old : (n top w : ℕ) (xs : List ℕ) → IsStrictlyIncreasing (w ∷ xs) → is_old n top w ≡ false → filter (is_old n top) (w ∷ xs) ≡ []
none_old n top w [] rises young = ap (λ (b : Bool). cond b (w ∷ []) []) young
none_old n top w (x ∷ xs) rises young =
    let less : w < x = rises zero (omega arith) in
    let next = is_old-earlier n top w x (omega (arith, less)) young in
    ap (λ (b : Bool). cond b (w ∷ filter (is_old n top) (x ∷ xs)) (filter (is_old n top) (x ∷ xs))) young ∙ none_old n top x xs (tail_rises w (x ∷ xs) rises) next

behind_rises : (front xs : List ℕ) → IsStrictlyIncreasing (front ++ xs) → IsStrictlyIncreasing xs
behind_rises [] xs rises = rises
behind_rises (x ∷ front) xs rises = behind_rises front xs (tail_rises x (front ++ xs) rises)

pub old_in_front : (n top : ℕ) (all front rest : List ℕ) (w : ℕ) → IsStrictlyIncreasing all → all ≡ front ++ w ∷ rest → filter (is_old n top) front ≡ front → is_old n top w ≡ false → front ≡ filter (is_old n top) all
old_in_front n top all front rest w rises parts old young =
    sym (ap (filter (is_old n top)) parts
    ∙ filter-append (is_old n top) front (w ∷ rest)
    ∙ (λ i. old i ++ none_old n top w rest (behind_rises front (w ∷ rest) (subst IsStrictlyIncreasing parts rises)) young i)
    ∙ append-nil front)

-- where there are no live windows there is no newest
pub none_live : (live : List ℕ) → newest live ≡ None → live ≡ []
none_live [] is = refl
none_live (x ∷ xs) is = absurd (cc)

-- a plan is made of the newest window, of whether the one of the put is live, and of those that go
module _ (n w : ℕ) where
  pub plan_first : (live : List ℕ) → newest live ≡ None → plan_for n live w ≡ Ok (a_plan w true [])
  unfolding plan_for
  plan_first live is = ap (λ (ks : List ℕ). plan_for n ks w) (none_live live is)

  gone_by : (x : ℕ) (xs : List ℕ) (g : ℕ) → greatest (x ∷ xs) ≡ g → is_gone n (x ∷ xs) w ≡ is_old n g w
  gone_by x xs g is = sym (gone_is n (x ∷ xs) w) ∙ (λ i. filled i && is_old n (is i) w)
    where
      some : (m : ℕ) → 0 < m → not (m == 0) ≡ true
      some m there = grind (arith, nat_tests)

      filled : not (length (x ∷ xs) == 0) ≡ true
      filled = some (length (x ∷ xs)) (omega arith)

  pub plan_gone : (live : List ℕ) (g : ℕ) → newest live ≡ Some g → is_old n g w ≡ true → plan_for n live w ≡ Err (WindowGone g)
  unfolding plan_for
  plan_gone [] g is old = absurd (cc)
  plan_gone (x ∷ xs) g is old =
      let same : greatest (x ∷ xs) ≡ g = cc in
      let gone = gone_by x xs g same ∙ old in
      (λ i. cond (gone i) (Err (WindowGone (same i))) (Ok (a_plan w (not (list_any (λ k. k == w) (x ∷ xs))) (going n (x ∷ xs) w))))

  pub plan_made : (live : List ℕ) (g : ℕ) → newest live ≡ Some g → is_old n g w ≡ false → (attach : Bool) (purge : List ℕ) → attach ≡ not (list_any (λ k. k == w) live) → purge ≡ filter (is_old n (later g w)) live
      → plan_for n live w ≡ Ok (a_plan w attach purge)
  unfolding plan_for
  plan_made [] g is young attach purge fresh old = absurd (cc)
  plan_made (x ∷ xs) g is young attach purge fresh old =
      let same : greatest (x ∷ xs) ≡ g = cc in
      let gone = gone_by x xs g same ∙ young in
      let goes : going n (x ∷ xs) w ≡ purge = ap (λ (m : ℕ). filter (is_old n (later m w)) (x ∷ xs)) same ∙ sym old in
      (λ i. cond (gone i) (Err (WindowGone (same i))) (Ok (a_plan w (sym fresh i) (goes i))))

-- whether a window is live, by the newest of those that are
pub any_newest : (live : List ℕ) (g w : ℕ) → newest live ≡ Some g → g ≡ w → list_any (λ k. k == w) live ≡ true
any_newest [] g w is same = absurd (cc)
any_newest (x ∷ xs) g w is same =
    let great : greatest (x ∷ xs) ≡ w = let first : greatest (x ∷ xs) ≡ g = cc in first ∙ same in
    ap (λ (m : ℕ). list_any (λ k. k == m) (x ∷ xs)) (sym great) ∙ any_greatest x xs

pub any_later : (live : List ℕ) (g w : ℕ) → newest live ≡ Some g → g < w → list_any (λ k. k == w) live ≡ false
any_later [] g w is less = absurd (cc)
any_later (x ∷ xs) g w is less =
    let same : greatest (x ∷ xs) ≡ g = cc in
    any_none w (x ∷ xs) (all_further (λ k. k ≤ g) (λ k. k < w) (λ k le. omega (arith, le, less)) (x ∷ xs) (most g (x ∷ xs) (let e = same in omega (arith, e))))

-- the key of a window is there where the window is
pub attached : (set : List ℕ) (w : ℕ) (there : Bool) (key : Option (List ℕ)) → key ≡ key_if set w there → is_none key ≡ not there
attached set w true key is = ap (λ (o : Option (List ℕ)). is_none o) is
attached set w false key is = ap (λ (o : Option (List ℕ)). is_none o) is

not_twice : (b : Bool) → not (not b) ≡ b
not_twice true = refl
not_twice false = refl

pub own_key : (set : List ℕ) (w : ℕ) (there attach : Bool) (key : Option (List ℕ)) → key ≡ key_if set w there → attach ≡ is_none key → key ≡ key_if set w (not attach)
own_key set w there attach key is fresh = is ∙ ap (key_if set w) (sym (ap not (fresh ∙ attached set w there key is) ∙ not_twice there))

-- the key of the window that was found, if it is the one of a number
module _ (set : List ℕ) (w : ℕ) where
  own_of_key : (number : ℕ) (key : List ℕ) → key ≡ window_key set number → cond ((number == w) || false) (Some key) None ≡ key_if set w ((number == w) || false)
  own_of_key number key is = by (number == w) refl
    where
      same : (number == w) ≡ true → number ≡ w
      same tie = grind (arith, nat_tests, tie)

      by : (b : Bool) → (number == w) ≡ b → cond (b || false) (Some key) None ≡ key_if set w (b || false)
      by true tie = ap Some (is ∙ ap (window_key set) (same tie))
      by false tie = refl

  pub found_key : (found : Option Window) → IfSome found (λ o. o.key.now ≡ window_key set o.number)
      → cond (list_any (λ k. k == w) (option_to_list (option_map (λ (o : Window). o.number) found))) (option_map (λ (o : Window). o.key.now) found) None
      ≡ key_if set w (list_any (λ k. k == w) (option_to_list (option_map (λ (o : Window). o.number) found)))
  found_key None named = refl
  found_key (Some o) named = own_of_key o.number o.key.now named

-- none of no windows goes
pub none_go : (xs : List ℕ) → (length xs == 0) ≡ true → xs ≡ []
none_go [] is = refl
none_go (x ∷ xs) is = absurd (grind (arith, nat_tests))

-- a window that isn't old, or none
pub one_kept : (n last : ℕ) (o : Option ℕ) → list_any (λ k. not (is_old n last k)) (option_to_list o) ≡ true → (w : ℕ) × (o ≡ Some w) × (is_old n last w ≡ false)
one_kept n last None kept = absurd (cc)
one_kept n last (Some w) kept = (w, refl, by (is_old n last w) kept)
  where
    by : (b : Bool) → (not b || false) ≡ true → b ≡ false
    by true kept = absurd (false≢true kept)
    by false kept = refl

pub none_kept : (n last : ℕ) (o : Option ℕ) → list_any (λ k. not (is_old n last k)) (option_to_list o) ≡ false → filter (is_old n last) (option_to_list o) ≡ option_to_list o
none_kept n last None kept = refl
none_kept n last (Some w) kept = by (is_old n last w) kept
  where
    by : (b : Bool) → (not b || false) ≡ false → cond b (w ∷ []) [] ≡ w ∷ []
    by true kept = refl
    by false kept = absurd (false≢true (sym kept))
