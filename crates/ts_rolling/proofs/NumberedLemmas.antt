-- Series whose keys have numbers: those of a test, with their numbers, out of a list in the order of keys.
use Rattle.std.proofs.Common.{◌≡◌, ℕ, zero, suc, ◌+◌, ◌<◌, Bool, true, false, ◌&&◌, cond, T, Option, Some, None, option_map, is_some, List, [], ◌∷◌, get_or, map, refl, sym, ap, subst, ◌∙◌, arith}
use Rattle.std.specs.List.{AllByRecursion, filter_map, cons_option}
use Rattle.std.specs.List.Sorted.{IsStrictlyIncreasing}
use Rattle.std.specs.Ordering.{nat_cmp, is_lt, is_eq, eq_by_cmp}
use Rattle.std.specs.declared.cmp.Ordering.{Ordering}
use Rattle.std.specs.declared.cmp.Ordering.TheVariants.{Less, Equal, Greater}
use Rattle.std.specs.Cmp.{tied_itself, ranked}
use Rattle.std.specs.Cmp.Lexicographic.{nat_list_cmp_total}
use Rattle.std.specs.FinMap.{find, is_sorted, slice_cmp-IsAntisymmetric, nat_cmp-IsAntisymmetric}
use Rattle.std.specs.FinMap.Entries.{below_all}
use Rattle.ts_model.specs.Catalogue.{Series, name_cmp}

both : (a b : Bool) → T (a && b) → T a × T b
both true b h = (tt, h)
both false b h = absurd h

joined : (a b : Bool) → T a → T b → T (a && b)
joined true b h g = g
joined false b h g = absurd h

less : (r : Ordering) → T (is_lt r) → r ≡ Less
less Less h = refl
less Equal h = absurd h
less Greater h = absurd h

equal : (r : Ordering) → is_eq r ≡ true → r ≡ Equal
equal Less h = absurd (cc)
equal Equal h = refl
equal Greater h = absurd (cc)

-- a key below all is none of them
none_below : {X : Type 0} (q : List ℕ) (es : List (List ℕ × X)) → T (below_all name_cmp q es) → find name_cmp q es ≡ None
none_below q [] h = refl
none_below q (e ∷ es) h =
    let first = both (is_lt (name_cmp q e.0)) (below_all name_cmp q es) h in
    ap (λ r. cond (is_eq r) (Some e.1) (find name_cmp q es)) (less _ first.0) ∙ none_below q es first.1

-- a key that ties is the same key
same_key : (a b : List ℕ) → eq_by_cmp name_cmp a b ≡ true → a ≡ b
same_key a b h = slice_cmp-IsAntisymmetric nat_cmp-IsAntisymmetric a b (equal (name_cmp a b) h)

itself : (a : List ℕ) → eq_by_cmp name_cmp a a ≡ true
itself a = ap is_eq (tied_itself nat_list_cmp_total a)

-- the value, if it passes
abbrev pub tested : {X : Type 0} → (X → Bool) → Option X → Option X
tested test None = None
tested test (Some x) = cond (test x) (Some x) None

module _ (read : List ℕ → Option ℕ) (key : ℕ → List ℕ) (Good : ℕ → Type 0)
    (to : (k : List ℕ) (j : ℕ) → read k ≡ Some j → Good j × (k ≡ key j))
    (from : (j : ℕ) → Good j → read (key j) ≡ Some j)
    (rises : (i j : ℕ) → Good i → Good j → name_cmp (key i) (key j) ≡ nat_cmp i j)
    (test : Series → Bool) where
  abbrev pick : List ℕ × Series → Option (ℕ × Series)
  pick e = cond (test e.1) (option_map (λ j. (j, e.1)) (read e.0)) None

  -- a number is found where its key is, and the series passes
  pub find-picked : (j : ℕ) → Good j → (es : List (List ℕ × Series)) → T (is_sorted name_cmp es)
      → find nat_cmp j (filter_map pick es) ≡ tested test (find name_cmp (key j) es)
  find-picked j good [] sorted = refl
  find-picked j good (e ∷ es) sorted =
      let parts = both (below_all name_cmp e.0 es) (is_sorted name_cmp es) sorted in
      let rest = find-picked j good es parts.1 in
      elim (read e.0) as (λ o. read e.0 ≡ o
      → find nat_cmp j (cons_option (cond (test e.1) (option_map (λ i. (i, e.1)) o) None) (filter_map pick es))
      ≡ tested test (cond (eq_by_cmp name_cmp (key j) e.0) (Some e.1) (find name_cmp (key j) es))) [
        | None ↦ λ is.
            let apart : eq_by_cmp name_cmp (key j) e.0 ≡ false =
            unless (eq_by_cmp name_cmp (key j) e.0) (λ tie. none_some (sym is ∙ ap read (sym (same_key (key j) e.0 tie)) ∙ from j good)) in
            ap (λ o. find nat_cmp j (cons_option o (filter_map pick es))) (no_number (test e.1) e.1) ∙ rest
            ∙ ap (λ b. tested test (cond b (Some e.1) (find name_cmp (key j) es))) (sym apart)
        | Some i ↦ λ is.
            let there = to e.0 i is in
            let order : eq_by_cmp name_cmp (key j) e.0 ≡ eq_by_cmp nat_cmp j i =
            ap (eq_by_cmp name_cmp (key j)) there.1 ∙ ap is_eq (rises j i good there.0) in
            numbered (test e.1) (eq_by_cmp nat_cmp j i) i e.1 (filter_map pick es) (find name_cmp (key j) es) refl refl rest
            (λ tie. none_below (key j) es (subst (λ k. T (below_all name_cmp k es)) (sym (same_key (key j) e.0 (order ∙ tie))) parts.0))
            ∙ ap (λ b. tested test (cond b (Some e.1) (find name_cmp (key j) es))) (sym order)
      ] refl
    where
      unless : (b : Bool) → (b ≡ true → ⊥) → b ≡ false
      unless true h = absurd (h refl)
      unless false h = refl

      none_some : {i : ℕ} → let o : Option ℕ = None in o ≡ Some i → ⊥
      none_some e = subst T (ap is_some (sym e)) tt

      no_number : (b : Bool) (s : Series) → let o : Option (ℕ × Series) = None in cond b (option_map (λ i. (i, s)) None) None ≡ o
      no_number true s = refl
      no_number false s = refl

      numbered : (pass tie : Bool) (i : ℕ) (s : Series) (ws : List (ℕ × Series)) (o : Option Series) → test s ≡ pass → eq_by_cmp nat_cmp j i ≡ tie
          → find nat_cmp j ws ≡ tested test o → (tie ≡ true → o ≡ None)
          → find nat_cmp j (cons_option (cond pass (Some (i, s)) None) ws) ≡ tested test (cond tie (Some s) o)
      numbered true true i s ws o passes ties rest none =
          ap (λ b. cond b (Some s) (find nat_cmp j ws)) ties ∙ sym (ap (λ b. cond b (Some s) None) passes)
      numbered true false i s ws o passes ties rest none = ap (λ b. cond b (Some s) (find nat_cmp j ws)) ties ∙ rest
      numbered false true i s ws o passes ties rest none =
          rest ∙ ap (tested test) (none refl) ∙ sym (ap (λ b. cond b (Some s) None) passes)
      numbered false false i s ws o passes ties rest none = rest

  -- all of them have good numbers
  pub good-picked : (es : List (List ℕ × Series)) → AllByRecursion (λ w. Good w.0) (filter_map pick es)
  good-picked [] = tt
  good-picked (e ∷ es) =
      elim (read e.0) as (λ o. read e.0 ≡ o → AllByRecursion (λ w. Good w.0) (cons_option (cond (test e.1) (option_map (λ i. (i, e.1)) o) None) (filter_map pick es))) [
        | None ↦ λ is. none (test e.1) (filter_map pick es) (good-picked es)
        | Some i ↦ λ is. some (test e.1) i (filter_map pick es) (to e.0 i is).0 (good-picked es)
      ] refl
    where
      none : (b : Bool) (ws : List (ℕ × Series)) → AllByRecursion (λ w. Good w.0) ws → AllByRecursion (λ w. Good w.0) (cons_option (cond b (option_map (λ i. (i, e.1)) None) None) ws)
      none true ws h = h
      none false ws h = h

      some : (b : Bool) (i : ℕ) (ws : List (ℕ × Series)) → Good i → AllByRecursion (λ w. Good w.0) ws → AllByRecursion (λ w. Good w.0) (cons_option (cond b (Some (i, e.1)) None) ws)
      some true i ws good h = (good, h)
      some false i ws good h = h

  below-picked : (j : ℕ) → Good j → (es : List (List ℕ × Series)) → T (below_all name_cmp (key j) es) → T (below_all nat_cmp j (filter_map pick es))
  below-picked j good [] h = tt
  below-picked j good (e ∷ es) h =
      let parts = both (is_lt (name_cmp (key j) e.0)) (below_all name_cmp (key j) es) h in
      let rest = below-picked j good es parts.1 in
      elim (read e.0) as (λ o. read e.0 ≡ o → T (below_all nat_cmp j (cons_option (cond (test e.1) (option_map (λ i. (i, e.1)) o) None) (filter_map pick es)))) [
        | None ↦ λ is. none (test e.1) (filter_map pick es) rest
        | Some i ↦ λ is.
            let there = to e.0 i is in
            some (test e.1) i (filter_map pick es) (subst (λ r. T (is_lt r)) (ap (name_cmp (key j)) there.1 ∙ rises j i good there.0) parts.0) rest
      ] refl
    where
      none : (b : Bool) (ws : List (ℕ × Series)) → T (below_all nat_cmp j ws) → T (below_all nat_cmp j (cons_option (cond b (option_map (λ i. (i, e.1)) None) None) ws))
      none true ws h = h
      none false ws h = h

      some : (b : Bool) (i : ℕ) (ws : List (ℕ × Series)) → T (is_lt (nat_cmp j i)) → T (below_all nat_cmp j ws) → T (below_all nat_cmp j (cons_option (cond b (Some (i, e.1)) None) ws))
      some true i ws lt h = joined _ _ lt h
      some false i ws lt h = h

  -- their numbers rise
  pub sorted-picked : (es : List (List ℕ × Series)) → T (is_sorted name_cmp es) → T (is_sorted nat_cmp (filter_map pick es))
  sorted-picked [] h = tt
  sorted-picked (e ∷ es) h =
      let parts = both (below_all name_cmp e.0 es) (is_sorted name_cmp es) h in
      let rest = sorted-picked es parts.1 in
      elim (read e.0) as (λ o. read e.0 ≡ o → T (is_sorted nat_cmp (cons_option (cond (test e.1) (option_map (λ i. (i, e.1)) o) None) (filter_map pick es)))) [
        | None ↦ λ is. none (test e.1) (filter_map pick es) rest
        | Some i ↦ λ is.
            let there = to e.0 i is in
            some (test e.1) i (filter_map pick es) (below-picked i there.0 es (subst (λ k. T (below_all name_cmp k es)) there.1 parts.0)) rest
      ] refl
    where
      none : (b : Bool) (ws : List (ℕ × Series)) → T (is_sorted nat_cmp ws) → T (is_sorted nat_cmp (cons_option (cond b (option_map (λ i. (i, e.1)) None) None) ws))
      none true ws h = h
      none false ws h = h

      some : (b : Bool) (i : ℕ) (ws : List (ℕ × Series)) → T (below_all nat_cmp i ws) → T (is_sorted nat_cmp ws) → T (is_sorted nat_cmp (cons_option (cond b (Some (i, e.1)) None) ws))
      some true i ws below h = joined _ _ below h
      some false i ws below h = h

-- numbers of such a list rise
below_first : {X : Type 0} (j : ℕ) (e : ℕ × X) (es : List (ℕ × X)) → T (below_all nat_cmp j (e ∷ es)) → j < e.0
below_first j e es h = ranked j e.0 Less (sym (less (nat_cmp j e.0) (both (is_lt (nat_cmp j e.0)) (below_all nat_cmp j es) h).0))

pub numbers_rise : {X : Type 0} (ws : List (ℕ × X)) → T (is_sorted nat_cmp ws) → IsStrictlyIncreasing (map (λ w. w.0) ws)
numbers_rise [] h k within = absurd (omega (arith, within))
numbers_rise (w ∷ []) h k within = absurd (omega (arith, within))
numbers_rise (w ∷ v ∷ ws) h zero within =
    below_first w.0 v ws (both (below_all nat_cmp w.0 (v ∷ ws)) (is_sorted nat_cmp (v ∷ ws)) h).0
numbers_rise (w ∷ v ∷ ws) h (suc k) within =
    let up : suc k + 1 ≡ suc (k + 1) = omega arith in
    let numbers = map (λ w. w.0) (v ∷ ws) in
    let rest = numbers_rise (v ∷ ws) (both (below_all nat_cmp w.0 (v ∷ ws)) (is_sorted nat_cmp (v ∷ ws)) h).1 k (omega (arith, within)) in
    subst (λ m. get_or numbers k 0 < get_or (w.0 ∷ numbers) m 0) (sym up) rest
