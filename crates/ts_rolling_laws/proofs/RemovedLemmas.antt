-- Windows that go, and one that comes or changes.
use Rattle.std.proofs.Common.{◌≡◌, ℕ, ◌<◌, ◌==◌, Bool, true, false, ◌&&◌, ◌||◌, cond, Option, Some, None, List, [], ◌∷◌, map, filter, refl, sym, ap, ◌∙◌, arith}
use Rattle.std.specs.List.{AllByRecursion, fold}
use Rattle.std.specs.Ordering.{eq_by_cmp, is_eq}
use Rattle.std.specs.declared.cmp.Ordering.{Ordering}
use Rattle.std.specs.declared.cmp.Ordering.TheVariants.{Less, Equal, Greater}
use Rattle.std.specs.Cmp.{unsigned_tied}
use Rattle.std.specs.Cmp.Lexicographic.{nat_list_cmp_total}
use Rattle.std.specs.FinMap.{get, insert, remove, get-insert, get-remove, slice_cmp-IsAntisymmetric, nat_cmp-IsAntisymmetric}
use Rattle.std.proofs.lemmas.Bool.{false≢true}
use Rattle.std.proofs.lemmas.Bool.Decides.{nat_tests}
use Rattle.ts_model.specs.Catalogue.{Named, Series, Catalogue, name_cmp}
use Rattle.ts_rolling.specs.Sets.{most_windows, window_key}
use Rattle.ts_rolling.specs.KeyLaws.{WindowKeysRise}
use Rattle.ts_answer.specs.Elements.{without_windows}
use Rattle.ts_rolling_laws.proofs.NumberLemmas.{has, eq_same}

same_key : (a b : List ℕ) → eq_by_cmp name_cmp a b ≡ true → a ≡ b
same_key a b h = slice_cmp-IsAntisymmetric nat_cmp-IsAntisymmetric a b (equal (name_cmp a b) h)
  where
    equal : (r : Ordering) → is_eq r ≡ true → r ≡ Equal
    equal Less e = absurd (false≢true e)
    equal Equal e = refl
    equal Greater e = absurd (false≢true e)

apart : (b : Bool) → (b ≡ true → ⊥) → b ≡ false
apart true h = absurd (h refl)
apart false h = refl

-- a name with a value, and the other names
pub inserted-other : {X : Type 0} (m : Named X) (name q : List ℕ) (v : X) → (q ≡ name → ⊥) → get (insert m name v) q ≡ get m q
inserted-other m name q v other =
    get-insert nat_list_cmp_total m name v q ∙ ap (λ b. cond b (Some v) (get m q)) (apart (eq_by_cmp name_cmp q name) (λ tie. other (same_key q name tie)))

pub removed-other : {X : Type 0} (m : Named X) (name q : List ℕ) → (q ≡ name → ⊥) → get (remove m name) q ≡ get m q
removed-other m name q other =
    get-remove nat_list_cmp_total m name q ∙ ap (λ b. cond b None (get m q)) (apart (eq_by_cmp name_cmp q name) (λ tie. other (same_key q name tie)))

-- the series without these windows
abbrev pub removed : List ℕ → List ℕ → Named Series → Named Series
removed set js m = fold (λ m j. remove m (window_key set j)) m js

pub without-is : (set js : List ℕ) (cat : Catalogue) → without_windows set js cat ≡ record cat { series = removed set js cat.series }
without-is set [] cat = refl
without-is set (j ∷ js) cat = without-is set js (record cat { series = remove cat.series (window_key set j) })

pub removed-none : (set js : List ℕ) (m : Named Series) (q : List ℕ) → ((j : ℕ) → q ≡ window_key set j → ⊥) → get (removed set js m) q ≡ get m q
removed-none set [] m q other = refl
removed-none set (j ∷ js) m q other = removed-none set js (remove m (window_key set j)) q other ∙ removed-other m (window_key set j) q (other j)

turn : (a b : ℕ) → (a == b) ≡ (b == a)
turn a b = grind (arith, nat_tests)

module _ (rise : WindowKeysRise) (set : List ℕ) where
  pub key_tie : (i j : ℕ) → i < most_windows → j < most_windows → eq_by_cmp name_cmp (window_key set i) (window_key set j) ≡ (i == j)
  key_tie i j few less = ap is_eq (rise set i j few less) ∙ unsigned_tied i j

  -- a window with a value, and the other windows
  pub inserted-window : (m : Named Series) (j k : ℕ) (s : Series) → j < most_windows → k < most_windows
      → get (insert m (window_key set j) s) (window_key set k) ≡ cond (k == j) (Some s) (get m (window_key set k))
  inserted-window m j k s few less =
      get-insert nat_list_cmp_total m (window_key set j) s (window_key set k) ∙ ap (λ b. cond b (Some s) (get m (window_key set k))) (key_tie k j less few)

  twice : {X : Type 0} (a b : Bool) (x : Option X) → cond a None (cond b None x) ≡ cond (b || a) None x
  twice true true x = refl
  twice true false x = refl
  twice false true x = refl
  twice false false x = refl

  pub removed-window : (js : List ℕ) → AllByRecursion (λ j. j < most_windows) js → (m : Named Series) (k : ℕ) → k < most_windows
      → get (removed set js m) (window_key set k) ≡ cond (has js k) None (get m (window_key set k))
  removed-window [] all m k few = refl
  removed-window (j ∷ js) all m k few =
      removed-window js all.1 (remove m (window_key set j)) k few
      ∙ ap (cond (has js k) None) (get-remove nat_list_cmp_total m (window_key set j) (window_key set k) ∙ ap (λ b. cond b None (get m (window_key set k))) (key_tie k j few all.0 ∙ turn k j))
      ∙ twice (has js k) (j == k) (get m (window_key set k))

-- the numbers of a list that pass a test
pub has-filter : (p : ℕ → Bool) (ks : List ℕ) (k : ℕ) → has (filter p ks) k ≡ (has ks k && p k)
has-filter p [] k = refl
has-filter p (j ∷ ks) k = by (p j) (j == k) refl refl (has-filter p ks k)
  where
    eq_is : (j == k) ≡ true → j ≡ k
    eq_is h = eq_same j k h

    none : (a b : Bool) → b ≡ false → (a && b) ≡ b
    none true b h = refl
    none false b h = sym h

    by : (a b : Bool) → p j ≡ a → (j == k) ≡ b → has (filter p ks) k ≡ (has ks k && p k)
        → has (cond a (j ∷ filter p ks) (filter p ks)) k ≡ ((b || has ks k) && p k)
    by true true passes same rest = ap (λ b. b || has (filter p ks) k) same ∙ sym (sym (ap p (eq_is same)) ∙ passes)
    by true false passes same rest = ap (λ b. b || has (filter p ks) k) same ∙ rest
    by false true passes same rest = rest ∙ none (has ks k) (p k) (sym (ap p (eq_is same)) ∙ passes)
    by false false passes same rest = rest

pub all-filter : (P : ℕ → Type 0) (p : ℕ → Bool) (ks : List ℕ) → AllByRecursion P ks → AllByRecursion P (filter p ks)
all-filter P p [] all = tt
all-filter P p (k ∷ ks) all = by (p k) (all-filter P p ks all.1)
  where
    by : (b : Bool) → AllByRecursion P (filter p ks) → AllByRecursion P (cond b (k ∷ filter p ks) (filter p ks))
    by true rest = (all.0, rest)
    by false rest = rest

pub all-numbers : (P : ℕ → Type 0) (ws : List (ℕ × Series)) → AllByRecursion (λ w. P w.0) ws → AllByRecursion P (map (λ w. w.0) ws)
all-numbers P [] all = tt
all-numbers P (w ∷ ws) all = (all.0, all-numbers P ws all.1)
