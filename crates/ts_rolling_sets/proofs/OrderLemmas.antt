-- The controls and windows of a set, by the slots of their keys and in the catalogue.
use Rattle.std.proofs.Common.{◌≡◌, ℕ, ℤ, ◌+◌, ◌<◌, ◌≤◌, ◌&&◌, Bool, true, false, not, cond, is_none, is_some, Option, Some, None, IfSome, List, [], ◌∷◌, length, zero, suc, get_or, take, ◌++◌, filter, option_to_list, map, slice_get, refl, ap, sym, ◌∙◌, subst, arith}
use Rattle.std.proofs.Math.Seq.{take-suc}
use Rattle.std.specs.Option.{option_map}
use Rattle.std.specs.Prelude.{bytes_eq}
use Rattle.std.specs.List.{AllByRecursion, filter_map, cons_option}
use Rattle.std.specs.List.Sorted.{IsStrictlyIncreasing}
use Rattle.std.specs.FinMap.{entries, entries_sorted}
use Rattle.ts_model.specs.declared.kind.Kind.TheVariants as kinds
use Rattle.ts_model.specs.Catalogue.{Series, Catalogue, is_regular}
use Rattle.ts_model.specs.Definitions.{Definitions, SeriesDef, slots, slot_of}
use Rattle.ts_layout.specs.Meaning.{Layout, IsSound, series_of, catalogue_of}
use Rattle.ts_rolling.specs.Sets.{most_windows, window_key, read_control, read_window, control_if_any, window_if_any, may_be_window, controls, windows, control_of, live}
use Rattle.ts_rolling.proofs.KeyLemmas.{window_form, windows_cmp}
use Rattle.ts_rolling.proofs.NumberedLemmas.{good-picked, sorted-picked, numbers_rise}
use Rattle.ts_answer.specs.View.{View, KeepsRules}
use Rattle.ts_shelf.proofs.MemoryLemmas.{bare_of, bare_rules}
use Rattle.ts_tell.proofs.InOrderLemmas.{walk, Stands, AllStand, index_walk, series_walk, walk_stands, same_test, lies_as}
use Rattle.ts_rolling_sets.specs.InMemory.{control_at, control_if, window_at, window_if, in_order, kept_in, live_in}

-- an entry of the catalogue
abbrev of_walk : Layout → List ℕ × (ℕ × SeriesDef) → List ℕ × Series
of_walk l e = (e.0, series_of l e.1.0 e.1.1)

-- what is numbered by slots is numbered so in the catalogue
one_number : (o : Option (ℕ × Series)) (n : Option ℕ) (ws : List (ℕ × Series)) (ns : List ℕ) → option_map (λ (w : ℕ × Series). w.0) o ≡ n → map (λ (w : ℕ × Series). w.0) ws ≡ ns
    → map (λ (w : ℕ × Series). w.0) (cons_option o ws) ≡ cons_option n ns
one_number None n ws ns is rest = rest ∙ ap (λ (m : Option ℕ). cons_option m ns) is
one_number (Some w) n ws ns is rest = ap (λ (ms : List ℕ). w.0 ∷ ms) rest ∙ ap (λ (m : Option ℕ). cons_option m ns) is

module _ (l : Layout) (pick : List ℕ × Series → Option (ℕ × Series)) (number : ℕ → Option ℕ)
    (same : (e : List ℕ × (ℕ × SeriesDef)) → Stands l.definitions.series e → option_map (λ (w : ℕ × Series). w.0) (pick (of_walk l e)) ≡ number e.1.0) where
  all_numbers : (ws : List (List ℕ × (ℕ × SeriesDef))) → AllStand l.definitions.series ws → map (λ (w : ℕ × Series). w.0) (filter_map pick (map (of_walk l) ws)) ≡ filter_map number (map (λ (e : List ℕ × (ℕ × SeriesDef)). e.1.0) ws)
  all_numbers [] all = refl
  all_numbers (e ∷ ws) all = one_number (pick (of_walk l e)) (number e.1.0) (filter_map pick (map (of_walk l) ws)) (filter_map number (map (λ (e : List ℕ × (ℕ × SeriesDef)). e.1.0) ws)) (same e all.0) (all_numbers ws all.1)

  numbered : map (λ (w : ℕ × Series). w.0) (filter_map pick (entries (catalogue_of l).series)) ≡ filter_map number (in_order l.definitions)
  numbered =
      ap (λ (es : List (List ℕ × Series)). map (λ (w : ℕ × Series). w.0) (filter_map pick es)) (series_walk l l.definitions.series)
      ∙ all_numbers (walk l.definitions.series) (walk_stands l.definitions.series)
      ∙ ap (filter_map number) (sym (index_walk l.definitions.series))

-- the number of a pair that is made of one
made_pair : (s : Series) (o : Option ℕ) → option_map (λ (w : ℕ × Series). w.0) (option_map (λ n. (n, s)) o) ≡ o
made_pair s None = refl
made_pair s (Some n) = refl

-- controls
control_same : (l : Layout) (set : List ℕ) (e : List ℕ × (ℕ × SeriesDef)) → Stands l.definitions.series e → option_map (λ (w : ℕ × Series). w.0) (control_if_any set (of_walk l e)) ≡ control_at l.definitions set e.1.0
control_same l set e stands =
    made_pair (series_of l e.1.0 e.1.1) (read_control e.0 set) ∙ ap (λ (k : List ℕ). read_control k set) stands.1 ∙ sym (ap (control_if set) stands.0)

pub kept_same : (l : Layout) (set : List ℕ) → map (λ (w : ℕ × Series). w.0) (controls set (catalogue_of l)) ≡ kept_in l.definitions set
unfolding controls
kept_same l set = numbered l (control_if_any set) (control_at l.definitions set) (control_same l set)

-- windows
window_picked : (b c : Bool) (s : Series) (o : Option ℕ) → option_map (λ (w : ℕ × Series). w.0) (cond (b && c) (option_map (λ j. (j, s)) o) None) ≡ cond (b && c) o None
window_picked b c s o = by (b && c)
  where
    by : (t : Bool) → option_map (λ (w : ℕ × Series). w.0) (cond t (option_map (λ j. (j, s)) o) None) ≡ cond t o None
    by true = made_pair s o
    by false = refl

none_regular : (o : Option (ℕ × ℤ)) → not (is_some o) ≡ is_none o
none_regular None = refl
none_regular (Some r) = refl

module _ (l : Layout) (set name : List ℕ) (holder : ℕ) (rules : IsSound l) (is : slot_of name (slots kinds.Container l.definitions) ≡ Some holder) where
  pub window_same : (e : List ℕ × (ℕ × SeriesDef)) → Stands l.definitions.series e → option_map (λ (w : ℕ × Series). w.0) (window_if_any set name (of_walk l e)) ≡ window_at l.definitions set holder e.1.0
  window_same e stands =
      let s = series_of l e.1.0 e.1.1 in
      let irregular : not (is_regular s.kind) ≡ is_none e.1.1.regular = ap not (sym (lies_as l.definitions e.1.1.regular)) ∙ none_regular e.1.1.regular in
      window_picked (bytes_eq s.container name) (not (is_regular s.kind)) s (read_window e.0 set)
      ∙ (λ i. cond (same_test l name holder rules is e.1.0 e.1.1 stands.0 i && irregular i) (read_window (stands.1 i) set) None)
      ∙ sym (ap (window_if set holder) stands.0)

  pub live_same : live set name (catalogue_of l) ≡ live_in l.definitions set holder
  unfolding windows
  live_same = numbered l (window_if_any set name) (window_at l.definitions set holder) window_same

-- the first of some, by its number
first_of : (ws : List (ℕ × Series)) (o : Option ℕ) → slice_get (map (λ (w : ℕ × Series). w.0) ws) 0 ≡ o → option_map (λ (w : ℕ × Series). w.0) (slice_get ws 0) ≡ o
first_of [] o is = is
first_of (w ∷ ws) o is = is

pub control_number : (l : Layout) (set : List ℕ) (o : Option ℕ) → o ≡ slice_get (kept_in l.definitions set) 0 → option_map (λ (w : ℕ × Series). w.0) (control_of set (catalogue_of l)) ≡ o
control_number l set o is = first_of (controls set (catalogue_of l)) o (ap (λ (ns : List ℕ). slice_get ns 0) (kept_same l set) ∙ sym is)

some_number : (o : Option (ℕ × Series)) → is_some (option_map (λ (w : ℕ × Series). w.0) o) ≡ is_some o
some_number None = refl
some_number (Some w) = refl

-- there is a control exactly where one was found
pub control_is : (d : Definitions) (l : Layout) (set : List ℕ) (o : Option ℕ) → d ≡ l.definitions → o ≡ slice_get (kept_in d set) 0 → is_some (control_of set (catalogue_of l)) ≡ is_some o
control_is d l set o same is =
    sym (some_number (control_of set (catalogue_of l)))
    ∙ ap (λ (n : Option ℕ). is_some n) (control_number l set o (is ∙ ap (λ (x : Definitions). slice_get (kept_in x set) 0) same))

-- no control, or the one of a number
pub no_control : (o : Option (ℕ × Series)) → option_map (λ (w : ℕ × Series). w.0) o ≡ None → o ≡ None
no_control None is = refl
no_control (Some w) is = absurd (cc)

pub one_control : (o : Option (ℕ × Series)) (n : ℕ) → option_map (λ (w : ℕ × Series). w.0) o ≡ Some n → (s : Series) × (o ≡ Some (n, s))
one_control None n is = absurd (cc)
one_control (Some w) n is = let same : w.0 ≡ n = cc in (w.1, λ i. Some (same i, w.1))

-- windows stand in the order of their numbers, and these are below 10^12
abbrev IsWindow : ℕ → Type 0
IsWindow j = j < most_windows

pub live_rises : (set container : List ℕ) (cat : Catalogue) → IsStrictlyIncreasing (live set container cat)
unfolding windows
live_rises set container cat =
    numbers_rise (windows set container cat)
    (sorted-picked (λ k. read_window k set) (window_key set) IsWindow (λ k j. (window_form k set j).0) (λ j h. (window_form (window_key set j) set j).1 (h, refl)) (λ i j. windows_cmp set i j)
    (may_be_window container) (entries cat.series) (entries_sorted cat.series))

pub windows_few : (set container : List ℕ) (cat : Catalogue) → AllByRecursion (λ (w : ℕ × Series). w.0 < most_windows) (windows set container cat)
unfolding windows
windows_few set container cat =
    good-picked (λ k. read_window k set) (window_key set) IsWindow (λ k j. (window_form k set j).0) (λ j h. (window_form (window_key set j) set j).1 (h, refl)) (λ i j. windows_cmp set i j)
    (may_be_window container) (entries cat.series)

few_numbers : (ws : List (ℕ × Series)) → AllByRecursion (λ (w : ℕ × Series). w.0 < most_windows) ws → AllByRecursion IsWindow (map (λ (w : ℕ × Series). w.0) ws)
few_numbers [] all = tt
few_numbers (w ∷ ws) all = (all.0, few_numbers ws all.1)

pub each_few : (js : List ℕ) → AllByRecursion IsWindow js → (k : ℕ) → k < length js → get_or js k 0 < 1_000_000_000_000
each_few [] all k within = absurd (omega (arith, within))
each_few (j ∷ js) all zero within = all.0
each_few (j ∷ js) all (suc k) within = each_few js all.1 k (omega (arith, within))

-- the same of what is in memory
module _ (x : View) (kept : KeepsRules x) (set name : List ℕ) (holder : ℕ) (is : slot_of name (slots kinds.Container x.definitions) ≡ Some holder) where
  live_bare : live set name (catalogue_of (bare_of x)) ≡ live_in x.definitions set holder
  live_bare = live_same (bare_of x) set name holder (bare_rules x kept) is

  pub live_in_rises : IsStrictlyIncreasing (live_in x.definitions set holder)
  live_in_rises = subst IsStrictlyIncreasing live_bare (live_rises set name (catalogue_of (bare_of x)))

  pub live_in_few : AllByRecursion IsWindow (live_in x.definitions set holder)
  live_in_few = subst (AllByRecursion IsWindow) live_bare (few_numbers (windows set name (catalogue_of (bare_of x))) (windows_few set name (catalogue_of (bare_of x))))

-- one more of a list
pub next_of : (xs : List ℕ) (i : ℕ) → i < length xs → take (i + 1) xs ≡ take i xs ++ get_or xs i 0 ∷ []
next_of xs i within = let e : i + 1 ≡ suc i = omega arith in ap (λ (n : ℕ). take n xs) e ∙ take-suc xs i 0 within

-- what is picked of one more
picked_push : (f : ℕ → Option ℕ) (xs : List ℕ) (x : ℕ) → filter_map f (xs ++ x ∷ []) ≡ filter_map f xs ++ option_to_list (f x)
picked_push f [] x = by (f x)
  where
    by : (o : Option ℕ) → cons_option o [] ≡ option_to_list o
    by None = refl
    by (Some y) = refl
picked_push f (y ∷ xs) x = by (f y) (picked_push f xs x)
  where
    by : (o : Option ℕ) → filter_map f (xs ++ x ∷ []) ≡ filter_map f xs ++ option_to_list (f x) → cons_option o (filter_map f (xs ++ x ∷ [])) ≡ cons_option o (filter_map f xs) ++ option_to_list (f x)
    by None rest = rest
    by (Some z) rest = ap (λ (ns : List ℕ). z ∷ ns) rest

pub picked_next : (f : ℕ → Option ℕ) (xs : List ℕ) (i : ℕ) (old new : List ℕ) (o : Option ℕ) → i < length xs → old ≡ filter_map f (take i xs) → o ≡ f (get_or xs i 0) → new ≡ old ++ option_to_list o → new ≡ filter_map f (take (i + 1) xs)
picked_next f xs i old new o within before is more =
    more
    ∙ (λ k. before k ++ option_to_list (is k))
    ∙ sym (picked_push f (take i xs) (get_or xs i 0))
    ∙ ap (filter_map f) (sym (next_of xs i within))

kept_push : (p : ℕ → Bool) (xs : List ℕ) (x : ℕ) → filter p (xs ++ x ∷ []) ≡ filter p xs ++ cond (p x) (x ∷ []) []
kept_push p [] x = refl
kept_push p (y ∷ xs) x = by (p y) (kept_push p xs x)
  where
    by : (b : Bool) → filter p (xs ++ x ∷ []) ≡ filter p xs ++ cond (p x) (x ∷ []) [] → cond b (y ∷ filter p (xs ++ x ∷ [])) (filter p (xs ++ x ∷ [])) ≡ cond b (y ∷ filter p xs) (filter p xs) ++ cond (p x) (x ∷ []) []
    by true rest = ap (λ (ns : List ℕ). y ∷ ns) rest
    by false rest = rest

pub kept_next : (p : ℕ → Bool) (xs : List ℕ) (i : ℕ) (old new : List ℕ) (b : Bool) → i < length xs → old ≡ filter p (take i xs) → b ≡ p (get_or xs i 0) → new ≡ old ++ cond b (get_or xs i 0 ∷ []) [] → new ≡ filter p (take (i + 1) xs)
kept_next p xs i old new b within before is more =
    more
    ∙ (λ k. before k ++ cond (is k) (get_or xs i 0 ∷ []) [])
    ∙ sym (kept_push p (take i xs) (get_or xs i 0))
    ∙ ap (filter p) (sym (next_of xs i within))

-- what is picked first, where nothing was before
pub picked_first : (f : ℕ → Option ℕ) (xs : List ℕ) (i : ℕ) (n : ℕ) → i < length xs → filter_map f (take i xs) ≡ [] → f (get_or xs i 0) ≡ Some n → Some n ≡ slice_get (filter_map f xs) 0
picked_first f [] i n within none is = absurd (omega (arith, within))
picked_first f (x ∷ xs) zero n within none is = sym (ap (λ (o : Option ℕ). slice_get (cons_option o (filter_map f xs)) 0) is)
picked_first f (x ∷ xs) (suc i) n within none is = by (f x) none (λ rest. picked_first f xs i n (omega (arith, within)) rest is)
  where
    by : (o : Option ℕ) → cons_option o (filter_map f (take i xs)) ≡ [] → (filter_map f (take i xs) ≡ [] → Some n ≡ slice_get (filter_map f xs) 0) → Some n ≡ slice_get (cons_option o (filter_map f xs)) 0
    by None none rest = rest none
    by (Some y) none rest = absurd (cc)

-- and nothing is, where nothing is picked
pub picked_none : (f : ℕ → Option ℕ) (xs : List ℕ) (i : ℕ) → i < length xs → filter_map f (take i xs) ≡ [] → f (get_or xs i 0) ≡ None → filter_map f (take (i + 1) xs) ≡ []
picked_none f xs i within none is = sym (picked_next f xs i [] [] None within (sym none) (sym is) refl)

-- how many are kept, where that is a number that may be
pub few_kept : {K : ℕ → Type 0} (o : Option ℕ) (of : (n : ℕ) → o ≡ Some n → (1 ≤ n) × (n ≤ 1000) × K n) → IfSome o (λ n. (1 ≤ n) × (n ≤ 1000))
few_kept None of = tt
few_kept (Some n) of = let is = of n refl in (is.0, is.1)
