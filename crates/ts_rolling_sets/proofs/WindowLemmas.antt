-- The slots of the windows of a set: what stands in them, how many they are, and what is seen in them.
use Rattle.std.proofs.Common.{◌≡◌, ℕ, ℤ, ◌+◌, ◌<◌, ◌≤◌, ◌==◌, ◌&&◌, Bool, true, false, cond, is_none, is_some, Option, Some, None, IfSome, EachIndex, slice_index, List, [], ◌∷◌, ◌++◌, map, filter, length, get_or, zero, suc, refl, ap, sym, ◌∙◌, subst, arith}
use Rattle.std.proofs.lemmas.Bool.Decides.{nat_tests}
use Rattle.std.proofs.lemmas.List.{length-map}
use Rattle.std.specs.Option.{option_map, option_and_then}
use Rattle.std.specs.List.{AllByRecursion, filter_map, flat_map, cons_option}
use Rattle.std.specs.declared.cmp.Ordering.{Ordering}
use Rattle.std.specs.declared.cmp.Ordering.TheVariants.{Less, Equal, Greater}
use Rattle.std.specs.FinMap.{put, entries, empty, from_entries, entries-insert, len-entries, len-empty}
use Rattle.std.specs.FinMap.Entries.{by_order}
use Rattle.ts_row.specs.Row.{Heading, Element, seen}
use Rattle.ts_sheets.specs.Stamped.{within_range, is_within}
use Rattle.ts_model.specs.declared.kind.Kind.TheVariants as kinds
use Rattle.ts_model.specs.Catalogue.{name_cmp, Series}
use Rattle.ts_model.specs.Definitions.{Definitions, SeriesDef, at_slot, slots, slot_of, IsDefinitions}
use Rattle.ts_model.proofs.OrderLemmas.{total}
use Rattle.ts_layout.specs.Meaning.{Layout, IsSound, heading_in, heading_at, shape_of, series_of, catalogue_of}
use Rattle.ts_layout.proofs.CallerLemmas.{series_at}
use Rattle.ts_rolling.specs.Sets.{read_window, window_if_any, windows, window_elements, may_be_window}
use Rattle.ts_answer.specs.Slots.{IsSlotNamed}
use Rattle.ts_answer.specs.View.{View, KeepsRules, IsViewOf}
use Rattle.ts_shelf.proofs.MemoryLemmas.{bare_of, bare_rules}
use Rattle.ts_tell.proofs.InOrderLemmas.{walk, slotted, Stands, AllStand, index_walk, series_walk, walk_stands}
use Rattle.ts_rolling_sets.specs.InMemory.{window_at, window_if, in_order}
use Rattle.ts_rolling_sets.specs.Windows.{window_slots_in, seen_at, seen_in, IsWindowSlot, HasColumns}
use Rattle.ts_rolling_sets.proofs.HomeLemmas.{within_table, series_as, series_filled}
use Rattle.ts_rolling_sets.proofs.OrderLemmas.{window_same}

-- one entry more at most
put_long : {X : Type 0} (k : List ℕ) (v : X) (es : List (List ℕ × X)) → length (put name_cmp k v es) ≤ length es + 1
put_long k v [] = omega arith
put_long {X} k v (e ∷ es) =
    elim (name_cmp k e.0) as (λ (r : Ordering). length (by_order r ((k, v) ∷ e ∷ es) ((e.0, v) ∷ es) (e ∷ put name_cmp k v es)) ≤ length (e ∷ es) + 1) [
      | Less ↦ omega arith
      | Equal ↦ omega arith
      | Greater ↦ (let rest = put_long k v es in omega (arith, rest))
    ]

walk_long : (first : ℕ) (table : List (Option SeriesDef)) → length (entries (from_entries {R = name_cmp} (slotted first table))) ≤ length table
walk_long first [] =
    let none : length (entries (empty {X = ℕ × SeriesDef} {R = name_cmp})) ≡ 0 = sym (len-entries (empty {X = ℕ × SeriesDef} {R = name_cmp})) ∙ len-empty name_cmp (ℕ × SeriesDef) in
    omega (arith, none)
walk_long first (None ∷ table) = let rest = walk_long (first + 1) table in omega (arith, rest)
walk_long first (Some s ∷ table) =
    let rest = walk_long (first + 1) table in
    let more = put_long s.key (first, s) (entries (from_entries {R = name_cmp} (slotted (first + 1) table))) in
    let same = ap (λ (es : List (List ℕ × (ℕ × SeriesDef))). length es) (entries-insert total (from_entries {R = name_cmp} (slotted (first + 1) table)) s.key (first, s)) in
    omega (arith, rest, more, same)

filter_long : (p : ℕ → Bool) (xs : List ℕ) → length (filter p xs) ≤ length xs
filter_long p [] = omega arith
filter_long p (x ∷ xs) = by (p x) (filter_long p xs)
  where
    by : (b : Bool) → length (filter p xs) ≤ length xs → length (cond b (x ∷ filter p xs) (filter p xs)) ≤ length (x ∷ xs)
    by true rest = omega (arith, rest)
    by false rest = omega (arith, rest)

-- there are no more windows than slots
pub few_slots : (d : Definitions) (set : List ℕ) (holder : ℕ) → IsDefinitions d → length (window_slots_in d set holder) ≤ 4096
few_slots d set holder rules =
    let part = filter_long (λ slot. is_some (window_at d set holder slot)) (in_order d) in
    let same = ap (λ (ns : List ℕ). length ns) (index_walk d.series) ∙ length-map (walk d.series) (λ (e : List ℕ × (ℕ × SeriesDef)). e.1.0) in
    let all = walk_long 0 d.series in
    let size = rules.series.size in
    omega (arith, part, same, all, size)

-- a window's definition is one of an irregular series of the container
no_regular : {A : Type 0} (o : Option A) → is_none o ≡ true → o ≡ None
no_regular None is = refl
no_regular (Some a) is = absurd (cc)

same_number : (m n : ℕ) → (m == n) ≡ true → m ≡ n
same_number m n is = grind (arith, nat_tests)

window_parts : (set : List ℕ) (holder : ℕ) (s : SeriesDef) → is_some (window_if set holder (Some s)) ≡ true → (s.container ≡ holder) × (s.regular ≡ None)
window_parts set holder s is = by (s.container == holder) (is_none s.regular) refl refl is
  where
    by : (a b : Bool) → (s.container == holder) ≡ a → is_none s.regular ≡ b → is_some (cond (a && b) (read_window s.key set) None) ≡ true → (s.container ≡ holder) × (s.regular ≡ None)
    by true true e f is = (same_number s.container holder e, no_regular s.regular f)
    by true false e f is = absurd (cc)
    by false b e f is = absurd (cc)

-- what stands in the slot of a window: an irregular series with the columns of the container
abbrev pub IsWindowIn : Definitions → ℕ → ℕ → Type 0
IsWindowIn d holder slot = IsWindowSlot d slot × (heading_at d slot ≡ heading_in d holder)

module _ (x : View) (kept : KeepsRules x) (set : List ℕ) (holder : ℕ) where
  abbrev is_here : ℕ → Bool
  is_here slot = is_some (window_at x.definitions set holder slot)

  window_of : (slot : ℕ) (s : SeriesDef) → at_slot slot x.definitions.series ≡ Some s → is_here slot ≡ true → IsWindowIn x.definitions holder slot
  window_of slot s here is =
      let parts = window_parts set holder s (ap (λ (o : Option SeriesDef). is_some (window_if set holder o)) (sym here) ∙ is) in
      let below = within_table x.definitions.series slot s here in
      let size = kept.sound.tables.series.size in (
        record {
          key = s.key;
          named = record { within = omega (arith, below, size); is = (series_at (bare_of x) slot s (bare_rules x kept) here).named };
          lies = ap (option_and_then (λ (y : SeriesDef). shape_of x.definitions y.regular)) here ∙ ap (shape_of x.definitions) parts.1;
        },
        ap (option_and_then (λ (y : SeriesDef). heading_in x.definitions y.container)) here ∙ ap (heading_in x.definitions) parts.0,
      )

  windows_of : (ws : List (List ℕ × (ℕ × SeriesDef))) → AllStand x.definitions.series ws → AllByRecursion (IsWindowIn x.definitions holder) (filter is_here (map (λ (e : List ℕ × (ℕ × SeriesDef)). e.1.0) ws))
  windows_of [] all = tt
  windows_of (e ∷ ws) all = by (is_here e.1.0) refl (filter is_here (map (λ (w : List ℕ × (ℕ × SeriesDef)). w.1.0) ws)) (windows_of ws all.1)
    where
      by : (b : Bool) → is_here e.1.0 ≡ b → (rest : List ℕ) → AllByRecursion (IsWindowIn x.definitions holder) rest → AllByRecursion (IsWindowIn x.definitions holder) (cond b (e.1.0 ∷ rest) rest)
      by true is rest more = (window_of e.1.0 e.1.1 all.0.0 is, more)
      by false is rest more = more

  windows_all : AllByRecursion (IsWindowIn x.definitions holder) (window_slots_in x.definitions set holder)
  windows_all = subst (λ (ns : List ℕ). AllByRecursion (IsWindowIn x.definitions holder) (filter is_here ns)) (sym (index_walk x.definitions.series)) (windows_of (walk x.definitions.series) (walk_stands x.definitions.series))

each_of : (P : ℕ → Type 0) (ns : List ℕ) → AllByRecursion P ns → (k : ℕ) → k < length ns → P (get_or ns k 0)
each_of P [] all k within = absurd (omega (arith, within))
each_of P (n ∷ ns) all zero within = all.0
each_of P (n ∷ ns) all (suc k) within = each_of P ns all.1 k (omega (arith, within))

-- of slots that were found
module _ (x : View) (kept : KeepsRules x) (set : List ℕ) (holder : ℕ) (found : List ℕ) (are : found ≡ window_slots_in x.definitions set holder) where
  each_in : (k : ℕ) → k < length found → IsWindowIn x.definitions holder (get_or found k 0)
  each_in = each_of (IsWindowIn x.definitions holder) found (subst (AllByRecursion (IsWindowIn x.definitions holder)) (sym are) (windows_all x kept set holder))

  pub each_slot : EachIndex found (λ k. IsWindowSlot x.definitions (slice_index found k))
  each_slot k within = (each_in k within).0

  pub few_found : length found ≤ 4096
  few_found = let few = few_slots x.definitions set holder kept.sound.tables in let same = ap (λ (ns : List ℕ). length ns) are in omega (arith, few, same)

  -- their columns are those of each series of the container
  each_columns : (slot : ℕ) (s : SeriesDef) (h : Heading) → at_slot slot x.definitions.series ≡ Some s → s.container ≡ holder → heading_at x.definitions slot ≡ Some h
      → EachIndex found (λ k. HasColumns h.columns (heading_at x.definitions (slice_index found k)))
  each_columns slot s h here own columns k within =
      let home : heading_in x.definitions holder ≡ Some h =
      ap (heading_in x.definitions) (sym own) ∙ sym (ap (option_and_then (λ (y : SeriesDef). heading_in x.definitions y.container)) here) ∙ columns in
      subst (λ (o : Option Heading). HasColumns h.columns o) (sym ((each_in k within).1 ∙ home)) refl

  pub home_columns : (slot : ℕ) (key : List ℕ) → IsSlotNamed kinds.Series slot key x.definitions → IfSome (at_slot slot x.definitions.series) (λ s. s.container ≡ holder) → (h : Heading) → heading_at x.definitions slot ≡ Some h
      → EachIndex found (λ k. HasColumns h.columns (heading_at x.definitions (slice_index found k)))
  home_columns slot key named own h columns =
      let s = series_as x.definitions slot (series_filled x kept slot key named) in
      each_columns slot s.0 h s.1 (subst (λ (o : Option SeriesDef). IfSome o (λ y. y.container ≡ holder)) s.1 own) columns

-- what is seen in windows
range_append : (from to : ℤ) (a b : List Element) → within_range from to (a ++ b) ≡ within_range from to a ++ within_range from to b
range_append from to [] b = refl
range_append from to (e ∷ a) b = by (is_within from to e) (range_append from to a b)
  where
    by : (t : Bool) → within_range from to (a ++ b) ≡ within_range from to a ++ within_range from to b
        → cond t (e ∷ within_range from to (a ++ b)) (within_range from to (a ++ b)) ≡ cond t (e ∷ within_range from to a) (within_range from to a) ++ within_range from to b
    by true rest = ap (λ (es : List Element). e ∷ es) rest
    by false rest = rest

some_mapped : {A B : Type 0} (f : A → B) (o : Option A) → is_some (option_map f o) ≡ is_some o
some_mapped f None = refl
some_mapped f (Some a) = refl

-- the elements of a window
abbrev of_window : ℕ × Series → List Element
of_window w = seen (entries w.1.elements)

module _ (l : Layout) (from to : ℤ) where
  -- one series more, where it is a window
  one_more : (o : Option ℕ) (t : Bool) (s : Series) (slot : ℕ) (ws : List (ℕ × Series)) (ns : List ℕ) → within_range from to (seen (entries s.elements)) ≡ seen_at l from to slot
      → within_range from to (flat_map of_window ws) ≡ seen_in l from to ns
      → within_range from to (flat_map of_window (cons_option (cond t (option_map (λ j. (j, s)) o) None) ws)) ≡ seen_in l from to (cond (is_some {T = ℕ × Series} (cond t (option_map (λ j. (j, s)) o) None)) (slot ∷ ns) ns)
  one_more o false s slot ws ns own rest = rest
  one_more None true s slot ws ns own rest = rest
  one_more (Some j) true s slot ws ns own rest =
      range_append from to (seen (entries s.elements)) (flat_map of_window ws) ∙ (λ i. own i ++ rest i)

  module _ (set name : List ℕ) (holder : ℕ) (rules : IsSound l) (is : slot_of name (slots kinds.Container l.definitions) ≡ Some holder) where
    abbrev here : ℕ → Bool
    here slot = is_some (window_at l.definitions set holder slot)

    abbrev as_series : List ℕ × (ℕ × SeriesDef) → List ℕ × Series
    as_series e = (e.0, series_of l e.1.0 e.1.1)

    same_pick : (e : List ℕ × (ℕ × SeriesDef)) → Stands l.definitions.series e → is_some (window_if_any set name (as_series e)) ≡ here e.1.0
    same_pick e stands = sym (some_mapped (λ (w : ℕ × Series). w.0) (window_if_any set name (as_series e))) ∙ ap (λ (o : Option ℕ). is_some o) (window_same l set name holder rules is e stands)

    all_seen : (ws : List (List ℕ × (ℕ × SeriesDef))) → AllStand l.definitions.series ws
        → within_range from to (flat_map of_window (filter_map (window_if_any set name) (map as_series ws))) ≡ seen_in l from to (filter here (map (λ (e : List ℕ × (ℕ × SeriesDef)). e.1.0) ws))
    all_seen [] all = refl
    all_seen (e ∷ ws) all =
        let s = series_of l e.1.0 e.1.1 in
        let rest = all_seen ws all.1 in
        let more : List ℕ = filter here (map (λ (w : List ℕ × (ℕ × SeriesDef)). w.1.0) ws) in
        one_more (read_window e.0 set) (may_be_window name s) s e.1.0 (filter_map (window_if_any set name) (map as_series ws)) more refl rest
        ∙ ap (λ (b : Bool). seen_in l from to (cond b (e.1.0 ∷ more) more)) (same_pick e all.0)

    -- in the catalogue and by the slots
    pub seen_same : within_range from to (window_elements set name (catalogue_of l)) ≡ seen_in l from to (window_slots_in l.definitions set holder)
    unfolding windows
    seen_same =
        ap (λ (es : List (List ℕ × Series)). within_range from to (flat_map of_window (filter_map (window_if_any set name) es))) (series_walk l l.definitions.series)
        ∙ all_seen (walk l.definitions.series) (walk_stands l.definitions.series)
        ∙ ap (λ (ns : List ℕ). seen_in l from to (filter here ns)) (sym (index_walk l.definitions.series))

-- in each layout that is held
pub seen_held : (x : View) (l : Layout) (held : IsViewOf x l) (from to : ℤ) (set name : List ℕ) (holder : ℕ) (found : List ℕ) → slot_of name (slots kinds.Container x.definitions) ≡ Some holder → found ≡ window_slots_in x.definitions set holder
    → within_range from to (window_elements set name (catalogue_of l)) ≡ seen_in l from to found
seen_held x l held from to set name holder found is are =
    seen_same l from to set name holder held.rules (ap (λ (d : Definitions). slot_of name (slots kinds.Container d)) (sym held.definitions) ∙ is)
    ∙ ap (λ (d : Definitions). seen_in l from to (window_slots_in d set holder)) (sym held.definitions)
    ∙ ap (seen_in l from to) (sym are)
