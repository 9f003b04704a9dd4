-- What stands in a catalogue of a set, after some puts.
use Rattle.std.proofs.Common.{◌≡◌, ◌⊎◌, ℕ, ◌<◌, ◌≤◌, ◌==◌, Bool, true, false, ◌&&◌, ◌||◌, not, cond, Option, Some, None, Ok, List, [], ◌∷◌, map, is_some, slice_get, refl, sym, ap, subst, ◌∙◌, arith, inl, inr, T}
use Rattle.std.specs.List.{AllByRecursion}
use Rattle.std.specs.Result.{result_unwrap_or}
use Rattle.std.specs.Ordering.{nat_cmp, int_cmp, eq_by_cmp}
use Rattle.std.specs.Cmp.{nat_cmp_total, int_cmp_total, unsigned_tied}
use Rattle.std.specs.FinMap.{entries, entries_sorted, empty, get, get-empty, get-entries, find, nat_cmp-IsAntisymmetric}
use Rattle.std.specs.FinMap.Entries.{same_entries}
use Rattle.std.proofs.lemmas.Bool.{false≢true, cases_lt}
use Rattle.std.proofs.lemmas.Bool.Decides.{nat_tests}
use Rattle.std.proofs.lemmas.Option.{same_Some}
use Rattle.std.proofs.lemmas.Slice.Eq.{bytes_eq-Decides}
use Rattle.ts_row.specs.Row.{Element, seen}
use Rattle.ts_calendar.specs.Calendars.{IsLaid}
use Rattle.ts_offset.specs.declared.shape.Shape.TheVariants as shapes
use Rattle.ts_offset.specs.Grid.{GridPlan, offset_of}
use Rattle.ts_model.specs.Catalogue.{Catalogue, Elements, Series, Irregular, shape_of}
use Rattle.ts_rolling.specs.Sets.{most_windows, most_kept, window_key, control_key, greatest, is_old, controls, control_of, may_be_window, windows, live}
use Rattle.ts_rolling.specs.KeyLaws.{WindowKeysRise, ControlKeysRise, KeysAreReadExactly, SetsShareNoKeys}
use Rattle.ts_rolling.specs.SetLaws.{SeriesAreFoundByKeys, window_in}
use Rattle.ts_rolling.specs.Kept.{kept, last_puts, window_of, newest_put}
use Rattle.ts_answer_laws.specs.Laws.{OthersStay}
use Rattle.ts_answer_laws.specs.SeriesLaws.{SeriesKeepTheirShapes}
use Rattle.ts_rolling_laws.specs.Content.{content, content_by, SetsStay}
use Rattle.ts_rolling_laws.proofs.NumberLemmas.{has, stands, eq_refl, eq_same}
use Rattle.ts_rolling_laws.proofs.OffsetLemmas.{offset_few}
use Rattle.ts_rolling_laws.proofs.PartLemmas.{in_window, in_window-yes, part, numbers, ArePuts, last-none, last-put, entries-part}
use Rattle.ts_rolling_laws.proofs.JoinLemmas.{Among, filter_same, filter_all, among_filter, among_found, in_one, parts_join, one_found, flat_same}

-- the laws that are cited
pub record Laws : Type 0 where
  pub windows_rise : WindowKeysRise
  pub controls_rise : ControlKeysRise
  pub read : KeysAreReadExactly
  pub share : SetsShareNoKeys
  pub found : SeriesAreFoundByKeys
  pub others : OthersStay
  pub sets : SetsStay
  pub shapes : SeriesKeepTheirShapes

-- a window of a set after some puts
abbrev pub a_window : List ℕ → GridPlan → List Element → ℕ → Series
a_window container g ps j = record { container = container; kind = Irregular; elements = part g (last_puts ps) j }

-- The control stands alone with its number and its grid; the windows that stand have the last puts, and no other series
-- is a window.
pub record IsAfter (set : List ℕ) (n : ℕ) (g : GridPlan) (ps : List Element) (cat : Catalogue) : Type 0 where
  pub control : Series
  pub there : get cat.series (control_key set n) ≡ Some control
  pub shaped : shape_of cat control.kind ≡ Some (shapes.Regular g)
  pub alone : (m : ℕ) → 1 ≤ m → m ≤ most_kept → (m ≡ n → ⊥) → get cat.series (control_key set m) ≡ None
  pub windows : (j : ℕ) → j < most_windows
      → window_in control.container (get cat.series (window_key set j))
      ≡ cond (stands n (numbers g ps) j) (Some (a_window control.container g ps j)) None
  pub puts : ArePuts g ps

-- an irregular series of a container may be a window's there
pub window_own : (container : List ℕ) (es : Elements)
    → window_in container (Some (record { container = container; kind = Irregular; elements = es }))
    ≡ Some (record { container = container; kind = Irregular; elements = es })
window_own container es =
    ap (λ b. cond (b && true) (Some (record { container = container; kind = Irregular; elements = es })) None)
    ((bytes_eq-Decides container container).1 refl)

-- what may be a window's is there
pub window_in-some : (container : List ℕ) (o : Option Series) (w : Series) → window_in container o ≡ Some w → o ≡ Some w
window_in-some container None w e = absurd (cc)
window_in-some container (Some s) w e = by (may_be_window container s) e
  where
    by : (b : Bool) → cond b (Some s) None ≡ Some w → Some s ≡ Some w
    by true is = is
    by false is = absurd (cc)

pub window_in-cut : (container : List ℕ) (b : Bool) (o : Option Series)
    → window_in container (cond b None o) ≡ cond b None (window_in container o)
window_in-cut container true o = refl
window_in-cut container false o = refl

find_outside : {X : Type 0} (Good : ℕ → Type 0) (q : ℕ) → (Good q → ⊥) → (es : List (ℕ × X)) → AllByRecursion (λ e. Good e.0) es → find nat_cmp q es ≡ None
find_outside Good q bad [] all = refl
find_outside Good q bad (e ∷ es) all =
    ap (λ b. cond b (Some e.1) (find nat_cmp q es)) (unsigned_tied q e.0 ∙ apart (q == e.0) (λ tie. bad (subst Good (sym (eq_same q e.0 tie)) all.0)))
    ∙ find_outside Good q bad es all.1
  where
    apart : (b : Bool) → (b ≡ true → ⊥) → b ≡ false
    apart true h = absurd (h refl)
    apart false h = refl

no_value : {X : Type 0} (o : Option X) (x : X) → o ≡ None → o ≡ Some x → ⊥
no_value o x none some = false≢true (ap is_some (sym none ∙ some))

told : (b : Bool) → b ≡ true → T b
told true h = tt
told false h = absurd (false≢true h)

turn : (a b : ℕ) → (a == b) ≡ (b == a)
turn a b = grind (arith, nat_tests)

-- a number is one of a list's where it is found
has_found : {X : Type 0} (ws : List (ℕ × X)) (j : ℕ) → has (map (λ w. w.0) ws) j ≡ is_some (find nat_cmp j ws)
has_found [] j = refl
has_found (w ∷ ws) j =
    (λ i. turn w.0 j i || has_found ws j i) ∙ ap (λ b. b || is_some (find nat_cmp j ws)) (sym (unsigned_tied j w.0)) ∙ by (eq_by_cmp nat_cmp j w.0)
  where
    by : (b : Bool) → (b || is_some (find nat_cmp j ws)) ≡ is_some (cond b (Some w.1) (find nat_cmp j ws))
    by true = refl
    by false = refl

module _ (laws : Laws) (set : List ℕ) (n : ℕ) (g : GridPlan) (laid : IsLaid g.calendar) (least : 1 ≤ n) (most : n ≤ most_kept) where
  module _ (ps : List Element) (cat : Catalogue) (after : IsAfter set n g ps cat) where
    abbrev ks : List ℕ
    ks = numbers g ps

    abbrev ws : List (ℕ × Series)
    ws = windows set after.control.container cat

    -- the only control is the set's
    only_control : (q : ℕ) → find nat_cmp q (controls set cat) ≡ find nat_cmp q ((n, after.control) ∷ [])
    only_control q = at (cases_lt q 1)
      where
        own : (b : Bool) → (q == n) ≡ b → 1 ≤ q → q ≤ most_kept → find nat_cmp q (controls set cat) ≡ cond b (Some after.control) None
        own true same low high = laws.found.control set cat q low high ∙ ap (λ m. get cat.series (control_key set m)) (eq_same q n same) ∙ after.there
        own false other low high = laws.found.control set cat q low high ∙ after.alone q low high (λ e. false≢true (sym other ∙ ap (λ m. q == m) (sym e) ∙ eq_refl q))

        back : find nat_cmp q ((n, after.control) ∷ []) ≡ cond (q == n) (Some after.control) None
        back = ap (λ b. cond b (Some after.control) None) (unsigned_tied q n)

        outside : (((1 ≤ q) × (q ≤ most_kept)) → ⊥) → find nat_cmp q (controls set cat) ≡ cond (q == n) (Some after.control) None
        outside bad = find_outside (λ m. (1 ≤ m) × (m ≤ most_kept)) q bad (controls set cat) (laws.found.controls_few set cat)
            ∙ sym (ap (λ b. cond b (Some after.control) None) (apart (q == n) (λ tie. bad (within (eq_same q n tie)))))
          where
            apart : (b : Bool) → (b ≡ true → ⊥) → b ≡ false
            apart true h = absurd (h refl)
            apart false h = refl

            within : q ≡ n → (1 ≤ q) × (q ≤ most_kept)
            within e = (omega (arith, e, least), omega (arith, e, most))

        high_or : (q ≤ most_kept) ⊎ (most_kept < q) → 1 ≤ q → find nat_cmp q (controls set cat) ≡ cond (q == n) (Some after.control) None
        high_or (inl high) low = own (q == n) refl low high
        high_or (inr over) low = outside (λ h. omega (arith, h.1, over))

        ends : (a b : ℕ) → (a ≤ b) ⊎ (b < a)
        ends a b = elim (cases_lt b a) [ inl lt ↦ inr lt | inr le ↦ inl le ]

        at : (q < 1) ⊎ (1 ≤ q) → find nat_cmp q (controls set cat) ≡ find nat_cmp q ((n, after.control) ∷ [])
        at (inl under) = outside (λ h. omega (arith, h.0, under)) ∙ sym back
        at (inr low) = high_or (ends q most_kept) low ∙ sym back

    pub control_found : control_of set cat ≡ Some (n, after.control)
    control_found = ap (λ l. slice_get l 0)
        (same_entries nat_cmp nat_cmp_total nat_cmp-IsAntisymmetric (controls set cat) ((n, after.control) ∷ []) (told _ (laws.found.controls_rise set cat)) tt only_control)

    -- a window is found where it stands
    pub window_found : (j : ℕ) → j < most_windows → find nat_cmp j ws ≡ cond (stands n ks j) (Some (a_window after.control.container g ps j)) None
    window_found j few = laws.found.window set after.control.container cat j few ∙ after.windows j few

    put_few : (qs : List Element) → ArePuts g qs → (j : ℕ) → has (numbers g qs) j ≡ true → j < most_windows
    put_few [] puts j h = absurd (false≢true h)
    put_few (e ∷ qs) puts j h = by (window_of g e.0 == j) refl (put_few qs puts.1 j) h
      where
        by : (b : Bool) → (window_of g e.0 == j) ≡ b → (has (numbers g qs) j ≡ true → j < most_windows) → (b || has (numbers g qs) j) ≡ true → j < most_windows
        by true same more i =
            let at = puts.0.0 in
            let window : window_of g e.0 ≡ at.0 = ap (λ r. result_unwrap_or r 0) at.1 in
            let few = offset_few g e.0 at.0 at.1 in
            let own = eq_same (window_of g e.0) j same in
            omega (arith, few, window, own)
        by false same more i = more i

    pub live_stands : (j : ℕ) → has (live set after.control.container cat) j ≡ stands n ks j
    live_stands j = has_found ws j ∙ at (cases_lt j most_windows)
      where
        some : (b : Bool) (s : Series) → is_some (cond b (Some s) None) ≡ b
        some true s = refl
        some false s = refl

        apart : (b c : Bool) → (b ≡ true → ⊥) → (b && c) ≡ false
        apart true c h = absurd (h refl)
        apart false c h = refl

        at : (j < most_windows) ⊎ (most_windows ≤ j) → is_some (find nat_cmp j ws) ≡ stands n ks j
        at (inl few) = ap is_some (window_found j few) ∙ some (stands n ks j) (a_window after.control.container g ps j)
        at (inr many) =
            ap is_some (find_outside (λ m. m < most_windows) j (λ h. omega (arith, h, many)) ws (laws.found.windows_few set after.control.container cat))
            ∙ sym (apart (has ks j) _ (λ put. let few = put_few ps after.puts j put in omega (arith, few, many)))

    good_among : (vs : List (ℕ × Series)) (w : ℕ × Series) → AllByRecursion (λ v. v.0 < most_windows) vs → Among w vs → w.0 < most_windows
    good_among [] w all among = absurd among
    good_among (v ∷ vs) w all (inl same) = subst (λ (x : ℕ × Series). x.0 < most_windows) (sym same) all.0
    good_among (v ∷ vs) w all (inr later) = good_among vs w all.1 later

    -- each window has the last puts in it
    window_is : (w : ℕ × Series) → Among w ws → w.1 ≡ a_window after.control.container g ps w.0
    window_is w among =
        by (stands n ks w.0) (sym (among_found nat_cmp nat_cmp_total ws w (told _ (laws.found.windows_rise set after.control.container cat)) among)
        ∙ window_found w.0 (good_among ws w (laws.found.windows_few set after.control.container cat) among))
      where
        by : (b : Bool) → Some w.1 ≡ cond b (Some (a_window after.control.container g ps w.0)) None → w.1 ≡ a_window after.control.container g ps w.0
        by true e = same_Some w.1 _ e
        by false e = absurd (cc)

    -- what is an entry of the last puts was put
    was_put : (e : Element) → Among e (entries (last_puts ps)) → ((j : ℕ) × (offset_of g e.0 ≡ Ok j)) × (e.1.hidden ≡ false)
    was_put e among =
        last-put g e.0 e.1 ps empty after.puts (λ r is. absurd (no_value _ r (get-empty int_cmp e.0) is)) (put_there e among)
      where
        put_there : (e : Element) → Among e (entries (last_puts ps)) → get (last_puts ps) e.0 ≡ Some e.1
        put_there e among = get-entries (last_puts ps) e.0 ∙ among_found int_cmp int_cmp_total (entries (last_puts ps)) e (entries_sorted (last_puts ps)) among

    all_seen : (j : ℕ) → seen (entries (part g (last_puts ps) j)) ≡ entries (part g (last_puts ps) j)
    all_seen j = filter_all (λ e. not e.1.hidden) (entries (part g (last_puts ps) j)) (λ e among.
        ap not (was_put e (among_filter (λ e. in_window g j e.0) (entries (last_puts ps)) e (subst (Among e) (entries-part g (last_puts ps) j) among))).1)

    -- an entry is in a window that stands exactly where it is kept
    kept_there : (e : Element) → Among e (entries (last_puts ps)) → in_one g laid ws e.0 ≡ not (is_old n (newest_put g ps) (window_of g e.0))
    kept_there e among = by (was_put e among).0.0 (was_put e among).0.1
      where
        found : get (last_puts ps) e.0 ≡ Some e.1
        found = get-entries (last_puts ps) e.0 ∙ among_found int_cmp int_cmp_total (entries (last_puts ps)) e (entries_sorted (last_puts ps)) among

        by : (j : ℕ) → offset_of g e.0 ≡ Ok j → in_one g laid ws e.0 ≡ not (is_old n (newest_put g ps) (window_of g e.0))
        by j at = one_found g laid e.0 j at ws ∙ sym (has_found ws j) ∙ live_stands j ∙ put (has ks j) refl
          where
            window : window_of g e.0 ≡ j
            window = ap (λ r. result_unwrap_or r 0) at

            put : (b : Bool) → has ks j ≡ b → (b && not (is_old n (greatest ks) j)) ≡ not (is_old n (newest_put g ps) (window_of g e.0))
            put true h = ap (λ k. not (is_old n (greatest ks) k)) (sym window)
            put false h = absurd (no_value (get (last_puts ps) e.0) e.1 (last-none g j e.0 ps empty after.puts (in_window-yes g j e.0 at) h (get-empty int_cmp e.0)) found)

    pub content_kept : content set cat ≡ kept g n ps
    unfolding kept
    content_kept =
        ap (λ o. content_by set o cat) control_found
        ∙ flat_same (λ w. seen (entries w.1.elements)) (λ w. entries (part g (last_puts ps) w.0)) ws (λ w among.
        ap (λ (s : Series). seen (entries s.elements)) (window_is w among) ∙ all_seen w.0)
        ∙ parts_join g laid (last_puts ps) ws (told _ (laws.found.windows_rise set after.control.container cat))
        ∙ filter_same (λ e. in_one g laid ws e.0) (λ e. not (is_old n (newest_put g ps) (window_of g e.0))) (entries (last_puts ps)) kept_there
