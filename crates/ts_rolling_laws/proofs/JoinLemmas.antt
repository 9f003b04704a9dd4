-- Windows joined in their order are the elements that lie in one of them.
use Rattle.std.proofs.Common.{◌≡◌, ◌⊎◌, ℕ, ◌<◌, Bool, true, false, ◌&&◌, ◌||◌, cond, Some, Ok, Result, List, [], ◌∷◌, ◌++◌, filter, is_some, refl, sym, ap, ◌∙◌, arith, inl, inr, ℤ, ◌<ℤ◌, T}
use Rattle.std.specs.List.{list_any, flat_map}
use Rattle.std.specs.Ordering.{nat_cmp, int_cmp, eq_by_cmp, is_eq, is_lt, ordering_reverse}
use Rattle.std.specs.declared.cmp.Ordering.{Ordering}
use Rattle.std.specs.declared.cmp.Ordering.TheVariants.{Less, Equal, Greater}
use Rattle.std.specs.Cmp.{IsTotalOrder, int_cmp_total, int_ranked, ranked, unsigned_tied, tied_itself}
use Rattle.std.specs.FinMap.{entries, entries_sorted, find, is_sorted}
use Rattle.std.specs.FinMap.Entries.{below_all}
use Rattle.std.proofs.lemmas.Bool.{false≢true}
use Rattle.std.proofs.lemmas.Int.{ints}
use Rattle.ts_base.specs.declared.refusal.Refusal.{Refusal}
use Rattle.ts_row.specs.Row.{Element}
use Rattle.ts_calendar.specs.Calendars.{IsLaid}
use Rattle.ts_offset.specs.Grid.{GridPlan, offset_of}
use Rattle.ts_model.specs.Catalogue.{Elements, Series}
use Rattle.ts_rolling_laws.proofs.OffsetLemmas.{offset_rises}
use Rattle.ts_rolling_laws.proofs.PartLemmas.{is_window, in_window, part, in_window-is, entries-part}

-- one of a list
abbrev pub Among : {X : Type 0} → X → List X → Type 0
Among x [] = ⊥
Among x (y ∷ ys) = (x ≡ y) ⊎ Among x ys

-- a filter by tests that agree on the list
pub filter_same : {X : Type 0} (p q : X → Bool) (xs : List X) → ((x : X) → Among x xs → p x ≡ q x) → filter p xs ≡ filter q xs
filter_same p q [] same = refl
filter_same p q (x ∷ xs) same =
    let rest = filter_same p q xs (λ y among. same y (inr among)) in
    (λ i. cond (same x (inl refl) i) (x ∷ rest i) (rest i))

filter_none : {X : Type 0} (p : X → Bool) (xs : List X) → ((x : X) → Among x xs → p x ≡ false) → filter p xs ≡ []
filter_none p [] none = refl
filter_none p (x ∷ xs) none = ap (λ b. cond b (x ∷ filter p xs) (filter p xs)) (none x (inl refl)) ∙ filter_none p xs (λ y among. none y (inr among))

pub filter_all : {X : Type 0} (p : X → Bool) (xs : List X) → ((x : X) → Among x xs → p x ≡ true) → filter p xs ≡ xs
filter_all p [] all = refl
filter_all p (x ∷ xs) all = ap (λ b. cond b (x ∷ filter p xs) (filter p xs)) (all x (inl refl)) ∙ ap (λ l. x ∷ l) (filter_all p xs (λ y among. all y (inr among)))

pub among_filter : {X : Type 0} (p : X → Bool) (xs : List X) (x : X) → Among x (filter p xs) → Among x xs
among_filter p [] x among = among
among_filter p (y ∷ xs) x among = by (p y) (among_filter p xs x) among
  where
    by : (b : Bool) → (Among x (filter p xs) → Among x xs) → Among x (cond b (y ∷ filter p xs) (filter p xs)) → (x ≡ y) ⊎ Among x xs
    by true more (inl same) = inl same
    by true more (inr later) = inr (more later)
    by false more later = inr (more later)

both : (a b : Bool) → T (a && b) → T a × T b
both true b h = (tt, h)
both false b h = absurd h

less : (r : Ordering) → T (is_lt r) → r ≡ Less
less Less h = refl
less Equal h = absurd h
less Greater h = absurd h

apart_keys : {K : Type 0} (R : K → K → Ordering) (o : IsTotalOrder R) (a b : K) → R a b ≡ Less → eq_by_cmp R b a ≡ false
apart_keys R o a b lt = ap is_eq (o.antisymm b a ∙ ap ordering_reverse lt)

-- lists in the order of their keys
module _ {K X : Type 0} (R : K → K → Ordering) (o : IsTotalOrder R) where
  -- the later ones have later keys
  pub behind : (t : K) (es : List (K × X)) (f : K × X) → T (below_all R t es) → Among f es → R t f.0 ≡ Less
  behind t [] f below among = absurd among
  behind t (e ∷ es) f below among =
      let parts = both (is_lt (R t e.0)) (below_all R t es) below in
      by (less (R t e.0) parts.0) (behind t es f parts.1) among
    where
      by : R t e.0 ≡ Less → (Among f es → R t f.0 ≡ Less) → (f ≡ e) ⊎ Among f es → R t f.0 ≡ Less
      by first more (inl same) = ap (λ (x : K × X). R t x.0) same ∙ first
      by first more (inr later) = more later

  -- each is found at its key
  pub among_found : (es : List (K × X)) (f : K × X) → T (is_sorted R es) → Among f es → find R f.0 es ≡ Some f.1
  among_found [] f sorted among = absurd among
  among_found (e ∷ es) f sorted among =
      let parts = both (below_all R e.0 es) (is_sorted R es) sorted in
      by (λ later. behind e.0 es f parts.0 later) (among_found es f parts.1) among
    where
      by : (Among f es → R e.0 f.0 ≡ Less) → (Among f es → find R f.0 es ≡ Some f.1) → (f ≡ e) ⊎ Among f es
          → cond (eq_by_cmp R f.0 e.0) (Some e.1) (find R f.0 es) ≡ Some f.1
      by after more (inl same) =
          ap (λ (x : K × X). cond (eq_by_cmp R x.0 e.0) (Some e.1) (find R x.0 es)) same
          ∙ ap (λ b. cond b (Some e.1) (find R e.0 es)) (ap is_eq (tied_itself o e.0))
          ∙ sym (ap (λ (x : K × X). Some x.1) same)
      by after more (inr later) =
          ap (λ b. cond b (Some e.1) (find R f.0 es)) (apart_keys R o e.0 f.0 (after later)) ∙ more later

-- of elements in order, the later ones have later stamps
later_stamp : (t : ℤ) (es : List Element) (f : Element) → T (below_all int_cmp t es) → Among f es → t <ℤ f.0
later_stamp t es f below among = int_ranked t f.0 Less (sym (behind int_cmp int_cmp_total t es f below among))

-- what passes p stands before what passes q
abbrev Apart : (Element → Bool) → (Element → Bool) → List Element → Type 0
Apart p q [] = Unit {0}
Apart p q (e ∷ es) = (q e ≡ true → (f : Element) → Among f es → p f ≡ false) × Apart p q es

joined_filters : (p q : Element → Bool) → ((e : Element) → p e ≡ true → q e ≡ false) → (es : List Element) → Apart p q es
    → filter p es ++ filter q es ≡ filter (λ e. p e || q e) es
joined_filters p q never [] apart = refl
joined_filters p q never (e ∷ es) apart = by (p e) (q e) refl refl (joined_filters p q never es apart.1)
  where
    by : (a b : Bool) → p e ≡ a → q e ≡ b → filter p es ++ filter q es ≡ filter (λ e. p e || q e) es
        → cond a (e ∷ filter p es) (filter p es) ++ cond b (e ∷ filter q es) (filter q es) ≡ cond (a || b) (e ∷ filter (λ e. p e || q e) es) (filter (λ e. p e || q e) es)
    by true true is also rest = absurd (false≢true (sym (never e is) ∙ also))
    by true false is also rest = ap (λ l. e ∷ l) rest
    by false true is also rest =
        let none = filter_none p es (apart.0 also) in
        ap (λ l. l ++ e ∷ filter q es) none ∙ ap (λ l. e ∷ l) (sym (ap (λ l. l ++ filter q es) none) ∙ rest)
    by false false is also rest = rest

module _ (g : GridPlan) (laid : IsLaid g.calendar) where
  -- the stamp lies in the window of one of some series
  abbrev pub in_one : List (ℕ × Series) → ℤ → Bool
  in_one ws t = list_any (λ w. in_window g w.0 t) ws

  -- such a window is a later one
  later_window : (j : ℕ) (ws : List (ℕ × Series)) (t : ℤ) → T (below_all nat_cmp j ws) → in_one ws t ≡ true → (k : ℕ) × (j < k) × (offset_of g t ≡ Ok k)
  later_window j [] t below one = absurd (false≢true one)
  later_window j (w ∷ ws) t below one =
      let parts = both (is_lt (nat_cmp j w.0)) (below_all nat_cmp j ws) below in
      by (in_window g w.0 t) refl (ranked j w.0 Less (sym (less (nat_cmp j w.0) parts.0))) (later_window j ws t parts.1) one
    where
      by : (b : Bool) → in_window g w.0 t ≡ b → j < w.0 → (in_one ws t ≡ true → (k : ℕ) × (j < k) × (offset_of g t ≡ Ok k))
          → (b || in_one ws t) ≡ true → (k : ℕ) × (j < k) × (offset_of g t ≡ Ok k)
      by true is up more h = (w.0, up, in_window-is g w.0 t is)
      by false is up more h = more h

  apart_windows : (j : ℕ) (ws : List (ℕ × Series)) → T (below_all nat_cmp j ws) → (es : List Element) → T (is_sorted int_cmp es)
      → Apart (λ e. in_window g j e.0) (λ e. in_one ws e.0) es
  apart_windows j ws below [] sorted = tt
  apart_windows j ws below (e ∷ es) sorted = (
    λ one f among.
        let k = later_window j ws e.0 below one in
        let up = later_stamp e.0 es f parts.0 among in
        unless (in_window g j f.0) (λ inside.
        let back = offset_rises g f.0 e.0 j k.0 laid (in_window-is g j f.0 inside) k.2 (omega (arith, ints, up)) in
        omega (arith, back, k.1)),
    apart_windows j ws below es parts.1,
  )
    where
      parts : T (below_all int_cmp e.0 es) × T (is_sorted int_cmp es)
      parts = both (below_all int_cmp e.0 es) (is_sorted int_cmp es) sorted

      unless : (b : Bool) → (b ≡ true → ⊥) → b ≡ false
      unless true h = absurd (h refl)
      unless false h = refl

  never_both : (j : ℕ) (ws : List (ℕ × Series)) → T (below_all nat_cmp j ws) → (e : Element) → in_window g j e.0 ≡ true → in_one ws e.0 ≡ false
  never_both j ws below e inside = unless (in_one ws e.0) (λ one.
      let k = later_window j ws e.0 below one in
      let same : j ≡ k.0 = same_Ok j k.0 (sym (in_window-is g j e.0 inside) ∙ k.2) in
      omega (arith, same, k.1))
    where
      same_Ok : (a b : ℕ) → let left : Result ℕ Refusal = Ok a in left ≡ Ok b → a ≡ b
      same_Ok a b h = cc

      unless : (b : Bool) → (b ≡ true → ⊥) → b ≡ false
      unless true h = absurd (h refl)
      unless false h = refl

  -- the parts of windows, one behind the other
  pub parts_join : (p : Elements) (ws : List (ℕ × Series)) → T (is_sorted nat_cmp ws)
      → flat_map (λ w. entries (part g p w.0)) ws ≡ filter (λ e. in_one ws e.0) (entries p)
  parts_join p [] sorted = sym (filter_none (λ e. false) (entries p) (λ x among. refl))
  parts_join p (w ∷ ws) sorted =
      (λ i. entries-part g p w.0 i ++ parts_join p ws parts.1 i)
      ∙ joined_filters (λ e. in_window g w.0 e.0) (λ e. in_one ws e.0) (never_both w.0 ws parts.0) (entries p) (apart_windows w.0 ws parts.0 (entries p) (entries_sorted p))
    where
      parts : T (below_all nat_cmp w.0 ws) × T (is_sorted nat_cmp ws)
      parts = both (below_all nat_cmp w.0 ws) (is_sorted nat_cmp ws) sorted

  -- a stamp lies in one of some windows exactly where the window of its number is one of them
  pub one_found : (t : ℤ) (j : ℕ) → offset_of g t ≡ Ok j → (ws : List (ℕ × Series)) → in_one ws t ≡ is_some (find nat_cmp j ws)
  one_found t j at [] = refl
  one_found t j at (w ∷ ws) =
      (λ i. is_window w.0 (at i) || one_found t j at ws i) ∙ ap (λ b. b || is_some (find nat_cmp j ws)) (sym (unsigned_tied j w.0))
      ∙ by (eq_by_cmp nat_cmp j w.0)
    where
      by : (b : Bool) → (b || is_some (find nat_cmp j ws)) ≡ is_some (cond b (Some w.1) (find nat_cmp j ws))
      by true = refl
      by false = refl

-- lists that are joined alike
pub flat_same : {X Y : Type 0} (f h : X → List Y) (xs : List X) → ((x : X) → Among x xs → f x ≡ h x) → flat_map f xs ≡ flat_map h xs
flat_same f h [] same = refl
flat_same f h (x ∷ xs) same = (λ i. same x (inl refl) i ++ flat_same f h xs (λ y among. same y (inr among)) i)
