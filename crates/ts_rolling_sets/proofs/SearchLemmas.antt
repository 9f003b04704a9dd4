-- Series in the order of their keys: those below a text stand in front, and the controls and windows of a set stand
-- between two texts.
use Rattle.std.proofs.Common.{◌≡◌, ℕ, zero, suc, ◌+◌, ◌<◌, ◌≤◌, ◌==◌, ◌&&◌, ◌||◌, is_none, Bool, true, false, T, cond, inl, inr, Option, Some, None, List, [], ◌∷◌, ◌++◌, length, get_or, take, drop, codes, slice_get, bytes_eq, option_to_list, refl, sym, ap, subst, ◌∙◌, arith}
use Rattle.std.proofs.lemmas.Bool.{false≢true, cases_lt}
use Rattle.std.proofs.lemmas.List.{append-nil, take-append-drop, get_or-drop, get_or-take, length-drop, length-take-le}
use Rattle.std.specs.List.{list_any, filter_map}
use Rattle.std.specs.Ordering.{nat_cmp, is_lt, ordering_then}
use Rattle.std.specs.declared.cmp.Ordering.{Ordering}
use Rattle.std.specs.declared.cmp.Ordering.TheVariants.{Less, Equal, Greater}
use Rattle.std.specs.Cmp.{nat_cmp_is, tied_itself, both_ways}
use Rattle.std.specs.FinMap.{is_sorted, nat_cmp-IsAntisymmetric}
use Rattle.std.proofs.lemmas.Slice.Eq.{bytes_eq-Decides}
use Rattle.std.proofs.lemmas.Bool.Decides.{nat_tests}
use Rattle.ts_model.specs.declared.kind.Kind.TheVariants as kinds
use Rattle.ts_model.specs.Catalogue.{name_cmp}
use Rattle.ts_model.specs.Definitions.{Definitions, SeriesDef, at_slot, slots, of_series}
use Rattle.ts_model.proofs.OrderLemmas.{total, both, below_each}
use Rattle.ts_model.proofs.IndexLemmas.{index, index-sorted, index-length, index-slot}
use Rattle.ts_layout.proofs.CallerLemmas.{own}
use Rattle.ts_rolling.specs.Sets.{most_windows, numbered_key, digits_of, window_key, control_key, read_window, read_control}
use Rattle.ts_rolling.proofs.DigitLemmas.{length-digits_of, all_digits-digits_of, digit_at}
use Rattle.ts_rolling.proofs.KeyLemmas.{window_form, control_form, cmp-front}
use Rattle.ts_rolling_sets.specs.InMemory.{control_at, control_if, window_at, window_if, in_order, kept_in, live_in}
use Rattle.ts_rolling_sets.specs.Order.{below_if, is_below, IsPlace}
use Rattle.ts_rolling_sets.proofs.PickedLemmas.{any_picked, picked_where, one_of, picked_behind, picked_nothing}
use Rattle.ts_rolling_sets.proofs.OrderLemmas.{picked_first}

is_less : (r : Ordering) → is_lt r ≡ true → r ≡ Less
is_less Less is = refl
is_less Equal is = absurd (cc)
is_less Greater is = absurd (cc)

-- each entry is below those behind it
entries_rise : (es : List (List ℕ × ℕ)) (i k : ℕ) (d : List ℕ × ℕ) → T (is_sorted name_cmp es) → i < k → k < length es → name_cmp (get_or es i d).0 (get_or es k d).0 ≡ Less
entries_rise [] i k d sorted before within = absurd (omega (arith, within))
entries_rise (e ∷ es) i zero d sorted before within = absurd (omega (arith, before))
entries_rise (e ∷ es) zero (suc k) d sorted before within = below_each e.0 es k d (both _ _ sorted).0 (omega (arith, within))
entries_rise (e ∷ es) (suc i) (suc k) d sorted before within = entries_rise es i k d (both _ _ sorted).1 (omega (arith, before)) (omega (arith, within))

module _ (d : Definitions) where
  abbrev slot_at : ℕ → ℕ
  slot_at k = get_or (in_order d) k 0

  inside : (k : ℕ) → k < length (in_order d) → k < length (index (slots kinds.Series d))
  inside k within = subst (λ (n : ℕ). k < n) (index-length (slots kinds.Series d)) within

  -- the series at a place in the order, and its key
  at_place : (k : ℕ) → k < length (in_order d) → (s : SeriesDef) × (at_slot (slot_at k) d.series ≡ Some s) × ((get_or (index (slots kinds.Series d)) k ([], 0)).0 ≡ s.key)
  at_place k within =
      let there = index-slot (slots kinds.Series d) k ([], 0) (inside k within) in
      let found = own of_series (slot_at k) d.series there.0 there.1 in
      let def = found.2 in
      let name = there.2 in
      (found.0, found.1, cc)

  rises : (i k : ℕ) → i < k → (within : k < length (in_order d)) → (before : i < length (in_order d)) → name_cmp (at_place i before).0.key (at_place k within).0.key ≡ Less
  rises i k lt within before =
      let names = entries_rise (index (slots kinds.Series d)) i k ([], 0) (index-sorted (slots kinds.Series d)) lt (inside k within) in
      (λ j. name_cmp (sym (at_place i before).2 j) (sym (at_place k within).2 j)) ∙ names

  -- where one is below a text, all before it are
  pub below_earlier : (text : List ℕ) (i k : ℕ) → i ≤ k → k < length (in_order d) → is_below d text (slot_at k) ≡ true → is_below d text (slot_at i) ≡ true
  below_earlier text i k le within below = elim (cases_lt i k) [
    | inl lt ↦
        let before : i < length (in_order d) = omega (arith, lt, within) in
        let a = at_place i before in
        let b = at_place k within in
        let less : name_cmp b.0.key text ≡ Less = is_less (name_cmp b.0.key text) (sym (ap (below_if text) b.1) ∙ below) in
        ap (below_if text) a.1 ∙ ap is_lt (total.trans a.0.key b.0.key text (rises i k lt within before) less)
    | inr ge ↦ let same : k ≡ i = omega (arith, le, ge) in subst (λ (n : ℕ). is_below d text (slot_at n) ≡ true) same below
  ]

  pub behind_later : (text : List ℕ) (i k : ℕ) → i ≤ k → k < length (in_order d) → is_below d text (slot_at i) ≡ false → is_below d text (slot_at k) ≡ false
  behind_later text i k le within behind = unless (is_below d text (slot_at k)) (λ below. false≢true (sym behind ∙ below_earlier text i k le within below))
    where
      unless : (b : Bool) → (b ≡ true → ⊥) → b ≡ false
      unless true never = absurd (never refl)
      unless false never = refl

-- a text with a front or without
pub behind_front : (key front rest tail : List ℕ) → bytes_eq (take (length front) key) front ≡ true → tail ≡ drop (length front) key → name_cmp key (front ++ rest) ≡ name_cmp tail rest
behind_front key front rest tail is same =
    ap (λ (k : List ℕ). name_cmp k (front ++ rest)) (sym (take-append-drop (length front) key) ∙ (λ i. (bytes_eq-Decides (take (length front) key) front).0 is i ++ sym same i))
    ∙ cmp-front front tail rest

second_false : (a b : Bool) → (a && b) ≡ false → a ≡ true → b ≡ false
second_false true b neither is = neither
second_false false b neither is = absurd (false≢true is)

tied : (m n : ℕ) → m ≡ n → (m == n) ≡ true
tied m n same = grind (arith, nat_tests)

then_same : (r : Ordering) (a b : Ordering) → (r ≡ Equal → a ≡ b) → ordering_then r a ≡ ordering_then r b
then_same Less a b same = refl
then_same Equal a b same = same refl
then_same Greater a b same = refl

pub outside_front : (key front rest : List ℕ) → bytes_eq (take (length front) key) front ≡ false → name_cmp key (front ++ rest) ≡ name_cmp key front
outside_front key [] rest other = absurd (false≢true (sym other))
outside_front [] (c ∷ front) rest other = refl
outside_front (k ∷ key) (c ∷ front) rest other =
    then_same (nat_cmp k c) (name_cmp key (front ++ rest)) (name_cmp key front) (λ is.
    outside_front key front rest (second_false (k == c) (bytes_eq (take (length front) key) front) other (tied k c (nat_cmp-IsAntisymmetric k c is))))

-- the keys of a set stand behind its key with a sign
first_none : (ds : List ℕ) → is_lt (name_cmp ds []) ≡ false
first_none [] = refl
first_none (x ∷ ds) = refl

numbered_first : (sign : List ℕ) (w : ℕ) (set : List ℕ) (n : ℕ) → is_lt (name_cmp (numbered_key sign w set n) (set ++ sign)) ≡ false
numbered_first sign w set n =
    ap is_lt (cmp-front set (sign ++ digits_of w n) sign ∙ ap (name_cmp (sign ++ digits_of w n)) (sym (append-nil sign)) ∙ cmp-front sign (digits_of w n) [])
    ∙ first_none (digits_of w n)

window_first : (set : List ℕ) (j : ℕ) → is_lt (name_cmp (window_key set j) (set ++ codes "#")) ≡ false
unfolding window_key
window_first set j = numbered_first (codes "#") 12 set j

control_first : (set : List ℕ) (n : ℕ) → is_lt (name_cmp (control_key set n) (set ++ codes "#w")) ≡ false
unfolding control_key
control_first set n = numbered_first (codes "#w") 4 set n

-- and before it with another
digits_before : (ds : List ℕ) (c : ℕ) → 0 < length ds → get_or ds 0 0 < c → name_cmp ds (c ∷ []) ≡ Less
digits_before [] c some less = absurd (omega (arith, some))
digits_before (x ∷ ds) c some less = ap (λ (o : Ordering). ordering_then o (name_cmp ds [])) (sym (nat_cmp_is x c Less less))

window_last : (set : List ℕ) (j : ℕ) → j < most_windows → is_lt (name_cmp (window_key set j) (set ++ codes "#w")) ≡ true
unfolding window_key
window_last set j few =
    let long = length-digits_of 12 j in
    let digit = digit_at (digits_of 12 j) 0 (all_digits-digits_of 12 j few) (omega (arith, long)) in
    ap is_lt (cmp-front set (codes "#" ++ digits_of 12 j) (codes "#w") ∙ cmp-front (codes "#") (digits_of 12 j) (119 ∷ []) ∙ digits_before (digits_of 12 j) 119 (omega (arith, long)) (omega (arith, digit)))

control_last : (set : List ℕ) (n : ℕ) → is_lt (name_cmp (control_key set n) (set ++ codes "#x")) ≡ true
unfolding control_key
control_last set n = ap is_lt (cmp-front set (codes "#w" ++ digits_of 4 n) (codes "#x"))

-- so nothing is picked elsewhere
none_if : (o : Option ℕ) → ((n : ℕ) → o ≡ Some n → ⊥) → o ≡ None
none_if None never = refl
none_if (Some n) never = absurd (never n refl)

read_of : (b : Bool) (o : Option ℕ) (n : ℕ) → cond b o None ≡ Some n → o ≡ Some n
read_of true o n is = is
read_of false o n is = absurd (cc)

-- the key of a window, and of a control
pub window_named : (set : List ℕ) (container : ℕ) (s : SeriesDef) (j : ℕ) → window_if set container (Some s) ≡ Some j → (j < most_windows) × (s.key ≡ window_key set j)
window_named set container s j is = (window_form s.key set j).0 (read_of (s.container == container && is_none s.regular) (read_window s.key set) j is)

module _ (d : Definitions) (set : List ℕ) where
  pub no_window_before : (container slot : ℕ) → is_below d (set ++ codes "#") slot ≡ true → window_at d set container slot ≡ None
  no_window_before container slot = by (at_slot slot d.series)
    where
      by : (o : Option SeriesDef) → below_if (set ++ codes "#") o ≡ true → window_if set container o ≡ None
      by None below = refl
      by (Some s) below =
          none_if (window_if set container (Some s)) (λ j is.
          let named = window_named set container s j is in
          false≢true (sym (window_first set j) ∙ ap (λ (k : List ℕ). is_lt (name_cmp k (set ++ codes "#"))) (sym named.1) ∙ below))

  pub no_window_behind : (container slot : ℕ) → is_below d (set ++ codes "#w") slot ≡ false → window_at d set container slot ≡ None
  no_window_behind container slot = by (at_slot slot d.series)
    where
      by : (o : Option SeriesDef) → below_if (set ++ codes "#w") o ≡ false → window_if set container o ≡ None
      by None behind = refl
      by (Some s) behind =
          none_if (window_if set container (Some s)) (λ j is.
          let named = window_named set container s j is in
          false≢true (sym behind ∙ ap (λ (k : List ℕ). is_lt (name_cmp k (set ++ codes "#w"))) named.1 ∙ window_last set j named.0))

  pub no_control_before : (slot : ℕ) → is_below d (set ++ codes "#w") slot ≡ true → control_at d set slot ≡ None
  no_control_before slot = by (at_slot slot d.series)
    where
      by : (o : Option SeriesDef) → below_if (set ++ codes "#w") o ≡ true → control_if set o ≡ None
      by None below = refl
      by (Some s) below =
          none_if (read_control s.key set) (λ n is.
          let key = ((control_form s.key set n).0 is).2 in
          false≢true (sym (control_first set n) ∙ ap (λ (k : List ℕ). is_lt (name_cmp k (set ++ codes "#w"))) (sym key) ∙ below))

  pub no_control_behind : (slot : ℕ) → is_below d (set ++ codes "#x") slot ≡ false → control_at d set slot ≡ None
  no_control_behind slot = by (at_slot slot d.series)
    where
      by : (o : Option SeriesDef) → below_if (set ++ codes "#x") o ≡ false → control_if set o ≡ None
      by None behind = refl
      by (Some s) behind =
          none_if (read_control s.key set) (λ n is.
          let key = ((control_form s.key set n).0 is).2 in
          false≢true (sym behind ∙ ap (λ (k : List ℕ). is_lt (name_cmp k (set ++ codes "#x"))) key ∙ control_last set n))

-- what is picked of the series in front of a place and not below a text
abbrev pub AreBefore : Definitions → ℕ → List ℕ → List ℕ → Type 0
AreBefore d end low slots =
    (pick : ℕ → Option ℕ) → ((slot : ℕ) → is_below d low slot ≡ true → pick slot ≡ None) → ((k : ℕ) → end ≤ k → k < length (in_order d) → pick (get_or (in_order d) k 0) ≡ None) → filter_map pick slots ≡ filter_map pick (in_order d)

module _ (d : Definitions) (set : List ℕ) (place : ℕ) (at : IsPlace d (set ++ codes "#w") place) where
  -- the windows of a set stand in front of its controls
  pub all_windows : (container : ℕ) (slots_ front : List ℕ) → front ≡ set → AreBefore d place (front ++ codes "#") slots_ → filter_map (window_at d set container) slots_ ≡ live_in d set container
  all_windows container slots_ front same before =
      before (window_at d set container) (λ slot below. no_window_before d set container slot (ap (λ (s : List ℕ). is_below d (s ++ codes "#") slot) (sym same) ∙ below))
      (λ k ge inside. no_window_behind d set container (get_or (in_order d) k 0) (at.behind k ge inside))

  -- and its controls from there on
  module _ (slots_ : List ℕ) (are : slots_ ≡ drop place (in_order d)) where
    abbrev control : ℕ → Option ℕ
    control = control_at d set

    all_controls : filter_map control slots_ ≡ kept_in d set
    all_controls = ap (filter_map control) are ∙ picked_behind control (in_order d) place (λ k before within. no_control_before d set (get_or (in_order d) k 0) (at.before k before))

    abbrev pub NoneBefore : ℕ → Type 0
    NoneBefore i = (k : ℕ) → k < i → k < length slots_ → control (get_or slots_ k 0) ≡ None

    pub first_from : (i n : ℕ) → i < length slots_ → NoneBefore i → control (get_or slots_ i 0) ≡ Some n → Some n ≡ slice_get (kept_in d set) 0
    first_from i n within none is =
        picked_first control slots_ i n within (picked_nothing control (take i slots_) (λ k inside.
        let e = length-take-le i slots_ (omega (arith, within)) in let before : k < i = omega (arith, e, inside) in
        ap control (get_or-take i slots_ k 0 before) ∙ none k before (omega (arith, before, within)))) is
        ∙ ap (λ (ns : List ℕ). slice_get ns 0) all_controls

    pub no_control_at_all : ((k : ℕ) → k < length slots_ → control (get_or slots_ k 0) ≡ None) → None ≡ slice_get (kept_in d set) 0
    no_control_at_all none = sym (ap (λ (ns : List ℕ). slice_get ns 0) (sym all_controls ∙ picked_nothing control slots_ none))

    at_slot_of : (k : ℕ) → get_or slots_ k 0 ≡ get_or (in_order d) (place + k) 0
    at_slot_of k = ap (λ (ss : List ℕ). get_or ss k 0) are ∙ get_or-drop place (in_order d) k 0

    inside_all : (k : ℕ) → k < length slots_ → place + k < length (in_order d)
    inside_all k within = let e = ap (λ (ss : List ℕ). length ss) are in let f = length-drop place (in_order d) in omega (arith, e, f, within)

    -- none is behind a series that isn't below `#x`
    pub no_control_on : (i : ℕ) → i < length slots_ → NoneBefore i → is_below d (set ++ codes "#x") (get_or slots_ i 0) ≡ false → None ≡ slice_get (kept_in d set) 0
    no_control_on i within none behind = no_control_at_all (λ k inside. elim (cases_lt k i) [
      | inl before ↦ none k before inside
      | inr ge ↦
          let here : is_below d (set ++ codes "#x") (get_or (in_order d) (place + i) 0) ≡ false = ap (is_below d (set ++ codes "#x")) (sym (at_slot_of i)) ∙ behind in
          ap control (at_slot_of k) ∙ no_control_behind d set (get_or (in_order d) (place + k) 0) (behind_later d (set ++ codes "#x") (place + i) (place + k) (omega (arith, ge)) (inside_all k inside) here)
    ])

-- the window whose key a text is stands at the place of that text, if anywhere
module _ (d : Definitions) (set : List ℕ) (container window : ℕ) (key : List ℕ) (its : key ≡ window_key set window) (place : ℕ) (at : IsPlace d (key ++ []) place) where
  abbrev is_it : ℕ → Bool
  is_it k = k == window

  its_text : key ++ [] ≡ window_key set window
  its_text = append-nil key ∙ its

  stands : (i : ℕ) → i < length (in_order d) → window_at d set container (get_or (in_order d) i 0) ≡ Some window → i ≡ place
  stands i within is =
      let own = at_place d i within in
      let named = window_named set container own.0 window (ap (window_if set container) (sym own.1) ∙ is) in
      elim (cases_lt i place) [
        | inl before ↦
            let below = at.before i before in
            let equal : is_below d (key ++ []) (get_or (in_order d) i 0) ≡ false =
            ap (below_if (key ++ [])) own.1 ∙ (λ j. is_lt (name_cmp (named.1 j) (its_text j))) ∙ ap is_lt (tied_itself total (window_key set window)) in
            absurd (false≢true (sym equal ∙ below))
        | inr ge ↦ elim (cases_lt place i) [
          | inl behind ↦
              let inside : place < length (in_order d) = omega (arith, behind, within) in
              let other = at_place d place inside in
              let less = rises d place i behind within inside in
              let below : is_below d (key ++ []) (get_or (in_order d) place 0) ≡ true =
              ap (below_if (key ++ [])) other.1 ∙ (λ j. is_lt (name_cmp other.0.key ((its_text ∙ sym named.1) j))) ∙ ap is_lt less in
              let at_least : place ≤ place = omega arith in
              absurd (false≢true (sym (at.behind place at_least inside) ∙ below))
          | inr le ↦ omega (arith, ge, le)
        ]
      ]

  pub live_at : place < length (in_order d) → list_any is_it (option_to_list (window_at d set container (get_or (in_order d) place 0))) ≡ list_any is_it (live_in d set container)
  live_at inside =
      both_ways _ _
      (λ any. any_picked (window_at d set container) (in_order d) place window inside (one_of (window_at d set container (get_or (in_order d) place 0)) window any))
      (λ any.
      let there = picked_where (window_at d set container) (in_order d) window any in
      let same = stands there.0 there.1 there.2 in
      let is : window_at d set container (get_or (in_order d) place 0) ≡ Some window = ap (λ (n : ℕ). window_at d set container (get_or (in_order d) n 0)) (sym same) ∙ there.2 in
      ap (λ (o : Option ℕ). list_any is_it (option_to_list o)) is ∙ itself)
    where
      itself : list_any is_it (option_to_list (Some window)) ≡ true
      itself = ap (λ (b : Bool). b || false) (tied window window refl)

  pub live_past : length (in_order d) ≤ place → list_any is_it (live_in d set container) ≡ false
  live_past past = unless (list_any is_it (live_in d set container)) (λ any.
      let there = picked_where (window_at d set container) (in_order d) window any in
      let same = stands there.0 there.1 there.2 in
      absurd (omega (arith, same, past, there.1)))
    where
      unless : (b : Bool) → (b ≡ true → ⊥) → b ≡ false
      unless true never = absurd (never refl)
      unless false never = refl
