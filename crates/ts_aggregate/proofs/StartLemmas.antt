-- The on starts that are asked for, and the groups at them.
use Rattle.std.proofs.Common.{◌≡◌, inl, inr, ℕ, zero, suc, ◌<◌, ◌≤◌, ℤ, ◌<ℤ◌, ◌≤ℤ◌, Bool, true, false, cond, Option, Some, None, List, [], ◌∷◌, ◌++◌, length, refl, sym, ap, subst, ◌∙◌, arith}
use Rattle.std.specs.Prelude.{filter}
use Rattle.std.specs.List.{slice_get}
use Rattle.std.proofs.lemmas.Int.{ints}
use Rattle.std.proofs.lemmas.Option.{same_Some}
use Rattle.ts_row.specs.Row.{Element}
use Rattle.ts_calendar.specs.Calendars.{CalendarPlan, IsLaid}
use Rattle.ts_offset.specs.Grid.{IsOnStart, on_starts, held_start, starts_between}
use Rattle.ts_offset.proofs.ListedLemmas.{listed-start, listed-rise}
use Rattle.ts_entry.specs.Entry.{grouped, held_from}
use Rattle.ts_aggregate.specs.Groups.{WantedPlan, is_asked, asked_start, group_start, AreHeldBy, IsOpen, closed, open_group}
use Rattle.ts_aggregate.proofs.GroupLemmas.{Each, IsOneOf, AreRising, groups_same, groups_empty, kept_less, kept_more, kept_none, earlier_same, earlier_all, earlier_last}

-- the members of a list by their places
one_at : (xs : List ℤ) (n : ℕ) (s : ℤ) → slice_get xs n ≡ Some s → IsOneOf s xs
one_at [] n s at = absurd (cc)
one_at (x ∷ xs) zero s at = inl (same_Some x s at)
one_at (x ∷ xs) (suc n) s at = inr (one_at xs n s at)

pub at_one : (xs : List ℤ) (s : ℤ) → IsOneOf s xs → (n : ℕ) × (slice_get xs n ≡ Some s)
at_one [] s one = absurd one
at_one (x ∷ xs) s (inl same) = (zero, ap Some same)
at_one (x ∷ xs) s (inr later) = let w = at_one xs s later in (suc w.0, w.1)

each_one : (P : ℤ → Type 0) (xs : List ℤ) → ((s : ℤ) → IsOneOf s xs → P s) → Each P xs
each_one P [] all = tt
each_one P (x ∷ xs) all = (all x (inl refl), each_one P xs (λ s one. all s (inr one)))

-- a list rises whose later places have later stamps
rising_at : (xs : List ℤ) → ((m n : ℕ) (s t : ℤ) → m < n → slice_get xs m ≡ Some s → slice_get xs n ≡ Some t → s <ℤ t) → AreRising xs
rising_at [] rises = tt
rising_at (x ∷ xs) rises = (
  each_one (λ z. x <ℤ z) xs (λ z one. let w = at_one xs z one in rises zero (suc w.0) x z (omega arith) refl w.1),
  rising_at xs (λ m n s t lt a b. rises (suc m) (suc n) s t (omega (arith, lt)) a b),
)

module _ (p : ℤ → Bool) where
  each_kept : (P : ℤ → Type 0) (xs : List ℤ) → Each P xs → Each P (filter p xs)
  each_kept P [] each = tt
  each_kept P (x ∷ xs) each = by (p x) (each_kept P xs each.1)
    where
      by : (b : Bool) → Each P (filter p xs) → Each P (cond b (x ∷ filter p xs) (filter p xs))
      by true rest = (each.0, rest)
      by false rest = rest

  rising_kept : (xs : List ℤ) → AreRising xs → AreRising (filter p xs)
  rising_kept [] rising = tt
  rising_kept (x ∷ xs) rising = by (p x) (rising_kept xs rising.1)
    where
      by : (b : Bool) → AreRising (filter p xs) → AreRising (cond b (x ∷ filter p xs) (filter p xs))
      by true rest = (each_kept (λ z. x <ℤ z) xs rising.0, rest)
      by false rest = rest

  one_kept : (s : ℤ) (xs : List ℤ) → IsOneOf s xs → p s ≡ true → IsOneOf s (filter p xs)
  one_kept s [] one pass = absurd one
  one_kept s (x ∷ xs) (inl same) pass = subst (λ b. IsOneOf s (cond b (x ∷ filter p xs) (filter p xs))) (sym (ap p same ∙ pass)) (inl same)
  one_kept s (x ∷ xs) (inr one) pass = by (p x) (one_kept s xs one pass)
    where
      by : (b : Bool) → IsOneOf s (filter p xs) → IsOneOf s (cond b (x ∷ filter p xs) (filter p xs))
      by true rest = inr rest
      by false rest = rest

  -- what holds of each that passes
  pub each_pass : (P : ℤ → Type 0) → ((s : ℤ) → p s ≡ true → P s) → (xs : List ℤ) → Each P (filter p xs)
  each_pass P all [] = tt
  each_pass P all (x ∷ xs) = by (p x) refl (each_pass P all xs)
    where
      by : (b : Bool) → p x ≡ b → Each P (filter p xs) → Each P (cond b (x ∷ filter p xs) (filter p xs))
      by true pass rest = (all x pass, rest)
      by false pass rest = rest

-- the starts that are asked for
pub asked_rising : (wanted : WantedPlan) → IsLaid wanted.calendar → AreRising (starts_between wanted.calendar wanted.from wanted.to)
asked_rising wanted laid = rising_kept (is_asked wanted) (on_starts wanted.calendar)
    (rising_at (on_starts wanted.calendar) (λ m n s t lt a b. listed-rise wanted.calendar m n s t laid lt a b))

pub asked_one : (wanted : WantedPlan) (s : ℤ) → IsLaid wanted.calendar → IsOnStart wanted.calendar s → is_asked wanted s ≡ true
    → IsOneOf s (starts_between wanted.calendar wanted.from wanted.to)
asked_one wanted s laid on asked =
    let w = listed-start wanted.calendar s laid on in
    one_kept (is_asked wanted) s (on_starts wanted.calendar) (one_at (on_starts wanted.calendar) w.0 s w.1) asked

-- a start that is asked for, from the group of a stamp
pub group_held : (wanted : WantedPlan) (o : Option ℤ) (s : ℤ) → asked_start wanted o ≡ Some s → (o ≡ Some s) × (is_asked wanted s ≡ true)
group_held wanted None s is = absurd (cc)
group_held wanted (Some z) s is = by (is_asked wanted z) refl is
  where
    by : (b : Bool) → is_asked wanted z ≡ b → cond b (Some z) None ≡ Some s → (Some z ≡ Some s) × (is_asked wanted s ≡ true)
    by true asked same = (same, sym (ap (is_asked wanted) (same_Some z s same)) ∙ asked)
    by false asked same = absurd (cc)

pub held_group : (wanted : WantedPlan) (o : Option ℤ) (s : ℤ) → o ≡ Some s → is_asked wanted s ≡ true → asked_start wanted o ≡ Some s
held_group wanted o s is asked = ap (asked_start wanted) is ∙ ap (λ b. cond b (Some s) None) asked

-- the start of the interval that holds an element
abbrev pub start_of : CalendarPlan → Element → Option ℤ
start_of calendar e = held_start calendar e.0

module _ (wanted : WantedPlan) where
  abbrev ss : List ℤ
  ss = starts_between wanted.calendar wanted.from wanted.to

  -- no elements make no groups
  pub none_grouped : grouped wanted.calendar wanted.from wanted.to [] ≡ []
  none_grouped = groups_empty (start_of wanted.calendar) ss

  -- an element of no group changes none
  pub passed_over : (given : List Element) (e : Element) → group_start wanted e.0 ≡ None
      → grouped wanted.calendar wanted.from wanted.to (given ++ e ∷ []) ≡ grouped wanted.calendar wanted.from wanted.to given
  passed_over given e none =
      groups_same (start_of wanted.calendar) ss (given ++ e ∷ []) given
      (each_pass (is_asked wanted) (λ s. held_from wanted.calendar (given ++ e ∷ []) s ≡ held_from wanted.calendar given s)
      (λ s asked. kept_less (start_of wanted.calendar) s given e
      (λ held. let there = held_group wanted (held_start wanted.calendar e.0) s held asked in absurd (cc)))
      (on_starts wanted.calendar))

  -- an element of the open group changes none that is closed
  pub closed_same : (s : ℤ) (given : List Element) (e : Element) → held_start wanted.calendar e.0 ≡ Some s
      → closed wanted (Some s) (given ++ e ∷ []) ≡ closed wanted (Some s) given
  closed_same s given e held = earlier_same (start_of wanted.calendar) s e held ss given

  -- and comes last in it
  pub open_more : (s : ℤ) (given : List Element) (e : Element) → held_start wanted.calendar e.0 ≡ Some s
      → open_group wanted (Some s) (given ++ e ∷ []) ≡ open_group wanted (Some s) given ++ e ∷ []
  open_more s given e held = kept_more (start_of wanted.calendar) s given e held

  -- none of the elements belongs to a group from one on
  none_from : (s : ℤ) (given : List Element) → Each (λ e. (z : ℤ) → held_start wanted.calendar e.0 ≡ Some z → z <ℤ s) given → (z : ℤ)
      → s ≤ℤ z → held_from wanted.calendar given z ≡ []
  none_from s given lower z le = kept_none (start_of wanted.calendar) z given (each given lower)
    where
      each : (es : List Element) → Each (λ e. (z : ℤ) → held_start wanted.calendar e.0 ≡ Some z → z <ℤ s) es
          → Each (λ e. held_start wanted.calendar e.0 ≡ Some z → ⊥) es
      each [] lower = tt
      each (e ∷ es) lower = (λ held. let lt = lower.0 z held in omega (arith, ints, lt, le), each es lower.1)

  -- so all groups are closed before it, and it has none
  pub closed_all : (s : ℤ) (given : List Element) → Each (λ e. (z : ℤ) → held_start wanted.calendar e.0 ≡ Some z → z <ℤ s) given
      → closed wanted (Some s) given ≡ closed wanted None given
  closed_all s given lower = earlier_all (start_of wanted.calendar) s given (none_from s given lower) ss

  pub open_none : (s : ℤ) (given : List Element) → Each (λ e. (z : ℤ) → held_start wanted.calendar e.0 ≡ Some z → z <ℤ s) given
      → open_group wanted (Some s) given ≡ []
  open_none s given lower = none_from s given lower s (omega (arith, ints))

  -- the open group stands behind those that are closed
  pub closed_last : (s : ℤ) (given : List Element) → IsOpen wanted s given → 1 ≤ length (open_group wanted (Some s) given)
      → closed wanted None given ≡ closed wanted (Some s) given ++ (s, open_group wanted (Some s) given) ∷ []
  closed_last s given open_ some =
      earlier_last (start_of wanted.calendar) s given some
      (λ z lt. kept_none (start_of wanted.calendar) z given (above z lt given open_.last))
      ss (asked_rising wanted open_.laid) (asked_one wanted s open_.laid open_.on open_.asked)
    where
      above : (z : ℤ) → s <ℤ z → (es : List Element) → AreHeldBy wanted.calendar s es
          → Each (λ e. held_start wanted.calendar e.0 ≡ Some z → ⊥) es
      above z lt [] last = tt
      above z lt (e ∷ es) last = (λ held. let le = last.0 z held in omega (arith, ints, lt, le), above z lt es last.1)
