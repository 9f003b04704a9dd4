-- Elements outside a range have no place so many on starts behind their own.
use Rattle.std.proofs.Common.{length, get_or, zero, suc, ◌≡◌, ℕ, ◌<◌, ◌≤◌, ℤ, pos, ◌+ℤ◌, ◌<ℤ◌, ◌≤ℤ◌, Bool, true, false, cond, not, inl, inr, nat_le, Option, Some, None, List, [], ◌∷◌, All, filter, filter_map, refl, ap, sym, ◌∙◌, arith}
use Rattle.std.specs.Prelude.{int_lt, option_map, option_and_then, unsigned_abs}
use Rattle.std.specs.List.{cons_option}
use Rattle.std.proofs.lemmas.Bool.{cases_lt}
use Rattle.std.proofs.lemmas.Bool.Decides.{nat_tests}
use Rattle.std.proofs.lemmas.Int.{by_lt_z, ints}
use Rattle.std.proofs.lemmas.Option.{same_Some}
use Rattle.std.proofs.lemmas.List.Elements.{All-head, All-tail}
use Rattle.ts_row.specs.Row.{Element}
use Rattle.ts_sheets.specs.Stamped.{is_within, within_range}
use Rattle.std.specs.Prelude.{slice_get, IfSome, IfNone, ◌↔◌}
use Rattle.std.proofs.lemmas.Option.{slice_get_within}
use Rattle.ts_base.specs.Moment.{IsStamp}
use Rattle.ts_offset.specs.Grid.{on_starts, starts_of, GridPlan, starts_before, stamp_of}
use Rattle.ts_offset.proofs.ListedLemmas.{start-listed}
use Rattle.ts_offset.proofs.StartLemmas.{on-line}
use Rattle.ts_sheets.proofs.StartLemmas.{stamps_rise}
use Rattle.ts_irregular.proofs.EditLemmas.{int_lt_yes, int_lt_no}
use Rattle.ts_calendar.specs.Calendars.{IsLaid}
use Rattle.ts_combine.specs.Combine.{from_origin}
use Rattle.ts_combine.specs.Moved.{up_to, offset_behind, start_behind, moved}
use Rattle.ts_combine.specs.Series.{IsStartOf}
use Rattle.ts_clip.proofs.GridOffsetLemmas.{lower_side}
use Rattle.ts_combined_rows.specs.Placed.{HasNoPlace, NoneBefore, NoneAfter}

-- what passed a test and stands in a list
kept_first : (p : ℤ → Bool) (x : ℤ) (xs ys : List ℤ) (s : ℤ) (n : ℕ) (b : Bool) → p x ≡ b → slice_get (cond b (x ∷ ys) ys) n ≡ Some s → ((k : ℕ) → slice_get ys k ≡ Some s → (p s ≡ true) × (m : ℕ) × (slice_get xs m ≡ Some s))
    → (p s ≡ true) × (m : ℕ) × (slice_get (x ∷ xs) m ≡ Some s)
kept_first p x xs ys s zero true is at more = let same : x ≡ s = cc in (ap p (sym same) ∙ is, zero, at)
kept_first p x xs ys s (suc k) true is at more = let others = more k at in (others.0, suc others.1, others.2)
kept_first p x xs ys s n false is at more = let others = more n at in (others.0, suc others.1, others.2)

kept_at : (p : ℤ → Bool) (xs : List ℤ) (n : ℕ) (s : ℤ) → slice_get (filter p xs) n ≡ Some s → (p s ≡ true) × (m : ℕ) × (slice_get xs m ≡ Some s)
kept_at p [] n s at = absurd (cc)
kept_at p (x ∷ xs) n s at = kept_first p x xs (filter p xs) s n (p x) refl at (λ k there. kept_at p xs k s there)

not_below : (low s : ℤ) → not (int_lt s low) ≡ true → low ≤ℤ s
not_below low s is = by_lt_z s low (λ below. let yes = int_lt_yes s low below in absurd (cc)) (λ above. above)

-- a start of a grid is a stamp from its origin on
pub start_in : (grid : GridPlan) → IsLaid grid.calendar → (s : ℤ) → IsStartOf grid s → (grid.origin ≤ℤ s) × IsStamp s
start_in grid laid s start =
    let at = kept_at (λ x. not (int_lt x grid.origin)) (on_starts grid.calendar) start.0 s start.1 in
    let on = start-listed grid.calendar s at.1 at.2 in
    (not_below grid.origin s at.0, (on-line grid.calendar on.interval s laid on.start).1)

-- an offset that leads before the origin, and one that leads beyond the last
before_origin : (by : ℤ) (last n : ℕ) → (pos n +ℤ by) <ℤ pos 0 → offset_behind by last n ≡ None
before_origin by last n below = ap (λ (b : Bool). option_and_then (up_to last) (cond b None (Some (unsigned_abs (pos n +ℤ by))))) (int_lt_yes (pos n +ℤ by) (pos 0) below)

beyond_last : (by : ℤ) (last n : ℕ) → pos last <ℤ (pos n +ℤ by) → offset_behind by last n ≡ None
beyond_last by last n above =
    let z : ℤ = pos n +ℤ by in
    let there : from_origin z ≡ Some (unsigned_abs z) = ap (λ (b : Bool). cond b None (Some (unsigned_abs z))) (int_lt_no z (pos 0) (omega (arith, ints, above))) in
    let more : last < unsigned_abs z = omega (arith, ints, above) in
    let not_le : nat_le (unsigned_abs z) last ≡ false = grind (arith, nat_tests, more) in
    ap (option_and_then (up_to last)) there ∙ ap (λ (b : Bool). cond b (Some (unsigned_abs z)) None) not_le

none_behind : (grid : GridPlan) (by : ℤ) (last : ℕ) (stamp : ℤ) → offset_behind by last (starts_before grid stamp) ≡ None → start_behind grid by last stamp ≡ None
none_behind grid by last stamp is = ap (option_and_then (stamp_of grid)) is

-- those that a test leaves out come to nothing
kept_given : {A B : Type 0} (p : A → Bool) (f : A → Option B) (x : A) (xs : List A) (b : Bool) → p x ≡ b → (b ≡ false → f x ≡ None) → filter_map f (filter p xs) ≡ filter_map f xs
    → filter_map f (cond b (x ∷ filter p xs) (filter p xs)) ≡ cons_option (f x) (filter_map f xs)
kept_given p f x xs true is out rest = ap (cons_option (f x)) rest
kept_given p f x xs false is out rest = rest ∙ sym (ap (λ o. cons_option o (filter_map f xs)) (out refl))

pub given_kept : {A B : Type 0} (p : A → Bool) (f : A → Option B) (xs : List A) → All (λ x. p x ≡ false → f x ≡ None) xs → filter_map f (filter p xs) ≡ filter_map f xs
given_kept p f [] all = refl
given_kept p f (x ∷ xs) all =
    kept_given p f x xs (p x) refl (All-head (λ y. p y ≡ false → f y ≡ None) x xs all) (given_kept p f xs (All-tail (λ y. p y ≡ false → f y ≡ None) x xs all))

module _ (grid : GridPlan) (laid : IsLaid grid.calendar) where
  side : (from : ℤ) (i : ℕ) (s : ℤ) → stamp_of grid i ≡ Some s → nat_le (starts_before grid from) i ≡ not (int_lt s from)
  side from i s is = lower_side grid laid from (starts_before grid from) refl i s is

  -- no more on starts come before that of an offset
  rank : (n : ℕ) (s : ℤ) → stamp_of grid n ≡ Some s → starts_before grid s ≤ n
  rank n s is =
      let test : nat_le (starts_before grid s) n ≡ true = side s n s is ∙ ap not (int_lt_no s s (omega (arith, ints))) in
      grind (arith, nat_tests, test)

  -- an earlier start has a lower offset
  lower : (m n : ℕ) (s t : ℤ) → stamp_of grid m ≡ Some s → stamp_of grid n ≡ Some t → s <ℤ t → m < n
  lower m n s t first second less = elim (cases_lt n m) [
    | inl below ↦ absurd (let up = stamps_rise grid laid n m t s below second first in omega (arith, ints, up, less))
    | inr above ↦ elim (cases_lt m n) [
      | inl below ↦ below
      | inr same ↦ absurd (
          let one : m ≡ n = omega (arith, above, same) in
          let equal = same_Some s t (sym first ∙ ap (stamp_of grid) one ∙ second) in
          omega (arith, ints, equal, less)
          )
    ]
  ]

  pub none_before : (by : ℤ) (count : ℕ) (o : Option ℤ) → o ≡ stamp_of grid count → pos count +ℤ by ≡ pos 0 → IfSome o (NoneBefore grid by)
  none_before by count None is zero_ = tt
  none_before by count (Some from) is zero_ = λ stamp start early last.
      let below = lower start.0 count stamp from start.1 (sym is) early in
      let least = rank start.0 stamp start.1 in
      none_behind grid by last stamp (before_origin by last (starts_before grid stamp) (omega (arith, ints, below, least, zero_)))

  pub none_at : (by : ℤ) (count : ℕ) (o : Option ℤ) → (o ≡ None) ↔ (length (starts_of grid) ≤ count) → pos count +ℤ by ≡ pos 0 → IfNone o ((stamp : ℤ) → IsStartOf grid stamp → HasNoPlace grid by stamp)
  none_at by count (Some from) fewer zero_ = tt
  none_at by count None fewer zero_ = λ stamp start last.
      let within = slice_get_within (starts_of grid) start.0 stamp start.1 in
      let all = fewer.0 refl in
      let least = rank start.0 stamp start.1 in
      none_behind grid by last stamp (before_origin by last (starts_before grid stamp) (omega (arith, ints, within, all, least, zero_)))

  pub none_after : (by : ℤ) (last offset : ℕ) (to : ℤ) → stamp_of grid offset ≡ Some to → pos offset +ℤ by ≡ pos last → NoneAfter grid by last to
  none_after by last offset to is sum = λ stamp start late.
      let test : nat_le (starts_before grid stamp) offset ≡ false = side stamp offset to is ∙ ap not (int_lt_yes to stamp late) in
      let more : offset < starts_before grid stamp = grind (arith, nat_tests, test) in
      none_behind grid by last stamp (beyond_last by last (starts_before grid stamp) (omega (arith, ints, more, sum)))

  -- none is later than the greatest stamp, nor earlier than the origin
  pub none_latest : (by : ℤ) (last : ℕ) (to : ℤ) → to ≡ pos 25_340_230_079_999_999 → NoneAfter grid by last to
  none_latest by last to is = λ stamp start late. absurd (let inside = (start_in grid laid stamp start).1.1 in omega (arith, ints, inside, late, is))

  pub none_earliest : (by from : ℤ) → from ≡ grid.origin → NoneBefore grid by from
  none_earliest by from is = λ stamp start early last. absurd (let inside = (start_in grid laid stamp start).0 in omega (arith, ints, inside, early, is))

  -- so those outside a range come to nothing, and where none has a place all do
  outside : (by : ℤ) (last : ℕ) (from to : ℤ) → NoneBefore grid by from → NoneAfter grid by last to → (e : Element) → IsStartOf grid e.0 → is_within from to e ≡ false → moved grid by last e ≡ None
  outside by last from to near far e start is = ap (option_map (λ s. (s, e.1))) (by_lt_z e.0 from (λ early. near e.0 start early last)
      (λ low. by_lt_z to e.0 (λ late. far e.0 start late)
      (λ high. absurd (let no = int_lt_no e.0 from low in let never = int_lt_no to e.0 high in cc))))

  pub within_placed : (by : ℤ) (last : ℕ) (from to : ℤ) (es : List Element) → NoneBefore grid by from → NoneAfter grid by last to → All (λ e. IsStartOf grid e.0) es → filter_map (moved grid by last) (within_range from to es) ≡ filter_map (moved grid by last) es
  within_placed by last from to es near far starts =
      given_kept (is_within from to) (moved grid by last) es (λ k d below is. outside by last from to near far (get_or es k d) (starts k d below) is)

  pub none_placed : (by : ℤ) (last : ℕ) (es : List Element) → ((stamp : ℤ) → IsStartOf grid stamp → start_behind grid by last stamp ≡ None) → All (λ e. IsStartOf grid e.0) es → filter_map (moved grid by last) es ≡ []
  none_placed by last [] none starts = refl
  none_placed by last (e ∷ es) none starts =
      ap (λ o. cons_option (option_map (λ s. (s, e.1)) o) (filter_map (moved grid by last) es)) (none e.0 (All-head (λ (x : Element). IsStartOf grid x.0) e es starts))
      ∙ none_placed by last es none (All-tail (λ (x : Element). IsStartOf grid x.0) e es starts)
