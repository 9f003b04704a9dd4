-- The on starts from an origin on: how many there can be, and that they rise.
use Rattle.std.proofs.Common.{◌≡◌, ℕ, ◌^◌, ◌<◌, ◌≤◌, Bool, true, false, cond, not, List, [], ◌∷◌, length, filter, Some, arith, ℤ, pos, neg_ℤ, ◌<ℤ◌, get_or, AllPairs}
use Rattle.std.specs.Prelude.{int_lt}
use Rattle.std.proofs.lemmas.Int.{ints}
use Rattle.std.proofs.lemmas.List.Kept.{AllPairs-filter}
use Rattle.std.proofs.lemmas.Option.{slice_get_within, slice_get-get_or, get_or_from_slice_get}
use Rattle.ts_calendar.specs.Calendars.{CalendarPlan, IsLaid, reach, near_count}
use Rattle.ts_offset.specs.Grid.{on_start, on_starts, GridPlan, starts_of, stamp_of}
use Rattle.ts_offset.proofs.ListedLemmas.{listed-rise}
use Rattle.ts_offset.proofs.SumLemmas.{taken-le}

pub filtered_fewer : (p : ℤ → Bool) (xs : List ℤ) → length (filter p xs) ≤ length xs
filtered_fewer p [] = omega arith
filtered_fewer p (x ∷ xs) = one (p x) x (filter p xs) xs (filtered_fewer p xs)
  where
    one : (b : Bool) (x : ℤ) (kept xs : List ℤ) → length kept ≤ length xs → length (cond b (x ∷ kept) kept) ≤ length (x ∷ xs)
    one true x kept xs few = omega (arith, few)
    one false x kept xs few = omega (arith, few)

pub all_few : (c : CalendarPlan) → length (on_starts c) ≤ 800_000_000_001
unfolding on_starts
all_few c = taken-le (on_start c) (neg_ℤ (pos reach)) near_count

-- each offset is within them
pub few_starts : (g : GridPlan) (n : ℕ) (s : ℤ) → stamp_of g n ≡ Some s → n < 2 ^ 63
few_starts g n s is =
    let within = slice_get_within (starts_of g) n s is in
    let some = filtered_fewer (λ x. not (int_lt x g.origin)) (on_starts g.calendar) in
    let all = all_few g.calendar in
    omega (arith, within, some, all)

pub starts_rise : (g : GridPlan) → IsLaid g.calendar → AllPairs (λ a b. a <ℤ b) (starts_of g)
starts_rise g laid = AllPairs-filter (λ a b. a <ℤ b) (λ x. not (int_lt x g.origin)) (on_starts g.calendar)
    (λ i j d below within.
    let xs = on_starts g.calendar in
    let few : i < length xs = omega (arith, below, within) in
    listed-rise g.calendar i j (get_or xs i d) (get_or xs j d) laid below (slice_get-get_or xs i d few) (slice_get-get_or xs j d within))

-- a greater offset has a later stamp
pub stamps_rise : (g : GridPlan) → IsLaid g.calendar → (m n : ℕ) (s t : ℤ) → m < n → stamp_of g m ≡ Some s → stamp_of g n ≡ Some t → s <ℤ t
stamps_rise g laid m n s t below first second =
    let xs = starts_of g in
    let rise = starts_rise g laid m n s below (slice_get_within xs n t second) in
    let from = get_or_from_slice_get xs m s s first in
    let to = get_or_from_slice_get xs n t s second in
    omega (arith, ints, rise, from, to)
