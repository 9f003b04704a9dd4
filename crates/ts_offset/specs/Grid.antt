-- The grid of a series: on intervals one after the other, counted, and on starts from an origin on.
use Rattle.std.specs.Prelude.{◌≡◌, ℕ, Bool, ◌-◌, ◌&&◌, not, zero, suc, true, false, if◌then◌else◌, int_lt, ℤ, pos}
use Rattle.std.specs.Prelude.{neg_ℤ, ◌+ℤ◌, ◌-ℤ◌, ◌≤ℤ◌, ◌<ℤ◌, unsigned_abs, Option, Some, None, option_and_then}
use Rattle.std.specs.Prelude.{option_map, ok_or, List, [], ◌∷◌, length, filter, slice_get, Result, Ok, Err, filter_map}
use Rattle.ts_base.specs.declared.refusal.Refusal.{Refusal}
use Rattle.ts_base.specs.declared.refusal.Refusal.TheVariants.{OffStamp, BeforeOrigin, PastEnd}
use Rattle.ts_base.specs.Moment.{is_between}
use Rattle.ts_base.specs.Answer.{within_rows}
use Rattle.ts_calendar.specs.Calendars.{CalendarPlan, reach, near_count, IsNear, first_interval, start_at, is_on, Holds}
use Rattle.ts_calendar.specs.Calendars.{IsOnStamp}

-- The on intervals of a calendar, one after the other, and their starts.

-- the n whole numbers from k on
unfoldable pub numbers_from : ℤ → ℕ → List ℤ
numbers_from k zero = []
numbers_from k (suc n) = k ∷ numbers_from (k +ℤ pos 1) n

-- how many whole numbers there are from i up to, not including, j
abbrev pub gap : ℤ → ℤ → ℕ
gap i j = if int_lt i j then unsigned_abs (j -ℤ i) else 0

-- how many intervals from i up to, not including, j are on
abbrev pub count : CalendarPlan → ℤ → ℤ → ℕ
count c i j = length (filter (is_on c) (numbers_from i (gap i j)))

-- the start of interval k, if it is on
abbrev pub on_start : CalendarPlan → ℤ → Option ℤ
on_start c k = if is_on c k then start_at c k else None

-- the starts of the on intervals among the n from k on, in order
abbrev pub starts_among : CalendarPlan → ℤ → ℕ → List ℤ
starts_among c k n = filter_map (on_start c) (numbers_from k n)

-- all on starts, in order; no interval lies further away
unfoldable pub on_starts : CalendarPlan → List ℤ
on_starts c = starts_among c (neg_ℤ (pos reach)) near_count

-- a stamp is the start of an on interval
pub record IsOnStart (c : CalendarPlan) (s : ℤ) : Type 0 where
  pub interval : ℤ
  pub on : is_on c interval ≡ true
  pub start : start_at c interval ≡ Some s

-- interval k and the later ones start at t or after it, and the earlier ones before it
pub record IsFirstFrom (c : CalendarPlan) (t k : ℤ) : Type 0 where
  pub near : IsNear k
  pub earlier : (j s : ℤ) → j <ℤ k → start_at c j ≡ Some s → s <ℤ t
  pub later : (j s : ℤ) → k ≤ℤ j → start_at c j ≡ Some s → t ≤ℤ s

-- no interval from k on exists
pub record IsEnd (c : CalendarPlan) (k : ℤ) : Type 0 where
  pub near : IsNear k
  pub over : (j s : ℤ) → k ≤ℤ j → start_at c j ≡ Some s → ⊥

-- What is counted of the on starts of a calendar: CalIndex, CalStamp and CalRange of the Informix TimeSeries Data
-- User's Guide.

-- the on starts after b, up to e
abbrev pub starts_after : CalendarPlan → ℤ → ℤ → List ℤ
starts_after c b e = filter (λ s. int_lt b s && not (int_lt e s)) (on_starts c)

-- how many on starts lie after b, up to e; where e comes first, the negative of how many lie after e, up to b
abbrev pub cal_index : CalendarPlan → ℤ → ℤ → ℤ
cal_index c b e =
    if int_lt e b then neg_ℤ (pos (length (starts_after c e b))) else pos (length (starts_after c b e))

-- the on starts after t
abbrev pub starts_later : CalendarPlan → ℤ → List ℤ
starts_later c t = filter (λ s. int_lt t s) (on_starts c)

-- on start number n after t, counted from 1, if there are as many
abbrev pub cal_stamp : CalendarPlan → ℤ → ℕ → Option ℤ
cal_stamp c t n = slice_get (starts_later c t) (n - 1)

-- the on starts from b to e
abbrev pub starts_between : CalendarPlan → ℤ → ℤ → List ℤ
starts_between c b e = filter (is_between b e) (on_starts c)

-- the on starts from b to e, or how many they are
abbrev pub cal_range : CalendarPlan → ℤ → ℤ → Result (List ℤ) Refusal
cal_range c b e = within_rows (starts_between c b e)

-- The on starts of a calendar from an origin on, counted from 0.

-- what contracts see of a grid: its calendar, and its origin, which is an on start
pub record GridPlan : Type 0 where
  pub calendar : CalendarPlan
  pub origin : ℤ

-- a start that exists and doesn't come after the stamp
abbrev pub starts_by : ℤ → Option ℤ → Bool
starts_by t None = false
starts_by t (Some from) = not (int_lt t from)

-- the end of an interval comes after the stamp, or is beyond all stamps
abbrev pub ends_after : ℤ → Option ℤ → Bool
ends_after t None = true
ends_after t (Some end) = int_lt t end

-- interval k is on and holds the stamp
abbrev pub holds_on : CalendarPlan → ℤ → ℤ → Bool
holds_on c t k = is_on c k && starts_by t (start_at c k) && ends_after t (start_at c (k +ℤ pos 1))

-- the start of the on interval that holds a stamp, if one does
abbrev pub held_start : CalendarPlan → ℤ → Option ℤ
held_start c t = option_and_then (start_at c) (first_interval (holds_on c t))

-- an on interval that starts at s holds the stamp
pub record IsHeldFrom (c : CalendarPlan) (t s : ℤ) : Type 0 where
  pub interval : ℤ
  pub on : is_on c interval ≡ true
  pub start : start_at c interval ≡ Some s
  pub held : Holds c interval t

-- a start that is there, or else the next on start after the stamp
abbrev pub start_or_next : CalendarPlan → ℤ → Option ℤ → Option ℤ
start_or_next c t (Some s) = Some s
start_or_next c t None = cal_stamp c t 1

-- no on interval holds the stamp, and none starts after it
pub record IsAfterAll (c : CalendarPlan) (t : ℤ) : Type 0 where
  pub held : IsOnStamp c t → ⊥
  pub later : (s : ℤ) → IsOnStart c s → s ≤ℤ t

-- the grid of an origin that is moved to the start of the on interval that holds it, else to the next on start
abbrev pub grid_of : CalendarPlan → ℤ → Result GridPlan Refusal
grid_of c t =
    ok_or (option_map (λ o. record { calendar = c; origin = o }) (start_or_next c t (held_start c t))) PastEnd

-- how many on starts there are from the origin up to, not including, a stamp
abbrev pub starts_before : GridPlan → ℤ → ℕ
starts_before g s = length (filter (λ x. not (int_lt x g.origin) && int_lt x s) (on_starts g.calendar))

-- the offset of an on start, if there is one
abbrev pub offset_at : GridPlan → Option ℤ → Result ℕ Refusal
offset_at g None = Err OffStamp
offset_at g (Some s) = if int_lt s g.origin then Err BeforeOrigin else Ok (starts_before g s)

-- the offset of the on interval that holds a stamp
abbrev pub offset_of : GridPlan → ℤ → Result ℕ Refusal
offset_of g t = offset_at g (held_start g.calendar t)

-- the on starts from the origin on
abbrev pub starts_of : GridPlan → List ℤ
starts_of g = filter (λ x. not (int_lt x g.origin)) (on_starts g.calendar)

-- the on start of an offset, if there are as many
abbrev pub stamp_of : GridPlan → ℕ → Option ℤ
stamp_of g n = slice_get (starts_of g) n

-- an on interval that starts before the origin holds the stamp
pub record IsHeldBefore (g : GridPlan) (t : ℤ) : Type 0 where
  pub interval : ℤ
  pub on : is_on g.calendar interval ≡ true
  pub held : Holds g.calendar interval t
  pub early : held.from <ℤ g.origin
