-- Patterns: runs of on and off in a unit, their algebra, and their text.
use Rattle.std.specs.Prelude.{List, [], ◌∷◌, ◌++◌, length, sum_by, ℕ, ◌^◌, ◌/◌, zero, suc, ◌+◌, ◌-◌, ◌*◌, ◌%◌, ◌==◌}
use Rattle.std.specs.Prelude.{Bool, true, false, not, ◌&&◌, ◌||◌, if◌then◌else◌, Option, Some, None, Result, Ok, Err}
use Rattle.std.specs.Prelude.{codes, nat_lt, nat_le, ℤ, pos, ◌+ℤ◌, unsigned_abs}
use Rattle.std.specs.Int.{int_rem_euclid, int_div_euclid}
use Rattle.std.specs.List.{list_any, list_all}
use Rattle.std.specs.Str.{bytes_eq}
use Rattle.std.specs.Fmt.{decimal}
use Rattle.ts_base.specs.declared.refusal.Refusal.{Refusal}
use Rattle.ts_base.specs.declared.refusal.Refusal.TheVariants.{UnitMismatch, PatternTooLong, BadPattern}
use Rattle.ts_base.specs.declared.unit.Unit as unit
use Rattle.ts_base.specs.Moment.{all_digits, number_of}
use Rattle.ts_base.specs.declared.unit.Unit.{Unit}
use Rattle.ts_base.specs.declared.unit.Unit.TheVariants.{Second, Minute, Hour, Day, Week, Month, Year}
use Rattle.ts_text.specs.Phrase.{Phrase, ◌>>=◌, give, token, behind, closed, ended, outcome, plain_front}
use Rattle.ts_text.specs.declared.token.TokenKind.{TokenKind}
use Rattle.ts_text.specs.declared.token.TokenKind.TheVariants.{Word, Number}
use Rattle.ts_pattern.specs.declared.run.Run.{Run}
use Rattle.ts_pattern.specs.declared.junction.Junction.{Junction}
use Rattle.ts_pattern.specs.declared.junction.Junction.TheVariants.{And, Or}

-- What contracts see of a pattern.

-- a unit and merged runs
pub record Plan : Type 0 where
  pub unit : Unit
  pub runs : List Run

-- Runs of flags.

-- a run
abbrev pub run : Bool → ℕ → Run
run on count = record { on = on; count = count }

-- the number of intervals
abbrev pub total : List Run → ℕ
total = sum_by (λ r. r.count)

-- the flag of interval k, counted from 0 within the runs
abbrev pub flag_at : List Run → ℕ → Bool
flag_at [] k = false
flag_at (r ∷ rs) k = if nat_lt k r.count then r.on else flag_at rs (k - r.count)

-- the flag of interval k of runs that repeat without end, for any whole number k
abbrev pub flag : List Run → ℤ → Bool
flag rs k = flag_at rs (unsigned_abs (int_rem_euclid k (pos (total rs))))

-- and for the intervals from 0 on
abbrev pub later_flag : List Run → ℕ → Bool
later_flag rs k = flag_at rs (k % total rs)

-- whether two flags are the same
abbrev pub same_flag : Bool → Bool → Bool
same_flag true b = b
same_flag false b = not b

-- the run may stand before these
abbrev pub differs_from : Run → List Run → Bool
differs_from r [] = true
differs_from r (s ∷ rest) = not (same_flag r.on s.on)

-- no count is 0, and neighbours have different flags
abbrev pub are_merged : List Run → Bool
are_merged [] = true
are_merged (r ∷ rs) = nat_lt 0 r.count && differs_from r rs && are_merged rs

-- merged runs within the limits
abbrev pub is_pattern : List Run → Bool
is_pattern rs =
    are_merged rs && nat_le 1 (length rs) && nat_le (length rs) 512 && nat_le (total rs) 527_040

-- some run is on
abbrev pub has_on : List Run → Bool
has_on = list_any (λ r. r.on)

-- the run with the other flag
abbrev pub turned : Run → Run
turned r = run (not r.on) r.count

-- the run in intervals of which `parts` make one of before
abbrev pub scaled : ℕ → Run → Run
scaled parts r = run r.on (r.count * parts)

-- the merged runs of one more flag before merged runs
abbrev pub with_flag : Bool → List Run → List Run
with_flag on [] = run on 1 ∷ []
with_flag on (r ∷ rs) = if same_flag on r.on then run on (r.count + 1) ∷ rs else run on 1 ∷ r ∷ rs

-- the merged runs of the n flags from k on
unfoldable pub runs_from : (ℕ → Bool) → ℕ → ℕ → List Run
runs_from f k zero = []
runs_from f k (suc n) = with_flag (f k) (runs_from f (k + 1) n)

-- the merged runs of the first n flags
abbrev pub runs_of : (ℕ → Bool) → ℕ → List Run
runs_of f n = runs_from f 0 n

-- How units are made of one another.

-- the unit is made of months, and not of seconds
abbrev pub is_monthly : Unit → Bool
is_monthly Second = false
is_monthly Minute = false
is_monthly Hour = false
is_monthly Day = false
is_monthly Week = false
is_monthly Month = true
is_monthly Year = true

-- the seconds in a unit up to the week, the months in a month or a year
abbrev pub size : Unit → ℕ
size Second = 1
size Minute = 60
size Hour = 3_600
size Day = 86_400
size Week = 604_800
size Month = 1
size Year = 12

-- the larger unit is made of the smaller one, or they are the same
abbrev pub is_made_of : Unit → Unit → Bool
is_made_of larger smaller = same_flag (is_monthly larger) (is_monthly smaller) && nat_le (size smaller) (size larger)

-- how many of the smaller unit make the larger one
abbrev pub factor : Unit → Unit → ℕ
factor larger smaller = size larger / size smaller

-- the smaller of two units, if one is made of the other
abbrev pub smaller_unit : Unit → Unit → Option Unit
smaller_unit a b = if is_made_of a b then Some b else (if is_made_of b a then Some a else None)

-- Common multiples.

-- k is a multiple of both
abbrev pub is_common_multiple : ℕ → ℕ → ℕ → Bool
is_common_multiple a b k = (k % a == 0) && (k % b == 0)

-- the first common multiple among the next numbers from k on, else the number after these
unfoldable pub common_multiple_from : ℕ → ℕ → ℕ → ℕ → ℕ
common_multiple_from a b k zero = k
common_multiple_from a b k (suc more) = if is_common_multiple a b k then k else common_multiple_from a b (k + 1) more

-- the least common multiple of two positive numbers
unfoldable pub least_common_multiple : ℕ → ℕ → ℕ
least_common_multiple a b = common_multiple_from a b 1 (a * b)

-- The algebra of patterns: expanding, AND and OR, interval by interval.

-- the pattern of the first n flags, where they and their runs aren't too many
abbrev pub plan_of_flags : unit.Unit → (ℕ → Bool) → ℕ → Result Plan Refusal
plan_of_flags unit flags n =
    if nat_lt 527_040 n then Err (PatternTooLong n 0)
    else (if nat_lt 512 (length (runs_of flags n)) then Err (PatternTooLong n (length (runs_of flags n)))
    else Ok (record { unit = unit; runs = runs_of flags n }))

-- the flag at interval k of a pattern whose intervals are each made of `parts` smaller ones
abbrev pub expanded_flag : List Run → ℕ → ℤ → Bool
expanded_flag runs parts k = flag runs (int_div_euclid k (pos parts))

-- the pattern in a smaller unit
abbrev pub expanded_plan : Plan → unit.Unit → Result Plan Refusal
expanded_plan p u =
    if is_made_of p.unit u
    then plan_of_flags u (λ k. expanded_flag p.runs (factor p.unit u) (pos k)) (total p.runs * factor p.unit u)
    else Err UnitMismatch

-- the truth tables
abbrev pub joined : Junction → Bool → Bool → Bool
joined And a b = a && b
joined Or a b = a || b

-- the flag at interval k, counted in the smaller unit, where interval 0 lies so many intervals after the first
-- one of either pattern
abbrev pub joined_flag : Junction → unit.Unit → Plan → ℤ → Plan → ℤ → ℤ → Bool
joined_flag junction u a shift_a b shift_b k =
    joined junction (expanded_flag a.runs (factor a.unit u) (k +ℤ shift_a))
    (expanded_flag b.runs (factor b.unit u) (k +ℤ shift_b))

-- the number of intervals after which both patterns repeat
abbrev pub joined_length : unit.Unit → Plan → Plan → ℕ
joined_length u a b =
    least_common_multiple (total a.runs * factor a.unit u) (total b.runs * factor b.unit u)

-- the AND or the OR of two patterns, each of them shifted
abbrev pub joined_in : Option unit.Unit → Junction → Plan → ℤ → Plan → ℤ → Result Plan Refusal
joined_in None junction a shift_a b shift_b = Err UnitMismatch
joined_in (Some u) junction a shift_a b shift_b =
    plan_of_flags u (λ k. joined_flag junction u a shift_a b shift_b (pos k)) (joined_length u a b)

abbrev pub joined_plan : Junction → Plan → ℤ → Plan → ℤ → Result Plan Refusal
joined_plan junction a shift_a b shift_b =
    joined_in (smaller_unit a.unit b.unit) junction a shift_a b shift_b

-- The text of a pattern, as in `{1 off,5 on,1 off},day`: its grammar, what it reads as, and how it is printed.

-- the flag that a word names
abbrev pub flag_of_word : List ℕ → Option Bool
flag_of_word word = if bytes_eq word (codes "on") then Some true else (if bytes_eq word (codes "off") then Some false
    else None)

-- the name of a unit
abbrev pub unit_name : unit.Unit → List ℕ
unit_name Second = codes "second"
unit_name Minute = codes "minute"
unit_name Hour = codes "hour"
unit_name Day = codes "day"
unit_name Week = codes "week"
unit_name Month = codes "month"
unit_name Year = codes "year"

-- the first of these units that has this name
abbrev pub unit_among : List unit.Unit → List ℕ → Option unit.Unit
unit_among [] word = None
unit_among (u ∷ units) word = if bytes_eq word (unit_name u) then Some u else unit_among units word

-- the unit that a word names
abbrev pub unit_of_word : List ℕ → Option unit.Unit
unit_of_word = unit_among (Second ∷ Minute ∷ Hour ∷ Day ∷ Week ∷ Month ∷ Year ∷ [])

-- on or off
abbrev pub flag_as : TokenKind → List ℕ → Option Bool
flag_as Word word = flag_of_word word
flag_as kind token = None

-- the flag of a run
unfoldable pub flag_in : Phrase Bool
flag_in = token plain_front flag_as

-- a unit
abbrev pub unit_as : TokenKind → List ℕ → Option unit.Unit
unit_as Word word = unit_of_word word
unit_as kind token = None

-- the unit of a pattern
unfoldable pub unit_in : Phrase unit.Unit
unit_in = token plain_front unit_as

-- 1 to 9 digits that don't write 0
abbrev pub is_count : List ℕ → Bool
is_count digits =
    all_digits digits && (nat_le 1 (length digits) && nat_le (length digits) 9 && nat_lt 0 (number_of digits))

-- a count
abbrev pub count_as : TokenKind → List ℕ → Option ℕ
count_as Number digits = if is_count digits then Some (number_of digits) else None
count_as kind token = None

-- the count of a run
unfoldable pub count_in : Phrase ℕ
count_in = token plain_front count_as

-- a count and a flag
unfoldable pub run_in : Phrase Run
run_in = do
  count ← count_in
  on ← flag_in
  give (run on count)

-- runs with a comma between any two of them, in braces
unfoldable pub runs_in : Phrase (List Run)
runs_in = do
  first ← behind 123 run_in
  others ← closed 125 run_in
  give (first ∷ others)

-- a pattern: the runs as they are written
unfoldable pub pattern_in : Phrase Plan
pattern_in = do
  runs ← runs_in
  u ← behind 44 unit_in
  give (record { unit = u; runs = runs })

-- a text that is a pattern's, or the place of what can't stand there
abbrev pub written_plan : List ℕ → Result Plan ℕ
written_plan text = outcome (length text) (ended [] pattern_in text)

-- the pattern of runs as they are written
abbrev pub plan_of_written : Plan → Result Plan Refusal
plan_of_written p = plan_of_flags p.unit (flag_at p.runs) (total p.runs)

-- what a text reads as
abbrev pub plan_or_place : Result Plan ℕ → Result Plan Refusal
plan_or_place (Ok written) = plan_of_written written
plan_or_place (Err place) = Err (BadPattern place)

-- the pattern that a text reads as, or why there is none
abbrev pub read_plan : List ℕ → Result Plan Refusal
read_plan text = plan_or_place (written_plan text)

-- how a run is printed
abbrev pub printed_run : Run → List ℕ
printed_run r = decimal r.count ++ 32 ∷ (if r.on then codes "on" else codes "off")

-- with commas between
abbrev pub printed_runs : List Run → List ℕ
printed_runs [] = []
printed_runs (r ∷ []) = printed_run r
printed_runs (r ∷ s ∷ rest) = printed_run r ++ 44 ∷ printed_runs (s ∷ rest)

-- how a pattern is printed
abbrev pub printed_plan : Plan → List ℕ
printed_plan p = 123 ∷ printed_runs p.runs ++ 125 ∷ 44 ∷ unit_name p.unit

-- each count has 1 to 9 digits and isn't 0
abbrev pub are_counts : List Run → Bool
are_counts = list_all (λ r. nat_lt 0 r.count && nat_lt r.count (10 ^ 9))
