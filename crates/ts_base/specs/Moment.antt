-- Stamps: as numbers, moved by months, and their text.
use Rattle.std.specs.Prelude.{ℕ, zero, suc, ◌+◌, ◌-◌, ◌*◌, ◌/◌, ◌%◌, ◌^◌, Bool, not, ◌&&◌, ◌||◌, ◌==◌, nat_lt, nat_le}
use Rattle.std.specs.Prelude.{if◌then◌else◌, ℤ, pos, neg_ℤ, ◌+ℤ◌, ◌*ℤ◌, unsigned_abs, int_lt, Option, Some, None, List}
use Rattle.std.specs.Prelude.{[], ◌∷◌, ◌++◌, length, slice_index, slice_range, drop}
use Rattle.std.specs.List.{list_all, fold}
use Rattle.std.specs.Char.{is_ascii_digit}
use Rattle.std.specs.Option.{option_map}
use Rattle.std.specs.Int.{int_div_euclid, int_rem_euclid}
use Rattle.jiff_core.specs.Calendar.{IsBetween, days_from_civil, days_in_month, days_in_year}

-- Stamps as numbers: units of 10 microseconds since 1970-01-01 00:00:00.

-- the number of a stamp, from 0001-01-01 00:00:00.00000 to 9999-12-31 23:59:59.99999
abbrev pub IsStamp : ℤ → Type 0
IsStamp t = IsBetween (neg_ℤ (pos 6_213_559_680_000_000)) (pos 25_340_230_079_999_999) t

-- the stamp with this number of units, if there is one
abbrev pub stamp_if_any : ℤ → Option ℤ
stamp_if_any t =
    if int_lt t (neg_ℤ (pos 6_213_559_680_000_000)) then None
    else (if int_lt (pos 25_340_230_079_999_999) t then None else Some t)

-- a stamp stands from one to another, both included
abbrev pub is_between : ℤ → ℤ → ℤ → Bool
is_between from to t = not (int_lt t from) && not (int_lt to t)

-- a date and a time of day; the fraction counts units of 10 microseconds
pub record Moment : Type 0 where
  pub year : ℕ
  pub month : ℕ
  pub day : ℕ
  pub hour : ℕ
  pub minute : ℕ
  pub second : ℕ
  pub fraction : ℕ

-- the calendar has this moment
abbrev pub is_moment : Moment → Bool
is_moment m =
    nat_le 1 m.year && nat_le m.year 9999 && nat_le 1 m.month && nat_le m.month 12 && nat_le 1 m.day
    && nat_le m.day (days_in_month (pos m.year) m.month)
    && nat_lt m.hour 24 && nat_lt m.minute 60 && nat_lt m.second 60 && nat_lt m.fraction 100_000

-- the units since midnight
abbrev pub day_units : Moment → ℕ
day_units m = ((m.hour * 60 + m.minute) * 60 + m.second) * 100_000 + m.fraction

-- the units since 1970
abbrev pub units_of : Moment → ℤ
units_of m =
    (days_from_civil (pos m.year) m.month m.day *ℤ pos 8_640_000_000) +ℤ pos (day_units m)

-- the stamp of a moment, if the calendar has it
abbrev pub stamp_at : Moment → Option ℤ
stamp_at m = if is_moment m then Some (units_of m) else None

-- a date: the year, the month and the day
pub record Civil : Type 0 where
  pub year : ℕ
  pub month : ℕ
  pub day : ℕ

-- the date that lies `rest` days after the first of a month, found month by month
unfoldable pub civil_in_year : ℕ → ℕ → ℕ → ℕ → Civil
civil_in_year zero y m rest = record { year = y; month = m; day = rest + 1 }
civil_in_year (suc more) y m rest =
    if nat_lt rest (days_in_month (pos y) m) then record { year = y; month = m; day = rest + 1 }
    else civil_in_year more y (m + 1) (rest - days_in_month (pos y) m)

-- the date that lies `rest` days after 1 January of a year, found year by year
unfoldable pub civil_in_years : ℕ → ℕ → ℕ → Civil
civil_in_years zero y rest = civil_in_year 12 y 1 rest
civil_in_years (suc more) y rest =
    if nat_lt rest (days_in_year (pos y)) then civil_in_year 12 y 1 rest
    else civil_in_years more (y + 1) (rest - days_in_year (pos y))

-- the date of a day number from that of 0001-01-01 on
unfoldable pub civil_of : ℤ → Civil
civil_of day = civil_in_years 9999 1 (unsigned_abs (day +ℤ pos 719_162))

-- the day number of a stamp
abbrev pub day_of : ℤ → ℤ
day_of t = int_div_euclid t (pos 8_640_000_000)

-- the units of a stamp since midnight
abbrev pub clock_of : ℤ → ℕ
clock_of t = unsigned_abs (int_rem_euclid t (pos 8_640_000_000))

-- Stamps moved by whole months.

-- months since January of the year 0
abbrev pub month_of : Civil → ℤ
month_of c = pos (c.year * 12 + (c.month - 1))

-- the day number in month number n, on that day of the month, in the years 1 to 9999
abbrev pub in_month : ℤ → ℕ → Option ℤ
in_month n day =
    let y = int_div_euclid n (pos 12) in
    if int_lt (pos 0) y && int_lt y (pos 10_000)
    then Some (days_from_civil y (unsigned_abs (int_rem_euclid n (pos 12)) + 1) day) else None

-- the day number some months after a date, on the same day of the month
abbrev pub days_after : Civil → ℤ → Option ℤ
days_after c months = in_month (month_of c +ℤ months) c.day

-- the stamp that lies some months after another, on the same day of the month and at the same time of day
unfoldable pub months_after : ℤ → ℤ → Option ℤ
months_after t months =
    option_map (λ day. day *ℤ pos 8_640_000_000 +ℤ pos (clock_of t)) (days_after (civil_of (day_of t)) months)

-- the day of the month
abbrev pub day_of_month : ℤ → ℕ
day_of_month t = (civil_of (day_of t)).day

-- The text of a stamp, `YYYY-MM-DD HH:MM:SS.FFFFF`.

-- each byte is a digit
abbrev pub all_digits : List ℕ → Bool
all_digits = list_all is_ascii_digit

-- the number after one more digit
abbrev pub with_digit : ℕ → ℕ → ℕ
with_digit n c = n * 10 + (c - 48)

-- the number that digits write
abbrev pub number_of : List ℕ → ℕ
number_of s = fold with_digit 0 s

-- 19 bytes, or 21 to 25 with a point
abbrev pub has_stamp_length : List ℕ → Bool
has_stamp_length s =
    (length s == 19) || (nat_le 21 (length s) && nat_le (length s) 25 && (slice_index s 19 == 46))

-- `-`, ` ` and `:` in their places
abbrev pub has_stamp_signs : List ℕ → Bool
has_stamp_signs s =
    (slice_index s 4 == 45) && (slice_index s 7 == 45) && (slice_index s 10 == 32)
    && (slice_index s 13 == 58) && (slice_index s 16 == 58)

-- digits in all other places
abbrev pub has_stamp_digits : List ℕ → Bool
has_stamp_digits s =
    all_digits (slice_range s 0 4) && all_digits (slice_range s 5 7) && all_digits (slice_range s 8 10)
    && all_digits (slice_range s 11 13) && all_digits (slice_range s 14 16)
    && all_digits (slice_range s 17 19) && all_digits (drop 20 s)

-- the form of a stamp: its length, its signs and its digits
abbrev pub has_stamp_form : List ℕ → Bool
has_stamp_form s = has_stamp_length s && has_stamp_signs s && has_stamp_digits s

-- the moment that such a text names; fraction digits that are missing are 0
abbrev pub moment_in : List ℕ → Moment
moment_in s = record {
  year = number_of (slice_range s 0 4);
  month = number_of (slice_range s 5 7);
  day = number_of (slice_range s 8 10);
  hour = number_of (slice_range s 11 13);
  minute = number_of (slice_range s 14 16);
  second = number_of (slice_range s 17 19);
  fraction = number_of (drop 20 s) * 10 ^ (5 - length (drop 20 s));
}

-- the stamp that a text names, if it names one
unfoldable pub read_stamp : List ℕ → Option ℤ
read_stamp s = if has_stamp_form s then stamp_at (moment_in s) else None

-- the last digit of a number, as a byte
abbrev pub digit : ℕ → ℕ
digit n = 48 + n % 10

-- the last two digits
abbrev pub two_digits : ℕ → List ℕ
two_digits n = digit (n / 10) ∷ digit n ∷ []

-- the last four digits
abbrev pub four_digits : ℕ → List ℕ
four_digits n = digit (n / 1000) ∷ digit (n / 100) ∷ digit (n / 10) ∷ digit n ∷ []

-- the last five digits
abbrev pub five_digits : ℕ → List ℕ
five_digits n = digit (n / 10_000) ∷ four_digits n

-- the 25 bytes that print a date and the units since midnight
abbrev pub text_of : Civil → ℕ → List ℕ
text_of c clock =
    four_digits c.year ++ 45 ∷ two_digits c.month ++ 45 ∷ two_digits c.day ++ 32 ∷
    two_digits (clock / 360_000_000) ++ 58 ∷ two_digits (clock / 6_000_000 % 60) ++ 58 ∷
    two_digits (clock / 100_000 % 60) ++ 46 ∷ five_digits (clock % 100_000)

-- the text that a stamp is printed as
unfoldable pub stamp_text : ℤ → List ℕ
stamp_text t = text_of (civil_of (day_of t)) (clock_of t)
