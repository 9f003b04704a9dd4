-- The text of a stamp in two parts, that of its day and that of its time of day.
use Rattle.std.specs.Prelude.{◌≡◌, ℕ, ◌/◌, ◌%◌, ℤ, pos, ◌*ℤ◌, List, [], ◌∷◌, ◌++◌}
use Rattle.ts_base.specs.Moment.{civil_of, day_of, two_digits, four_digits, five_digits}

-- the text of a day, and a blank
abbrev pub day_text : ℤ → List ℕ
day_text day =
    four_digits (civil_of day).year ++ 45 ∷ two_digits (civil_of day).month ++ 45 ∷ two_digits (civil_of day).day ++ 32
    ∷ []

-- the text of the seconds since midnight
abbrev pub seconds_text : ℕ → List ℕ
seconds_text n = two_digits (n / 3600) ++ 58 ∷ two_digits (n / 60 % 60) ++ 58 ∷ two_digits (n % 60)

-- no fraction of a second, and a blank
abbrev pub no_fraction : List ℕ
no_fraction = 46 ∷ five_digits 0 ++ 32 ∷ []

-- a number of units is a midnight
abbrev pub IsMidnight : ℤ → Type 0
IsMidnight t = day_of t *ℤ pos 8_640_000_000 ≡ t
