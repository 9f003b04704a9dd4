-- The tokens of a calendar's text: a stamp where one stands, and the plain tokens elsewhere.
use Rattle.std.specs.Prelude.{◌≡◌, ◌⊎◌, ℕ, ◌==◌, if◌then◌else◌, ℤ, List, [], ◌∷◌, length, Option, Some, None, codes}
use Rattle.ts_base.specs.Name.{is_blank}
use Rattle.ts_base.specs.Moment.{read_stamp}
use Rattle.ts_text.specs.Phrase.{Front, plain_front}
use Rattle.ts_text.specs.Parted.{IsParted}
use Rattle.ts_text.specs.Place.{inside_or}
use Rattle.ts_text.specs.declared.token.TokenKind.{TokenKind}
use Rattle.ts_text.specs.declared.token.TokenKind.TheVariants.{Text, Sign}
use Rattle.ts_calendar.specs.Calendars.{inside}

-- where a stamp stands: the bytes up to the next closing bracket, without the blanks at their two ends, or the bracket
abbrev pub stamp_front : List ℕ → Option (TokenKind × ℕ)
stamp_front [] = None
stamp_front (b ∷ bytes) =
    if is_blank b then None
    else (if b == 41 then Some (Sign, 1)
    else Some (Text, length (inside (b ∷ bytes))))

-- a start date, and all up to the pattern start
pub record IsBehindStart (before : List ℕ) : Type 0 where
  pub start_text : List ℕ
  pub start : ℤ
  pub start_is : read_stamp start_text ≡ Some start
  pub parted : IsParted (codes "startdate" ∷ codes "(" ∷ start_text ∷ codes ")" ∷ codes "," ∷ codes "pattstart"
      ∷ codes "(" ∷ []) before

-- the bytes end behind `startdate (` or behind `pattstart (`, where a stamp stands
abbrev pub IsBeforeStamp : List ℕ → Type 0
IsBeforeStamp before = IsParted (codes "startdate" ∷ codes "(" ∷ []) before ⊎ IsBehindStart before

-- the front behind these bytes
abbrev pub calendar_fronts : List ℕ → Front → Type 0
calendar_fronts = inside_or IsBeforeStamp stamp_front plain_front
