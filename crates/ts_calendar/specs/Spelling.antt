-- Which tokens are a calendar's text.
use Rattle.std.specs.Prelude.{◌≡◌, ℕ, List, [], ◌∷◌, Some, IsTrue, codes}
use Rattle.ts_base.specs.Name.{is_name}
use Rattle.ts_base.specs.Moment.{read_stamp}
use Rattle.ts_text.specs.Parted.{IsParted}
use Rattle.ts_pattern.specs.Spelling.{Word, AreRuns, pattern_before}
use Rattle.ts_calendar.specs.declared.text.PatternPart.{PatternPart}
use Rattle.ts_calendar.specs.declared.text.PatternPart.TheVariants.{Named, Own}
use Rattle.ts_calendar.specs.declared.text.CalendarText.{CalendarText}

-- the tokens of the name of a pattern, or of a pattern with these runs
abbrev pub part_tokens : PatternPart → List Word → List (List ℕ)
part_tokens (Named name) words = codes "pattname" ∷ codes "(" ∷ name ∷ codes ")" ∷ []
part_tokens (Own p) words = codes "pattern" ∷ codes "(" ∷ pattern_before words p.unit (codes ")" ∷ [])

-- the name is a name, or the runs write those of the pattern
abbrev pub IsPart : PatternPart → List Word → Type 0
IsPart (Named name) words = IsTrue (is_name name)
IsPart (Own p) words = AreRuns words p.runs

-- the text is a calendar's, whose dates and part are these, the part as it is written
pub record IsCalendarText (c : CalendarText) (text : List ℕ) : Type 0 where
  pub start_text : List ℕ
  pub patt_start_text : List ℕ
  pub words : List Word
  pub start_is : read_stamp start_text ≡ Some c.start
  pub patt_start_is : read_stamp patt_start_text ≡ Some c.patt_start
  pub part_is : IsPart c.part words
  pub parted : IsParted (codes "startdate" ∷ codes "(" ∷ start_text ∷ codes ")" ∷ codes ","
      ∷ codes "pattstart" ∷ codes "(" ∷ patt_start_text ∷ codes ")" ∷ codes "," ∷ part_tokens c.part words) text
