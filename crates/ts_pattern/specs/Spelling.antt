-- Which tokens are a pattern's.
use Rattle.std.specs.Prelude.{◌≡◌, ℕ, ◌<◌, Bool, if◌then◌else◌, List, [], ◌∷◌, length, map, codes, true}
use Rattle.std.specs.List.{list_all}
use Rattle.ts_base.specs.Moment.{number_of}
use Rattle.ts_base.specs.declared.unit.Unit as unit
use Rattle.ts_text.specs.Parted.{IsParted}
use Rattle.ts_pattern.specs.declared.run.Run.{Run}
use Rattle.ts_pattern.specs.Patterns.{Plan, run, unit_name, is_count}

-- a run as a text has it: the digits of a count, and on or off
pub record Word : Type 0 where
  pub digits : List ℕ
  pub on : Bool

-- the word of a flag
abbrev pub flag_word : Bool → List ℕ
flag_word on = if on then codes "on" else codes "off"

-- the tokens of runs with commas between them, before further tokens
abbrev pub runs_before : List Word → List (List ℕ) → List (List ℕ)
runs_before [] more = more
runs_before (w ∷ []) more = w.digits ∷ flag_word w.on ∷ more
runs_before (w ∷ v ∷ words) more = w.digits ∷ flag_word w.on ∷ codes "," ∷ runs_before (v ∷ words) more

-- the tokens of a pattern, before further tokens
abbrev pub pattern_before : List Word → unit.Unit → List (List ℕ) → List (List ℕ)
pattern_before words u more = codes "{" ∷ runs_before words (codes "}" ∷ codes "," ∷ unit_name u ∷ more)

-- the run that it writes
abbrev pub run_of : Word → Run
run_of w = run w.on (number_of w.digits)

-- at least one run, each with a count, which write these runs
pub record AreRuns (words : List Word) (runs : List Run) : Type 0 where
  pub some : 0 < length words
  pub counts : list_all (λ (w : Word). is_count w.digits) words ≡ true
  pub value : map run_of words ≡ runs

-- the text is a pattern's, whose unit and runs are these as they are written
pub record IsPatternText (p : Plan) (text : List ℕ) : Type 0 where
  pub words : List Word
  pub written : AreRuns words p.runs
  pub parted : IsParted (pattern_before words p.unit []) text
