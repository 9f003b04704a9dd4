-- What edits do to the elements of a series, in the words of one who asks for them.
use Rattle.std.specs.Prelude.{◌≡◌, ℕ, ◌+◌, Bool, if◌then◌else◌, ℤ, None, List}
use Rattle.std.specs.FinMap.{get, len}
use Rattle.ts_row.specs.Row.{Row}
use Rattle.ts_model.specs.Catalogue.{Elements, Series, Catalogue}
use Rattle.ts_answer.specs.Answer.{Answered, with_element, with_elements}
use Rattle.ts_answer.specs.Reply.{count_line, stamp_line}

-- an element comes to those of a series, at a stamp at which none stood, hidden or not
pub record Adds (key : List ℕ) (s : Series) (cat : Catalogue) (answered : Answered) : Type 0 where
  pub stamp : ℤ
  pub row : Row
  pub free : get s.elements stamp ≡ None
  pub line : answered.0 ≡ stamp_line stamp
  pub comes : answered.1 ≡ with_element key s stamp row cat

-- an element stands at a stamp of a series, in place of one that stood there
pub record Puts (at : ℤ) (key : List ℕ) (s : Series) (cat : Catalogue) (answered : Answered) : Type 0 where
  pub row : Row
  pub line : answered.0 ≡ stamp_line at
  pub comes : answered.1 ≡ with_element key s at row cat

-- The elements of a series whose stamps pass a test go, hidden or not, and are counted; all others stay.
pub record TakesAway (goes : ℤ → Bool) (key : List ℕ) (s : Series) (cat : Catalogue)
    (answered : Answered) : Type 0 where
  pub elements : Elements
  pub gone : ℕ
  pub left : (stamp : ℤ) → get elements stamp ≡ (if goes stamp then None else get s.elements stamp)
  pub count : len elements + gone ≡ len s.elements
  pub line : answered.0 ≡ count_line gone
  pub comes : answered.1 ≡ with_elements key s elements cat
