-- Which series have no hidden element, and what commands leave of that.
use Rattle.std.specs.Prelude.{◌≡◌, ℕ, Bool, false, IsTrue, Option, Some, None, Ok, List}
use Rattle.std.specs.FinMap.{entries, get}
use Rattle.ts_row.specs.Row.{has_hidden}
use Rattle.ts_command.specs.declared.command.Command.{Command}
use Rattle.ts_command.specs.declared.command.Command.TheVariants as commands
use Rattle.ts_model.specs.Catalogue.{Elements, Series, Catalogue}
use Rattle.ts_layout.specs.Meaning.{Layout, catalogue_of}
use Rattle.ts_answer.specs.Answer.{Answered, outcome}
use Rattle.ts_answer.specs.View.{View, Shows}

-- none of these elements is hidden
abbrev pub AreShown : Elements → Type 0
AreShown elements = has_hidden (entries elements) ≡ false

-- no element of the series of a key is hidden, where there is such a series
abbrev pub IsShown : List ℕ → Catalogue → Type 0
IsShown key cat = (s : Series) → get cat.series key ≡ Some s → AreShown s.elements

-- where this is told, it is so in each layout that is seen
abbrev pub IsSeenShown : Bool → Bool → List ℕ → View → Type 0
IsSeenShown told tells key x =
    IsTrue told → IsTrue tells → (l : Layout) → Shows tells x l → IsShown key (catalogue_of l)

-- the key of the series of which a command hides an element
abbrev pub hidden_by : Command → Option (List ℕ)
hidden_by (commands.HideElem key stamp) = Some key
hidden_by command = None

-- the key of the series whose entries a command counts: it reads the one of a number, or tells how many there are
abbrev pub counted_by : Command → Option (List ℕ)
counted_by (commands.GetNthElem key index) = Some key
counted_by (commands.ClipGetCount key from to) = Some key
counted_by command = None

-- where this is told, no element of the series whose entries a command counts is hidden
abbrev pub IsCountShown : Bool → Bool → Command → View → Type 0
IsCountShown told tells command x = (key : List ℕ) → counted_by command ≡ Some key → IsSeenShown told tells key x

-- No command but HideElem hides an element, and this one only of the series that it names.
abbrev pub OnlyHideElemHides : Type 0
OnlyHideElemHides =
    (cat : Catalogue) (command : Command) (answered : Answered) (key : List ℕ) → outcome (Ok command) cat
    ≡ Ok answered
    → (hidden_by command ≡ Some key → ⊥) → IsShown key cat → IsShown key answered.1
