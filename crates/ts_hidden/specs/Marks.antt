-- Marks on the keys of series: all series that have hidden elements are marked, and perhaps others.
use Rattle.std.specs.Prelude.{◌≡◌, ℕ, ◌<◌, Bool, true, false, IsTrue, Some, None, List, bytes_eq, slice_index_or}
use Rattle.std.specs.FinMap.{get}
use Rattle.std.specs.List.{list_any}
use Rattle.ts_command.specs.declared.command.Command.{Command}
use Rattle.ts_model.specs.Catalogue.{Catalogue}
use Rattle.ts_model.specs.Definitions.{Definitions, SeriesDef, at_slot, series_slots}
use Rattle.ts_layout.specs.Meaning.{Layout, catalogue_of}
use Rattle.ts_hidden.specs.Hidden.{IsShown, hidden_by, counted_by}

abbrev pub is_marked : List ℕ → List (List ℕ) → Bool
is_marked key marks = list_any (bytes_eq key) marks

-- no element of a series that isn't marked is hidden
abbrev pub Cover : List (List ℕ) → Catalogue → Type 0
Cover marks cat = (key : List ℕ) → is_marked key marks ≡ false → IsShown key cat

-- no catalogue of these definitions has a series of this key
abbrev pub IsNowhere : List ℕ → Definitions → Type 0
IsNowhere key d = (l : Layout) → l.definitions ≡ d → get (catalogue_of l).series key ≡ None

-- what is marked stays marked
abbrev pub Include : List (List ℕ) → List (List ℕ) → Type 0
Include more marks = (key : List ℕ) → is_marked key more ≡ false → is_marked key marks ≡ false

-- where the series of which a command hides an element isn't marked, no catalogue of these definitions has it
abbrev pub IsNoted : Command → Definitions → List (List ℕ) → Type 0
IsNoted command d marks = (key : List ℕ) → hidden_by command ≡ Some key → is_marked key marks ≡ false → IsNowhere key d

-- where this is told, the series whose entries a command counts isn't marked
abbrev pub IsUnmarked : Bool → Command → List (List ℕ) → Type 0
IsUnmarked told command marks = IsTrue told → (key : List ℕ) → counted_by command ≡ Some key
    → is_marked key marks ≡ false

-- the series in each slot that has a mark are marked
abbrev pub AreOfSlots : Definitions → List Bool → List (List ℕ) → Type 0
AreOfSlots d slots marks =
    (slot : ℕ) (s : SeriesDef) → slot < series_slots → at_slot slot d.series ≡ Some s → is_marked s.key marks ≡ false
    → slice_index_or slots slot true ≡ false
