-- What a reader of a script holds.
use Rattle.std.specs.Prelude.{◌≡◌, ℕ, ◌<◌, ◌≤◌, ◌==◌, ◌&&◌, not, Bool, List, [], ◌∷◌, length, Option, Some, None}
use Rattle.ts_items.specs.Items.{Item, Statement, TooLong, Unended, quotes_match, all_blank}
use Rattle.ts_items.specs.declared.reader.Cut.{Cut}
use Rattle.ts_items.specs.declared.reader.Cut.TheVariants as cuts
use Rattle.ts_items.specs.declared.reader.Phase.{Phase}
use Rattle.ts_items.specs.declared.reader.Phase.TheVariants.{Within, Ended, Past}

-- where it stands in the script, and the text that it shows
pub record Reading : Type 0 where
  pub place : Option (List ℕ)
  pub text : List ℕ

-- at the start of a script
abbrev pub start : Reading
start = record { place = Some []; text = [] }

-- a byte that neither may end a statement nor tells of its quotes
abbrev pub is_plain : ℕ → Bool
is_plain b = not (b == 59) && not (b == 39)

-- the item that a cut stands for, over the text that the reader shows
abbrev pub item_of : Cut → List ℕ → Item
item_of cuts.Statement text = Statement text
item_of cuts.TooLong text = TooLong
item_of cuts.Unended text = Unended

-- the item, if there is a cut
abbrev pub items_of : Option Cut → List ℕ → List Item
items_of None text = []
items_of (Some cut) text = item_of cut text ∷ []

-- the place that a phase and the text kept stand for
abbrev pub place_of : Phase → List ℕ → Option (List ℕ)
place_of Within text = Some text
place_of Ended text = Some []
place_of Past text = None

-- the flags tell of the text of a statement that goes on
abbrev pub Tells : Phase → List ℕ → Bool → Bool → Type 0
Tells Within text even blank = (length text < 65536) × (even ≡ quotes_match text) × (blank ≡ all_blank text)
Tells Ended text even blank = (0 < length text) × (length text ≤ 65536)
Tells Past text even blank = length text ≤ 65536
