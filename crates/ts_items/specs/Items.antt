-- The items of a script, byte by byte.
use Rattle.std.specs.Prelude.{ℕ, ◌%◌, ◌==◌, ◌&&◌, Bool, false, not, if◌then◌else◌, List, [], ◌∷◌, ◌++◌, length}
use Rattle.std.specs.Prelude.{count_by, Option, Some, None}
use Rattle.std.specs.List.{list_all}
use Rattle.ts_base.specs.Name.{is_blank}

-- a statement with its `;`, a statement without an end among its first 65536 bytes, or one that the script's end cuts
-- off
pub data Item : Type 0 where
  Statement : List ℕ → Item
  TooLong : Item
  Unended : Item

-- blanks alone
abbrev pub all_blank : List ℕ → Bool
all_blank text = list_all is_blank text

-- an even number of quotes stands in the text
abbrev pub quotes_match : List ℕ → Bool
quotes_match text = count_by (λ b. b == 39) text % 2 == 0

-- A byte comes. Some text: it comes behind this text of its statement. None: behind the front of one that was too long.
-- The items that end with it, and where the next byte comes.
unfoldable pub after : Option (List ℕ) → ℕ → List Item × Option (List ℕ)
after None b = ([], if b == 59 then Some [] else None)
after (Some text) b =
    let more = text ++ b ∷ [] in
    if b == 59 && quotes_match text then (if all_blank text then [] else Statement more ∷ [], Some [])
    else (if length more == 65536 then (if all_blank more then ([], Some []) else (TooLong ∷ [], None))
    else ([], Some more))

-- the items that end within these bytes, which come at this place
abbrev pub items_from : Option (List ℕ) → List ℕ → List Item
items_from place [] = []
items_from place (b ∷ bytes) = (after place b).0 ++ items_from (after place b).1 bytes

-- the place behind these bytes
abbrev pub place_from : Option (List ℕ) → List ℕ → Option (List ℕ)
place_from place [] = place
place_from place (b ∷ bytes) = place_from (after place b).1 bytes

-- the items that end within the first bytes of a script
abbrev pub items : List ℕ → List Item
items bytes = items_from (Some []) bytes

-- the place lies within a statement that isn't blank so far
abbrev pub is_unended_at : Option (List ℕ) → Bool
is_unended_at None = false
is_unended_at (Some text) = not (all_blank text)

-- a script that ends here ends within a statement that isn't blank so far
abbrev pub is_unended : List ℕ → Bool
is_unended bytes = is_unended_at (place_from (Some []) bytes)

-- the item that the end of the script makes
abbrev pub last : List ℕ → List Item
last bytes = if is_unended bytes then Unended ∷ [] else []

-- all items of a script that ends here
abbrev pub items_to_end : List ℕ → List Item
items_to_end bytes = items bytes ++ last bytes
