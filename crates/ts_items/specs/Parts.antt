-- What a script is made of, part after part: the law above the definition of its items.
use Rattle.std.specs.Prelude.{◌≡◌, ◌<◌, ℕ, Bool, true, false, not, if◌then◌else◌, List, [], ◌∷◌, ◌++◌, length}
use Rattle.std.specs.List.{flat_map, AllByRecursion}
use Rattle.ts_items.specs.Items.{Item, Statement, TooLong, quotes_match, all_blank}

-- no ';' in the text ends a statement: an odd number of quotes stands before each
abbrev pub IsOpen : List ℕ → Type 0
IsOpen text = (front rest : List ℕ) → text ≡ front ++ 59 ∷ rest → quotes_match front ≡ false

-- no ';' stands in the text
abbrev pub HasNoEnd : List ℕ → Type 0
HasNoEnd text = (front rest : List ℕ) → text ≡ front ++ 59 ∷ rest → ⊥

-- a statement before its `;`, 65536 blanks, or the 65536 bytes of a long statement with what is skipped up to the next
-- `;`
pub data Part : Type 0 where
  Whole : List ℕ → Part
  Blanks : List ℕ → Part
  Long : List ℕ → List ℕ → Part

-- the bytes of a part
abbrev pub spelling : Part → List ℕ
spelling (Whole text) = text ++ 59 ∷ []
spelling (Blanks text) = text
spelling (Long text skipped) = text ++ (skipped ++ 59 ∷ [])

abbrev pub IsPart : Part → Type 0
-- the ';' is the first that ends a statement, and the statement has at most 65536 bytes with it
IsPart (Whole text) = IsOpen text × (quotes_match text ≡ true) × (length text < 65536)
IsPart (Blanks text) = (length text ≡ 65536) × (all_blank text ≡ true)
-- 65536 bytes without an end, not all blank, and then the bytes up to the next ';'
IsPart (Long text skipped) = (length text ≡ 65536) × IsOpen text × (all_blank text ≡ false) × HasNoEnd skipped

-- the end of a script: less than a statement, or what comes behind the 65536 bytes of a long one
pub data Rest : Type 0 where
  Open : List ℕ → Rest
  Skipped : List ℕ → List ℕ → Rest

-- the bytes of the end
abbrev pub rest_spelling : Rest → List ℕ
rest_spelling (Open text) = text
rest_spelling (Skipped text skipped) = text ++ skipped

abbrev pub IsRest : Rest → Type 0
IsRest (Open text) = IsOpen text × (length text < 65536)
IsRest (Skipped text skipped) = (length text ≡ 65536) × IsOpen text × (all_blank text ≡ false) × HasNoEnd skipped

-- the script is these parts, and this rest
pub record Splits (bytes : List ℕ) (parts : List Part) (rest : Rest) : Type 0 where
  pub whole : bytes ≡ flat_map spelling parts ++ rest_spelling rest
  pub each : AllByRecursion IsPart parts
  pub last : IsRest rest

-- a statement of blanks alone is no item
abbrev pub item_of_part : Part → List Item
item_of_part (Whole text) = if all_blank text then [] else Statement (text ++ 59 ∷ []) ∷ []
item_of_part (Blanks text) = []
item_of_part (Long text skipped) = TooLong ∷ []

abbrev pub item_of_rest : Rest → List Item
item_of_rest (Open text) = []
item_of_rest (Skipped text skipped) = TooLong ∷ []

-- less than a statement, and not all blank
abbrev pub is_unended_rest : Rest → Bool
is_unended_rest (Open text) = not (all_blank text)
is_unended_rest (Skipped text skipped) = false
