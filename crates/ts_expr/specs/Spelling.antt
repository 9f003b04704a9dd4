-- Which tokens are an aggregate list's.
use Rattle.std.specs.Prelude.{◌≡◌, ℕ, ◌≤◌, Bool, List, [], ◌∷◌, length, map, codes, true}
use Rattle.std.specs.List.{list_all}
use Rattle.ts_base.specs.Name.{is_name}
use Rattle.ts_text.specs.Parted.{IsParted}
use Rattle.ts_expr.specs.declared.function.Function.{Function}
use Rattle.ts_expr.specs.declared.item.Item.{Item}
use Rattle.ts_expr.specs.Aggregates.{most_items, function_word, item}

-- an item as a text has it: the case of its function, the function, and the column
pub record Written : Type 0 where
  pub upper : Bool
  pub function : Function
  pub column : List ℕ

-- the tokens of an item, before further tokens
abbrev pub item_before : Written → List (List ℕ) → List (List ℕ)
item_before w more = function_word w.upper w.function ∷ codes "(" ∷ codes "$" ∷ w.column ∷ codes ")" ∷ more

-- the tokens of items with commas between them, before further tokens
abbrev pub items_before : List Written → List (List ℕ) → List (List ℕ)
items_before [] more = more
items_before (w ∷ []) more = item_before w more
items_before (w ∷ v ∷ written) more = item_before w (codes "," ∷ items_before (v ∷ written) more)

-- the item that it writes
abbrev pub item_of : Written → Item
item_of w = item w.function w.column

-- the text is a list's, of these items
pub record IsListText (items : List Item) (text : List ℕ) : Type 0 where
  pub written : List Written
  pub some : 1 ≤ length written
  pub few : length written ≤ most_items
  pub columns : list_all (λ (w : Written). is_name w.column) written ≡ true
  pub value : map item_of written ≡ items
  pub parted : IsParted (items_before written []) text
