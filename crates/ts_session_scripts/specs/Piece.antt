-- The items of scripts, as they are kept until their turn.
use Rattle.std.specs.Prelude.{List, map, reverse}
use Rattle.ts_items.specs.Items.{Item, Statement, TooLong, Unended}
use Rattle.ts_session_scripts.specs.declared.piece.Piece.{Piece}
use Rattle.ts_session_scripts.specs.declared.piece.Piece.TheVariants as pieces

-- the item that a piece is
abbrev pub item_of_piece : Piece → Item
item_of_piece (pieces.Statement s) = Statement s.text
item_of_piece pieces.TooLong = TooLong
item_of_piece pieces.Unended = Unended

-- the items of pieces that are kept with the next one last
abbrev pub items_left : List Piece → List Item
items_left kept = map item_of_piece (reverse kept)
