-- Lists of aggregates: their text, over the columns of a row type, and over the values of a column.
use Rattle.std.specs.Prelude.{ℕ, ◌+◌, ◌*◌, ◌/◌, ◌<◌, ◌≤◌, ◌-◌, Bool, true, false, not, ◌||◌, if◌then◌else◌, ℤ, pos}
use Rattle.std.specs.Prelude.{◌+ℤ◌, ◌*ℤ◌, unsigned_abs, List, [], ◌∷◌, length, map, filter, fold, slice_index_or}
use Rattle.std.specs.Prelude.{Option, Some, None, Result, Ok, Err, IsTrue, All, codes}
use Rattle.std.specs.Ordering.{is_lt, is_gt, nat_cmp, int_cmp}
use Rattle.std.specs.declared.cmp.Ordering.{Ordering}
use Rattle.std.specs.declared.cmp.Ordering.TheVariants.{Equal}
use Rattle.std.specs.Cmp.Lexicographic.{slice_cmp}
use Rattle.std.specs.List.{list_all}
use Rattle.std.specs.Str.{bytes_eq}
use Rattle.ts_base.specs.declared.refusal.Refusal.{Refusal}
use Rattle.ts_base.specs.declared.refusal.Refusal.TheVariants.{BadExpression, UnknownColumn}
use Rattle.ts_row.specs.declared.value.Value.{Value}
use Rattle.ts_row.specs.declared.value.Value.TheVariants.{Null, Number, Text}
use Rattle.ts_row.specs.declared.row.Elem.{Elem}
use Rattle.ts_row.specs.Row.{Values, Row, visible, with_sign, is_kind, scale_of}
use Rattle.ts_row.specs.declared.kind.ColumnKind.{ColumnKind}
use Rattle.ts_row.specs.declared.kind.ColumnKind.TheVariants.{VarChar}
use Rattle.ts_row.specs.declared.kind.Column.{Column}
use Rattle.ts_text.specs.Phrase.{Phrase, ◌>>=◌, give, token, name_as, behind, in_brackets, phrases, ended, outcome}
use Rattle.ts_text.specs.Phrase.{plain_front}
use Rattle.ts_text.specs.declared.token.TokenKind.{TokenKind}
use Rattle.ts_text.specs.declared.token.TokenKind.TheVariants.{Word}
use Rattle.ts_expr.specs.declared.function.Function.{Function}
use Rattle.ts_expr.specs.declared.function.Function.TheVariants.{Sum, Avg, Count, Min, Max, First, Last}
use Rattle.ts_expr.specs.declared.item.Item.{Item}
use Rattle.ts_expr.specs.declared.item.BoundItem.{BoundItem}

-- The text of an aggregate list, as in `sum($v), COUNT( $w )`: its grammar, and what it reads as.

-- the most items of a list
abbrev pub most_items : ℕ
most_items = 32

-- the word of a function, in upper or in lower case
abbrev pub function_word : Bool → Function → List ℕ
function_word upper Sum = if upper then codes "SUM" else codes "sum"
function_word upper Avg = if upper then codes "AVG" else codes "avg"
function_word upper Count = if upper then codes "COUNT" else codes "count"
function_word upper Min = if upper then codes "MIN" else codes "min"
function_word upper Max = if upper then codes "MAX" else codes "max"
function_word upper First = if upper then codes "FIRST" else codes "first"
function_word upper Last = if upper then codes "LAST" else codes "last"

-- a word names a function, in either case
abbrev pub names : List ℕ → Function → Bool
names word f = bytes_eq word (function_word false f) || bytes_eq word (function_word true f)

-- the first of these functions that a word names
abbrev pub function_among : List Function → List ℕ → Option Function
function_among [] word = None
function_among (f ∷ functions) word = if names word f then Some f else function_among functions word

-- the function that a word names
abbrev pub function_of_word : List ℕ → Option Function
function_of_word = function_among (Sum ∷ Avg ∷ Count ∷ Min ∷ Max ∷ First ∷ Last ∷ [])

-- a function
abbrev pub function_as : TokenKind → List ℕ → Option Function
function_as Word word = function_of_word word
function_as kind token = None

-- the function of an item
unfoldable pub function_in : Phrase Function
function_in = token plain_front function_as

-- the name of a column
unfoldable pub name_in : Phrase (List ℕ)
name_in = token plain_front name_as

-- the name of a column behind a `$`, in brackets
unfoldable pub column_in : Phrase (List ℕ)
column_in = in_brackets (behind 36 name_in)

-- a function of the values of a column
abbrev pub item : Function → List ℕ → Item
item function column = record { function = function; column = column }

-- a function and its column
unfoldable pub item_in : Phrase Item
item_in = do
  function ← function_in
  column ← column_in
  give (item function column)

-- at most so many items, each behind a comma
unfoldable pub further : ℕ → Phrase (List Item)
further most = phrases item_in most

-- 1 to 32 items joined by commas
unfoldable pub list_in : Phrase (List Item)
list_in = do
  first ← item_in
  others ← further (most_items - 1)
  give (first ∷ others)

-- a text that is a list's, or the place of what can't stand there
abbrev pub written_list : List ℕ → Result (List Item) ℕ
written_list text = outcome (length text) (ended [] list_in text)

-- what a text reads as
abbrev pub list_or_place : Result (List Item) ℕ → Result (List Item) Refusal
list_or_place (Ok items) = Ok items
list_or_place (Err place) = Err (BadExpression place)

-- the list that a text reads as, or why there is none
abbrev pub read_list : List ℕ → Result (List Item) Refusal
read_list text = list_or_place (written_list text)

-- An aggregate list with the columns that it takes its values from.

-- the most digits after the point of what an item makes: those of a decimal, and six more of a mean
abbrev pub most_scale : ℕ
most_scale = 34

-- the columns of the rows, and the items with the numbers of their columns
pub record Binding : Type 0 where
  pub columns : List Column
  pub items : List BoundItem

-- the number, counted from `first`, and the type of the column that has this name
abbrev pub column_from : ℕ → List ℕ → List Column → Option (ℕ × ColumnKind)
column_from first name [] = None
column_from first name (c ∷ columns) = if bytes_eq c.name name then Some (first, c.kind)
    else column_from (first + 1) name columns

-- a column of texts
abbrev pub is_text_kind : ColumnKind → Bool
is_text_kind (VarChar most) = true
is_text_kind kind = false

-- a function takes the values of a column: sum and avg take no texts
abbrev pub takes_kind : Function → ColumnKind → Bool
takes_kind Sum kind = if is_text_kind kind then false else true
takes_kind Avg kind = if is_text_kind kind then false else true
takes_kind function kind = true

-- the digits after the point of what a function makes of a column's values: none for a count, six more for a mean
abbrev pub made_scale : Function → ColumnKind → ℕ
made_scale Count kind = 0
made_scale Avg kind = scale_of kind + 6
made_scale function kind = scale_of kind

-- an item with the number of its column
abbrev pub bound_item : Function → ℕ → ColumnKind → BoundItem
bound_item function column kind = record { function = function; column = column; scale = made_scale function kind }

-- an item of this column, if there is one and the function takes its values
abbrev pub bound_to : Function → Option (ℕ × ColumnKind) → Result BoundItem Refusal
bound_to function None = Err UnknownColumn
bound_to function (Some c) = if takes_kind function c.1 then Ok (bound_item function c.0 c.1) else Err (BadExpression 0)

-- an item of the column that has its name
abbrev pub bound : List Column → Item → Result BoundItem Refusal
bound columns i = bound_to i.function (column_from 0 i.column columns)

-- an item before others; the first that is refused decides
abbrev pub with_item : Result BoundItem Refusal → Result (List BoundItem) Refusal → Result (List BoundItem) Refusal
with_item (Err why) others = Err why
with_item (Ok one) (Err why) = Err why
with_item (Ok one) (Ok others) = Ok (one ∷ others)

-- the items of a list, from left to right
abbrev pub bound_items : List Column → List Item → Result (List BoundItem) Refusal
bound_items columns [] = Ok []
bound_items columns (i ∷ items) = with_item (bound columns i) (bound_items columns items)

-- these items and the columns
abbrev pub with_columns : List Column → Result (List BoundItem) Refusal → Result Binding Refusal
with_columns columns (Ok items) = Ok (record { columns = columns; items = items })
with_columns columns (Err why) = Err why

-- a list bound to columns: each item first needs a column of its name, then one whose values it takes
abbrev pub binding : List Column → List Item → Result Binding Refusal
binding columns items = with_columns columns (bound_items columns items)

-- each item has a column, each of a kind that may be, and what it makes has few digits after the point
pub record IsBinding (b : Binding) : Type 0 where
  pub kinds : IsTrue (list_all (λ c. is_kind c.kind) b.columns)
  pub places : All (λ i. i.column < length b.columns) b.items
  pub scales : All (λ i. i.scale ≤ most_scale) b.items

-- The values of a column over rows, and what each function makes of them.

-- NULL
abbrev pub is_null : Value → Bool
is_null Null = true
is_null (Number z) = false
is_null (Text text) = false

-- the value in a column, by the column's number from 0 on
abbrev pub value_at : ℕ → Values → Value
value_at column values = slice_index_or values column Null

-- the values of a column over rows in order of stamps: no NULL, and none of a hidden row
abbrev pub values_of : ℕ → List Row → List Value
values_of column rows =
    filter (λ v. not (is_null v)) (map (λ r. value_at column r.values) (filter (λ r. not r.hidden) rows))

-- the number of a value
abbrev pub number_of : Value → ℤ
number_of Null = pos 0
number_of (Number z) = z
number_of (Text text) = pos 0

-- the sum
abbrev pub total : List Value → ℤ
total values = fold ◌+ℤ◌ (pos 0) (map number_of values)

-- z / n, rounded to the nearest whole number, a half away from zero
abbrev pub rounded : ℤ → ℕ → ℤ
rounded z n = with_sign z ((2 * unsigned_abs z + n) / (2 * n))

-- the mean, with six more digits after the point than the values have
abbrev pub mean : List Value → ℤ
mean values = rounded (total values *ℤ pos 1_000_000) (length values)

-- numbers as numbers, texts byte by byte
abbrev pub value_cmp : Value → Value → Ordering
value_cmp (Number a) (Number b) = int_cmp a b
value_cmp (Text a) (Text b) = slice_cmp nat_cmp a b
value_cmp a b = Equal

-- the lesser of a value, if there is one, and another
abbrev pub lesser : Value → Value → Value
lesser Null v = v
lesser kept v = if is_lt (value_cmp v kept) then v else kept

-- the greater
abbrev pub greater : Value → Value → Value
greater Null v = v
greater kept v = if is_gt (value_cmp v kept) then v else kept

-- the earlier
abbrev pub earlier : Value → Value → Value
earlier Null v = v
earlier kept v = kept

-- the later
abbrev pub later : Value → Value → Value
later kept v = v

-- a number, where there are values
abbrev pub number_if_any : List Value → ℤ → Value
number_if_any [] z = Null
number_if_any (v ∷ values) z = Number z

-- what a function makes of values in order of stamps; without values a count of 0, and else NULL
abbrev pub made : Function → List Value → Value
made Count values = Number (pos (length values))
made Sum values = number_if_any values (total values)
made Avg values = number_if_any values (mean values)
made Min values = fold lesser Null values
made Max values = fold greater Null values
made First values = fold earlier Null values
made Last values = fold later Null values

-- what the items of a list make of rows in order of stamps
abbrev pub folded : List BoundItem → List Row → Values
folded items rows = map (λ i. made i.function (values_of i.column rows)) items

-- the row of what they make
abbrev pub folded_row : List BoundItem → List Row → Row
folded_row items rows = visible (folded items rows)

-- the rows of elements
abbrev pub rows_of : List Elem → List Row
rows_of elems = map (λ e. e.row) elems
