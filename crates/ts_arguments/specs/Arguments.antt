-- The arguments of routines: words, arguments of one token, and arguments up to the bracket that closes them.
use Rattle.std.specs.Prelude.{ℕ, ◌==◌, ◌&&◌, nat_le, if◌then◌else◌, List, length, [], ◌∷◌, codes, ℤ, int_le, find}
use Rattle.std.specs.Prelude.{Option, Some, None}
use Rattle.std.specs.List.{list_all}
use Rattle.std.specs.Char.{is_ascii_digit}
use Rattle.std.specs.Str.{bytes_eq}
use Rattle.ts_base.specs.Name.{key_if_any}
use Rattle.ts_base.specs.Moment.{read_stamp}
use Rattle.ts_row.specs.declared.kind.Column.{Column}
use Rattle.ts_row.specs.declared.kind.ColumnKind.{ColumnKind}
use Rattle.ts_row.specs.declared.kind.ColumnKind.TheVariants as kinds
use Rattle.ts_row.specs.declared.value.Literal.{Literal}
use Rattle.ts_row.specs.declared.value.Literal.TheVariants as literals
use Rattle.ts_text.specs.Phrase.{magnitude_of, Phrase, ◌>>=◌, give, token, word_in, name_as, a_sign, closed, behind}
use Rattle.ts_text.specs.declared.token.TokenKind.{TokenKind}
use Rattle.ts_text.specs.declared.token.TokenKind.TheVariants.{Word, Number, Text, Sign}
use Rattle.ts_tokens.specs.Tokens.{front, units_of, scale_of, said}
use Rattle.ts_arguments.specs.declared.word.Joined.{Joined}
use Rattle.ts_arguments.specs.declared.word.Joined.TheVariants.{Patterns, Calendars}
use Rattle.ts_arguments.specs.declared.word.TypeName.{TypeName}
use Rattle.ts_arguments.specs.declared.word.TypeName.TheVariants.{SmallInt, Integer, BigInt, Decimal, VarChar}
use Rattle.ts_rolling.specs.Sets.{is_set}

-- The words of statements: what is joined, and the types of value columns, by their names.

-- the word for what is joined
abbrev pub joined_spelling : Joined → List ℕ
joined_spelling Patterns = codes "pattern"
joined_spelling Calendars = codes "calendar"

-- what is joined where this word stands, if something is
unfoldable pub joined_of : List ℕ → Option Joined
joined_of word = find (λ joined. bytes_eq (joined_spelling joined) word) (Patterns ∷ Calendars ∷ [])

-- the name of a type
abbrev pub type_spelling : TypeName → List ℕ
type_spelling SmallInt = codes "smallint"
type_spelling Integer = codes "integer"
type_spelling BigInt = codes "bigint"
type_spelling Decimal = codes "decimal"
type_spelling VarChar = codes "varchar"

abbrev pub types : List TypeName
types = SmallInt ∷ Integer ∷ BigInt ∷ Decimal ∷ VarChar ∷ []

-- the type of this name, if there is one
unfoldable pub type_of : List ℕ → Option TypeName
type_of word = find (λ type. bytes_eq (type_spelling type) word) types

-- The arguments of calls: those of one token, and the columns of a row type.

-- a name
unfoldable pub a_name : Phrase (List ℕ)
a_name = token front name_as

-- a text of 1 to 64 bytes
abbrev pub key_in : TokenKind → List ℕ → Option (List ℕ)
key_in Text text = key_if_any (said text)
key_in kind token = None

-- a key
unfoldable pub a_key : Phrase (List ℕ)
a_key = token front key_in

-- the key of a rolling set with these bytes, if they are one's
abbrev pub set_if_any : List ℕ → Option (List ℕ)
set_if_any text = if is_set text then Some text else None

-- a text of 1 to 40 bytes without `#`
abbrev pub set_in : TokenKind → List ℕ → Option (List ℕ)
set_in Text text = set_if_any (said text)
set_in kind token = None

-- the key of a rolling set
unfoldable pub a_set : Phrase (List ℕ)
a_set = token front set_in

-- a text that names a stamp
abbrev pub stamp_in : TokenKind → List ℕ → Option ℤ
stamp_in Text text = read_stamp (said text)
stamp_in kind token = None

-- a stamp
unfoldable pub a_stamp : Phrase ℤ
a_stamp = token front stamp_in

-- what a text says
abbrev pub text_in : TokenKind → List ℕ → Option (List ℕ)
text_in Text text = Some (said text)
text_in kind token = None

-- a text
unfoldable pub a_text : Phrase (List ℕ)
a_text = token front text_in

-- a word, a number or a text that a column's value is written as
abbrev pub literal_in : TokenKind → List ℕ → Option Literal
literal_in Word word = if bytes_eq word (codes "null") then Some literals.Null else None
literal_in Number number = Some (literals.Number (units_of number) (scale_of number))
literal_in Text text = Some (literals.Text (said text))
literal_in Sign sign = None

-- a value as a statement writes it
unfoldable pub a_literal : Phrase Literal
a_literal = token front literal_in

-- the number, if it lies between the two
abbrev pub within : ℤ → ℤ → ℤ → Option ℤ
within least most number = if int_le least number && int_le number most then Some number else None

-- a number without a point, between the two
abbrev pub whole_in : ℤ → ℤ → TokenKind → List ℕ → Option ℤ
whole_in least most Number number = if scale_of number == 0 then within least most (units_of number) else None
whole_in least most kind token = None

-- a whole number between the two
unfoldable pub a_whole : ℤ → ℤ → Phrase ℤ
a_whole least most = token front (whole_in least most)

-- a number of 1 to 3 digits, without sign and point
abbrev pub small_in : TokenKind → List ℕ → Option ℕ
small_in Number number = if nat_le (length number) 3 && list_all is_ascii_digit number then Some (magnitude_of number)
    else None
small_in kind token = None

-- a small number, as a type has
unfoldable pub a_small : Phrase ℕ
a_small = token front small_in

-- this word
unfoldable pub a_word : List ℕ → Phrase (Unit {0})
a_word wanted = token front (word_in wanted)

-- the name of the stamp's column
unfoldable pub a_stamp_column : Phrase (List ℕ)
a_stamp_column = do
  name ← a_name
  type ← a_word (codes "datetime")
  give name

-- the name of a value column's type
abbrev pub type_in : TokenKind → List ℕ → Option TypeName
type_in Word word = type_of word
type_in kind token = None

-- the type of a value column, without its numbers
unfoldable pub a_type : Phrase TypeName
a_type = token front type_in

-- the numbers of a type
unfoldable pub kind_behind : TypeName → Phrase ColumnKind
kind_behind SmallInt = give kinds.SmallInt
kind_behind Integer = give kinds.Integer
kind_behind BigInt = give kinds.BigInt
kind_behind Decimal = do
  digits ← behind 40 a_small
  scale ← behind 44 a_small
  end ← a_sign 41
  give (kinds.Decimal digits scale)
kind_behind VarChar = do
  length ← behind 40 a_small
  end ← a_sign 41
  give (kinds.VarChar length)

-- a value column: its name and its type
unfoldable pub a_column : Phrase Column
a_column = do
  name ← a_name
  type ← a_type
  kind ← kind_behind type
  give (record { name = name; kind = kind })

-- the word for what is joined
abbrev pub joined_in : TokenKind → List ℕ → Option Joined
joined_in Word word = joined_of word
joined_in kind token = None

-- what a join is of
unfoldable pub a_joined : Phrase Joined
a_joined = token front joined_in

-- What stands in the brackets of calls, up to the bracket that closes them.

-- a phrase, and this sign behind it
abbrev pub before : {A : Type 0} → ℕ → Phrase A → Phrase A
before sign phrase = do
  found ← phrase
  end ← a_sign sign
  give found

-- two phrases
abbrev pub two : {A B : Type 0} → Phrase A → Phrase B → Phrase (A × B)
two first second = do
  a ← first
  b ← second
  give (a, b)

-- a name, and this sign behind it
unfoldable pub name_before : ℕ → Phrase (List ℕ)
name_before sign = before sign a_name

-- a key, and this sign behind it
unfoldable pub key_before : ℕ → Phrase (List ℕ)
key_before sign = before sign a_key

-- a text, and this sign behind it
unfoldable pub text_before : ℕ → Phrase (List ℕ)
text_before sign = before sign a_text

-- a stamp, and this sign behind it
unfoldable pub stamp_before : ℕ → Phrase ℤ
stamp_before sign = before sign a_stamp

-- a whole number between the two, and this sign behind it
unfoldable pub whole_before : ℕ → ℤ → ℤ → Phrase ℤ
whole_before sign least most = before sign (a_whole least most)

-- two names
unfoldable pub two_names : Phrase (List ℕ × List ℕ)
two_names = two (name_before 44) (name_before 41)

-- three names
unfoldable pub three_names : Phrase (List ℕ × (List ℕ × List ℕ))
three_names = two (name_before 44) two_names

-- what is joined, and three names
unfoldable pub joined_names : Phrase (Joined × (List ℕ × (List ℕ × List ℕ)))
joined_names = two (before 44 a_joined) three_names

-- a name and a text
unfoldable pub name_and_text : Phrase (List ℕ × List ℕ)
name_and_text = two (name_before 44) (text_before 41)

-- a name and a whole number between the two
unfoldable pub name_and_whole : ℤ → ℤ → Phrase (List ℕ × ℤ)
name_and_whole least most = two (name_before 44) (whole_before 41 least most)

-- two names and a whole number between the two
unfoldable pub two_names_and_whole : ℤ → ℤ → Phrase (List ℕ × (List ℕ × ℤ))
two_names_and_whole least most = two (name_before 44) (name_and_whole least most)

-- a key and a name
unfoldable pub key_and_name : Phrase (List ℕ × List ℕ)
key_and_name = two (key_before 44) (name_before 41)

-- a key and a whole number between the two
unfoldable pub key_and_whole : ℤ → ℤ → Phrase (List ℕ × ℤ)
key_and_whole least most = two (key_before 44) (whole_before 41 least most)

-- a key and a stamp
unfoldable pub key_and_stamp : Phrase (List ℕ × ℤ)
key_and_stamp = two (key_before 44) (stamp_before 41)

-- two stamps
unfoldable pub two_stamps : Phrase (ℤ × ℤ)
two_stamps = two (stamp_before 44) (stamp_before 41)

-- a name and two stamps
unfoldable pub name_range : Phrase (List ℕ × (ℤ × ℤ))
name_range = two (name_before 44) two_stamps

-- a key and two stamps
unfoldable pub key_range : Phrase (List ℕ × (ℤ × ℤ))
key_range = two (key_before 44) two_stamps

-- two keys and two stamps
unfoldable pub two_keys_range : Phrase (List ℕ × (List ℕ × (ℤ × ℤ)))
two_keys_range = two (key_before 44) key_range

-- a name, a key and two stamps
unfoldable pub name_key_range : Phrase (List ℕ × (List ℕ × (ℤ × ℤ)))
name_key_range = two (name_before 44) key_range

-- a text, a key and two stamps
unfoldable pub text_key_range : Phrase (List ℕ × (List ℕ × (ℤ × ℤ)))
text_key_range = two (text_before 44) key_range

-- a text, a name and two stamps
unfoldable pub text_name_range : Phrase (List ℕ × (List ℕ × (ℤ × ℤ)))
text_name_range = two (text_before 44) name_range

-- a text, a name, a key and two stamps
unfoldable pub text_name_key_range : Phrase (List ℕ × (List ℕ × (List ℕ × (ℤ × ℤ))))
text_name_key_range = two (text_before 44) name_key_range

-- a whole number between the two and two stamps
unfoldable pub whole_range : ℤ → ℤ → Phrase (ℤ × (ℤ × ℤ))
whole_range least most = two (whole_before 44 least most) two_stamps

-- a key, a whole number between the two and two stamps
unfoldable pub key_whole_range : ℤ → ℤ → Phrase (List ℕ × (ℤ × (ℤ × ℤ)))
key_whole_range least most = two (key_before 44) (whole_range least most)

-- a text, a key, a whole number between the two and two stamps
unfoldable pub text_key_whole_range : ℤ → ℤ → Phrase (List ℕ × (List ℕ × (ℤ × (ℤ × ℤ))))
text_key_whole_range least most = two (text_before 44) (key_whole_range least most)

-- a stamp and a name
unfoldable pub stamp_and_name : Phrase (ℤ × List ℕ)
stamp_and_name = two (stamp_before 44) (name_before 41)

-- a name, a stamp and a name
unfoldable pub name_stamp_and_name : Phrase (List ℕ × (ℤ × List ℕ))
name_stamp_and_name = two (name_before 44) stamp_and_name

-- a key, a name, a stamp and a name
unfoldable pub key_name_stamp_and_name : Phrase (List ℕ × (List ℕ × (ℤ × List ℕ)))
key_name_stamp_and_name = two (key_before 44) name_stamp_and_name

-- a stamp and a whole number between the two
unfoldable pub stamp_and_whole : ℤ → ℤ → Phrase (ℤ × ℤ)
stamp_and_whole least most = two (stamp_before 44) (whole_before 41 least most)

-- a name, a stamp and a whole number between the two
unfoldable pub name_stamp_and_whole : ℤ → ℤ → Phrase (List ℕ × (ℤ × ℤ))
name_stamp_and_whole least most = two (name_before 44) (stamp_and_whole least most)

-- a key, a stamp and a whole number between the two
unfoldable pub key_stamp_and_whole : ℤ → ℤ → Phrase (List ℕ × (ℤ × ℤ))
key_stamp_and_whole least most = two (key_before 44) (stamp_and_whole least most)

-- a stamp and any number of values
unfoldable pub stamp_and_values : Phrase (ℤ × List Literal)
stamp_and_values = do
  stamp ← a_stamp
  values ← closed 41 a_literal
  give (stamp, values)

-- a key, a stamp and any number of values
unfoldable pub key_stamp_and_values : Phrase (List ℕ × (ℤ × List Literal))
key_stamp_and_values = two (key_before 44) stamp_and_values

-- one value column at least
unfoldable pub some_columns : Phrase (List Column)
some_columns = do
  first ← a_column
  others ← closed 41 a_column
  give (first ∷ others)

-- the stamp's column and one value column at least
unfoldable pub stamp_and_columns : Phrase (List ℕ × List Column)
stamp_and_columns = two (before 44 a_stamp_column) some_columns

-- a name, the stamp's column and one value column at least
unfoldable pub name_and_columns : Phrase (List ℕ × (List ℕ × List Column))
name_and_columns = two (name_before 44) stamp_and_columns

-- the key of a rolling set, and this sign behind it
unfoldable pub set_before : ℕ → Phrase (List ℕ)
set_before sign = before sign a_set

-- a set and two stamps
unfoldable pub set_range : Phrase (List ℕ × (ℤ × ℤ))
set_range = two (set_before 44) two_stamps

-- a set, a stamp and any number of values
unfoldable pub set_stamp_and_values : Phrase (List ℕ × (ℤ × List Literal))
set_stamp_and_values = two (set_before 44) stamp_and_values

-- a stamp, a name and a whole number between the two
unfoldable pub stamp_name_and_whole : ℤ → ℤ → Phrase (ℤ × (List ℕ × ℤ))
stamp_name_and_whole least most = two (stamp_before 44) (name_and_whole least most)

-- a name, a stamp, a name and a whole number between the two
unfoldable pub name_stamp_name_and_whole : ℤ → ℤ → Phrase (List ℕ × (ℤ × (List ℕ × ℤ)))
name_stamp_name_and_whole least most = two (name_before 44) (stamp_name_and_whole least most)

-- a set, a name, a stamp, a name and a whole number between the two
unfoldable pub set_name_stamp_name_and_whole : ℤ → ℤ → Phrase (List ℕ × (List ℕ × (ℤ × (List ℕ × ℤ))))
set_name_stamp_name_and_whole least most = two (set_before 44) (name_stamp_name_and_whole least most)
