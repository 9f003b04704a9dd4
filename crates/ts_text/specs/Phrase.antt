-- How phrases of a grammar are read: the token in front, blanks, phrases, signs, and the tokens of plain texts.
use Rattle.std.specs.Prelude.{ℕ, ◌+◌, zero, suc, ◌-◌, ◌==◌, ◌||◌, Bool, if◌then◌else◌, List, Option, filter, count_by}
use Rattle.std.specs.Prelude.{[], ◌∷◌, ◌++◌, length, take, drop, Some, None, Result, Ok, Err}
use Rattle.std.specs.Str.{bytes_eq}
use Rattle.std.specs.Char.{is_ascii_digit}
use Rattle.std.specs.List.{list_all, prefix_len}
use Rattle.ts_base.specs.Moment.{number_of}
use Rattle.ts_base.specs.Name.{is_blank, name_if_any, begins_word, continues_word}
use Rattle.ts_text.specs.declared.token.TokenKind.{TokenKind}
use Rattle.ts_text.specs.declared.token.TokenKind.TheVariants.{Word, Number, Sign}

-- Blanks between tokens.

-- the bytes without the blanks in front
abbrev pub unblanked : List ℕ → List ℕ
unblanked [] = []
unblanked (b ∷ bytes) = if is_blank b then unblanked bytes else b ∷ bytes

-- nothing but blanks
abbrev pub are_blanks : List ℕ → Bool
are_blanks = list_all is_blank

-- The number that digits write.

-- how many digits a token has
abbrev pub digit_count : List ℕ → ℕ
digit_count token = count_by is_ascii_digit token

-- the number that its digits write, whatever stands between them
abbrev pub magnitude_of : List ℕ → ℕ
magnitude_of token = number_of (filter is_ascii_digit token)

-- What a grammar takes for a token: the kind and the length of the one that stands in front, if one does.

-- the token in front
abbrev pub Front : Type 0
Front = List ℕ → Option (TokenKind × ℕ)

-- How phrases of a grammar are read.

-- what a phrase is read as, and the bytes behind it; or how many bytes are left from the first that can't stand there
abbrev pub Read : Type 0 → Type 0
Read A = Result (A × List ℕ) ℕ

-- a part of a grammar, as it reads the bytes from its place on
abbrev pub Phrase : Type 0 → Type 0
Phrase A = List ℕ → Read A

-- what was read, and then the next phrase
abbrev pub go_on : {A B : Type 0} → Read A → (A → Phrase B) → Read B
go_on (Ok found) next = next found.0 found.1
go_on (Err left) next = Err left

infixl 10 ◌>>=◌
-- one phrase, and then the next
abbrev pub ◌>>=◌ : {A B : Type 0} → Phrase A → (A → Phrase B) → Phrase B
first >>= next = λ bytes. go_on (first bytes) next

-- nothing more is read
abbrev pub give : {A : Type 0} → A → Phrase A
give found = λ bytes. Ok (found, bytes)

-- a token of so many bytes, taken as this; or it can't stand here
abbrev pub taken : {A : Type 0} → List ℕ → ℕ → Option A → Read A
taken here size None = Err (length here)
taken here size (Some found) = Ok (found, drop size here)

-- the token that stands here, if one does
abbrev pub taken_front : {A : Type 0} → (TokenKind → List ℕ → Option A) → List ℕ → Option (TokenKind × ℕ) → Read A
taken_front accept here None = Err (length here)
taken_front accept here (Some token) = taken here token.1 (accept token.0 (take token.1 here))

-- behind blanks, a token that may stand there, as what it is taken
abbrev pub token : {A : Type 0} → Front → (TokenKind → List ℕ → Option A) → Phrase A
token front accept = λ bytes. taken_front accept (unblanked bytes) (front (unblanked bytes))

-- a token that is this word
abbrev pub word_in : List ℕ → TokenKind → List ℕ → Option (Unit {0})
word_in wanted Word word = if bytes_eq word wanted then Some tt else None
word_in wanted kind token = None

-- a token that is a name: a word of 1 to 32 bytes
abbrev pub name_as : TokenKind → List ℕ → Option (List ℕ)
name_as Word word = name_if_any word
name_as kind token = None

-- the bytes behind a byte in front
abbrev pub behind_byte : ℕ → List ℕ → Read (Unit {0})
behind_byte wanted [] = Err 0
behind_byte wanted (b ∷ bytes) = if b == wanted then Ok (tt, bytes) else Err (suc (length bytes))

-- this sign
unfoldable pub a_sign : ℕ → Phrase (Unit {0})
a_sign wanted = λ bytes. behind_byte wanted (unblanked bytes)

-- a phrase behind a sign
abbrev pub behind : {A : Type 0} → ℕ → Phrase A → Phrase A
behind wanted phrase = do
  sign ← a_sign wanted
  phrase

-- a phrase in round brackets
abbrev pub in_brackets : {A : Type 0} → Phrase A → Phrase A
in_brackets phrase = do
  found ← behind 40 phrase
  close ← a_sign 41
  give found

-- what a phrase gives, as something else
abbrev pub made : {A B : Type 0} → Phrase A → (A → B) → Phrase B
made phrase make = do
  found ← phrase
  give (make found)

-- a list, if a comma stands here, and else none
abbrev pub if_comma : {A : Type 0} → Read (Unit {0}) → Phrase (List A) → Phrase (List A)
if_comma (Ok comma) list = λ bytes. list comma.1
if_comma (Err left) list = λ bytes. Ok ([], bytes)

-- at most so many phrases, each behind a comma
abbrev pub phrases : {A : Type 0} → Phrase A → ℕ → Phrase (List A)
phrases phrase zero = give []
phrases phrase (suc n) = λ bytes. if_comma (a_sign 44 bytes) (do
  first ← phrase
  others ← phrases phrase n
  give (first ∷ others)) bytes

-- as many phrases as commas stand there
unfoldable pub repeated : {A : Type 0} → Phrase A → Phrase (List A)
repeated phrase = λ bytes. phrases phrase (length bytes) bytes

-- as many phrases as commas stand there, and the sign that closes them
abbrev pub closed : {A : Type 0} → ℕ → Phrase A → Phrase (List A)
closed close phrase = do
  found ← repeated phrase
  end ← a_sign close
  give found

-- what was read, behind a list
abbrev pub onto : {A : Type 0} → List A → Read (List A) → Read (List A)
onto front (Ok found) = Ok (front ++ found.0, found.1)
onto front (Err left) = Err left

-- what ends a text, and nothing behind it
unfoldable pub the_end : List ℕ → Phrase (Unit {0})
the_end ending = λ bytes. if bytes_eq (unblanked bytes) ending then Ok (tt, []) else Err (length (unblanked bytes))

-- a text is this phrase and what ends it
abbrev pub ended : {A : Type 0} → List ℕ → Phrase A → Phrase A
ended ending phrase = do
  found ← phrase
  end ← the_end ending
  give found

-- what is found, or the place of the first byte that can't stand there, in a text of so many bytes
abbrev pub outcome : {A : Type 0} → ℕ → Read A → Result A ℕ
outcome size (Ok found) = Ok found.0
outcome size (Err left) = Err (size - left)

-- Phrases that a sign decides, and phrases with signs between them.

-- behind a sign that was read one phrase, and else another
abbrev pub parted_by : {A : Type 0} → Read (Unit {0}) → Phrase A → Phrase A → Phrase A
parted_by (Ok sign) behind other = λ bytes. behind sign.1
parted_by (Err left) behind other = other

-- one phrase behind this sign; where it doesn't stand, another
abbrev pub if_sign : {A : Type 0} → ℕ → Phrase A → Phrase A → Phrase A
if_sign sign behind other = λ bytes. parted_by (a_sign sign bytes) behind other bytes

-- signs, and what each of them means
abbrev pub Signs : Type 0 → Type 0
Signs M = List (ℕ × M)

-- a phrase behind the first of some signs that stands there, by what it means; where none does, another
abbrev pub by_sign : {M A : Type 0} → Signs M → (M → Phrase A) → Phrase A → Phrase A
by_sign [] behind other = other
by_sign (sign ∷ signs) behind other = if_sign sign.0 (behind sign.1) (by_sign signs behind other)

-- what was read goes on by at most so many more phrases, each behind a sign and joined to all that stands before it
abbrev pub onward_most : {M A : Type 0} → (M → A → A → A) → Signs M → Phrase A → ℕ → A → Phrase A
onward_most join signs phrase zero before = give before
onward_most join signs phrase (suc n) before =
    by_sign signs (λ meaning. phrase >>= (λ next. onward_most join signs phrase n (join meaning before next)))
    (give before)

-- by as many as stand there
unfoldable pub onward : {M A : Type 0} → (M → A → A → A) → Signs M → Phrase A → A → Phrase A
onward join signs phrase before = λ bytes. onward_most join signs phrase (length bytes) before bytes

-- phrases with signs between them, joined from left to right
abbrev pub joined_by : {M A : Type 0} → (M → A → A → A) → Signs M → Phrase A → Phrase A
joined_by join signs phrase = phrase >>= (λ first. onward join signs phrase first)

-- the sign that stands in front, if one of these does: what it means, and the bytes behind it
abbrev pub sign_or : {M : Type 0} → M → Read (Unit {0}) → Option (M × List ℕ) → Option (M × List ℕ)
sign_or meaning (Ok sign) others = Some (meaning, sign.1)
sign_or meaning (Err left) others = others

abbrev pub sign_in : {M : Type 0} → Signs M → List ℕ → Option (M × List ℕ)
sign_in [] bytes = None
sign_in (sign ∷ signs) bytes = sign_or sign.1 (a_sign sign.0 bytes) (sign_in signs bytes)

-- The tokens of patterns, calendars and lists of aggregates: words, digits and signs, each the longest that stands
-- there.

-- how many digits stand in front, of which at most so many count
abbrev pub digits_in_front : ℕ → List ℕ → ℕ
digits_in_front room bytes = prefix_len is_ascii_digit (take room bytes)

-- one of `{` `}` `(` `)` `,` `$`
abbrev pub is_sign : ℕ → Bool
is_sign b = b == 123 || b == 125 || b == 40 || b == 41 || b == 44 || b == 36

-- the token that stands in front, if one does: its kind and its length
unfoldable pub plain_front : List ℕ → Option (TokenKind × ℕ)
plain_front [] = None
plain_front (b ∷ bytes) =
    if begins_word b then Some (Word, 1 + prefix_len continues_word bytes)
    else (if is_ascii_digit b then Some (Number, 1 + prefix_len is_ascii_digit bytes)
    else (if is_sign b then Some (Sign, 1)
    else None))

-- this word
unfoldable pub a_word : List ℕ → Phrase (Unit {0})
a_word wanted = token plain_front (word_in wanted)
