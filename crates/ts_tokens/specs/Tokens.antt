-- The tokens of a statement, and what a text and a number say.
use Rattle.std.specs.Prelude.{ℕ, ◌+◌, ◌-◌, ◌==◌, ◌&&◌, ◌||◌, if◌then◌else◌, List, [], ◌∷◌, length, slice_index}
use Rattle.std.specs.Prelude.{position, take, drop, Option, Some, None, ℤ, pos, neg_ℤ}
use Rattle.std.specs.List.{prefix_len}
use Rattle.ts_base.specs.Name.{begins_word, continues_word, is_text_byte}
use Rattle.ts_text.specs.Phrase.{magnitude_of, digits_in_front}
use Rattle.ts_text.specs.declared.token.TokenKind.{TokenKind}
use Rattle.ts_text.specs.declared.token.TokenKind.TheVariants.{Word, Number, Text, Sign}

-- The tokens of a statement, each the longest that stands there.

-- a point and digits, if there is a digit
abbrev pub with_point : ℕ → ℕ
with_point count = if count == 0 then 0 else 1 + count

-- the length of a point and at most so many digits in front, or 0
unfoldable pub fraction_length : ℕ → List ℕ → ℕ
fraction_length room [] = 0
fraction_length room (b ∷ bytes) = if b == 46 then with_point (digits_in_front room bytes) else 0

-- the length of a number in front that has no sign: digits, then nothing or a point and digits, 38 digits in all; or 0
unfoldable pub magnitude_length : List ℕ → ℕ
magnitude_length bytes =
    let whole = digits_in_front 38 bytes in
    if whole == 0 then 0 else whole + fraction_length (38 - whole) (drop whole bytes)

-- so many bytes behind a sign of so many
abbrev pub signed_length : ℕ → ℕ → Option ℕ
signed_length sign length = if length == 0 then None else Some (sign + length)

-- the length of the number in front, if one stands there
unfoldable pub number_length : List ℕ → Option ℕ
number_length [] = None
number_length (b ∷ bytes) = if b == 45 then signed_length 1 (magnitude_length bytes)
    else signed_length 0 (magnitude_length (b ∷ bytes))

-- an end so many bytes later
abbrev pub later : ℕ → Option ℕ → Option ℕ
later n None = None
later n (Some end) = Some (n + end)

-- the later end, or else the one before
abbrev pub or_before : Option ℕ → Option ℕ → Option ℕ
or_before before None = before
or_before before (Some end) = Some end

-- Behind the quote that opens a text: the end of the longest text. A quote may close it; a doubled one may also go on.
unfoldable pub closing : List ℕ → Option ℕ
closing [] = None
closing (b ∷ []) = if b == 39 then Some 1 else None
closing (b ∷ c ∷ bytes) =
    if b == 39 then (if c == 39 then or_before (Some 1) (later 2 (closing bytes)) else Some 1)
    else (if is_text_byte b then later 1 (closing (c ∷ bytes)) else None)

-- the kind and the length of a token, if it has one
abbrev pub of_kind : TokenKind → Option ℕ → Option (TokenKind × ℕ)
of_kind kind None = None
of_kind kind (Some length) = Some (kind, length)

-- the token that stands in front, if one does: its kind and its length
unfoldable pub front : List ℕ → Option (TokenKind × ℕ)
front [] = None
front (b ∷ bytes) =
    if begins_word b then Some (Word, 1 + prefix_len continues_word bytes)
    else (if b == 39 then of_kind Text (later 1 (closing bytes))
    else (if b == 40 || b == 41 || b == 44 then Some (Sign, 1)
    else of_kind Number (number_length (b ∷ bytes))))

-- What a text token says.

-- a doubled quote stands for one
unfoldable pub undoubled : List ℕ → List ℕ
undoubled [] = []
undoubled (b ∷ []) = b ∷ []
undoubled (b ∷ c ∷ bytes) = if b == 39 && c == 39 then 39 ∷ undoubled bytes else b ∷ undoubled (c ∷ bytes)

-- what stands between the quotes of a token
abbrev pub between_quotes : List ℕ → List ℕ
between_quotes token = take (length token - 2) (drop 1 token)

-- the bytes that a text token says
abbrev pub said : List ℕ → List ℕ
said token = undoubled (between_quotes token)

-- The number that a token writes.

-- the number without its point, with its sign
abbrev pub units_of : List ℕ → ℤ
units_of token = if slice_index token 0 == 45 then neg_ℤ (pos (magnitude_of token)) else pos (magnitude_of token)

-- how many bytes stand behind the point, if there is one
abbrev pub behind_point : List ℕ → Option ℕ → ℕ
behind_point token None = 0
behind_point token (Some point) = length token - (point + 1)

abbrev pub scale_of : List ℕ → ℕ
scale_of token = behind_point token (position (λ b. b == 46) token)
