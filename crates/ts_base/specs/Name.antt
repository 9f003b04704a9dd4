-- The names of objects and the keys of series, as bytes.
use Rattle.std.specs.Prelude.{ℕ, Bool, false, ◌&&◌, ◌||◌, ◌==◌, nat_le, not, if◌then◌else◌, Option, Some, None, List}
use Rattle.std.specs.Prelude.{[], ◌∷◌, length}
use Rattle.std.specs.List.{list_all}
use Rattle.std.specs.Char.{is_ascii_digit}

-- the most bytes of a name
abbrev pub most_name_bytes : ℕ
most_name_bytes = 32

-- the most bytes of a key
abbrev pub most_key_bytes : ℕ
most_key_bytes = 64

-- a letter of either case
abbrev pub is_letter : ℕ → Bool
is_letter c = (nat_le 65 c && nat_le c 90) || (nat_le 97 c && nat_le c 122)

-- a byte that a word may begin with: a letter or `_`
abbrev pub begins_word : ℕ → Bool
begins_word c = is_letter c || (c == 95)

-- a byte that a word may go on with: a letter, a digit or `_`
abbrev pub continues_word : ℕ → Bool
continues_word c = begins_word c || is_ascii_digit c

-- a letter or `_`, then letters, digits and `_`
abbrev pub is_word : List ℕ → Bool
is_word [] = false
is_word (c ∷ rest) = begins_word c && list_all continues_word rest

-- a word of 1 to 32 bytes
abbrev pub is_name : List ℕ → Bool
is_name s = is_word s && nat_le (length s) most_name_bytes

-- a blank: a space, a tab, a carriage return or a line feed
abbrev pub is_blank : ℕ → Bool
is_blank c = (c == 32) || (c == 9) || (c == 13) || (c == 10)

-- a byte that a text may have: none below 0x20, and not 0x7F
abbrev pub is_text_byte : ℕ → Bool
is_text_byte c = nat_le 32 c && not (c == 127)

-- bytes that a text may have
abbrev pub is_text : List ℕ → Bool
is_text = list_all is_text_byte

-- 1 to 64 bytes of a text
abbrev pub is_key : List ℕ → Bool
is_key s = nat_le 1 (length s) && nat_le (length s) most_key_bytes && is_text s

-- the name with these bytes, if they are one's
abbrev pub name_if_any : List ℕ → Option (List ℕ)
name_if_any s = if is_name s then Some s else None

-- the key with these bytes, if they are one's
abbrev pub key_if_any : List ℕ → Option (List ℕ)
key_if_any s = if is_key s then Some s else None
