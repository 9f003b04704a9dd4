-- The sections of a source, which are the scripts of its sessions: marked lines end them.
use Rattle.std.specs.Prelude.{ℕ, ◌+◌, ◌==◌, ◌||◌, nat_le, if◌then◌else◌, Bool, Option, Some, None, List, [], ◌∷◌, ◌++◌}
use Rattle.std.specs.Prelude.{length, take, codes}
use Rattle.std.specs.Str.{bytes_eq}
use Rattle.std.specs.List.{position_or_len}

-- a front before the first of some texts
abbrev pub onto : List ℕ → List (List ℕ) → List (List ℕ)
onto front [] = front ∷ []
onto front (text ∷ texts) = (front ++ text) ∷ texts

-- the byte that ends a line
abbrev pub is_line_feed : ℕ → Bool
is_line_feed b = b == 10

-- the lines of a text, each with the line feed that ends it; the last may have none
abbrev pub lines : List ℕ → List (List ℕ)
lines [] = []
lines (b ∷ bytes) = if is_line_feed b then (b ∷ []) ∷ lines bytes else onto (b ∷ []) (lines bytes)

-- the first line of a text: the bytes up to the first line feed, with it, or all
abbrev pub first_line : List ℕ → List ℕ
first_line text = take (position_or_len is_line_feed text + 1) text

-- the line is exactly `--session`: it ends a section, and belongs to none
unfoldable pub is_mark : List ℕ → Bool
is_mark line = bytes_eq line (codes "--session\n") || bytes_eq line (codes "--session")

-- the sections of a list of lines
abbrev pub sections_of : List (List ℕ) → List (List ℕ)
sections_of [] = [] ∷ []
sections_of (line ∷ rest) = if is_mark line then [] ∷ sections_of rest else onto line (sections_of rest)

-- the sections of a source: one more than it has such lines
abbrev pub sections : List ℕ → List (List ℕ)
sections bytes = sections_of (lines bytes)

-- the sections of what is left, if anything is
abbrev pub behind : Option (List ℕ) → List (List ℕ)
behind None = []
behind (Some rest) = sections rest

-- the sections, where there are at most 16
abbrev pub few_sections : List ℕ → Option (List (List ℕ))
few_sections bytes = if nat_le (length (sections bytes)) 16 then Some (sections bytes) else None
