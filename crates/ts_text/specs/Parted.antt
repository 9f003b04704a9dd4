-- Texts as tokens with blanks between them.
use Rattle.std.specs.Prelude.{◌≡◌, ℕ, List, [], ◌∷◌, ◌++◌, IsTrue}
use Rattle.ts_text.specs.Phrase.{are_blanks}

-- the text is these tokens in their order, with any number of blanks before, between and after
abbrev pub IsParted : List (List ℕ) → List ℕ → Type 0
IsParted [] text = IsTrue (are_blanks text)
IsParted (token ∷ tokens) text =
    (blanks : List ℕ) × (rest : List ℕ) × IsTrue (are_blanks blanks) × (text ≡ blanks ++ (token ++ rest))
    × IsParted tokens rest
