-- What is said of the refused statements of a script: a line of each.
use Rattle.std.specs.Prelude.{◌≡◌, ℕ, List, [], ◌∷◌, ◌++◌, IsTrue, decimal}
use Rattle.ts_base.specs.Name.{is_text}
use Rattle.ts_base.specs.Refusal.{refusal_name}
use Rattle.ts_syntax.specs.Places.{line_behind, column_behind}
use Rattle.ts_syntax.specs.Mistakes.{Mistake}

-- `LINE:COLUMN: NAME: ` of a mistake
abbrev pub place_text : Mistake → List ℕ
place_text mistake = decimal (line_behind mistake.before) ++ 58 ∷ (decimal (column_behind mistake.before) ++ 58 ∷ 32
    ∷ (refusal_name mistake.refusal ++ 58 ∷ 32 ∷ []))

-- Its line: the place, and words with no line feed and no other control byte, on which nothing else depends.
abbrev pub IsLine : Mistake → List ℕ → Type 0
IsLine mistake line = (words : List ℕ) × (line ≡ place_text mistake ++ (words ++ 10 ∷ [])) × IsTrue (is_text words)

-- a line of each mistake, in their order, and nothing else
abbrev pub Tells : List Mistake → List ℕ → Type 0
Tells [] said = said ≡ []
Tells (mistake ∷ mistakes) said = (line : List ℕ) × (rest : List ℕ) × (said ≡ line ++ rest) × IsLine mistake line
    × Tells mistakes rest

-- all of them are said
abbrev pub SaysAll : List Mistake → List ℕ → List ℕ → Type 0
SaysAll mistakes before said = (gained : List ℕ) × (said ≡ before ++ gained) × Tells mistakes gained

-- some first bytes of that are said
abbrev pub SaysFirst : List Mistake → List ℕ → List ℕ → Type 0
SaysFirst mistakes before said = (gained : List ℕ) × (more : List ℕ) × (said ≡ before ++ gained)
    × Tells mistakes (gained ++ more)
