-- Texts in transactions of 32, told on the way: what stands before each text, and behind the last one.
use Rattle.std.specs.Prelude.{ℕ, zero, suc, Bool, true, false, List, [], ◌∷◌, ◌++◌, codes}
use Rattle.ts_dump.specs.declared.grouping.Grouping.{Grouping}
use Rattle.ts_dump.specs.declared.grouping.Grouping.TheVariants.{Alone, First, Open}

-- where the first text of a script stands
abbrev pub first_of : Bool → Grouping
first_of false = Alone
first_of true = First

-- what stands before a text
abbrev pub opening : Grouping → List (List ℕ)
opening Alone = []
opening First = codes "Begin;" ∷ []
opening (Open zero) = codes "Commit;" ∷ codes "Begin;" ∷ []
opening (Open (suc room)) = []

-- where the text behind it stands
abbrev pub next : Grouping → Grouping
next Alone = Alone
next First = Open 31
next (Open zero) = Open 31
next (Open (suc room)) = Open room

-- what stands behind the last one
abbrev pub ending : Grouping → List (List ℕ)
ending Alone = []
ending First = []
ending (Open room) = codes "Commit;" ∷ []

-- texts with what stands before each of them
abbrev pub placed : Grouping → List (List ℕ) → List (List ℕ)
placed g [] = []
placed g (text ∷ texts) = opening g ++ text ∷ placed (next g) texts

-- where the text behind them stands
abbrev pub behind : Grouping → List (List ℕ) → Grouping
behind g [] = g
behind g (text ∷ texts) = behind (next g) texts
