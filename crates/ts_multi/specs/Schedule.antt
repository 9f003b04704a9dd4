-- Whose turn it is: the order in which the items of sessions are carried out. The picks decide it.
use Rattle.std.specs.Prelude.{ℕ, ◌+◌, ◌%◌, ◌==◌, if◌then◌else◌, Option, Some, None, option_and_then, List, [], ◌∷◌}
use Rattle.std.specs.Prelude.{length, map, slice_get, slice_set, slice_index_or}

-- the sessions that have items left, counted from 0, by how many each has left
abbrev pub waiting : ℕ → List ℕ → List ℕ
waiting number [] = []
waiting number (left ∷ rest) = if left == 0 then waiting (number + 1) rest else number ∷ waiting (number + 1) rest

-- the one of these that a pick falls on
abbrev pub chosen : ℕ → List ℕ → Option ℕ
chosen pick [] = None
chosen pick (number ∷ rest) = slice_get (number ∷ rest) (pick % length (number ∷ rest))

-- the session whose turn it is; None where no session has an item left
abbrev pub next_session : ℕ → List ℕ → Option ℕ
next_session pick left = chosen pick (waiting 0 left)

-- a session's number, counted from 1, with its next item, and what is left then
abbrev pub first_of : {A : Type 0} → ℕ → List A → List (List A) → Option ((ℕ × A) × List (List A))
first_of number [] left = None
first_of number (item ∷ items) left = Some ((number + 1, item), slice_set left number items)

abbrev pub turn : {A : Type 0} → ℕ → List (List A) → Option ((ℕ × A) × List (List A))
turn pick left = option_and_then (λ number. first_of number (slice_index_or left number []) left)
    (next_session pick (map length left))

-- the items of all sessions, each behind its session's number, in the order in which they are carried out: one for each
-- pick, as long as there is one
abbrev pub order : {A : Type 0} → List (List A) → List ℕ → List (ℕ × A)
order left [] = []
order left (pick ∷ picks) = elim (turn pick left) [ None ↦ [] | Some now ↦ now.0 ∷ order now.1 picks ]

-- how many items there are
abbrev pub total : {A : Type 0} → List (List A) → ℕ
total [] = 0
total (items ∷ rest) = length items + total rest

-- the items of one session among these
abbrev pub items_of : {A : Type 0} → ℕ → List (ℕ × A) → List A
items_of session [] = []
items_of session (now ∷ rest) = if now.0 == session then now.1 ∷ items_of session rest else items_of session rest
